-- The printer's input: "key=value lines, each ended by a line feed, in this order: p, n, m, d, then a11, a12 and on by rows,
-- each with d+1 numbers parted by one space".
use Rattle.std.specs.Prelude.{ℕ, ◌+◌, ◌*◌, ◌≡◌, List, [], ◌∷◌, get_or}
use Rattle.printer_format.specs.Line.{bytes, cell_key, read_line, Lines, read, wrong, read_lines}

-- the keys of the four head lines
abbrev pub head_keys : List (List ℕ)
head_keys = bytes "p=" ∷ bytes "n=" ∷ bytes "m=" ∷ bytes "d=" ∷ []

-- the four head lines that a text begins with, each with one number
abbrev pub head_lines : List ℕ → Lines
head_lines s = read_lines (λ c. read_line (get_or head_keys c []) 1) 4 0 s

-- the numbers that were read, and the text that follows
abbrev pub numbers_of : Lines → List ℕ
numbers_of (read l s) = l
numbers_of (wrong c) = []

abbrev pub rest_of : Lines → List ℕ
rest_of (read l s) = s
rest_of (wrong c) = []

-- p, n, m and d, where the head lines were read
abbrev pub head_modulus : Lines → ℕ
head_modulus head = get_or (numbers_of head) 0 0

abbrev pub head_rows : Lines → ℕ
head_rows head = get_or (numbers_of head) 1 0

abbrev pub head_columns : Lines → ℕ
head_columns head = get_or (numbers_of head) 2 0

abbrev pub head_degree : Lines → ℕ
head_degree head = get_or (numbers_of head) 3 0

-- the lines of an n by m matrix, each with d+1 numbers
abbrev pub matrix_lines : (n m d : ℕ) → List ℕ → Lines
matrix_lines n m d s = read_lines (λ c. read_line (cell_key (bytes "a11=") m c) (d + 1)) (n * m) 0 s

-- "Nothing follows the last line": what does follow is line `count`, which isn't as said
abbrev pub ended : (count : ℕ) → Lines → Lines
ended count (read l []) = read l []
ended count (read l (b ∷ s)) = wrong count
ended count (wrong c) = wrong c

-- all that follows the head
abbrev pub cell_lines : (n m d : ℕ) → List ℕ → Lines
cell_lines n m d s = ended (n * m) (matrix_lines n m d s)

-- the same after these head lines
abbrev pub body_lines : (head : Lines) → Lines
body_lines head = cell_lines (head_rows head) (head_columns head) (head_degree head) (rest_of head)

-- all the lines are as said
abbrev pub AsSaid : Lines → Type 0
AsSaid (read l s) = Unit
AsSaid (wrong c) = ⊥

-- "The place of refusal 7 is the first line that isn't as said; a missing line, one without its line feed and the first extra line
-- count by the number they have or would have": the lines are counted from `first`
abbrev pub WrongLine : (first : ℕ) → Lines → (place : ℕ) → Type 0
WrongLine first (read l s) place = ⊥
WrongLine first (wrong c) place = place ≡ first + c
