-- The printer's output.
use Rattle.std.specs.Prelude.{ℕ, ◌+◌, ◌*◌, cond, List, [], ◌∷◌, ◌++◌, eqb}
use Rattle.printer_format.specs.Line.{bytes, cell_key, line, lines}

-- "A refusal prints two lines and nothing else: `answer=` with its number, then `place=` with the place."
abbrev pub refusal_text : (number place : ℕ) → List ℕ
refusal_text number place = line (bytes "answer=") (number ∷ []) ++ line (bytes "place=") (place ∷ [])

-- "`answer=` is the number from the refusal table, 0 for done; `rank=` is the rank; `steps=` is the count"
abbrev pub counts_text : (rank steps : ℕ) → List ℕ
counts_text rank steps = line (bytes "answer=") (0 ∷ []) ++ (line (bytes "rank=") (rank ∷ []) ++ line (bytes "steps=") (steps ∷ []))

-- "the `r` lines are R, constant term first"
abbrev pub result_text : (n m d : ℕ) (r : List ℕ) → List ℕ
result_text n m d r = lines (cell_key (bytes "r11=") m) (d + 1) (n * m) 0 r

-- "`det=` stands only where n equals m"
abbrev pub determinant_text : (n m : ℕ) (det : List ℕ) → List ℕ
determinant_text n m det = cond (eqb n m) (line (bytes "det=") det) []

-- the whole answer where nothing is refused
abbrev pub answer_text : (rank steps n m d : ℕ) (r det : List ℕ) → List ℕ
answer_text rank steps n m d r det = counts_text rank steps ++ (result_text n m d r ++ determinant_text n m det)

-- Room for every answer: 9 bytes for `answer=0`, 26 for `rank=` and 27 for `steps=` with a number of 64 bits, 388 for each of 64
-- cells, and 3,034 for `det=` with 505 numbers.
abbrev pub output_room : ℕ
output_room = 27928
