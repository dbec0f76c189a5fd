-- The lines of a text: "key=value lines, each ended by a line feed", their numbers "parted by one space".
use Rattle.std.specs.Prelude.{ℕ, zero, suc, ◌+◌, ◌/◌, ◌%◌, Bool, true, false, cond, ◌&&◌, List, [], ◌∷◌, ◌++◌, length, take, drop, set, eqb}
use Prim.Native.Char.{code}
use Prim.Native.String as S
use Rattle.printer_format.specs.Number.{digit, decimal, Got, got, bad, number}

-- the bytes of a text in quotes
abbrev pub bytes : S.String → List ℕ
bytes S.[] = []
bytes (S.◌∷◌ c s) = code c ∷ bytes s

-- the key of cell c of a matrix of m columns, from the key of the first cell: its digits are the row and the column, counted from 1
abbrev pub cell_key : (first : List ℕ) (m c : ℕ) → List ℕ
cell_key first m c = set (set first 1 (digit (c / m + 1))) 2 (digit (c % m + 1))

-- what follows a number of a line: a space where further numbers are left, and else the line feed
abbrev pub mark : (left : ℕ) → ℕ
mark zero = 10
mark (suc left) = 32

-- ## Writing

-- numbers, each with its mark
unfoldable pub row : List ℕ → List ℕ
row [] = []
row (v ∷ l) = decimal v ++ mark (length l) ∷ row l

-- a line: its key, and then its numbers
abbrev pub line : (key l : List ℕ) → List ℕ
line key l = key ++ row l

-- count lines from line c on, counted from 0: line c has the key `key c` and the next width numbers of l
unfoldable pub lines : (key : ℕ → List ℕ) (width count c : ℕ) → List ℕ → List ℕ
lines key width zero c l = []
lines key width (suc count) c l = line (key c) (take width l) ++ lines key width count (suc c) (drop width l)

-- ## Reading

-- the text begins with this key
unfoldable pub starts_with : (key s : List ℕ) → Bool
starts_with [] s = true
starts_with (k ∷ key) [] = false
starts_with (k ∷ key) (b ∷ s) = eqb b k && starts_with key s

-- the numbers k in front of those that were read
abbrev pub prefixed : (k : List ℕ) → Got (List ℕ) → Got (List ℕ)
prefixed k (got l s) = got (k ++ l) s
prefixed k bad = bad

-- a number was read: its mark has to follow, and then what `further` reads
abbrev pub marked : ℕ → (List ℕ → Got (List ℕ)) → Got ℕ → Got (List ℕ)
marked b further (got v s) = cond (starts_with (b ∷ []) s) (prefixed (v ∷ []) (further (drop 1 s))) bad
marked b further bad = bad

-- count numbers, each with its mark
unfoldable pub numbers : (count : ℕ) → List ℕ → Got (List ℕ)
numbers zero s = got [] s
numbers (suc left) s = marked (mark left) (numbers left) (number s)

-- a line with this key and count numbers
unfoldable pub read_line : (key : List ℕ) (count : ℕ) → List ℕ → Got (List ℕ)
read_line key count s = cond (starts_with key s) (numbers count (drop (length key) s)) bad

-- the numbers of several lines and the text that follows them, or the first line, counted from 0, that isn't as said
pub data Lines : Type 0 where
  read : List ℕ → List ℕ → Lines
  wrong : ℕ → Lines

-- the numbers k in front of those of further lines
abbrev pub behind : (k : List ℕ) → Lines → Lines
behind k (read l s) = read (k ++ l) s
behind k (wrong c) = wrong c

-- line c was read: then come the lines that `further` reads
abbrev pub followed : ℕ → (List ℕ → Lines) → Got (List ℕ) → Lines
followed c further (got l s) = behind l (further s)
followed c further bad = wrong c

-- count lines from line c on, where `reader c` reads line c
unfoldable pub read_lines : (reader : ℕ → List ℕ → Got (List ℕ)) (count c : ℕ) → List ℕ → Lines
read_lines reader zero c s = read [] s
read_lines reader (suc count) c s = followed c (read_lines reader count (suc c)) (reader c s)
