-- When the printer refuses a text: "length over 32,768; the four head lines (7); refusals 1, 2, 3; the cells (7); 6".
use Rattle.std.specs.Prelude.{List, [], ◌∷◌, ℕ, ◌≤◌, length}
use Rattle.matrix_promises.specs.Answering.{Rule}
use Rattle.matrix_promises.specs.Refused.{Zero, number_rules, coefficient_rule}
use Rattle.printer_format.specs.Line.{Lines}
use Rattle.printer_format.specs.File.{head_lines, numbers_of, rest_of, head_modulus, head_rows, head_columns, head_degree, cell_lines, AsSaid, WrongLine}

-- "printer only: text not in the format": lines that were read so aren't as said, and their place, the first of them being line `first`
abbrev pub lines_rule : (first : ℕ) → Lines → Rule
lines_rule first x = (7, AsSaid x, WrongLine first x)

-- the rules for the cells, of which the first has line 5
abbrev pub cells_table : (p : ℕ) (cells : Lines) → List Rule
cells_table p cells = lines_rule 5 cells ∷ coefficient_rule p (numbers_of cells) ∷ []

-- the rules for what follows the head, s being that text
abbrev pub body_table : (p n m d : ℕ) (s : List ℕ) → List Rule
body_table p n m d s = number_rules p n m d (cells_table p (cell_lines n m d s))

-- the whole table of a text with `size` bytes and these head lines; where they aren't as said the second rule applies, and what
-- then stands for p, n, m, d and the rest has no say
abbrev pub table_by : (size : ℕ) (head : Lines) → List Rule
table_by size head =
    (7, size ≤ 32768, Zero) ∷
    lines_rule 1 head ∷
    body_table (head_modulus head) (head_rows head) (head_columns head) (head_degree head) (rest_of head)

abbrev pub printer_table : (s : List ℕ) → List Rule
printer_table s = table_by (length s) (head_lines s)
