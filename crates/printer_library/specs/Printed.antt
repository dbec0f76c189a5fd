-- What the printer writes for a text: a relation between the bytes that it reads and the bytes that it writes. Which text is taken is
-- said in `printer_format`, files Number, Line and File; how an answer is written, there in Answer; which refusal and place every other
-- text gets, in `printer_files`, file Table. That a text has one answer only is `Unique.printed-unique`.
use Rattle.std.specs.Prelude.{◌≡◌, List, ℕ, ◌+◌, ◌≤◌, ◌<◌, ◌++◌, length, drop}
use Rattle.matrix_promises.specs.Answering.{Told}
use Rattle.matrix_promises.specs.Reduced.{IsReducedAlone}
use Rattle.matrix_promises.specs.Determinant.{IsDeterminant}
use Rattle.printer_format.specs.Line.{Lines}
use Rattle.printer_format.specs.File.{head_lines, numbers_of, head_modulus, head_rows, head_columns, head_degree, body_lines}
use Rattle.printer_format.specs.Answer.{refusal_text, answer_text, output_room}
use Rattle.printer_files.specs.Table.{printer_table}

-- w is the answer for the n by m matrix in a: "`rank=` is the rank; `steps=` is the count; the `r` lines are R", which the reduction
-- makes of a, and "`det=` stands only where n equals m"
pub record MatrixAnswer (p n m d : ℕ) (a w : List ℕ) : Type 0 where
  pub r : List ℕ
  pub rank : ℕ
  pub count : ℕ
  pub reduced : IsReducedAlone p n m (d + 1) a r rank count
  pub det : List ℕ
  pub determinant : n ≡ m → IsDeterminant p n d a det
  pub is : w ≡ answer_text rank count n m d r det

-- the same for the matrix of a text with these head lines
abbrev pub HeadAnswer : (head : Lines) (w : List ℕ) → Type 0
HeadAnswer head w = MatrixAnswer (head_modulus head) (head_rows head) (head_columns head) (head_degree head) (numbers_of (body_lines head)) w

-- w is the answer to the text s: the first refusal of the table that applies, and where none does the answer for the matrix of the text
pub record Printed (s w : List ℕ) : Type 0 where
  pub number : ℕ
  pub place : ℕ
  pub told : Told (printer_table s) number place
  pub refused : 0 < number → w ≡ refusal_text number place
  pub done : number ≡ 0 → HeadAnswer (head_lines s) w

-- A text that `Is` as wanted was written to the front of the lent output, which made it out', and `size` is its length. The rest of the
-- output is as it was, and the output has room enough.
pub record Output (Is : List ℕ → Type 0) (out : List ℕ) (size : ℕ) (out' : List ℕ) : Type 0 where
  pub text : List ℕ
  pub is : Is text
  pub all : size ≡ length text
  pub wrote : out' ≡ text ++ drop size out
  pub fits : size ≤ output_room
