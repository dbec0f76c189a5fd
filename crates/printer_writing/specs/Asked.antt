-- What the lines of a matrix and of an answer ask.
use Rattle.std.specs.Prelude.{ℕ, ◌+◌, ◌*◌, ◌≤◌, List, length}
use Rattle.printer_format.specs.Answer.{result_text, answer_text}
use Rattle.printer_writing.specs.Wrote.{Room}

-- d+1 numbers for each cell of an n by m matrix
pub record MatrixToWrite (n m d : ℕ) (r : List ℕ) : Type 0 where
  pub rows : n ≤ 8
  pub some_columns : 1 ≤ m
  pub columns : m ≤ 8
  pub degree : d ≤ 63
  pub places : n * m * (d + 1) ≤ length r

-- and room for their lines
pub record ResultAsked (out : List ℕ) (at n m d : ℕ) (r : List ℕ) : Type 0 where
  pub matrix : MatrixToWrite n m d r
  pub room : Room out at (result_text n m d r)

-- and for a whole answer
pub record AnswerAsked (out : List ℕ) (rank steps n m d : ℕ) (r det : List ℕ) : Type 0 where
  pub matrix : MatrixToWrite n m d r
  pub room : Room out 0 (answer_text rank steps n m d r det)
