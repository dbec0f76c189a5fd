-- What the program makes of its input, where the bytes of a reader and of a writer are known. How much it takes of the input is left
-- open: a read that fails counts as the end.
use Rattle.std.specs.Prelude.{List, ℕ, Option}
use Rattle.std.specs.Io.KnownBytes.{Consumes, Appends}
use Rattle.printer_library.specs.Printed.{Printed}

-- a text is taken from the front of what the reader has left, and the answer to it is put behind what the writer holds
pub record Answered (left left' held held' : Option (List ℕ)) : Type 0 where
  pub text : List ℕ
  pub answer : List ℕ
  pub taken : Consumes left left' text
  pub printed : Printed text answer
  pub given : Appends held held' answer
