use Prim.Native.Nat.{ℕ}
use mathlib.Core.Path.{◌≡◌}
use mathlib.Core.List.{List, []}
use mathlib.Core.Logic.{◌≢◌}
use borrow.Author.Tests.{ne_eqb}
use Rattle.printer_format.specs.Answer.{determinant_text}
use Rattle.printer_writing.proofs.Writing.{wrote_none, wrote_as}
use Rattle.printer_writing.proofs.put_determinant.Goals as goal

none : (n m : ℕ) (det : List ℕ) → n ≢ m → [] ≡ determinant_text n m det
none n m det ne = simp (ne_eqb n m ne)

pub returns-then-n-m : goal.returns-then-n-m
returns-then-n-m c = wrote_as (none _ _ _ c.if-n-m.true) wrote_none
