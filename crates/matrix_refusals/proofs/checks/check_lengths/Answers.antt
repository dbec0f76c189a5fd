use Rattle.std.proofs.Common.{rules}
use mathlib.Core.Path.{refl}
use mathlib.Core.Logic.{inl, inr}
use lib.Seq.{ext_get_or}
use Rattle.matrix_refusals.proofs.checks.Verdicts.{wrong-length}
use Rattle.matrix_refusals.proofs.checks.check_lengths.Goals as goal

pub returns-in-Some : goal.returns-in-Some
returns-in-Some g c = inl (wrong-length (record { at = c.in-Some.i; counted = refl; wrong = search rules; before = λ j h. search rules }))

pub returns-in-None : goal.returns-in-None
returns-in-None g c = inr (ext_get_or 0 _ _ (search rules) (λ i h. search rules), (refl, refl))
