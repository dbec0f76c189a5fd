use borrow.Author.Rules.{rules}
use mathlib.Core.Path.{sym, ◌∙◌}
use Rattle.poly.proofs.arithmetic.Places.{zeros-replicate}
use Rattle.poly.proofs.arithmetic.clear.Goals as goal

pub returns : goal.returns
returns c = rw c.from.ensures at c.fill.ensures.after (search rules) ∙ sym (zeros-replicate _)
