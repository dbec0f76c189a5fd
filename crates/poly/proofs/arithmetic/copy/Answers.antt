use borrow.Author.Rules.{rules}
use native.Mathlib.Omega.{arith}
use mathlib.Core.Path.{refl, ◌∙◌}
use Rattle.theory_lists.proofs.Change.{imap-copy, changing-start, changing-turn, changing-end}
use Rattle.poly.proofs.arithmetic.copy.Goals as goal

pub loop-i-init : goal.loop-i-init
loop-i-init c = changing-start _ _

pub loop-i-preserved : goal.loop-i-preserved
loop-i-preserved c = changing-turn _ _ _ _ c.loop-i.invariant _ (omega arith) refl

pub returns : goal.returns
returns c = changing-end _ _ _ _ c.loop-i.invariant (omega arith) ∙ imap-copy _ _ (search rules)
