use Rattle.std.proofs.Common.{refl, ◌<◌, arith, length-take}
use Rattle.std.proofs.lemmas.List.{get_or-take}
use Rattle.matrix_pivots.specs.declared.pivot.Pivot.{Pivot}
use Rattle.matrix_popov.proofs.second_step.Searching.{highest-on, highest-off}
use Rattle.matrix_popov.proofs.second_step.highest.Goals as goal
use Rattle.matrix_popov.proofs.second_step.highest.Goals.{then-lt, else-lt}

pub loop-i-preserved : goal.loop-i-preserved
loop-i-preserved c =
    let inside : c.loop-i.i < c.args.k = omega (arith, length-take {A = Pivot}) in
    let found = rw get_or-take at c.excess-e.ensures in
    elim c.if-lt.branch [
      | then-lt w ↦ rw (w.at-is, w.most-is) (highest-on (λ _ _. refl) _ _ _ _ _ c.loop-i.invariant found w.if-lt.ensures)
      | else-lt w ↦ rw (w.at-is, w.most-is) (highest-off (λ _ _. refl) _ _ _ _ _ c.loop-i.invariant found w.if-lt.ensures)
    ]
