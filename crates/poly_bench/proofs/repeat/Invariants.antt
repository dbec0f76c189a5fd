use mathlib.Core.Path.{◌≡◌}
use Rattle.poly_bench.specs.Rounds.{repeated}
use Rattle.poly_bench.proofs.repeat.Given as goal

-- The step has been taken in so many rounds.
abbrev pub invariant-loop-round : goal.invariant-loop-round
invariant-loop-round g l = l.a ≡ repeated l._round g.change l.initial.a
