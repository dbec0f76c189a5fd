use mathlib.Core.Path.{sym}
use Rattle.poly_bench.proofs.Rounds.{repeated-none, repeated-more}
use Rattle.poly_bench.proofs.repeat.Goals as goal

pub loop-round-init : goal.loop-round-init
loop-round-init g c = sym (repeated-none _ _)

pub loop-round-preserved : goal.loop-round-preserved
loop-round-preserved g c = repeated-more _ _ _ _ _ c.loop-round.invariant ((c.requires.1 _ c.loop-round-test.true _ c.loop-round.invariant).1 _ c.step.ensures)
