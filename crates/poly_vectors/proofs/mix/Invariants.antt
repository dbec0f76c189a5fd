use Rattle.std.proofs.Common.{◌<◌}
use Rattle.poly_vectors.proofs.mix.Given as goal

-- The number written next fits 16 bits.
abbrev pub invariant-loop-place : goal.invariant-loop-place
invariant-loop-place l = l.x < 65536
