use native.Mathlib.Omega.{arith}
use native.Mathlib.Nat.{div-lt_iff_lt-mul}
use Rattle.theory_algebra.proofs.Primality.{by-root}
use Rattle.theory_algebra.proofs.Flag.{says-yes}
use Rattle.poly.proofs.residues.Trial.{trying-turn}
use Rattle.poly.proofs.residues.is_prime.Goals as goal

pub returns-then-q-d : goal.returns-then-q-d
returns-then-q-d c = says-yes (by-root _ _ c.loop-d.invariant.none (omega arith) ((div-lt_iff_lt-mul (omega arith)).0 c.if-q-d.true))

pub loop-d-preserved : goal.loop-d-preserved
loop-d-preserved c = trying-turn _ _ c.loop-d.invariant c.if-q-d-2.false c.if-p-d-eq0.false
