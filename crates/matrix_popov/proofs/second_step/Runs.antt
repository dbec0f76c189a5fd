-- Steps of the second kind on the first rows, followed by steps on more.
use mathlib.Core.Path.{◌≡◌}
use Prim.Native.Nat.{ℕ, suc, ◌+◌, ◌≤◌, ◌<◌}
use native.Mathlib.Nat as N
use native.Mathlib.Omega.{arith}
use Rattle.theory_algebra.specs.Field.{Field}
use Rattle.theory_reduction.specs.Process.{halt, more}
use Rattle.theory_reduction.specs.Step.{Carried}
use Rattle.theory_popov.specs.SecondKind.{Removal, excesses, remove}
use Rattle.theory_popov.specs.SecondRun.{SecondRuns}

module _ {F : Type 0} (K : Field F) (m w : ℕ) where
  -- a step on a row is one on all first rows among which that row is
  among : {n k : ℕ} {x : ℕ → ℕ → ℕ} (p : Removal n x) → p.k < k → Removal k x
  among p l = record { k = p.k; fits = l; highest = p.highest; done = p.done }

  pub step_then : {n k c : ℕ} {s : Carried F} (t : Carried F) (p : Removal n (excesses K m w t.R)) → p.k < k
      → SecondRuns K k m w c (remove K m w t p) s → SecondRuns K k m w (suc c) t s
  unfolding among remove
  step_then t p l q = more (among p l) q

  pub runs_then : {n k c d : ℕ} {t t' s : Carried F} → n ≤ k → SecondRuns K n m w c t t' → SecondRuns K k m w d t' s → SecondRuns K k m w (c + d) t s
  runs_then l (halt h) q = rw N.zero-add q
  runs_then {d = d} l (more {c = c} {x = t} p r) q =
      let e : suc c + d ≡ suc (c + d) = omega arith in
      rw e (step_then t p (omega (arith, p.fits)) (runs_then l r q))
