-- Statements of all i < n.
use mathlib.Core.Path.{◌≡◌, subst}
use Prim.Native.Nat.{ℕ, suc, ◌<◌}
use native.Mathlib.Omega.{arith}
use Rattle.theory_algebra.proofs.Cases.{case-le}

pub extend : (P : ℕ → Type 0) (n : ℕ) → ((i : ℕ) → i < n → P i) → P n → (i : ℕ) → i < suc n → P i
extend P n h z i l = case-le (suc i) n (h i) (λ q. let e : n ≡ i = omega arith in subst P e z)
