-- The least number below n with a property that can be decided.
use mathlib.Core.Logic.{◌⊎◌, inl, inr}
use Prim.Native.Nat.{ℕ, zero, suc, ◌<◌}
use native.Mathlib.Omega.{arith}
use Rattle.theory_lattice.proofs.Upto.{extend}

pub record Least (n : ℕ) (P : ℕ → Type 0) : Type 0 where
  pub at : ℕ
  pub fits : at < n
  pub holds : P at
  pub least : (j : ℕ) → j < at → ¬ (P j)

-- it is found, or there is none
unfoldable pub least : (n : ℕ) (P : ℕ → Type 0) → ((i : ℕ) → Dec (P i)) → Least n P ⊎ ((i : ℕ) → i < n → ¬ (P i))
least zero P d = inr (λ i l. absurd (omega arith))
least (suc n) P d = go (least n P d) (d n)
  where
    go : Least n P ⊎ ((i : ℕ) → i < n → ¬ (P i)) → Dec (P n) → Least (suc n) P ⊎ ((i : ℕ) → i < suc n → ¬ (P i))
    go (inl x) e = inl (record { at = x.at; fits = let f = x.fits in omega arith; holds = x.holds; least = x.least })
    go (inr h) (yes p) = inl (record { at = n; fits = omega arith; holds = p; least = h })
    go (inr h) (no p) = inr (extend (λ i. ¬ (P i)) n h p)
