-- Which numbers are in range, found out by going through them.
use mathlib.Core.Path.{◌≡◌}
use mathlib.Core.Logic.Dec
use mathlib.Core.Logic.{◌⊎◌, inl, inr}
use mathlib.Core.List.{List}
use mathlib.Core.Option.{Option, none, some, map}
use Prim.Native.Nat.{ℕ, ◌*◌, ◌%◌, ◌≤◌, ◌<◌, min}
use native.Mathlib.Decide.{ℕ_discrete, dec_le, dec_lt}
use native.Mathlib.Nat as N
use native.Mathlib.Omega.{arith}
use lib.ListN.{length, get_or}
use Rattle.theory_algebra.proofs.Cases.{case-le}
use Rattle.theory_algebra.proofs.Primality.{by-root}
use Rattle.theory_algebra.specs.Modulus.{largest, Accepted}
use Rattle.theory_lists.specs.Coefficients.{Coefficients}
use Rattle.theory_reduction.proofs.Least.{Least, least}
use Rattle.matrix_promises.specs.Refused.{Numbers}

-- two proofs, where there are both
unfoldable pub both : {A B : Type 0} → Option A → Option B → Option (A × B)
both (some x) (some y) = some (x, y)
both (some x) none = none
both none y = none

-- the proof that a decision has found
unfoldable pub where-yes : {A : Type 0} → Dec A → Option A
where-yes (yes x) = some x
where-yes (no h) = none

-- 256 is more than the root of the largest modulus
abbrev Divisor : ℕ → ℕ → Type 0
Divisor p e = (2 ≤ e) × ((e < p) × (p % e ≡ 0))

unfoldable pub accepted : (p : ℕ) → Option (Accepted p)
accepted p =
    go (dec_le 2 p) (dec_le p largest) (least 256 (Divisor p) (λ e. Dec.and (dec_le 2 e) (Dec.and (dec_lt e p) (ℕ_discrete (p % e) 0))))
  where
    square : 2 ≤ p → p ≤ largest → p < min 256 p * min 256 p
    square two most = case-le 256 p
        (λ l. let e : min 256 p ≡ 256 = omega arith in rw e (omega arith))
        (λ l. let e : min 256 p ≡ p = omega arith in rw e (omega (arith, N.mul-le-mul_right p two)))

    go : Dec (2 ≤ p) → Dec (p ≤ largest) → Least 256 (Divisor p) ⊎ ((e : ℕ) → e < 256 → ¬ (Divisor p e)) → Option (Accepted p)
    go (yes two) (yes most) (inr never) = some (record {
      prime = by-root p (min 256 p) (λ e l le z. never e (omega arith) (le, (omega arith, z))) two (square two most);
      most = most;
    })
    go (yes two) (yes most) (inl x) = none
    go (yes two) (no h) _ = none
    go (no h) _ _ = none

unfoldable pub in-range : (p n m d : ℕ) → Option (Numbers p n m d)
unfolding both where-yes accepted
in-range p n m d = map
    (λ x. record {
      modulus = x.0;
      shape = record { rows = x.1.0.0; rows_most = x.1.0.1; columns = x.1.1.0.0; columns_most = x.1.1.0.1 };
      degree = x.1.1.1;
    })
    (both (accepted p) (where-yes (Dec.and (Dec.and (dec_le 1 n) (dec_le n 8)) (Dec.and (Dec.and (dec_le 1 m) (dec_le m 8)) (dec_le d 63)))))

unfoldable pub coefficients : (p : ℕ) (a : List ℕ) → Option (Coefficients p a)
coefficients p a = go (least (length a) (λ i. p ≤ get_or a i 0) (λ i. dec_le p (get_or a i 0)))
  where
    go : Least (length a) (λ i. p ≤ get_or a i 0) ⊎ ((i : ℕ) → i < length a → ¬ (p ≤ get_or a i 0)) → Option (Coefficients p a)
    go (inl x) = none
    go (inr never) = some (record { below = λ i l. N.lt_of_not-le (never i l) })
