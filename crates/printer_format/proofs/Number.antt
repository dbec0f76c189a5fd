-- The laws of numbers in a text.
use Prim.Native.Nat.{ℕ, zero, suc, ◌/◌, ◌%◌, ◌^◌, ◌≤◌, ◌<◌}
use mathlib.Core.Path.{◌≡◌, ap}
use mathlib.Core.List.{List, [], ◌∷◌, ◌++◌}
use native.Mathlib.Omega.{arith}
use native.Mathlib.Nat.{div-lt_self, div-lt_iff_lt-mul, not-suc-le-zero, pow-suc}
use lib.ListN.{length, length-append}
use borrow.Author.Tests.{lt-ltb, le-ltb}
use Rattle.theory_algebra.proofs.Cases.{case-le}
use Rattle.printer_format.specs.Number.{digit, decimal_by, decimal}

-- ## A number in decimal

-- a tenth is less
pub tenth : (v : ℕ) → 10 ≤ v → v / 10 < v
tenth v h = div-lt_self {n = v} {k = 10} (omega arith) (omega arith)

-- more digits than enough change nothing
enough : (k k' v : ℕ) → v < k → v < k' → decimal_by k v ≡ decimal_by k' v
unfolding decimal_by
enough zero k' v h h' = absurd (not-suc-le-zero h)
enough (suc k) zero v h h' = absurd (not-suc-le-zero h')
enough (suc k) (suc k') v h h' = case-le 10 v
    (λ large. simp (le-ltb v 10 large) (ap (λ (l : List ℕ). l ++ (digit (v % 10) ∷ []))
    (enough k k' (v / 10) (omega (arith, tenth v large)) (omega (arith, tenth v large)))))
    (λ small. simp (lt-ltb v 10 small))

pub decimal-one : (v : ℕ) → v < 10 → decimal v ≡ digit v ∷ []
unfolding decimal decimal_by
decimal-one v h = simp (lt-ltb v 10 h)

pub decimal-more : (v : ℕ) → 10 ≤ v → decimal v ≡ decimal (v / 10) ++ (digit (v % 10) ∷ [])
unfolding decimal decimal_by
decimal-more v h =
    simp (le-ltb v 10 h) (ap (λ (l : List ℕ). l ++ (digit (v % 10) ∷ [])) (enough v (suc (v / 10)) (v / 10) (tenth v h) (omega arith)))

-- a number below 10 to the k has at most k digits
few-digits : (k v : ℕ) → v < 10 ^ suc k → length (decimal v) ≤ suc k
few-digits zero v h = rw (decimal-one v (omega (arith, h))) (omega arith)
few-digits (suc k) v h = case-le 10 v
    (λ large. rw (decimal-more v large) (simp length-append
    (omega (arith, few-digits k (v / 10) ((div-lt_iff_lt-mul {k = 10} (omega arith)).1 (rw (pow-suc 10 (suc k)) at h))))))
    (λ small. rw (decimal-one v small) (omega arith))

pub five-digits : (v : ℕ) → v ≤ 65535 → length (decimal v) ≤ 5
five-digits v h = few-digits 4 v (omega arith)

-- a number of 64 bits
pub twenty-digits : (v : ℕ) → v < 18446744073709551616 → length (decimal v) ≤ 20
twenty-digits v h = few-digits 19 v (omega arith)
