-- The laws of the numbers but one.
use mathlib.Core.Path.{◌≡◌, refl, ap}
use Prim.Native.Nat.{ℕ, zero, suc, ◌+◌, ◌≤◌, ◌<◌}
use native.Mathlib.Omega.{arith}
use Rattle.theory_algebra.proofs.Cases.{case-le}
use Rattle.theory_lists.specs.Skip.{skip}
use Rattle.theory_lists.specs.Total.{total}
use Rattle.theory_lists.proofs.Total.{total-same}

pub skip-low : (k s : ℕ) → s < k → skip k s ≡ s
skip-low zero s l = absurd (omega arith)
skip-low (suc k) zero l = refl
skip-low (suc k) (suc s) l = ap suc (skip-low k s (omega arith))

pub skip-high : (k s : ℕ) → k ≤ s → skip k s ≡ suc s
skip-high zero s l = refl
skip-high (suc k) zero l = absurd (omega arith)
skip-high (suc k) (suc s) l = ap suc (skip-high k s (omega arith))

pub skip-fits : (n k s : ℕ) → s < n → skip k s < suc n
skip-fits n k s l = case-le k s (λ h. omega (arith, skip-high k s h)) (λ h. omega (arith, skip-low k s h))

-- all but two of the numbers, in either order
pub skip-skip : (j k s : ℕ) → k ≤ j → skip (suc j) (skip k s) ≡ skip k (skip j s)
skip-skip j zero s l = refl
skip-skip zero (suc k) s l = absurd (omega arith)
skip-skip (suc j) (suc k) zero l = refl
skip-skip (suc j) (suc k) (suc s) l = ap suc (skip-skip j k s (omega arith))

-- a sum with the term at k apart
pub total-skip : (n k : ℕ) (f : ℕ → ℕ) → k ≤ n → total (suc n) f ≡ f k + total n (λ s. f (skip k s))
unfolding total
total-skip zero k f l = let e : k ≡ 0 = omega arith in rw e (omega arith)
total-skip (suc n) k f l = case-le k n
    (λ h. omega (arith, total-skip n k f h, ap f (skip-high k n h)))
    (λ h. let e : k ≡ suc n = omega arith in
    rw e (omega (arith, total-same (suc n) (λ s. f (skip (suc n) s)) f (λ s ls. ap f (skip-low (suc n) s ls)))))
