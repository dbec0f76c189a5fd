-- A measure of the excesses h of a row over the k rows before it: each counts as no less than one below the greatest.
-- It falls where the greatest becomes less and no other grows beyond that.
use mathlib.Core.Path.{◌≡◌}
use Prim.Native.Nat.{ℕ, zero, suc, ◌+◌, ◌-◌, ◌*◌, ◌≤◌, ◌<◌}
use native.Mathlib.Omega.{arith}
use Rattle.theory_lattice.proofs.Upto.{extend}
use Rattle.theory_lists.specs.Total.{total}
use Rattle.theory_lists.proofs.Total.{total-same, total-lt, total-bound}
use Rattle.theory_popov.specs.SecondKind.{Highest}

unfoldable pub greatest : ℕ → (ℕ → ℕ) → ℕ
greatest zero h = 0
greatest (suc k) h = greatest k h + (h k - greatest k h)

greatest-le : (k : ℕ) (h : ℕ → ℕ) (j : ℕ) → j < k → h j ≤ greatest k h
unfolding greatest
greatest-le zero h j l = absurd (omega arith)
greatest-le (suc k) h j l = extend (λ j. h j ≤ greatest (suc k) h) k (λ j l. omega (arith, greatest-le k h j l)) (omega arith) j l

greatest-least : (k b : ℕ) (h : ℕ → ℕ) → ((j : ℕ) → j < k → h j ≤ b) → greatest k h ≤ b
unfolding greatest
greatest-least zero b h f = omega arith
greatest-least (suc k) b h f = omega (arith, greatest-least k b h (λ j l. f j (omega arith)), f k (omega arith))

unfoldable pub load : ℕ → (ℕ → ℕ) → ℕ
load k h = total k (λ j. h j + (greatest k h - 1 - h j))

-- only the k excesses count
pub load_same : (k : ℕ) (h h' : ℕ → ℕ) → ((j : ℕ) → j < k → h j ≡ h' j) → load k h ≡ load k h'
unfolding load
load_same k h h' same = total-same k _ _ (λ j l. omega (
  arith,
  same j l,
  greatest-least k (greatest k h') h (λ i li. omega (arith, same i li, greatest-le k h' i li)),
  greatest-least k (greatest k h) h' (λ i li. omega (arith, same i li, greatest-le k h i li)),
))

pub load-falls : (k : ℕ) (h h' : ℕ → ℕ) (d : Highest k h) → h' d.at < h d.at
    → ((j : ℕ) → j < k → h' j ≤ h j + (h d.at - 1 - h j)) → load k h' < load k h
unfolding load
load-falls k h h' d fall most = total-lt k d.at _ _ d.fits (omega (arith, less, same)) (λ j l. omega (arith, less, same, most j l))
  where
    same : h d.at ≤ greatest k h
    same = greatest-le k h d.at d.fits

    less : greatest k h' ≤ h d.at
    less = greatest-least k (h d.at) h' (λ j l. omega (arith, most j l, d.greatest j l))

pub load-most : (k b : ℕ) (h : ℕ → ℕ) → ((j : ℕ) → j < k → h j ≤ b) → load k h ≤ k * b
unfolding load
load-most k b h f = total-bound k b _ (λ j l. omega (arith, f j l, greatest-least k b h f))
