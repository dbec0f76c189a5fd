-- The search for the next step of the second kind: it is found, or there is none.
use mathlib.Core.Path.{◌≡◌}
use mathlib.Core.Logic.{◌⊎◌, inl, inr}
use Prim.Native.Nat.{ℕ, zero, suc, ◌≤◌, ◌<◌}
use native.Mathlib.Omega.{arith}
use native.Mathlib.Decide.{dec_lt}
use Rattle.theory_lattice.proofs.Upto.{extend}
use Rattle.theory_popov.specs.SecondKind.{Highest, Removal, NoRemoval}

-- the lowest row that has the greatest excess, or no row has any
unfoldable pub highest : (k : ℕ) (h : ℕ → ℕ) → Highest k h ⊎ ((j : ℕ) → j < k → h j ≡ 0)
highest zero h = inr (λ j l. absurd (omega arith))
highest (suc k) h = go (highest k h)
  where
    new : ((j : ℕ) → j < k → h j < h k) → 0 < h k → Highest (suc k) h
    new less p = record {
      at = k;
      fits = omega arith;
      some = p;
      greatest = extend (λ j. h j ≤ h k) k (λ j l. omega (arith, less j l)) (omega arith);
      lowest = less;
    }

    old : (x : Highest k h) → h k ≤ h x.at → Highest (suc k) h
    old x l = record {
      at = x.at;
      fits = omega (arith, x.fits);
      some = x.some;
      greatest = extend (λ j. h j ≤ h x.at) k x.greatest l;
      lowest = x.lowest;
    }

    go : Highest k h ⊎ ((j : ℕ) → j < k → h j ≡ 0) → Highest (suc k) h ⊎ ((j : ℕ) → j < suc k → h j ≡ 0)
    go (inl x) = elim (dec_lt (h x.at) (h k)) [ yes l ↦ inl (new (λ j lj. omega (arith, x.greatest j lj)) (omega arith)) | no g ↦ inl (old x (omega arith)) ]
    go (inr z) = elim (dec_lt 0 (h k)) [ yes l ↦ inl (new (λ j lj. omega (arith, z j lj)) l) | no g ↦ inr (extend (λ j. h j ≡ 0) k z (omega arith)) ]

-- the next step, or there is none
unfoldable pub find-removal : (n : ℕ) (x : ℕ → ℕ → ℕ) → Removal n x ⊎ NoRemoval n x
find-removal zero x = inr (λ a j l la. absurd (omega arith))
find-removal (suc n) x = go (find-removal n x) (highest n (x n))
  where
    go : Removal n x ⊎ NoRemoval n x → Highest n (x n) ⊎ ((j : ℕ) → j < n → x n j ≡ 0) → Removal (suc n) x ⊎ NoRemoval (suc n) x
    go (inl p) y = inl (record { k = p.k; fits = omega (arith, p.fits); highest = p.highest; done = p.done })
    go (inr z) (inl y) = inl (record { k = n; fits = omega arith; highest = y; done = z })
    go (inr z) (inr y) = inr (λ a j l la. extend (λ a. (j : ℕ) → j < a → x a j ≡ 0) n (λ a la j l. z a j l la) y a la j l)
