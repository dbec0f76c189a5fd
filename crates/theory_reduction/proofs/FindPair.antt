-- The search for the pair of a step: the pair is found, or there is none.
use mathlib.Core.Path.{◌≡◌}
use mathlib.Core.Logic.Dec
use mathlib.Core.Logic.{◌⊎◌, inl, inr}
use Prim.Native.Nat.{ℕ, ◌<◌}
use native.Mathlib.Omega.{arith}
use native.Mathlib.Decide.{ℕ_discrete, dec_lt}
use Rattle.theory_reduction.specs.Pivot.{index, Clash}
use Rattle.theory_reduction.specs.Pair.{Pair, NoPair}
use Rattle.theory_reduction.proofs.Least.{Least, least}

-- whether two rows clash
unfoldable pub clash-dec : (m v w : ℕ) → Dec (Clash m v w)
clash-dec m v w = go (dec_lt 0 (index m v)) (ℕ_discrete (index m v) (index m w))
  where
    go : Dec (0 < index m v) → Dec (index m v ≡ index m w) → Dec (Clash m v w)
    go (yes p) (yes e) = yes (record { nonzero = p; same = e })
    go (yes p) (no h) = no (λ c. h c.same)
    go (no h) d = no (λ c. h c.nonzero)

module _ (n m : ℕ) (v : ℕ → ℕ) where
  -- j is a later row of the same non-zero pivot index as i
  abbrev pub Partner : ℕ → ℕ → Type 0
  Partner i j = (i < j) × Clash m (v i) (v j)

  unfoldable pub partner-dec : (i j : ℕ) → Dec (Partner i j)
  partner-dec i j = Dec.and (dec_lt i j) (clash-dec m (v i) (v j))

  -- the lowest partner of row i
  unfoldable pub partner : (i : ℕ) → Least n (Partner i) ⊎ ((j : ℕ) → j < n → ¬ (Partner i j))
  partner i = least n (Partner i) (partner-dec i)

  -- whether row i has one
  unfoldable pub has-partner : (i : ℕ) → Dec (Least n (Partner i))
  has-partner i = go (partner i)
    where
      go : Least n (Partner i) ⊎ ((j : ℕ) → j < n → ¬ (Partner i j)) → Dec (Least n (Partner i))
      go (inl x) = yes x
      go (inr h) = no (λ x. h x.at x.fits x.holds)

  pub no-partner : (i : ℕ) → ¬ (Least n (Partner i)) → (j : ℕ) → i < j → j < n → ¬ (Clash m (v i) (v j))
  no-partner i h j l lj c = go (partner i)
    where
      go : Least n (Partner i) ⊎ ((j : ℕ) → j < n → ¬ (Partner i j)) → ⊥
      go (inl x) = h x
      go (inr f) = f j lj (l, c)

  unfoldable pub find-pair : Pair n m v ⊎ NoPair n m v
  find-pair = go (least n (λ i. Least n (Partner i)) has-partner)
    where
      go : Least n (λ i. Least n (Partner i)) ⊎ ((i : ℕ) → i < n → ¬ (Least n (Partner i))) → Pair n m v ⊎ NoPair n m v
      go (inl x) = inl (record {
        a = x.at;
        b = x.holds.at;
        ordered = x.holds.holds.0;
        fits = x.holds.fits;
        clash = x.holds.holds.1;
        lowest_a = λ i j l. no-partner i (x.least i l) j;
        lowest_b = λ j l p c. x.holds.least j p (l, c);
      })
      go (inr h) = inr (λ i j l lj. no-partner i (h i (omega arith)) j l lj)
