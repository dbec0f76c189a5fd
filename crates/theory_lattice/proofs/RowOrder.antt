-- Lists of terms in one order that have the same members are equal.
use mathlib.Core.Path.{◌≡◌, sym, ◌∙◌, ap, subst₂}
use Prim.Native.Nat.{ℕ, zero, suc, ◌≤◌, ◌<◌}
use native.Mathlib.Omega.{arith}
use Rattle.theory_algebra.proofs.Cases.{case-le}
use Rattle.theory_lattice.specs.Term.{Term}
use Rattle.theory_lattice.specs.RowOrder.{RowOrder}

-- each of the first r terms of s is one of the first r' of t
abbrev pub Members : ℕ → (ℕ → Term) → ℕ → (ℕ → Term) → Type 0
Members r s r' t = (i : ℕ) → i < r → (j : ℕ) × (j < r') × (s i ≡ t j)

module _ (O : RowOrder) where
  open O use {before, trans, irrefl}

  -- the first r terms of s stand in the order
  abbrev pub Sorted : ℕ → (ℕ → Term) → Type 0
  Sorted r s = (i j : ℕ) → i < j → j < r → before (s i) (s j)

  -- a term that is before another has the smaller place
  before-lt : (r : ℕ) (s : ℕ → Term) → Sorted r s → (i j : ℕ) → i < r → before (s i) (s j) → i < j
  before-lt r s h i j l b = case-le (suc i) j (λ p. p) (λ p. absurd (case-le (suc j) i
      (λ q. irrefl (s i) (trans _ _ _ b (h j i q l)))
      (λ q. let e : i ≡ j = omega arith in irrefl (s j) (rw e at b))))

  module _ (r r' : ℕ) (s t : ℕ → Term) (sorted : Sorted r s) (sorted' : Sorted r' t) (f : Members r s r' t) where
    -- no term stands earlier in t than in s
    at_least : (i j : ℕ) → i < r → j < r' → s i ≡ t j → i ≤ j
    at_least zero j l lj e = omega arith
    at_least (suc i) j l lj e =
        let (k, lk, d) = f i (omega arith) in
        omega (arith, at_least i k (omega arith) lk d, before-lt r' t sorted' k j lk (subst₂ before d e (sorted i (suc i) (omega arith) l)))

    -- so s is no longer than t
    not-longer : r ≤ r'
    not-longer = case-le r r' (λ l. l) (λ l. let (j, lj, e) = f r' l in absurd (omega (arith, at_least r' j l lj e)))

  pub same-list : (r r' : ℕ) (s t : ℕ → Term) → Sorted r s → Sorted r' t → Members r s r' t → Members r' t r s
      → (r ≡ r') × ((i : ℕ) → i < r → s i ≡ t i)
  same-list r r' s t a b f g = (omega (arith, not-longer r r' s t a b f, not-longer r' r t s b a g), same)
    where
      same : (i : ℕ) → i < r → s i ≡ t i
      same i l =
          let (j, lj, e) = f i l in
          let w : j ≡ i = omega (arith, at_least r r' s t a b f i j l lj e, at_least r' r t s b a g j i lj l (sym e)) in
          e ∙ ap t w
