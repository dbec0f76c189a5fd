-- Leading terms: there is at most one, and those of multiples and of sums.
use mathlib.Core.Path.{◌≡◌, sym, ◌∙◌, ap, ap₂, subst}
use mathlib.Core.Logic.{◌⊎◌, inl, inr}
use Prim.Native.Nat.{ℕ, suc, ◌+◌, ◌-◌, ◌≤◌, ◌<◌}
use native.Mathlib.Omega.{arith}
use native.Mathlib.Decide.{ℕ_discrete}
use Rattle.theory_algebra.specs.Ring.{CommRing}
use Rattle.theory_algebra.specs.Field.{Field}
use Rattle.theory_algebra.specs.Polynomial.{Below, Degree}
use Rattle.theory_algebra.proofs.Ring as Ring
use Rattle.theory_algebra.proofs.Field.{no-zero-divisor}
use Rattle.theory_algebra.proofs.Cases.{case-le}
use Rattle.theory_algebra.proofs.Sum.{sum-null}
use Rattle.theory_rings.proofs.Series.{add_at, mul_at}
use Rattle.theory_rings.proofs.Polynomial.{lead-mul}
use Rattle.theory_lattice.specs.Term.{Term, term, up, TermOrder}
use Rattle.theory_lattice.specs.Row.{Row, coef, Null, plus, scale}
use Rattle.theory_lattice.specs.Lead.{Lead, Under, LeadsApart}

-- multiplication by x^e keeps the order, so it can be taken back
unshift : {m : ℕ} (T : TermOrder m) (e : ℕ) (s t : Term) → s.col < m → t.col < m → T.lt (up e s) (up e t) → T.lt s t
unshift T e s t ls lt' h = go (T.total s t ls lt')
  where
    go : T.lt s t ⊎ ((s ≡ t) ⊎ T.lt t s) → T.lt s t
    go (inl p) = p
    go (inr (inl p)) = absurd (T.irrefl (up e t) (subst (λ x. T.lt (up e x) (up e t)) p h))
    go (inr (inr p)) = absurd (T.irrefl (up e t) (T.trans _ _ _ (T.shift e t s p) h))

-- what is not less is equal or greater
not-less : {m : ℕ} (T : TermOrder m) (s t : Term) → s.col < m → t.col < m → ¬ (T.lt s t) → (s ≡ t) ⊎ T.lt t s
not-less T s t ls lt' h = go (T.total s t ls lt')
  where
    go : T.lt s t ⊎ ((s ≡ t) ⊎ T.lt t s) → (s ≡ t) ⊎ T.lt t s
    go (inl p) = absurd (h p)
    go (inr p) = p

module _ {F : Type 0} (R : CommRing F) {m : ℕ} (T : TermOrder m) where
  infixl 65 ◌⊕◌
  infixl 70 ◌⊛◌
  open R use {add as ◌⊕◌, mul as ◌⊛◌, 𝟘}
  open T use {lt, trans, irrefl, total, grow}

  pub lead-unique : (s t : Term) (r : Row F) → Lead R T s r → Lead R T t r → s ≡ t
  lead-unique s t r x y = go (total s t x.inside y.inside)
    where
      go : lt s t ⊎ ((s ≡ t) ⊎ lt t s) → s ≡ t
      go (inl p) = absurd (y.top (x.above t y.inside p))
      go (inr (inl p)) = p
      go (inr (inr p)) = absurd (x.top (y.above s x.inside p))

  -- where no two rows lead in one column, leading terms in one column are equal
  pub apart-column : (n : ℕ) (M : ℕ → Row F) → LeadsApart R T n M → (i j : ℕ) → i < n → j < n → (s t : Term)
      → Lead R T s (M i) → Lead R T t (M j) → s.col ≡ t.col → s ≡ t
  apart-column n M apart i j li lj s t x y e = elim (ℕ_discrete i j) [
    | yes w ↦ lead-unique s t (M j) (rw w at x) y
    | no ne ↦ absurd (apart i j li lj ne s t x y e)
  ]

  pub lead-same : (t : Term) (f g : Row F) → ((u : Term) → u.col < m → coef f u ≡ coef g u) → Lead R T t f → Lead R T t g
  lead-same t f g e x = record {
    inside = x.inside;
    top = λ z. x.top (e t x.inside ∙ z);
    above = λ u l p. sym (e u l) ∙ x.above u l p;
  }

  pub null-lead : (t : Term) (r : Row F) → Null R m r → ¬ (Lead R T t r)
  null-lead t r z x = x.top (z t x.inside)

  -- a row with a lesser leading term
  pub lead-under : (s t : Term) (r : Row F) → t.col < m → Lead R T s r → lt s t → Under R T t r
  lead-under s t r lt' x p u l n = go (not-less T u t l lt' n)
    where
      go : (u ≡ t) ⊎ lt t u → coef r u ≡ 𝟘
      go (inl e) = x.above u l (subst (λ y. lt s y) (sym e) p)
      go (inr q) = x.above u l (trans _ _ _ p q)

  -- of a sum
  pub lead-plus : (t : Term) (f g : Row F) → Lead R T t f → Under R T t g → Lead R T t (plus R f g)
  unfolding plus
  lead-plus t f g x h = record {
    inside = x.inside;
    top = λ z. x.top (sym (at t x.inside (irrefl t)) ∙ z);
    above = λ u l p. at u l (λ q. irrefl t (trans _ _ _ p q)) ∙ x.above u l p;
  }
    where
      at : (u : Term) → u.col < m → ¬ (lt u t) → coef (plus R f g) u ≡ coef f u
      at u l n = add_at R (f u.col) (g u.col) u.deg ∙ ap (λ y. coef f u ⊕ y) (h u l n) ∙ Ring.add-zero R _

  -- two rows with one leading term and opposite coefficients there
  pub cancel-under : (t : Term) (f g : Row F) → Lead R T t f → Lead R T t g → coef f t ⊕ coef g t ≡ 𝟘 → Under R T t (plus R f g)
  unfolding plus
  cancel-under t f g x y e u l n = add_at R (f u.col) (g u.col) u.deg ∙ go (not-less T u t l x.inside n)
    where
      go : (u ≡ t) ⊎ lt t u → coef f u ⊕ coef g u ≡ 𝟘
      go (inl p) = rw p e
      go (inr q) = ap₂ ◌⊕◌ (x.above u l q) (y.above u l q) ∙ Ring.add-zero R 𝟘

  -- the leading coefficient of a multiple
  pub lead-scale-coef : (q : ℕ → F) (r : Row F) (a : ℕ) (t : Term) → Degree R q a → Lead R T t r → coef (scale R q r) (up a t) ≡ q a ⊛ coef r t
  unfolding scale
  lead-scale-coef q r a t d x = lead-mul R q (r t.col) a t.deg d.below column
    where
      column : Below R (r t.col) (suc t.deg)
      column k l = x.above (term t.col k) x.inside (grow t.col t.deg k x.inside l)

module _ {F : Type 0} (K : Field F) {m : ℕ} (T : TermOrder m) where
  infixl 70 ◌⊛◌
  open K.ring use {mul as ◌⊛◌, 𝟘}
  open T use {lt, trans, grow}

  -- the leading term of a multiple
  pub lead-scale : (q : ℕ → F) (r : Row F) (a : ℕ) (t : Term) → Degree K.ring q a → Lead K.ring T t r
      → Lead K.ring T (up a t) (scale K.ring q r)
  unfolding scale
  lead-scale q r a t d x = record {
    inside = x.inside;
    top = λ z. x.top (no-zero-divisor K (q a) (coef r t) (sym (lead-scale-coef K.ring T q r a t d x) ∙ z) d.top);
    above = λ u l p. mul_at K.ring q (r u.col) u.deg ∙ sum-null K.ring (suc u.deg) _ (high u l p);
  }
    where
      low : (u : Term) (i : ℕ) → u.col < m → lt (up a t) u → i ≤ a → i < suc u.deg → lt t (term u.col (u.deg - i))
      low u i l p s j =
          unshift T i t (term u.col (u.deg - i)) x.inside l
          (let e : i + (u.deg - i) ≡ u.deg = omega arith in
          rw e (case-le (suc i) a (λ q. trans _ _ _ (grow t.col (i + t.deg) (a + t.deg) x.inside (omega arith)) p)
          (λ q. let w : i ≡ a = omega arith in rw w p)))

      high : (u : Term) → u.col < m → lt (up a t) u → (i : ℕ) → i < suc u.deg → q i ⊛ r u.col (u.deg - i) ≡ 𝟘
      high u l p i j = case-le i a
          (λ s. ap (λ y. q i ⊛ y) (x.above (term u.col (u.deg - i)) l (low u i l p s j)) ∙ Ring.mul-zero K.ring _)
          (λ s. ap (λ y. y ⊛ r u.col (u.deg - i)) (d.below i s) ∙ Ring.zero-mul K.ring _)
