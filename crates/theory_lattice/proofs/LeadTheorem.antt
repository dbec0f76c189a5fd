-- The lead theorem: where no two rows have their leading terms in one column, the leading term of a combination
-- is the greatest of the leading terms of its parts.
use mathlib.Core.Path.{◌≡◌, sym, ◌∙◌, ap, ap₂, subst}
use mathlib.Core.Logic.{◌⊎◌, inl, inr}
use Prim.Native.Nat.{ℕ, zero, suc, ◌<◌}
use native.Mathlib.Omega.{arith}
use Rattle.theory_algebra.specs.Ring.{CommRing}
use Rattle.theory_algebra.specs.Field.{Field}
use Rattle.theory_algebra.specs.Polynomial.{IsPolynomial, Degree}
use Rattle.theory_rings.proofs.Polynomial.{degree, degree-unique}
use Rattle.theory_lattice.specs.Term.{Term, up, TermOrder}
use Rattle.theory_lattice.specs.Row.{Row, coef, Null, plus, scale, comb}
use Rattle.theory_lattice.specs.Lead.{Lead, Under, LeadsApart}
use Rattle.theory_lattice.proofs.Upto.{extend}
use Rattle.theory_lattice.proofs.Lead.{lead-unique, lead-same, null-lead, lead-scale, lead-plus, lead-under}
use Rattle.theory_lattice.proofs.Row.{Idle, idle-null, plus-null, plus_comm, comb-suc, comb-null}

module _ {F : Type 0} (K : Field F) {m : ℕ} (T : TermOrder m) where
  abbrev R : CommRing F
  R = K.ring

  open T use {lt, trans, irrefl, total}

  -- the leading term of the sum of q i M i is that of q at M at, and no other q j M j has a greater one
  pub record Greatest (n : ℕ) (q : ℕ → ℕ → F) (M : ℕ → Row F) : Type 0 where
    pub at : ℕ
    pub fits : at < n
    pub row : Term
    pub row-lead : Lead R T row (M at)
    pub exp : ℕ
    pub exp-degree : Degree R (q at) exp
    pub lead : Lead R T (up exp row) (comb R n q M)
    pub greatest : (j : ℕ) → j < n → (t : Term) (b : ℕ) → Lead R T t (M j) → Degree R (q j) b → ¬ (lt (up exp row) (up b t))

  -- every part is a zero row, or one has the greatest leading term
  abbrev pub Led : (n : ℕ) (q : ℕ → ℕ → F) (M : ℕ → Row F) → Type 0
  Led n q M = ((i : ℕ) → i < n → Idle R m (q i) (M i)) ⊎ Greatest n q M

  -- every one of the n rows is a zero row or has a leading term
  abbrev pub Known : ℕ → (ℕ → Row F) → Type 0
  Known n M = (i : ℕ) → i < n → Null R m (M i) ⊎ ((t : Term) × Lead R T t (M i))

  idle-clash : (q : ℕ → F) (r : Row F) (t : Term) (b : ℕ) → Idle R m q r → Lead R T t r → Degree R q b → ⊥
  idle-clash q r t b (inl z) x d = null-lead R T t r z x
  idle-clash q r t b (inr e) x d = d.top (ap (λ f. f b) e)

  -- one row more
  module _ (n : ℕ) (q : ℕ → ℕ → F) (M : ℕ → Row F) (apart : LeadsApart R T (suc n) M) where
    -- of the first n parts that of g has the greatest leading term, and the last has none as great
    old : (g : Greatest n q M) → Lead R T (up g.exp g.row) (comb R (suc n) q M)
        → ((t : Term) (b : ℕ) → Lead R T t (M n) → Degree R (q n) b → ¬ (lt (up g.exp g.row) (up b t))) → Greatest (suc n) q M
    old g x h = record {
      at = g.at;
      fits = let f = g.fits in omega arith;
      row = g.row;
      row-lead = g.row-lead;
      exp = g.exp;
      exp-degree = g.exp-degree;
      lead = x;
      greatest = extend _ n g.greatest h;
    }

    -- the last part is a zero row
    more : Idle R m (q n) (M n) → Led n q M → Led (suc n) q M
    more z (inl h) = inl (extend (λ i. Idle R m (q i) (M i)) n h z)
    more z (inr g) = inr (old g
        (lead-same R T _ (comb R n q M) _ (λ u l. sym (comb-suc R n q M u ∙ plus-null R m _ _ (idle-null R m (q n) (M n) z) u l)) g.lead)
        (λ t b x d _. idle-clash (q n) (M n) t b z x d))

    module _ (t : Term) (x : Lead R T t (M n)) (b : ℕ) (d : Degree R (q n) b) where
      own : (s : Term) (a : ℕ) → Lead R T s (M n) → Degree R (q n) a → up a s ≡ up b t
      own s a y e = ap₂ up (degree-unique R (q n) a b e d) (lead-unique R T s t (M n) y x)

      part : Lead R T (up b t) (scale R (q n) (M n))
      part = lead-scale K T (q n) (M n) b t d x

      -- the last part has the greatest leading term
      last : Under R T (up b t) (comb R n q M)
          → ((j : ℕ) → j < n → (s : Term) (a : ℕ) → Lead R T s (M j) → Degree R (q j) a → ¬ (lt (up b t) (up a s))) → Greatest (suc n) q M
      last u g = record {
        at = n;
        fits = omega arith;
        row = t;
        row-lead = x;
        exp = b;
        exp-degree = d;
        lead = lead-same R T _ (plus R (scale R (q n) (M n)) (comb R n q M)) _
            (λ u l. sym (comb-suc R n q M u ∙ plus_comm R _ _ u)) (lead-plus R T (up b t) _ _ part u);
        greatest = extend _ n g (λ s a y e h. irrefl _ (subst (λ v. lt (up b t) v) (own s a y e) h));
      }

      both : Led n q M → Greatest (suc n) q M
      both (inl h) = last (λ u l _. comb-null R n m q M h u l) (λ j l s a y e _. idle-clash (q j) (M j) s a (h j l) y e)
      both (inr g) = pick (total (up g.exp g.row) (up b t) g.row-lead.inside x.inside)
        where
          pick : lt (up g.exp g.row) (up b t) ⊎ ((up g.exp g.row ≡ up b t) ⊎ lt (up b t) (up g.exp g.row)) → Greatest (suc n) q M
          pick (inl l) = last (lead-under R T _ _ _ x.inside g.lead l) (λ j lj s a y e h. g.greatest j lj s a y e (trans _ _ _ l h))
          pick (inr (inl e)) = let f = g.fits in
              absurd (apart g.at n (omega arith) (omega arith) (omega arith) g.row t g.row-lead x (ap (λ v. v.col) e))
          pick (inr (inr l)) = old g
              (lead-same R T _ (plus R (comb R n q M) (scale R (q n) (M n))) _ (λ u _. sym (comb-suc R n q M u))
              (lead-plus R T _ _ _ g.lead (lead-under R T (up b t) _ _ g.row-lead.inside part l)))
              (λ s a y e h. irrefl _ (trans _ _ _ l (subst (λ v. lt (up g.exp g.row) v) (own s a y e) h)))

  pub lead-theorem : (n : ℕ) (q : ℕ → ℕ → F) (M : ℕ → Row F) → ((i : ℕ) → i < n → IsPolynomial R (q i)) → Known n M → LeadsApart R T n M → Led n q M
  lead-theorem zero q M p k w = inl (λ i l. absurd (omega arith))
  lead-theorem (suc n) q M p k w =
      join (lead-theorem n q M (λ i l. p i (omega arith)) (λ i l. k i (omega arith)) (λ i j li lj. w i j (omega arith) (omega arith)))
      (k n (omega arith)) (let b = p n (omega arith) in degree K b.0 (q n) b.1)
    where
      join : Led n q M → Null R m (M n) ⊎ ((t : Term) × Lead R T t (M n)) → (q n ≡ (λ _. R.𝟘)) ⊎ ((a : ℕ) × Degree R (q n) a) → Led (suc n) q M
      join h (inl z) d = more n q M w (inl z) h
      join h (inr x) (inl z) = more n q M w (inr z) h
      join h (inr x) (inr d) = inr (both n q M w x.0 x.1 d.0 d.1 h)

  module _ (n : ℕ) (q : ℕ → ℕ → F) (M : ℕ → Row F) where
    -- a combination with a leading term has it from the part with the greatest one
    pub led-lead : Led n q M → (t : Term) → Lead R T t (comb R n q M) → (g : Greatest n q M) × (t ≡ up g.exp g.row)
    led-lead (inl z) t x = absurd (null-lead R T t _ (comb-null R n m q M z) x)
    led-lead (inr g) t x = (g, lead-unique R T t _ _ x g.lead)

    -- a combination with no term at a multiple of the leading term of a row is a zero row
    pub led-null : Led n q M → ((i : ℕ) → i < n → (t : Term) → Lead R T t (M i) → (a : ℕ) → coef (comb R n q M) (up a t) ≡ R.𝟘)
        → Null R m (comb R n q M)
    led-null (inl z) h = comb-null R n m q M z
    led-null (inr g) h = absurd (g.lead.top (h g.at g.fits g.row g.row-lead g.exp))
