-- The value of a row gives its leading term in the order "degree over position", and that term is its pivot.
use mathlib.Core.Path.{◌≡◌, sym, ◌∙◌, ap, ap₂}
use mathlib.Core.Logic.{◌≢◌, ◌↔◌, ◌⊎◌, inl, inr}
use Prim.Native.Nat.{ℕ, zero, suc, ◌-◌, ◌*◌, ◌/◌, ◌%◌, ◌≤◌, ◌<◌}
use native.Mathlib.Omega.{arith}
use native.Mathlib.Nat as N
use Rattle.theory_algebra.specs.Ring.{CommRing}
use Rattle.theory_algebra.specs.Field.{Field}
use Rattle.theory_algebra.proofs.Cases.{case-le}
use Rattle.theory_lattice.specs.Term.{Term, term}
use Rattle.theory_lattice.specs.DegreeOverPosition.{key}
use Rattle.theory_lattice.specs.Row.{Row, coef, Null, Bounded}
use Rattle.theory_lattice.specs.Lead.{Lead, Under}
use Rattle.theory_lattice.proofs.Upto.{extend}
use Rattle.theory_lattice.proofs.DegreeOverPosition.{key-deg, key-col, degree-over-position}
use Rattle.theory_lattice.proofs.Lead.{lead-unique, null-lead}
use Rattle.theory_reduction.specs.Pivot.{IsPivot, top, value, pivot}
use Rattle.theory_reduction.proofs.Index.{key-pivot}

key-bound : (m size : ℕ) (t : Term) → t.col < m → t.deg < size → key m t < size * m
key-bound m size t lc ld = omega (arith, N.mul-le-mul_right m ld, N.suc-mul t.deg m)

-- the leading term is the rightmost of greatest degree
pub lead-pivot : {F : Type 0} (R : CommRing F) (m : ℕ) (t : Term) (r : Row F) → Lead R (degree-over-position m) t r ↔ IsPivot R m t r
unfolding degree-over-position
lead-pivot R m t r = (there, back)
  where
    there : Lead R (degree-over-position m) t r → IsPivot R m t r
    there x = record {
      inside = x.inside;
      entry = x.top;
      greatest = λ c l k lk. x.above (term c k) l (omega (arith, N.mul-le-mul_right m lk, N.suc-mul t.deg m, x.inside));
      rightmost = λ c l lc k lk. x.above (term c k) l (omega (arith, N.mul-le-mul_right m lk));
    }

    le : {a b : ℕ} → a < suc b → a ≤ b
    le l = omega arith

    back : IsPivot R m t r → Lead R (degree-over-position m) t r
    back x = record {
      inside = x.inside;
      top = x.entry;
      above = λ u l p. case-le (suc t.deg) u.deg (x.greatest u.col l u.deg) (λ q.
          case-le (suc t.col) u.col
          (λ s. case-le t.deg u.deg (x.rightmost u.col l s u.deg)
          (λ w. absurd (omega (arith, N.mul-le-mul_right m w, N.suc-mul u.deg m))))
          (λ s. absurd (omega (arith, N.mul-le-mul_right m (le q)))));
    }

pub lead-bounded : {F : Type 0} (R : CommRing F) (m size : ℕ) (r : Row F) (t : Term)
    → Lead R (degree-over-position m) t r → t.deg < size → Bounded R m size r
lead-bounded R m size r t x l c lc k lk = ((lead-pivot R m t r).0 x).greatest c lc k (omega arith)

module _ {F : Type 0} (K : Field F) where
  open K.ring use {𝟘}

  -- v is one more than the greatest x < n with f x not zero
  pub record Top (n : ℕ) (f : ℕ → F) (v : ℕ) : Type 0 where
    pub within : v ≤ n
    pub entry : 0 < v → f (v - 1) ≢ 𝟘
    pub beyond : (x : ℕ) → v ≤ x → x < n → f x ≡ 𝟘

  pub top-is : (n : ℕ) (f : ℕ → F) → Top n f (top K n f)
  unfolding top
  top-is zero f = record { within = omega arith; entry = λ l. absurd (omega arith); beyond = λ x _ l. absurd (omega arith) }
  top-is (suc n) f = go (K.dec (f n) 𝟘) (top-is n f)
    where
      go : (d : Dec (f n ≡ 𝟘)) → Top n f (top K n f) → Top (suc n) f (elim d as (λ _. ℕ) [ yes _ ↦ top K n f | no _ ↦ suc n ])
      go (yes z) x = record {
        within = let w = x.within in omega arith;
        entry = x.entry;
        beyond = λ y p l. extend (λ y. top K n f ≤ y → f y ≡ 𝟘) n (λ y l p. x.beyond y p l) (λ _. z) y l p;
      }
      go (no ne) x = let e : suc n - 1 ≡ n = omega arith in
          record { within = omega arith; entry = λ _. rw e ne; beyond = λ y p l. absurd (omega arith) }

  module _ (m size : ℕ) (r : Row F) (b : Bounded K.ring m size r) where
    abbrev Leads : Term → Type 0
    Leads t = Lead K.ring (degree-over-position m) t r

    abbrev v : ℕ
    v = value K m size r

    found : Top (size * m) (λ x. r (x % m) (x / m)) (value K m size r)
    unfolding value
    found = top-is (size * m) (λ x. r (x % m) (x / m))

    pub value-bound : v ≤ size * m
    value-bound = found.within

    beyond : (t : Term) → t.col < m → v ≤ key m t → coef r t ≡ 𝟘
    beyond t l p = case-le size t.deg (b t.col l t.deg)
        (λ d. sym (ap₂ r (key-col m t l) (key-deg m t l)) ∙ found.beyond (key m t) p (key-bound m size t l d))

    -- a row of value 0 is a zero row, and any other has a leading term
    pub value-null : v ≡ 0 → Null K.ring m r
    value-null e t l = beyond t l (omega arith)

    pub value-lead : 0 < v → Leads (pivot m v)
    unfolding degree-over-position
    value-lead p = record {
      inside = N.mod-lt (v - 1) (N.pos_of_ne-zero (λ z. let w : size * m ≡ 0 = ap (λ x. size * x) z ∙ N.mul-zero size in omega (arith, value-bound)));
      top = found.entry p;
      above = λ t l g. beyond t l (omega (arith, key-pivot m v));
    }

    pub value-pivot : 0 < v → IsPivot K.ring m (pivot m v) r
    value-pivot p = (lead-pivot K.ring m (pivot m v) r).0 (value-lead p)

    pub value-known : Null K.ring m r ⊎ ((t : Term) × Leads t)
    value-known = case-le 1 v (λ l. inr (_, value-lead l)) (λ l. inl (value-null (omega arith)))

    -- the leading term, where there is one, is that of the value
    pub lead-some : (t : Term) → Leads t → 0 < v
    lead-some t x = case-le 1 v (λ l. l) (λ l. absurd (null-lead K.ring (degree-over-position m) t r (value-null (omega arith)) x))

    pub lead_is : (t : Term) → Leads t → pivot m v ≡ t
    lead_is t x = lead-unique K.ring (degree-over-position m) _ _ r (value-lead (lead-some t x)) x

    pub lead-value : (t : Term) → Leads t → v ≡ suc (key m t)
    lead-value t x = omega (arith, lead-some t x, key-pivot m v, ap (key m) (lead_is t x))

    pub null-value : Null K.ring m r → v ≡ 0
    null-value z = case-le 1 v (λ l. absurd (null-lead K.ring (degree-over-position m) _ r z (value-lead l))) (λ l. omega arith)

    pub under-value : (t : Term) → Under K.ring (degree-over-position m) t r → v ≤ key m t
    unfolding degree-over-position
    under-value t h = case-le v (key m t) (λ l. l)
        (λ l. let x = value-lead (omega arith) in absurd (x.top (h (pivot m v) x.inside (λ q. omega (arith, key-pivot m v)))))
