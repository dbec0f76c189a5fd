-- A step of the second kind on a row f, by a row g: the leading term of f stays, the term that is removed is gone.
use mathlib.Core.Path.{◌≡◌, refl, sym, ◌∙◌, ap, ap₂}
use mathlib.Core.Logic.{◌≢◌, ◌⊎◌, inl, inr}
use Prim.Native.Nat.{ℕ, suc, ◌+◌, ◌≤◌, ◌<◌}
use native.Mathlib.Omega.{arith}
use Rattle.theory_algebra.specs.Field.{Field}
use Rattle.theory_algebra.specs.Polynomial.{Below, Degree}
use Rattle.theory_algebra.proofs.Ring as Ring
use Rattle.theory_algebra.proofs.Cases.{case-le}
use Rattle.theory_rings.specs.Series.{series}
use Rattle.theory_rings.proofs.Series.{add_at}
use Rattle.theory_rings.proofs.Polynomial.{below-add, below-neg, below-mul-within}
use Rattle.theory_lattice.specs.Term.{Term, TermOrder}
use Rattle.theory_lattice.specs.Row.{Row, coef, Bounded, plus, scale}
use Rattle.theory_lattice.specs.Lead.{Lead}
use Rattle.theory_lattice.proofs.DegreeOverPosition.{degree-over-position}
use Rattle.theory_lattice.proofs.Lead.{lead-plus, lead-under}
use Rattle.theory_reduction.specs.Pivot.{value}
use Rattle.theory_reduction.proofs.Index.{height-some, height_bound}
use Rattle.theory_reduction.proofs.Pivot.{lead-pivot, lead-bounded, value-bound, value-lead, value-pivot, lead-value}
use Rattle.theory_reduction.proofs.Cancelling.{quotient-degree, multiple-lead, multiple-cancels}
use Rattle.theory_popov.specs.SecondKind.{pivot_of, excess, exponent, excessive, remover}
use Rattle.theory_popov.proofs.Excess.{excess-below, excess-term}

module _ {F : Type 0} (K : Field F) (m size : ℕ) (f g : Row F) where
  abbrev T : TermOrder m
  T = degree-over-position m

  abbrev s : Term
  s = pivot_of K m size g

  abbrev t : Term
  t = pivot_of K m size f

  abbrev e : ℕ
  e = exponent K m size f g

  -- the term x^e s that is removed
  abbrev u : Term
  u = excessive K m size f g

  abbrev q : ℕ → F
  q = remover K m size f g

  abbrev multiple : Row F
  multiple = scale K.ring ((series K.ring).neg q) g

  abbrev difference : Row F
  difference = plus K.ring f multiple

  -- what the step does
  pub record Removed : Type 0 where
    pub degree : Degree K.ring q e
    -- x^e g is no higher than f, whose pivot stays
    pub room : e + s.deg ≤ t.deg
    pub bounded : Bounded K.ring m size difference
    pub kept : value K m size difference ≡ value K m size f
    -- in the pivot column of g the degree falls, and in any other it rises no more than by x^e g
    pub own : Below K.ring (difference s.col) (e + s.deg)
    pub other : (c a b : ℕ) → e + b ≤ a → Below K.ring (f c) a → Below K.ring (g c) b → Below K.ring (difference c) a

  -- where f and g are not zero and have different pivot columns, f having an excess over g
  module _ (bf : Bounded K.ring m size f) (bg : Bounded K.ring m size g) (f-some : 0 < value K m size f) (g_some : 0 < value K m size g)
      (apart : s.col ≢ t.col) (some : 0 < excess K m size f g) where
    infixl 65 ◌⊕◌
    open K.ring use {add as ◌⊕◌, 𝟘}

    lead-f : Lead K.ring T t f
    lead-f = value-lead K m size f bf f-some

    lead-g : Lead K.ring T s g
    lead-g = value-lead K m size g bg g_some

    term-some : coef f u ≢ 𝟘
    term-some = excess-term K m size f g some

    remover-degree : Degree K.ring q e
    unfolding remover
    remover-degree = quotient-degree K T f g s u e lead-g refl term-some

    lead-multiple : Lead K.ring T u multiple
    unfolding remover
    lead-multiple = multiple-lead K T f g s u e lead-g refl term-some

    cancels : coef f u ⊕ coef multiple u ≡ 𝟘
    unfolding remover
    cancels = multiple-cancels K T f g s u e lead-g refl term-some

    -- what is removed is less than the leading term of f, which stays
    removed-less : T.lt u t
    removed-less = go (T.total u t lead-g.inside lead-f.inside)
      where
        go : T.lt u t ⊎ ((u ≡ t) ⊎ T.lt t u) → T.lt u t
        go (inl l) = l
        go (inr (inl same)) = absurd (apart (ap (λ w. w.col) same))
        go (inr (inr l)) = absurd (term-some (lead-f.above u lead-g.inside l))

    lead-difference : Lead K.ring T t difference
    lead-difference = lead-plus K.ring T t f multiple lead-f (lead-under K.ring T u t multiple lead-f.inside lead-multiple removed-less)

    removed-bounded : Bounded K.ring m size difference
    removed-bounded = lead-bounded K.ring m size difference t lead-difference
        (omega (arith, height-some m (value K m size f) f-some, height_bound m size (value K m size f) (value-bound K m size f bf)))

    pub removed : Removed
    unfolding plus scale
    removed = record {
      degree = remover-degree;
      room = case-le (suc t.deg) (e + s.deg)
          (λ l. absurd (term-some ((value-pivot K m size f bf f-some).greatest s.col lead-g.inside (e + s.deg) l))) (λ l. omega arith);
      bounded = removed-bounded;
      kept = lead-value K m size difference removed-bounded t lead-difference ∙ sym (lead-value K m size f bf t lead-f);
      own = λ k l. add_at K.ring (f s.col) (multiple s.col) k ∙ case-le (suc (e + s.deg)) k
          (λ p. ap₂ ◌⊕◌ (excess-below K m size f g (omega (arith, lead-g.inside)) bf k (omega arith))
          (((lead-pivot K.ring m u multiple).0 lead-multiple).greatest s.col lead-g.inside k p)
          ∙ Ring.add-zero K.ring 𝟘)
          (λ p. let same : k ≡ e + s.deg = omega arith in rw same cancels);
      other = λ c a b l hf hg. below-add K.ring (f c) _ a hf
          (below-mul-within K.ring _ (g c) e b a (below-neg K.ring q _ remover-degree.below) hg (λ _. l));
    }
