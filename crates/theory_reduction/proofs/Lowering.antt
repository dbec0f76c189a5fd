-- A step lowers the value of row l, keeps the bound on the degrees and changes no other row.
use mathlib.Core.Path.{◌≡◌, sym, ap₂}
use mathlib.Core.Logic.{◌≢◌}
use Prim.Native.Nat.{ℕ, suc, ◌-◌, ◌≤◌, ◌<◌}
use native.Mathlib.Omega.{arith}
use native.Mathlib.Decide.{ℕ_discrete}
use Rattle.theory_algebra.specs.Field.{Field}
use Rattle.theory_algebra.specs.Polynomial.{Degree}
use Rattle.theory_rings.specs.Series.{series}
use Rattle.theory_rings.proofs.Polynomial.{below-add}
use Rattle.theory_algebra.proofs.Matrix.{setrow-same, setrow-other}
use Rattle.theory_lattice.specs.Term.{term, up, TermOrder}
use Rattle.theory_lattice.specs.Row.{Row, Bounded, plus, scale}
use Rattle.theory_lattice.specs.Lead.{Lead, Under}
use Rattle.theory_lattice.specs.PolynomialMatrix.{AllBounded}
use Rattle.theory_lattice.proofs.DegreeOverPosition.{degree-over-position}
use Rattle.theory_lattice.proofs.Lead.{cancel-under}
use Rattle.theory_reduction.specs.Pivot.{value, values, pivot, height, Clash}
use Rattle.theory_reduction.specs.Pair.{StepRows}
use Rattle.theory_reduction.specs.Step.{factor, reduce_row}
use Rattle.theory_reduction.proofs.Index.{key-pivot, height-some, height_bound, clash-first, clash-second, clash-columns}
use Rattle.theory_reduction.proofs.Cancelling.{quotient-degree, multiple-lead, multiple-cancels}
use Rattle.theory_reduction.proofs.Pivot.{value-bound, value-lead, under-value, lead-bounded}

module _ {F : Type 0} (K : Field F) (m size : ℕ) where
  abbrev T : TermOrder m
  T = degree-over-position m

  abbrev v : Row F → ℕ
  v = value K m size

  -- rows f and g of the same non-zero pivot index, f of no smaller height
  module _ (f g : Row F) (bf : Bounded K.ring m size f) (bg : Bounded K.ring m size g)
      (c : Clash m (v f) (v g)) (d : height m (v g) ≤ height m (v f)) where
    abbrev e : ℕ
    e = height m (v f) - height m (v g)

    abbrev q : ℕ → F
    q = factor K m size f g

    -- f - c x^e g
    abbrev multiple : Row F
    multiple = scale K.ring ((series K.ring).neg q) g

    abbrev difference : Row F
    difference = plus K.ring f multiple

    lead-f : Lead K.ring T (pivot m (v f)) f
    lead-f = value-lead K m size f bf (clash-first c)

    lead-g : Lead K.ring T (pivot m (v g)) g
    lead-g = value-lead K m size g bg (clash-second c)

    height-f : height m (v f) ≡ suc (pivot m (v f)).deg
    height-f = height-some m (v f) (clash-first c)

    shifted : up e (pivot m (v g)) ≡ pivot m (v f)
    shifted = ap₂ term (sym (clash-columns c)) (omega (arith, height-f, height-some m (v g) (clash-second c)))

    pub factor-degree : Degree K.ring q e
    unfolding factor
    factor-degree = quotient-degree K T f g (pivot m (v g)) (pivot m (v f)) e lead-g shifted lead-f.top

    -- c x^e g removes the leading term of f
    lead-multiple : Lead K.ring T (pivot m (v f)) multiple
    unfolding factor
    lead-multiple = multiple-lead K T f g (pivot m (v g)) (pivot m (v f)) e lead-g shifted lead-f.top

    under : Under K.ring T (pivot m (v f)) difference
    unfolding factor
    under = cancel-under K.ring T (pivot m (v f)) f multiple lead-f lead-multiple
        (multiple-cancels K T f g (pivot m (v g)) (pivot m (v f)) e lead-g shifted lead-f.top)

    difference-bounded : Bounded K.ring m size difference
    unfolding plus
    difference-bounded x l = below-add K.ring (f x) _ size (bf x l)
        (lead-bounded K.ring m size _ (pivot m (v f)) lead-multiple
        (omega (arith, height-f, height_bound m size (v f) (value-bound K m size f bf))) x l)

    difference-value : v difference < v f
    difference-value = omega (arith, under-value K m size difference difference-bounded (pivot m (v f)) under, key-pivot m (v f), clash-first c)

module _ {F : Type 0} (K : Field F) (n m size : ℕ) (M : ℕ → Row F) (l k : ℕ) where
  abbrev M' : ℕ → Row F
  M' = reduce_row K m size l k M

  -- what the step with the rows l and k does
  pub record Lowered : Type 0 where
    pub reducing : StepRows n m (values K m size M) l k
    pub bounded : AllBounded K.ring n m size M'
    pub lower : value K m size (M' l) < value K m size (M l)
    pub others : (i : ℕ) → i ≢ l → M' i ≡ M i

  pub lowered : AllBounded K.ring n m size M → StepRows n m (values K m size M) l k → Lowered
  unfolding plus scale
  lowered b r = record {
    reducing = r;
    bounded = λ i li. elim (ℕ_discrete i l) [
      | yes e ↦ rw (e, setrow-same) (difference-bounded K m size (M l) (M k) (b l r.l_fits) (b k r.k_fits) r.clash r.degrees)
      | no ne ↦ rw (setrow-other M l _ i ne) (b i li)
    ];
    lower = rw setrow-same (difference-value K m size (M l) (M k) (b l r.l_fits) (b k r.k_fits) r.clash r.degrees);
    others = setrow-other M l _;
  }

  pub value-le : Lowered → (i : ℕ) → value K m size (M' i) ≤ value K m size (M i)
  value-le w i = elim (ℕ_discrete i l) [
    | yes e ↦ (let h = w.lower in rw e (omega arith))
    | no ne ↦ rw (w.others i ne) (omega arith)
  ]
