-- The determinant worked out by stages. In the stage of m columns, m + 1 rows are reduced in their first m columns while column m,
-- the parted one, follows; then a row is zero but for that column, and is taken out with its last entry as a factor.
use mathlib.Core.Path.{◌≡◌, sym, ◌∙◌, ap, fun_ext}
use Prim.Native.Nat.{ℕ, suc, ◌+◌, ◌-◌, ◌*◌, ◌≤◌, ◌<◌}
use native.Mathlib.Omega.{arith}
use native.Mathlib.Nat as N
use Rattle.theory_algebra.specs.Ring.{CommRing}
use Rattle.theory_algebra.specs.Field.{Field}
use Rattle.theory_algebra.specs.Polynomial.{Below}
use Rattle.theory_algebra.proofs.Ring.{ring}
use Rattle.theory_algebra.proofs.Ring as Ring
use Rattle.theory_rings.specs.Series.{series}
use Rattle.theory_rings.proofs.Polynomial.{below_one, below-mul}
use Rattle.theory_lattice.specs.Term.{term}
use Rattle.theory_lattice.specs.Row.{Row, Bounded}
use Rattle.theory_lattice.specs.PolynomialMatrix.{AllBounded}
use Rattle.theory_lattice.proofs.Coefficients.{zero-series, below_more}
use Rattle.theory_lists.specs.Skip.{skip}
use Rattle.theory_lists.specs.Total.{total}
use Rattle.theory_lists.proofs.Skip.{skip-fits, total-skip}
use Rattle.theory_lists.proofs.Total.{total-le, total-one, total-bound}
use Rattle.theory_reduction.specs.Pivot.{values, height}
use Rattle.theory_reduction.specs.Pair.{StepRows}
use Rattle.theory_reduction.specs.Step.{reduce_row}
use Rattle.theory_reduction.proofs.Index.{height-pos, clash-second}
use Rattle.theory_reduction.proofs.Pivot.{value-bound, value-null}
use Rattle.theory_reduction.proofs.Lowering.{lowered}
use Rattle.theory_reduction.proofs.Degrees.{totals-fall, column-kept, step-no-higher}
use Rattle.theory_reduction.specs.Narrow.{pivot_degree}
use Rattle.theory_determinant.specs.Determinant.{without, sign_at, det, with_entry}
use Rattle.theory_determinant.specs.Stage.{degrees}
use Rattle.theory_determinant.specs.Stage as Specs
use Rattle.theory_determinant.proofs.Degree.{below-sign}
use Rattle.theory_determinant.proofs.Rows.{height-none, degree-bounds, degree-least}
use Rattle.theory_determinant.proofs.Alternating.{det-addrow}
use Rattle.theory_determinant.proofs.Expansion.{det-last, det-one}

module _ {F : Type 0} (K : Field F) (size B : ℕ) (whole : ℕ → F) where
  infixl 70 ◌⊛◌
  open series K.ring use {mul as ◌⊛◌, 𝟘, 𝟙}

  abbrev S : CommRing (ℕ → F)
  S = series K.ring

  abbrev Stage : (E m : ℕ) → (ℕ → Row F) → (ℕ → F) → Type 0
  Stage = Specs.Stage K size B whole

  -- a stage begins where row s has no degree above e s
  begun : (E m : ℕ) (T : ℕ → Row F) (product : ℕ → F) (e : ℕ → ℕ) → product ⊛ det S (suc m) T ≡ whole
      → AllBounded K.ring (suc m) m size T → ((s : ℕ) → s < suc m → Bounded K.ring (suc m) (suc (e s)) (T s))
      → total (suc m) e ≤ E → E ≤ B → Below K.ring product (suc (B - E)) → Stage E m T product
  begun E m T product e v b rows most within p = record {
    value = v;
    bounded = b;
    within = within;
    less = omega (arith, total-le (suc m) (pivot_degree K (suc m) m size T) e le);
    column = λ s l. below_more K.ring (T s m) _ _ (room s l) (rows s l m (omega arith));
    product_below = p;
  }
    where
      le : (s : ℕ) → s < suc m → pivot_degree K (suc m) m size T s ≤ e s
      le s l = degree-least K m size (T s) (b s l) (e s) (λ c lc. rows s l c (omega arith))

      room : (s : ℕ) → s < suc m → suc (e s) ≤ suc (pivot_degree K (suc m) m size T s + (E - degrees K size m T))
      room s l = omega (
        arith,
        le s l,
        total-skip m s e (omega arith),
        total-skip m s (pivot_degree K (suc m) m size T) (omega arith),
        total-le m (λ i. pivot_degree K (suc m) m size T (skip s i)) (λ i. e (skip s i)) (λ i li. le (skip s i) (skip-fits m s i li)),
      )

  module _ {E m : ℕ} {T : ℕ → Row F} {product : ℕ → F} (x : Stage E m T product) where
    abbrev rows : ℕ → ℕ
    rows = pivot_degree K (suc m) m size T

    pub stage-column : (s : ℕ) → s < suc m → Below K.ring (T s m) (suc B)
    stage-column s l = below_more K.ring (T s m) _ _ (omega (arith, x.less, x.within, total-one (suc m) s rows l)) (x.column s l)

    -- a step of the first kind: what it makes, and what it adds to the parted column
    module _ (l k : ℕ) (r : StepRows (suc m) m (values K m size T) l k) where
      pub stage-step : Stage E m (reduce_row K m size l k T) product
      stage-step =
          let w = lowered K (suc m) m size T l k x.bounded r in
          let y = step-no-higher K (suc m) m size T l k x.bounded w in
          record {
            value = ap (λ d. product ⊛ d) (det-addrow S (suc m) T l k _ r.l_fits r.k_fits r.apart) ∙ x.value;
            bounded = w.bounded;
            within = x.within;
            less = omega (arith, x.less, totals-fall K (suc m) m size y);
            column = λ s ls. rw N.sub-zero at (column-kept K (suc m) m size y E x.less T m 0 (λ i li. rw N.sub-zero (x.column i li)) s ls);
            product_below = x.product_below;
          }

      pub stage-short : Below K.ring (T k m) (height m (values K m size T k) + (E - degrees K size m T))
      stage-short = below_more K.ring (T k m) _ _ (omega (arith, height-pos m _ (clash-second r.clash))) (x.column k r.k_fits)

      pub stage-room : height m (values K m size T k) + (E - degrees K size m T) + (height m (values K m size T l) - height m (values K m size T k))
          ≤ suc B
      stage-room = omega (arith, x.less, x.within, r.degrees, total-one (suc m) l rows r.l_fits)

    -- a row that is zero in the first m columns
    module _ (k : ℕ) (fits : k < suc m) (none : values K m size T k ≡ 0) where
      flat : rows k ≡ 0
      flat = omega (arith, height-none m (values K m size T k) none)

      pub stage-product : Below K.ring (product ⊛ T k m) (suc (B - degrees K size m T))
      stage-product = below_more K.ring _ _ _ (omega (arith, x.less, x.within, flat))
          (below-mul K.ring product (T k m) _ _ x.product_below (x.column k fits))

      expanded : product ⊛ (sign_at S (k + m) ⊛ (T k m ⊛ det S m (without k T))) ≡ whole
      expanded = ap (λ d. product ⊛ d) (sym (det-last S m k T (omega arith) zeros)) ∙ x.value
        where
          zeros : (j : ℕ) → j < m → T k j ≡ 𝟘
          zeros j lj = fun_ext (λ c. value-null K m size (T k) (x.bounded k fits) none (term j c) lj) ∙ sym (zero-series K.ring)

      -- is taken out, and the last of the columns is parted
      pub stage-turn : (m' : ℕ) → suc m' ≡ m → Stage (degrees K size m T) m' (without k T) (with_entry S k m T product)
      stage-turn m' e = begun (degrees K size m T) m' (without k T) _ (λ s. rows (skip k s))
          (ap (λ y. with_entry S k m T product ⊛ det S y (without k T)) e ∙ moved (sign_at S (k + m)) (T k m) _ ∙ expanded)
          (λ s l c lc. x.bounded (skip k s) (kept s l) c (omega arith))
          (λ s l c lc. degree-bounds K m size (T (skip k s)) (x.bounded (skip k s) (kept s l)) c (omega arith))
          (omega (arith, flat, total-skip m k rows (omega arith), ap (λ y. total y (λ s. rows (skip k s))) e))
          (omega (arith, x.less, x.within))
          (below-sign K.ring (k + m) _ stage-product)
        where
          kept : (s : ℕ) → s < suc m' → skip k s < suc m
          kept s l = skip-fits m k s (omega arith)

          moved : (s t d : ℕ → F) → s ⊛ (product ⊛ t) ⊛ d ≡ product ⊛ (s ⊛ (t ⊛ d))
          moved s t d = simp ring

    -- no column is left but the parted one
    pub stage-last : m ≡ 0 → (product ⊛ T 0 m ≡ whole) × Below K.ring (product ⊛ T 0 m) (suc B)
    stage-last e = (
      ap (λ y. product ⊛ T 0 y) e ∙ ap (λ d. product ⊛ d) (sym (det-one S T)) ∙ ap (λ y. product ⊛ det S (suc y) T) (sym e) ∙ x.value,
      below_more K.ring _ _ _ (omega arith) (stage-product 0 (omega arith)
          (omega (arith, value-bound K m size (T 0) (x.bounded 0 (omega arith)), ap (λ y. size * y) e, N.mul-zero size))),
    )

module _ {F : Type 0} (K : Field F) (size B : ℕ) where
  pub stage-start : (n m d : ℕ) → suc m ≡ n → (A : ℕ → Row F) → AllBounded K.ring n n (suc d) A → d < size → n * d ≤ B
      → Stage K size B (det (series K.ring) n A) (n * d) m A (series K.ring).𝟙
  stage-start n m d e A b fits room = begun K size B _ (n * d) m A _ (λ _. d)
      (Ring.one-mul (series K.ring) _ ∙ ap (λ y. det (series K.ring) y A) e)
      (λ s l c lc. below_more K.ring (A s c) _ _ fits (b s (omega arith) c (omega arith)))
      (λ s l c lc. b s (omega arith) c (omega arith))
      (omega (arith, total-bound (suc m) d (λ _. d) (λ _ _. omega arith), ap (λ y. y * d) e))
      room
      (below_more K.ring _ 1 _ (omega arith) (below_one K.ring))
