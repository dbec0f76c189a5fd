-- The bounds on the degrees of U and V, kept by every move that takes a multiple of a row from a row of no smaller height.
use mathlib.Core.Path.{◌≡◌, ap}
use mathlib.Core.Logic.{◌≢◌}
use Prim.Native.Nat.{ℕ, zero, suc, ◌+◌, ◌-◌, ◌*◌, ◌≤◌, ◌<◌}
use native.Mathlib.Omega.{arith}
use native.Mathlib.Decide.{ℕ_discrete}
use native.Mathlib.Nat as N
use Rattle.theory_algebra.specs.Ring.{CommRing}
use Rattle.theory_algebra.specs.Field.{Field}
use Rattle.theory_algebra.specs.Polynomial.{Below}
use Rattle.theory_algebra.specs.Matrix.{transpose, identity}
use Rattle.theory_rings.specs.Series.{series}
use Rattle.theory_rings.proofs.Polynomial.{below-add, below-neg, below-mul-within}
use Rattle.theory_algebra.proofs.Matrix.{setrow-same, setrow-other, identity-other}
use Rattle.theory_lattice.specs.Row.{Row}
use Rattle.theory_lattice.specs.PolynomialMatrix.{AllBounded}
use Rattle.theory_lattice.proofs.Coefficients.{below_more, below-zero, below-identity}
use Rattle.theory_lists.specs.Total.{total}
use Rattle.theory_reduction.specs.Pivot.{value, height}
use Rattle.theory_reduction.specs.Step.{Carried, begin, factor, subtract, carry, advance}
use Rattle.theory_reduction.specs.Run.{Runs}
use Rattle.theory_reduction.specs.Narrow as Specs
use Rattle.theory_lists.proofs.Total.{total-le, total-one, total-others, total-change}
use Rattle.theory_reduction.proofs.Index.{height-pos, height-mono, height_bound, clash-second}
use Rattle.theory_reduction.proofs.Pivot.{value-bound}
use Rattle.theory_reduction.proofs.Lowering.{Lowered, factor-degree}
use Rattle.theory_reduction.proofs.Ending.{runs-keep}

-- the sharp bound on U is within the paper's
u-within : (n size : ℕ) → 0 < n → 0 < size → suc ((n - 1) * (size - 1)) ≤ n * size
u-within (suc n) (suc size) rows places =
    let e : suc n - 1 ≡ n = omega arith in
    let f : suc size - 1 ≡ size = omega arith in
    rw (e, f) (omega (arith, N.suc-mul n (suc size), N.mul-suc n size))
u-within zero size rows places = absurd (omega arith)
u-within (suc n) zero rows places = absurd (omega arith)

module _ {F : Type 0} (K : Field F) (n m size : ℕ) where
  abbrev S : CommRing (ℕ → F)
  S = series K.ring

  abbrev D : (ℕ → Row F) → ℕ → ℕ
  D = Specs.pivot_degree K n m size

  abbrev spent_since : (ℕ → Row F) → Carried F → ℕ
  spent_since = Specs.spent_since K n m size

  abbrev Narrow : (ℕ → Row F) → Carried F → Type 0
  Narrow = Specs.Narrow K n m size

  pub degrees-most : (M : ℕ → Row F) → AllBounded K.ring n m size M → (i : ℕ) → i < n → D M i ≤ size - 1
  degrees-most M b i li = omega (arith, height_bound m size _ (value-bound K m size (M i) (b i li)))

  pub narrow_start : (A : ℕ → Row F) → Narrow A (begin K.ring A)
  narrow_start A = record { less = omega arith; u_bound = λ i j _ _. one i j _ (λ e. omega (arith, e)); v_bound = λ i j _ _. one i j _ (λ e. omega (arith, e)) }
    where
      one : (i j b : ℕ) → (D A i ≡ D A j → 1 ≤ b) → Below K.ring (identity S i j) b
      one i j b h = elim (ℕ_discrete i j) [
        | yes e ↦ below_more K.ring _ 1 b (h (ap (D A) e)) (below-identity K.ring i j)
        | no ne ↦ rw (identity-other S i j ne) (below-zero K.ring b)
      ]

  raised : (e a b s c : ℕ) → e + a ≤ b → 0 < suc (a + s) - c → e + (suc (a + s) - c) ≤ suc (b + s) - c
  raised e a b s c h some = omega arith

  widened : (a s s' c : ℕ) → s ≤ s' → suc (a + s) - c ≤ suc (a + s') - c
  widened a s s' c h = omega arith

  -- q times row k is taken from row l of M: q has no degree above e, x^e times row k is no higher than row l, and row l gets no higher
  pub record NoHigher (M : ℕ → Row F) (l k : ℕ) (q : ℕ → F) : Type 0 where
    pub e : ℕ
    pub l_fits : l < n
    pub k_fits : k < n
    pub below : Below K.ring q (suc e)
    pub room : e + D M k ≤ D M l
    pub lower : D (subtract K.ring l k q M) l ≤ D M l

  module _ {M : ℕ → Row F} {l k : ℕ} {q : ℕ → F} (y : NoHigher M l k q) where
    abbrev M' : ℕ → Row F
    M' = subtract K.ring l k q M

    others : (i : ℕ) → i ≢ l → D M' i ≡ D M i
    others i ne = ap (λ r. height m (value K m size r) - 1) (setrow-other M l _ i ne)

    falls : (i : ℕ) → D M' i ≤ D M i
    falls i = elim (ℕ_discrete i l) [ yes w ↦ rw w y.lower | no ne ↦ omega (arith, others i ne) ]

    pub totals-fall : total n (D M') ≤ total n (D M)
    totals-fall = total-le n (D M') (D M) (λ i _. falls i)

    change : total n (D M') + D M l ≡ total n (D M) + D M' l
    change = total-change n l (D M') (D M) y.l_fits (λ i _ ne. others i ne)

    -- what row l loses, all rows have lost, of a number E that they had together at most
    module _ (E : ℕ) (less : total n (D M) ≤ E) where
      same : D M' l + (E - total n (D M')) ≡ D M l + (E - total n (D M))
      same = omega (arith, change, totals-fall)

      grows : E - total n (D M) ≤ E - total n (D M')
      grows = omega (arith, totals-fall)

      -- a column of a matrix that follows: its degree in row i is at most D_i and what all have lost, less c
      pub column-kept : (X : ℕ → Row F) (j c : ℕ) → ((i : ℕ) → i < n → Below K.ring (X i j) (suc (D M i + (E - total n (D M))) - c))
          → (i : ℕ) → i < n → Below K.ring (subtract K.ring l k q X i j) (suc (D M' i + (E - total n (D M'))) - c)
      column-kept X j c h i li = elim (ℕ_discrete i l) [
        | yes w ↦ rw (w, same, setrow-same X l _) (below-add K.ring _ _ _ (h l y.l_fits)
            (below-mul-within K.ring _ (X k j) y.e _ _ (below-neg K.ring q _ y.below) (h k y.k_fits)
            (raised y.e _ _ (E - total n (D M)) c y.room)))
        | no ne ↦ rw (setrow-other X l _ i ne, others i ne) (below_more K.ring (X i j) _ _ (widened (D M i) _ _ c grows) (h i li))
      ]

  -- the bounds are kept
  pub narrow-carry : (A : ℕ → Row F) (t : Carried F) (l k : ℕ) (q : ℕ → F) → NoHigher t.R l k q → Narrow A t → Narrow A (carry K.ring l k q t)
  narrow-carry A t l k q y x = record {
    less = omega (arith, x.less, totals-fall y);
    u_bound = λ i j li lj. column-kept y (total n (D A)) x.less t.U j (D A j) (λ i li. x.u_bound i j li lj) i li;
    v_bound = λ i j li lj. below_more K.ring (t'.V' i j) (suc (D A i) - D t.R j) _ (omega (arith, falls y j)) (elim (ℕ_discrete j k) [
      | yes w ↦ rw w (v-own i li)
      | no ne ↦ rw (setrow-other (transpose t.V') k _ j ne) (x.v_bound i j li lj)
    ]);
  }
    where
      t' : Carried F
      t' = carry K.ring l k q t

      v-own : (i : ℕ) → i < n → Below K.ring (t'.V' i k) (suc (D A i) - D t.R k)
      v-own i li = rw setrow-same (below-add K.ring _ _ _ (x.v_bound i k li y.k_fits)
          (below-mul-within K.ring q (t.V' i l) y.e _ _ y.below (x.v_bound i l li y.l_fits) (λ some. omega (arith, y.room))))

  -- a step of the reduction
  pub step-no-higher : (M : ℕ → Row F) (l k : ℕ) → AllBounded K.ring n m size M → Lowered K n m size M l k
      → NoHigher M l k (factor K m size (M l) (M k))
  step-no-higher M l k b w = let g = w.reducing in record {
    e = height m (value K m size (M l)) - height m (value K m size (M k));
    l_fits = g.l_fits;
    k_fits = g.k_fits;
    below = (factor-degree K m size (M l) (M k) (b l g.l_fits) (b k g.k_fits) g.clash g.degrees).below;
    room = omega (arith, g.degrees, height-pos m _ (clash-second g.clash));
    lower = omega (arith, height-mono m _ _ (N.le_of_lt w.lower));
  }

  pub narrow_step : (A : ℕ → Row F) (t : Carried F) (l k : ℕ) → AllBounded K.ring n m size t.R → Lowered K n m size t.R l k
      → Narrow A t → Narrow A (advance K m size l k t)
  narrow_step A t l k b w x = narrow-carry A t l k _ (step-no-higher t.R l k b w) x

  pub runs-narrow : (A : ℕ → Row F) {c : ℕ} {u : Carried F} → Runs K n m size c (begin K.ring A) u → AllBounded K.ring n m size A → Narrow A u
  runs-narrow A r b = (runs-keep K n m size (Narrow A) (narrow_step A) r b (narrow_start A)).1

  module _ (A : ℕ → Row F) (t : Carried F) (b : AllBounded K.ring n m size A) (x : Narrow A t) where
    -- "Sharp is (n-1)d": with n - 1 rows of A that have d each
    pub u_degrees : (i j : ℕ) → i < n → j < n → Below K.ring (t.U i j) (suc ((n - 1) * (size - 1)))
    u_degrees i j li lj = below_more K.ring (t.U i j) _ _
        (omega (arith, x.less, total-one n i (D t.R) li, total-others n j (size - 1) (D A) lj (degrees-most A b))) (x.u_bound i j li lj)

    -- "U needs no degree above n(d+1)-1 and V none above d"
    pub u-fits : 0 < size → (i j : ℕ) → i < n → j < n → Below K.ring (t.U i j) (n * size)
    u-fits places i j li lj = below_more K.ring (t.U i j) _ (n * size) (u-within n size (omega (arith, li)) places) (u_degrees i j li lj)

    pub v_degrees : 0 < size → (i j : ℕ) → i < n → j < n → Below K.ring (t.V' i j) size
    v_degrees places i j li lj = below_more K.ring (t.V' i j) _ size (omega (arith, degrees-most A b i li)) (x.v_bound i j li lj)
