-- Rows of m columns: the pivot degree is the least bound on the degrees of a row, and of m + 1 rows, no two of one pivot index, one is zero.
use mathlib.Core.Path.{◌≡◌}
use mathlib.Core.Logic.{◌⊎◌, inl, inr}
use Prim.Native.Nat.{ℕ, suc, ◌-◌, ◌≤◌, ◌<◌}
use native.Mathlib.Omega.{arith}
use native.Mathlib.Decide.{ℕ_discrete}
use native.Mathlib.Nat as N
use Rattle.theory_algebra.specs.Field.{Field}
use Rattle.theory_algebra.proofs.Cases.{case-le}
use Rattle.theory_lattice.specs.Term.{term}
use Rattle.theory_lattice.specs.Row.{Row, Bounded}
use Rattle.theory_lattice.specs.PolynomialMatrix.{AllBounded}
use Rattle.theory_lists.proofs.Total.{total-ones, total-injection}
use Rattle.theory_reduction.specs.Pivot.{value, values, pivot, height}
use Rattle.theory_reduction.specs.Pair.{NoPair}
use Rattle.theory_reduction.proofs.Least.{Least, least}
use Rattle.theory_reduction.proofs.Index.{height-less, height_bound, clash-of}
use Rattle.theory_reduction.proofs.Pivot.{value-null, value-lead, lead-bounded}

-- of a zero row
pub height-none : (m v : ℕ) → v ≡ 0 → height m v ≡ 0
height-none m v e = omega (arith, height_bound m 0 v (omega arith))

module _ {F : Type 0} (K : Field F) (m size : ℕ) where
  module _ (r : Row F) (b : Bounded K.ring m size r) where
    abbrev v : ℕ
    v = value K m size r

    pub degree-bounds : Bounded K.ring m (suc (height m v - 1)) r
    degree-bounds = case-le 1 v
        (λ some. lead-bounded K.ring m _ r _ (value-lead K m size r b some) (omega (arith, height-less m v)))
        (λ none c lc k _. value-null K m size r b (omega arith) (term c k) lc)

    pub degree-least : (e : ℕ) → Bounded K.ring m (suc e) r → height m v - 1 ≤ e
    degree-least e h = case-le 1 v
        (λ some. let x = value-lead K m size r b some in
        case-le (height m v - 1) e (λ l. l) (λ l. absurd (x.top (h _ x.inside _ (omega (arith, height-less m v))))))
        (λ none. omega (arith, height-none m v (omega arith)))

  module _ (T : ℕ → Row F) (b : AllBounded K.ring (suc m) m size T) (none : NoPair (suc m) m (values K m size T)) where
    abbrev Zero : ℕ → Type 0
    Zero i = values K m size T i ≡ 0

    -- m + 1 rows that are not zero have not m pivot columns of their own
    pub zero_row : Least (suc m) Zero
    zero_row = go (least (suc m) Zero (λ i. ℕ_discrete (values K m size T i) 0))
      where
        go : Least (suc m) Zero ⊎ ((i : ℕ) → i < suc m → ¬ (Zero i)) → Least (suc m) Zero
        go (inl x) = x
        go (inr h) = absurd (omega (
          arith,
          total-ones (suc m),
          total-ones m,
          total-injection (suc m) m (λ _. 1) (λ _. 1) (λ i _ _. (pivot m (values K m size T i)).col)
              (λ i l _. (value-lead K m size (T i) (b i l) (some i l)).inside)
              (λ i j li lj _ _ l e. none i j l lj (clash-of (some i li) (some j lj) e)) (λ _ _ _. omega arith),
        ))
          where
            some : (i : ℕ) → i < suc m → 0 < values K m size T i
            some i l = N.pos_of_ne-zero (h i l)
