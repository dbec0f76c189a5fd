-- The pivots of the n rows of a matrix stand in front of the eight places that `all` returns. What is promised of `&pivots[..n]` is said
-- here of the rows of the matrix.
use mathlib.Core.Path.{◌≡◌, refl, sym, ap, subst, ◌∙◌}
use mathlib.Core.Bool.{not, cond}
use mathlib.Core.List.{List}
use borrow.Author.Rules.{rules}
use Rattle.std.proofs.Common.{tests}
use Prim.Native.Nat.{ℕ, zero, suc, ◌+◌, ◌-◌, ◌≤◌, ◌<◌, min}
use native.Mathlib.Omega.{arith}
use lib.Dec.{eqb}
use lib.ListN.{length, get_or, take}
use Rattle.std.specs.List.{sum_by}
use Rattle.std.proofs.lemmas.List.{get_or-take}
use Rattle.std.proofs.lemmas.List.Sums.{sum_by_more, fold_more}
use Rattle.theory_lists.specs.Total.{total}
use Rattle.theory_lists.proofs.Total.{total-same}
use Rattle.theory_reduction.specs.Rank.{sign, chosen}
use Rattle.theory_algebra.proofs.Cases.{case-le}
use Rattle.matrix_pivots.specs.declared.pivot.Pivot.{Pivot}
use Rattle.matrix_pivots.specs.Pivot.{zero_row, index_at, degree_at, IsPivotOf, Pivots, least_degree, nonzero_rows, degrees_together}

pub pivots-front : {n m : ℕ} {v : ℕ → ℕ} {pivots : List Pivot} → Pivots n m v pivots → Pivots n m v (take n pivots)
pivots-front {n} {m} {v} {pivots} p = record {
  row = λ i l.
      subst (λ (x : Pivot). IsPivotOf m (v i) x.index.0 x.degree.0) (sym (get_or-take n pivots i zero_row l)) (p.row i l);
}

-- what the n rows in front make together
total-front : (f : Pivot → ℕ) (n : ℕ) (pivots : List Pivot) → n ≤ length pivots
    → sum_by f (take n pivots) ≡ total n (λ i. f (get_or pivots i zero_row))
unfolding total
total-front f zero pivots fits = refl
total-front f (suc n) pivots fits =
    let next : suc n ≡ n + 1 = omega arith in
    ap (λ (k : ℕ). sum_by f (take k pivots)) next
    ∙ omega (arith, sum_by_more f pivots n zero_row (omega arith), total-front f n pivots (omega arith))

-- a row that is not zero counts 1
sign-is : (x : ℕ) → cond (not (eqb x 0)) 1 0 ≡ sign x
sign-is zero = refl
sign-is (suc x) = search (tests, rules)

-- "the number of non-zero rows"
pub rank-front : (n : ℕ) (pivots : List Pivot) → n ≤ length pivots → nonzero_rows (take n pivots) ≡ chosen n (index_at pivots)
rank-front n pivots fits =
    total-front (λ pivot. cond (not (eqb pivot.index.0 0)) 1 0) n pivots fits
    ∙ total-same n _ _ (λ i _. sign-is (index_at pivots i))

-- the pivot degrees together
pub degrees-front : (n : ℕ) (pivots : List Pivot) → n ≤ length pivots
    → degrees_together (take n pivots) ≡ total n (λ i. degree_at pivots i - 1)
degrees-front n pivots fits = total-front (λ pivot. pivot.degree.0 - 1) n pivots fits

-- no pivot degree is below the least
pub least-below : (w n : ℕ) (pivots : List Pivot) → n ≤ length pivots → (i : ℕ) → i < n
    → least_degree w (take n pivots) ≤ degree_at pivots i - 1
least-below w zero pivots fits i l = absurd (omega arith)
least-below w (suc n) pivots fits i l =
    let next : suc n ≡ n + 1 = omega arith in
    let step = fold_more (λ (least : ℕ) (pivot : Pivot). min least (pivot.degree.0 - 1)) w pivots n zero_row (omega arith) in
    let front = ap (λ (k : ℕ). least_degree w (take k pivots)) next in
    case-le (suc i) n
    (λ s. omega (arith, front, step, least-below w n pivots (omega arith) i s))
    (λ s. let e : i ≡ n = omega arith in rw e (omega (arith, front, step)))
