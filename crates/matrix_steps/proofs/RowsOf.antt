-- The rows of a matrix in a list, and their pivots before and after a step.
use mathlib.Core.Path.{◌≡◌, sym, ap₂, subst, ◌∙◌}
use mathlib.Core.Logic.{◌≢◌}
use mathlib.Core.List.{List}
use Prim.Native.Nat.{ℕ, suc, ◌+◌, ◌-◌, ◌*◌, ◌/◌, ◌%◌, ◌≤◌, ◌<◌}
use native.Mathlib.Nat as N
use Rattle.theory_algebra.proofs.Cases.{case-le}
use native.Mathlib.Omega.{arith}
use lib.ListN.{length, get_or, set}
use lib.Seq.{ext_get_or}
use Rattle.theory_algebra.specs.Prime.{Prime}
use Rattle.theory_lists.specs.Coefficients.{Coefficients}
use Rattle.theory_lists.proofs.Last.{last-is}
use Rattle.theory_lists.proofs.Part.{length_part, get_or-part}
use Rattle.theory_lists.specs.Place.{spot}
use Rattle.theory_lists.proofs.Place.{block-own}
use Rattle.matrix_rows.specs.Asked.{Short}
use Rattle.theory_reduction.specs.Pivot.{pivot, height}
use Rattle.theory_reduction.specs.Pair.{StepRows}
use Rattle.theory_reduction.proofs.Index.{index-some, height-some, height_bound, clash-first, clash-second}
use Rattle.matrix_pivots.specs.Pivot.{value_of, row_of, values_of, zero_row, index_at, degree_at, Pivots}
use Rattle.matrix_pivots.specs.declared.pivot.Pivot.{Pivot}
use Rattle.theory_lists.proofs.Grid.{line-end, within}
use Rattle.matrix_pivots.proofs.Search.{past-height}
use Rattle.matrix_pivots.proofs.AllPivots.{pivots-set}
use Rattle.matrix_steps.specs.multiple.Factor.{leading_at}
use Rattle.matrix_steps.specs.multiple.Asked.{CoefficientAsked, PivotAsked}
use Rattle.matrix_steps.specs.Asked.{LowerAsked}
use Rattle.matrix_steps.specs.Subtraction.{IsLowered}
use Rattle.matrix_steps.specs.declared.Lowered.{Lowered}
use Rattle.matrix_steps.proofs.LinesAsked.{short-after}
use Rattle.matrix_steps.proofs.Value.{values-most}

module _ (n m w : ℕ) (columns : 0 < m) (r : List ℕ) (size : length r ≡ n * (m * w)) where
  pub row_fits : (i : ℕ) → i < n → i * (m * w) + m * w ≤ length r
  row_fits i li = omega (arith, line-end i n (m * w) li)

  row_at : (i j t : ℕ) → i < n → j < m → t < w → get_or (row_of m w r i) (j * w + t) 0 ≡ get_or r (spot m w i j t) 0
  row_at i j t li lj lt = get_or-part (i * (m * w)) (m * w) r (row_fits i li) (j * w + t) (within j t m w lj lt)

  -- from its height on a row is zero
  pub row-short : (i : ℕ) → i < n → Short w (height m (values_of m w r i)) m (spot m w i) r
  row-short i li = record { zero = λ j t lj from to. sym (row_at i j t li lj to) ∙ past-height m w (row_of m w r i) columns j t lj from to }

  -- and what it is zero from on is no less than its height
  pub height-under : (i top : ℕ) → i < n → Short w top m (spot m w i) r → height m (values_of m w r i) ≤ top
  unfolding value_of
  height-under i top li short = height_bound m top (values_of m w r i) (case-le (values_of m w r i) (top * m) (λ h. h) (λ more.
      let v = values_of m w r i in
      let last = last-is (w * m) (λ x. get_or (row_of m w r i) (x % m * w + x / m) 0) in
      let column : (v - 1) % m < m = N.mod-lt (v - 1) columns in
      let degree : (v - 1) / m < w = (N.div-lt_iff_lt-mul columns).1 (omega (arith, last.within)) in
      absurd (last.top (omega arith) (row_at i ((v - 1) % m) ((v - 1) / m) li column degree
      ∙ short.zero ((v - 1) % m) ((v - 1) / m) column ((N.le-div_iff_mul-le columns).1 (omega arith)) degree))))

  -- the pivots of all rows
  module _ {pivots : List Pivot} (found : Pivots n m (values_of m w r) pivots) where
    -- of a row that is not zero
    module _ (i : ℕ) (li : i < n) (some : 0 < values_of m w r i) where
      v : ℕ
      v = values_of m w r i

      column-is : index_at pivots i ≡ suc (pivot m v).col
      unfolding v
      column-is = (found.row i li).index_is ∙ index-some m _ some

      degree_is : degree_at pivots i ≡ suc (pivot m v).deg
      unfolding v
      degree_is = (found.row i li).degree_is ∙ height-some m _ some

      column_fits : (pivot m v).col < m
      column_fits = N.mod-lt _ columns

      degree-fits : (pivot m v).deg < w
      unfolding v
      degree-fits = (N.div-lt_iff_lt-mul columns).1 (omega (arith, values-most m w r i))

      pub leading-asked : CoefficientAsked m w i (index_at pivots i) (degree_at pivots i) r
      leading-asked = record {
        row = row_fits i li;
        column = omega (arith, column-is);
        column_most = omega (arith, column-is, column_fits);
        height = omega (arith, degree_is);
        height_most = omega (arith, degree_is, degree-fits);
      }

      -- its leading coefficient is not 0
      lead : leading_at m w r i (get_or pivots i zero_row) ≢ 0
      unfolding value_of v
      lead z =
          let col : index_at pivots i - 1 ≡ (pivot m v).col = omega (arith, column-is) in
          let deg : degree_at pivots i - 1 ≡ (pivot m v).deg = omega (arith, degree_is) in
          (last-is (w * m) (λ x. get_or (row_of m w r i) (x % m * w + x / m) 0)).top some
          (row_at i (pivot m v).col (pivot m v).deg li column_fits degree-fits ∙ sym (ap₂ (λ (x y : ℕ). get_or r (spot m w i x y) 0) col deg) ∙ z)

      pub pivot-asked : PivotAsked m w i (get_or pivots i zero_row) r
      pivot-asked = record { leading = leading-asked; nonzero = N.pos_of_ne-zero lead }

    -- from the height of its pivot on a row is zero
    pub pivot-short : (i : ℕ) → i < n → Short w (degree_at pivots i) m (spot m w i) r
    pivot-short i li = subst (λ (h : ℕ). Short w h m (spot m w i) r) (sym (found.row i li).degree_is) (row-short i li)

    -- of two rows that a step reduces
    pub lower-asked : {p l k : ℕ} → Prime p → Coefficients p r → StepRows n m (values_of m w r) l k
        → LowerAsked p m w l k (get_or pivots l zero_row) (get_or pivots k zero_row) r
    lower-asked {l = l} {k = k} prime residues reducing = record {
      plan = record {
        prime = prime;
        residues = residues;
        l_pivot = pivot-asked l reducing.l_fits (clash-first reducing.clash);
        k_pivot = pivot-asked k reducing.k_fits (clash-second reducing.clash);
        order = omega (arith, (found.row l reducing.l_fits).degree_is, (found.row k reducing.k_fits).degree_is, reducing.degrees);
      };
      columns = columns;
      differ = reducing.apart;
      l_short = pivot-short l reducing.l_fits;
      k_short = pivot-short k reducing.k_fits;
    }

-- a step changes row l alone, and of the pivots that of row l
module _ {p n m w l k : ℕ} {high low : Pivot} {r r' : List ℕ} {x : Lowered} (size : length r ≡ n * (m * w)) (ll : l < n)
    (lowered : IsLowered p m w l k high low r r' x) where
  pub size-after : length r' ≡ n * (m * w)
  size-after = lowered.r_move.size ∙ size

  other_row : (i : ℕ) → i < n → i ≢ l → row_of m w r' i ≡ row_of m w r i
  other_row i li ne =
      let fits : i * (m * w) + m * w ≤ length r = omega (arith, line-end i n (m * w) li) in
      let fits' : i * (m * w) + m * w ≤ length r' = omega (arith, lowered.r_move.size) in
      ext_get_or 0 _ _ (length_part (i * (m * w)) (m * w) r' fits' ∙ sym (length_part (i * (m * w)) (m * w) r fits)) (λ x lx.
      let inside : x < m * w = omega (arith, length_part (i * (m * w)) (m * w) r' fits') in
      get_or-part (i * (m * w)) (m * w) r' fits' x inside
      ∙ lowered.r_move.others (i * (m * w) + x) (λ j t lj lt same. ne (apart x inside j t lj lt same))
      ∙ sym (get_or-part (i * (m * w)) (m * w) r fits x inside))
    where
      -- a place of row i is none of row l
      apart : (x : ℕ) → x < m * w → (j t : ℕ) → j < m → t < w → i * (m * w) + x ≡ spot m w l j t → i ≡ l
      apart x inside j t lj lt same = (block-own (m * w) i x l (j * w + t) inside (within j t m w lj lt) same).0

  pub pivots-after : {pivots : List Pivot} → Pivots n m (values_of m w r) pivots → l < length pivots
      → Pivots n m (values_of m w r') (set pivots l x.pivot)
  pivots-after {pivots} found fits = pivots-set pivots x.pivot fits lowered.renewed
      (λ i li ne. rw (other_row i li ne) (found.row i li))

  -- the height of row l has not grown
  pub no-higher : LowerAsked p m w l k high low r → x.pivot.degree.0 ≤ high.degree.0
  no-higher asked =
      let short = short-after asked lowered.factor lowered.r_move in
      omega (arith, lowered.renewed.degree_is, height-under n m w asked.columns r' size-after l high.degree.0 ll short)
