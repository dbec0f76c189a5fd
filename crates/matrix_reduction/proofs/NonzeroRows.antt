-- The rows that are not zero, and their list as it is made row by row.
use mathlib.Core.Path.{◌≡◌, refl, sym, ap, ap₂, ◌∙◌}
use mathlib.Core.List.{List, ◌++◌}
use Prim.Native.Nat.{ℕ, zero, suc, ◌+◌, ◌*◌, ◌-◌, ◌/◌, ◌%◌, ◌^◌, ◌≤◌, ◌<◌}
use native.Mathlib.Nat as N
use native.Mathlib.Omega.{arith}
use lib.ListN.{length, get_or, take, drop, length-append, length-drop}
use lib.Seq.{take_at, drop_at, drop-drop}
use Rattle.theory_algebra.proofs.Cases.{case-le}
use Rattle.theory_lists.specs.Total.{total}
use Rattle.theory_lists.proofs.Grid.{within, line-end, one_line}
use Rattle.theory_lists.proofs.Last.{last-is}
use Rattle.theory_lists.proofs.Total.{total-same, total-suc}
use Rattle.theory_reduction.specs.Pivot.{height}
use Rattle.theory_reduction.specs.Rank.{sign}
use Rattle.theory_reduction.proofs.Index.{height_bound}
use Rattle.theory_reduction.proofs.Sign.{sign-most, sign_le}
use Rattle.matrix_promises.specs.Reduced.{IsReduction}
use Rattle.matrix_promises.specs.RowList.{mask_of, IsRowList}
use Rattle.poly.specs.Polynomial.{used_places}
use Rattle.matrix_pivots.specs.Pivot.{value_of, row_of, values_of}
use Rattle.matrix_pivots.proofs.Search.{past-height}
use Rattle.matrix_steps.proofs.Value.{value-held}
use Rattle.matrix_reduction.specs.NonzeroRows.{ListAsked}

-- a row has a place in use where its value is not 0
module _ (m w : ℕ) (row : List ℕ) (columns : 0 < m) (places : 0 < w) (size : length row ≡ m * w) where
  in_use : 0 < used_places row → 0 < value_of m w row
  in_use some = case-le 1 (value_of m w row) (λ h. h) (λ zero.
      let x = used_places row - 1 in
      let last = last-is (length row) (λ i. get_or row i 0) in
      let column : x / w < m = (N.div-lt_iff_lt-mul places).1 (omega (arith, last.within)) in
      let low : height m (value_of m w row) ≤ 0 = height_bound m 0 (value_of m w row) (omega arith) in
      absurd (last.top some (ap (λ (y : ℕ). get_or row y 0) (sym (N.div-add-mod' x w))
      ∙ past-height m w row columns (x / w) (x % w) column (omega arith) (N.mod-lt x places))))

  not-zero : 0 < value_of m w row → 0 < used_places row
  unfolding value_of
  not-zero some = case-le 1 (used_places row) (λ h. h) (λ none.
      let v = value_of m w row - 1 in
      let last = last-is (w * m) (λ x. get_or row (x % m * w + x / m) 0) in
      let degree : v / m < w = (N.div-lt_iff_lt-mul columns).1 (omega (arith, last.within)) in
      absurd (last.top some ((last-is (length row) (λ i. get_or row i 0)).zeros _ (omega arith)
      (omega (arith, size, within (v % m) (v / m) m w (N.mod-lt v columns) degree)))))

  used-sign : sign (used_places row) ≡ sign (value_of m w row)
  used-sign = omega (arith, sign_le (used_places row) (value_of m w row) in_use, sign_le (value_of m w row) (used_places row) not-zero)

sign-one : (x : ℕ) → (x ≡ 0 → ⊥) → sign x ≡ 1
sign-one zero some = absurd (some refl)
sign-one (suc x) some = refl

-- where the loop stands: the rows before i are listed, and those from i on are left
pub record Listing (n m w : ℕ) (r : List ℕ) (rows i : ℕ) (rest : List ℕ) : Type 0 where
  pub reached : i ≤ n
  pub rows_are : rows ≡ mask_of i (values_of m w r)
  pub rows_most : rows < 2 ^ i
  pub rest_is : rest ≡ drop (i * (m * w)) r

pub listing_start : (n m w : ℕ) (r : List ℕ) → Listing n m w r 0 0 r
unfolding total
listing_start n m w r = record {
  reached = omega arith;
  rows_are = refl;
  rows_most = omega arith;
  rest_is = ap (λ (x : ℕ). drop x r) (sym (N.zero-mul (m * w)));
}

-- a turn: row i comes to the list, or not
pub record Turn (n m w : ℕ) (r : List ℕ) (rows i : ℕ) (row rest : List ℕ) : Type 0 where
  pub fits : i < 8
  pub sum_fits : rows + 2 ^ i < 256
  pub listed : {rows' : ℕ} → 0 < used_places row → rows' ≡ rows + 2 ^ i → Listing n m w r rows' (i + 1) rest
  pub passed : used_places row ≡ 0 → Listing n m w r rows (i + 1) rest

module _ {n m w : ℕ} {r : List ℕ} (asked : ListAsked n m w r) {rows i : ℕ} {all : List ℕ} (at : Listing n m w r rows i all) where
  open asked.bounds use {rows_most, columns, places}

  left : length all ≡ n * (m * w) - i * (m * w)
  left = ap length at.rest_is ∙ length-drop (i * (m * w)) r ∙ ap (λ (x : ℕ). x - i * (m * w)) asked.size

  -- as long as a row is left, not all are listed
  more : m * w ≤ length all → i < n
  more some = case-le (suc i) n (λ h. h) (λ none.
      let done : n * (m * w) ≤ i * (m * w) = N.mul-le-mul_right (m * w) (omega arith) in
      absurd (omega (arith, left, one_line m w columns, places)))

  module _ (row rest : List ℕ) (parts : all ≡ row ++ rest) (size : length row ≡ m * w) where
    sign-is : sign (used_places row) ≡ sign (values_of m w r i)
    sign-is =
        let same : row ≡ row_of m w r i = sym (take_at row rest (m * w) size) ∙ ap (take (m * w)) (sym parts ∙ at.rest_is) in
        used-sign m w row columns places size ∙ ap (λ (l : List ℕ). sign (value_of m w l)) same

    pub listing-turn : Turn n m w r rows i row rest
    listing-turn = record {
      fits = omega (arith, on, rows_most);
      sum_fits = omega (arith, at.rows_most, most);
      listed = λ some with. with-bit
          (omega (arith, with, ap (λ (x : ℕ). x * 2 ^ i) (sign-one (used_places row) (λ none. omega arith)), N.one-mul (2 ^ i)));
      passed = λ none. with-bit (omega (arith, ap (λ (x : ℕ). sign x * 2 ^ i) none, N.zero-mul (2 ^ i)));
    }
      where
        on : i < n
        on = more (omega (arith, ap length parts, length-append row rest, size))

        most : 2 ^ i ≤ 2 ^ 7
        most = let last : i ≤ 7 = omega (arith, on, rows_most) in N.pow-le-pow_right {n = 2} (omega arith) last

        with-bit : {rows' : ℕ} → rows' ≡ rows + sign (used_places row) * 2 ^ i → Listing n m w r rows' (i + 1) rest
        with-bit listed =
            let next : i + 1 ≡ suc i = omega arith in
            let bit-most : sign (used_places row) * 2 ^ i ≤ 1 * 2 ^ i = N.mul-le-mul (sign-most (used_places row)) (omega arith) in
            record {
              reached = omega (arith, on);
              rows_are = rw next (listed ∙ ap₂ ◌+◌ at.rows_are (ap (λ (x : ℕ). x * 2 ^ i) sign-is)
                  ∙ sym (total-suc i (λ j. sign (values_of m w r j) * 2 ^ j)));
              rows_most = rw next (omega (arith, listed, at.rows_most, bit-most, N.pow-succ' 2 i));
              rest_is = sym (drop_at row rest (m * w) size) ∙ ap (drop (m * w)) (sym parts ∙ at.rest_is) ∙ drop-drop (m * w) (i * (m * w)) r
                  ∙ ap (λ (x : ℕ). drop x r) (omega (arith, next, N.suc-mul i (m * w)));
            }

  -- no row is left
  pub listing_end : length all < m * w → rows ≡ mask_of n (values_of m w r)
  listing_end none = case-le (suc i) n
      (λ more. absurd (omega (arith, left, line-end i n (m * w) more)))
      (λ done. let all-done : i ≡ n = omega (arith, at.reached) in at.rows_are ∙ ap (λ (x : ℕ). mask_of x (values_of m w r)) all-done)

-- the list of the rows of the result that are not zero is what the reduction promises
pub listed : {p n m w rank count rows : ℕ} {a r u v : List ℕ} → 0 < m → IsReduction p n m w a r u v rank count
    → rows ≡ mask_of n (values_of m w r) → IsRowList p n m w a rows
listed {p} {n} {m} {w} {count = count} columns reduced is = record {
  by = λ P some.
      let x = reduced.by P some in
      record {
        count = count;
        t = x.t;
        runs = x.runs;
        rows_are = is ∙ total-same n _ _ (λ i l. ap (λ (v : ℕ). sign v * 2 ^ i) (sym (value-held p P n m w x.holding.R columns i l)));
      };
}
