-- The end of a stage: a row is taken out, and the next stage begins.
use mathlib.Core.Path.{◌≡◌, sym, ap, ◌∙◌}
use mathlib.Core.List.{List, ◌++◌}
use Rattle.std.specs.Prelude.{None}
use Prim.Native.Nat.{ℕ, suc, ◌+◌, ◌-◌, ◌*◌, ◌%◌, ◌≤◌, ◌<◌}
use native.Mathlib.Nat as N
use native.Mathlib.Omega.{arith}
use lib.ListN.{length, take, length-append}
use lib.Seq.{take_at, length-take-le}
use Rattle.theory_algebra.specs.Field.{Field}
use Rattle.theory_algebra.specs.Prime.{Prime}
use Rattle.theory_algebra.specs.Residue.{Zp}
use Rattle.theory_algebra.specs.Ring.{CommRing}
use Rattle.theory_algebra.proofs.Cases.{case-le}
use Rattle.theory_rings.specs.PrimeField.{zp_field}
use Rattle.theory_algebra.proofs.Ring.{one-mul, neg-mul}
use Rattle.theory_rings.specs.Series.{series}
use Rattle.theory_lattice.specs.Row.{Row}
use Rattle.theory_lattice.proofs.Coefficients.{below_more}
use Rattle.theory_lists.specs.Part.{part}
use Rattle.theory_lists.specs.Skip.{skip}
use Rattle.theory_lists.proofs.Skip.{skip-fits}
use Rattle.theory_determinant.specs.Stage.{degrees}
use Rattle.theory_determinant.specs.Determinant.{without, sign_at, with_entry}
use Rattle.theory_determinant.proofs.Rows.{zero_row}
use Rattle.theory_determinant.proofs.Sign.{sign-parity}
use Rattle.theory_determinant.proofs.Stage.{stage-product, stage-turn}
use Rattle.poly.specs.Holds.{Holds}
use Rattle.matrix_promises.specs.Held.{Held}
use Rattle.matrix_promises.specs.Layout.{by_rows}
use Rattle.theory_reduction.specs.Pivot.{values, index}
use Rattle.theory_reduction.proofs.Index.{index-some}
use Rattle.theory_reduction.proofs.Pair.{no-pair-same}
use Rattle.matrix_pivots.specs.Pivot.{values_of, index_at, degrees_together, Pivots}
use Rattle.matrix_pivots.specs.declared.pivot.Pivot.{Pivot}
use Rattle.matrix_pivots.proofs.Front.{pivots-front, degrees-front}
use Rattle.matrix_determinant.specs.FirstColumns.{ColumnsReduced}
use Rattle.matrix_determinant.proofs.FirstColumns.{agree, sum-now, within}
use Rattle.matrix_determinant.proofs.Fronts.{smaller}
use Rattle.matrix_determinant.specs.LastColumn.{Parted}
use Rattle.matrix_determinant.specs.SignedProduct.{sign_of, signed, signed_product, MultiplyAsked}
use Rattle.matrix_determinant.specs.Sizes.{Sizes, places}
use Rattle.matrix_determinant.specs.ZeroRow.{Lowest, LowestZero, TakeAsked, TakenOut}
use Rattle.matrix_determinant.proofs.LastColumn.{held_next, held-column, column-cell}
use Rattle.matrix_determinant.proofs.SignedProduct.{multiply-asked, holds-signed}
use Rattle.matrix_determinant.specs.Stage.{StageHeld, StageAsked, Staged}

-- the columns of the next stage stand in front of the room that they were made in
pub next-front : {p m w wide : ℕ} {pivots : List Pivot} {r column product next' column' product' : List ℕ}
    → TakenOut p m w wide pivots r column product next' column' product' → (rest : List ℕ) → places (m - 1) w ≤ length (next' ++ rest)
next-front taken rest = rw length-append (omega (arith, taken.parted.next_size))

-- the sign of (-1)^e is that of the entry with such an index
sign-is : {F : Type 0} (R : CommRing F) (e : ℕ) (x : F) → signed R (sign_of e) x ≡ R.mul (sign_at R e) x
sign-is R e x = case-le 1 (e % 2)
    (λ odd. let same : e % 2 ≡ 1 = omega arith in rw (sign-parity R e, same) (sym (neg-mul R R.𝟙 x ∙ ap R.neg (one-mul R x))))
    (λ even. let same : e % 2 ≡ 0 = omega arith in rw (sign-parity R e, same) (sym (one-mul R x)))

-- a stage
module _ {p m w wide budget : ℕ} {r column product : List ℕ} (sizes : Sizes m w wide)
    (asked : StageAsked p m w wide budget r column product) where
  one_less : suc (m - 1) ≡ m
  one_less = omega (arith, asked.columns)

  -- the columns of the next stage have room
  pub next-small : places (m - 1) w ≤ 3584
  next-small =
      let few : m ≤ 8 = omega (arith, sizes.columns_most) in
      let fewer : m - 1 ≤ 7 = omega arith in
      rw one_less (N.mul-le-mul few (N.mul-le-mul fewer sizes.places_most))

  -- no step applies to the rows any more
  module _ {r' column' : List ℕ} {all : List Pivot} (reduced : ColumnsReduced p m w wide budget r column r' column' all) where
    on : (P : Prime p) (whole : ℕ → Zp p) → StageHeld p P m w wide budget whole r column product
        → StageHeld p P m w wide budget whole r' column' product
    on P whole h = record { f = h.f; rows = reduced.by P whole h.f h.rows; size = h.size; so_far = h.so_far }

    reduced-held : StageHeld p asked.prime m w wide budget asked.whole r' column' product
    reduced-held = on asked.prime asked.whole asked.held

    -- the columns of the next stage have room in front of r
    pub front-room : places (m - 1) w ≤ length r'
    front-room = omega (arith, reduced-held.rows.matrix.size, smaller m w wide)

    module _ (room : suc m ≤ length all) where
      -- the pivots of the rows
      abbrev pivots : List Pivot
      pivots = take (suc m) all

      found : Pivots (suc m) m (values_of m w r') pivots
      found = pivots-front reduced.pivots_are

      rows : length pivots ≡ suc m
      rows = length-take-le (suc m) all room

      module _ (P : Prime p) {whole : ℕ → Zp p} (held : StageHeld p P m w wide budget whole r' column' product) where
        abbrev K : Field (Zp p)
        K = zp_field p P

        abbrev T : ℕ → Row (Zp p)
        T = held.rows.T

        same-values : (i : ℕ) → i < suc m → values_of m w r' i ≡ values K m w T i
        same-values = agree P asked.columns held.rows

        indexed-by : (i : ℕ) → i < suc m → index_at pivots i ≡ index m (values K m w T i)
        indexed-by i li = (found.row i li).index_is ∙ ap (index m) (same-values i li)

        degrees-are : degrees_together pivots ≡ degrees K w m T
        degrees-are = degrees-front (suc m) all room ∙ sum-now P asked.columns held.rows reduced.pivots_are

        -- a row is zero
        some-zero : ¬ (LowestZero pivots None)
        unfolding index
        some-zero none =
            let x = zero_row K m w T held.rows.stage.bounded (no-pair-same (suc m) m _ _ same-values reduced.none) in
            none x.at (omega (arith, rows, x.fits)) (indexed-by x.at x.fits ∙ ap (index m) x.holds)

        -- row k is the lowest zero one
        module _ {k : ℕ} (lowest : Lowest pivots k) where
          row_fits : k < suc m
          row_fits = omega (arith, rows, lowest.fits)

          row-none : values K m w T k ≡ 0
          row-none = case-le 1 (values K m w T k)
              (λ some. absurd (omega (arith, index-some m (values K m w T k) some, indexed-by k row_fits, lowest.zero)))
              (λ zero. omega arith)

          -- its entry in the parted column
          entry : Holds p (part (k * wide) wide column') (T k m)
          entry = column-cell held.rows.parted k row_fits

          entry-asked : MultiplyAsked p product (part (k * wide) wide column')
          entry-asked = multiply-asked p P held.so_far entry
              (below_more K.ring _ _ _ (omega (arith, held.size, sizes.places, sizes.widened))
              (stage-product K w (wide - 1) whole held.rows.stage k row_fits row-none))
              (omega (arith, held.size, sizes.wide_most))

          -- the next stage
          turned : {left : ℕ} {next' cells' product' : List ℕ} → left ≡ degrees_together pivots → Parted (m - 1) w wide k r' next' cells'
              → product' ≡ signed_product p (sign_of (k + m)) product (part (k * wide) wide column') → length product' ≡ length product
              → StageHeld p P (m - 1) w wide left whole next' cells' product'
          turned left_is parted made same =
              let matrix : Held (by_rows (suc m) (suc (m - 1)) w) p r' T = rw one_less held.rows.matrix in
              let inside : (s : ℕ) → s < suc (m - 1) → skip k s < suc m = rw one_less (skip-fits m k) in
              record {
                f = with_entry (series K.ring) k m T held.f;
                rows = record {
                  T = without k T;
                  matrix = held_next matrix inside parted;
                  parted = held-column matrix inside parted sizes.widened;
                  stage = rw (left_is, degrees-are)
                      (stage-turn K w (wide - 1) whole held.rows.stage k row_fits row-none (m - 1) one_less);
                };
                size = same ∙ held.size;
                so_far = rw (made, ← sign-is (series K.ring) (k + m) ((series K.ring).mul held.f (T k m)))
                    (holds-signed p P held.so_far entry entry-asked.product (sign_of (k + m)));
              }

      pub take-asked : {next : List ℕ} → length next ≡ places (m - 1) w → TakeAsked p m w wide pivots r' column' next product
      take-asked size = record {
        columns = asked.columns;
        rows = rows;
        r_size = reduced-held.rows.matrix.size;
        column_size = reduced-held.rows.parted.size;
        next_size = size;
        some = some-zero asked.prime reduced-held;
        row = λ k lowest. entry-asked asked.prime reduced-held lowest;
      }

      -- the pivot degrees are within the budget together
      pub left-small : degrees_together pivots < 512
      left-small = rw (degrees-front (suc m) all room) (omega (
        arith,
        within asked.prime asked.columns reduced-held.rows reduced.pivots_are,
        reduced-held.rows.stage.within,
        sizes.places,
        sizes.widened,
        sizes.wide_most,
      ))

      -- the columns of the next stage are put in front of r
      pub staged : {left : ℕ} {next' column'' product' front : List ℕ} (under rest : List ℕ) → left ≡ degrees_together pivots
          → TakenOut p m w wide pivots r' column' product next' column'' product' → length product' ≡ length product
          → front ≡ take (places (m - 1) w) (next' ++ under)
          → Staged p m w wide budget left r column product (front ++ rest) column'' product'
      staged {next' = next'} {front = front} under rest left_is taken same is = record {
        by = λ P whole h. record {
          front = rw (take_at front rest (places (m - 1) w) (ap length next-is ∙ taken.parted.next_size), next-is)
              (turned P (on P whole h) taken.lowest left_is taken.parted taken.factor same);
        };
      }
        where
          next-is : front ≡ next'
          next-is = is ∙ take_at next' under (places (m - 1) w) taken.parted.next_size
