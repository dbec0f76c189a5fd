-- The steps of one stage on its buffers.
use mathlib.Core.Path.{◌≡◌, refl, sym, ap, ◌∙◌}
use mathlib.Core.List.{List}
use Rattle.std.specs.Prelude.{None}
use Prim.Native.Nat.{ℕ, suc, ◌+◌, ◌-◌, ◌≤◌, ◌<◌}
use native.Mathlib.Omega.{arith}
use lib.ListN.{length, get_or, set, take, length-set}
use Rattle.theory_algebra.specs.Field.{Field}
use Rattle.theory_algebra.specs.Matrix.{Same}
use Rattle.theory_algebra.specs.Prime.{Prime}
use Rattle.theory_algebra.specs.Residue.{Zp}
use Rattle.theory_algebra.proofs.Elementary.{addrow-column}
use Rattle.theory_rings.specs.PrimeField.{zp_field}
use Rattle.theory_rings.proofs.PrimeField.{field-zero}
use Rattle.theory_rings.specs.Series.{series}
use Rattle.theory_lattice.specs.Row.{Row}
use Rattle.theory_lists.specs.Total.{total}
use Rattle.theory_lists.proofs.Total.{total-same}
use Rattle.theory_determinant.proofs.Stage.{stage-column, stage-step, stage-short, stage-room}
use Rattle.theory_determinant.specs.Stage.{Stage, degrees}
use Rattle.theory_lists.specs.Place.{spot}
use Rattle.matrix_promises.specs.Layout.{by_rows}
use Rattle.matrix_promises.proofs.Held.{held-coefficients, held-matrix-same}
use Rattle.matrix_buffers.specs.Added.{RowAdded}
use Rattle.matrix_rows.specs.Asked.{Short, RowsInBuffer}
use Rattle.matrix_rows.proofs.Lines.{two-rows}
use Rattle.theory_reduction.specs.Pivot.{value, values, height}
use Rattle.theory_reduction.specs.Pair.{StepRows}
use Rattle.theory_reduction.specs.Step.{factor, subtract, reduce_row}
use Rattle.theory_reduction.proofs.Pair.{pair-rows, pair_same}
use Rattle.matrix_pivots.specs.NextPair.{NextAsked, IsNext}
use Rattle.matrix_pivots.specs.Pivot.{values_of, zero_row, degree_at, degrees_together, Pivots, AllPivots}
use Rattle.matrix_pivots.specs.declared.pivot.Pivot.{Pivot}
use Rattle.matrix_pivots.proofs.Front.{degrees-front}
use Rattle.matrix_pivots.proofs.NextPair as Next
use Rattle.matrix_steps.specs.Asked.{LowerAsked}
use Rattle.matrix_steps.specs.Next.{StepOn}
use Rattle.matrix_steps.specs.Subtraction.{IsLowered}
use Rattle.matrix_steps.specs.multiple.Factor.{Factor}
use Rattle.matrix_steps.specs.declared.Lowered.{Lowered}
use Rattle.matrix_steps.specs.declared.Step.{Step}
use Rattle.matrix_steps.proofs.Value.{value-held}
use Rattle.matrix_steps.proofs.Moving.{height-is, step-followed, step-held, step_falls}
use Rattle.matrix_steps.proofs.Next.{StepOf, step-of, no-step}
use Rattle.matrix_steps.proofs.RowsOf
use Rattle.matrix_steps.proofs.multiple.Below.{negative-below}
use Rattle.matrix_determinant.specs.FirstColumns.{RowsHeld, ReduceAsked, ColumnsReduced}
use Rattle.matrix_determinant.specs.Sizes.{Sizes}

-- the pivot degrees of the rows, that of a zero row counting as 0, together
abbrev pub sum : (m : ℕ) (pivots : List Pivot) → ℕ
sum m pivots = total (suc m) (λ i. degree_at pivots i - 1)

-- the cell of row k in the parted column reaches as far as the row and what the degrees of all rows have lost of the budget
abbrev reach : (m budget k : ℕ) (pivots : List Pivot) → ℕ
reach m budget k pivots = degree_at pivots k + (budget - sum m pivots)

-- whatever stage the buffers are of, with the pivots of the rows
module _ {p : ℕ} (P : Prime p) {m w wide budget : ℕ} {whole f : ℕ → Zp p} {r column : List ℕ} (columns : 0 < m)
    (held : RowsHeld p P m w wide budget whole f r column) where
  abbrev K : Field (Zp p)
  K = zp_field p P

  abbrev T : ℕ → Row (Zp p)
  T = held.T

  -- the values of the rows
  pub agree : (i : ℕ) → i < suc m → values_of m w r i ≡ values K m w T i
  agree i li = sym (value-held p P (suc m) m w held.matrix columns i li)

  module _ {pivots : List Pivot} (found : Pivots (suc m) m (values_of m w r) pivots) where
    height-now : (i : ℕ) → i < suc m → degree_at pivots i ≡ height m (value K m w (T i))
    height-now = height-is p P (suc m) m w columns held.matrix found

    pub sum-now : sum m pivots ≡ degrees K w m T
    sum-now = total-same (suc m) _ _ (λ i li. ap (λ (x : ℕ). x - 1) (height-now i li))

    -- the pivot degrees are within the budget together
    pub within : sum m pivots ≤ budget
    within = rw sum-now held.stage.less

    -- a step on rows l and k
    module _ {step : Step} (on : StepOf (suc m) m (values_of m w r) pivots step) (places : 0 < wide) where
      abbrev l : ℕ
      l = step.pair.l

      abbrev k : ℕ
      k = step.pair.k

      reducing : StepRows (suc m) m (values K m w T) l k
      reducing = let (q, q-is) = pair_same (suc m) m _ _ agree on.next.0 (l, k) on.next.1 in pair-rows q q-is

      reach-is : reach m budget k pivots ≡ height m (values K m w T k) + (budget - degrees K w m T)
      reach-is = rw (sum-now, height-now k reducing.k_fits) refl

      -- the places of the parted column in row k, and what is added to row l
      cell-short : Short wide (reach m budget k pivots) 1 (spot 1 wide k) column
      cell-short = record {
        zero = λ j t lj from lt.
            held.parted.at k j t reducing.k_fits lj lt
            ∙ ap (λ (x : Zp p). x.val) (stage-short K w (wide - 1) whole held.stage l k reducing t (omega (arith, reach-is)))
            ∙ field-zero p P;
      }

      cell_room : degree_at pivots l - degree_at pivots k + reach m budget k pivots ≤ wide
      cell_room = omega (
        arith,
        stage-room K w (wide - 1) whole held.stage l k reducing,
        reach-is,
        height-now l reducing.l_fits,
        height-now k reducing.k_fits,
      )

      -- after the step
      module _ {r' column' : List ℕ} {x : Lowered} (lowered : IsLowered p m w l k (get_or pivots l zero_row) (get_or pivots k zero_row) r r' x)
          (added : RowAdded p 1 wide x.multiple.negated.0 x.multiple.exponent l k column column') where
        next-stage : Stage K w (wide - 1) whole budget m (reduce_row K m w l k T) f
        next-stage = stage-step K w (wide - 1) whole held.stage l k reducing

        rows_on : RowsHeld p P m w wide budget whole f r' column'
        rows_on = record {
          T = reduce_row K m w l k T;
          matrix = step-held p P (suc m) m w columns held.matrix found l k reducing lowered;
          parted = held-matrix-same (by_rows (suc m) 1 wide) p same
              (step-followed p P (suc m) m w columns held.matrix found l k reducing lowered.factor 1 wide held.parted added
              (λ i li j lj t past. ap (λ (x : ℕ → Zp p). x t) (same i j li lj) ∙ stage-column K w (wide - 1) whole next-stage i li t
              (omega arith)));
          stage = next-stage;
        }
          where
            same : Same (suc m) 1 (subtract K.ring l k (factor K m w (T l) (T k)) (λ s _. T s m)) (λ s _. reduce_row K m w l k T s m)
            same i j li lj = addrow-column (series K.ring) T l k ((series K.ring).neg (factor K m w (T l) (T k))) m i j

-- where the loop stands: what was asked of the first buffers is true of these, and of whatever stage those were, these are
pub record Going (p m w wide budget : ℕ) (r₀ column₀ r column : List ℕ) (pivots : List Pivot) : Type 0 where
  pub asked : ReduceAsked p m w wide budget r column
  pub pivots_are : Pivots (suc m) m (values_of m w r) pivots
  pub pivots-size : length pivots ≡ 8
  pub by : (P : Prime p) (whole f : ℕ → Zp p) → RowsHeld p P m w wide budget whole f r₀ column₀
      → RowsHeld p P m w wide budget whole f r column

module _ {p m w wide budget : ℕ} {r column : List ℕ} (asked : ReduceAsked p m w wide budget r column) where
  pub going_start : {pivots : List Pivot} → AllPivots (suc m) m (values_of m w r) pivots
      → Going p m w wide budget r column r column pivots
  going_start found = record {
    asked = asked;
    pivots_are = found.pivots_are;
    pivots-size = found.size;
    by = λ P whole f h. h;
  }

module _ {p m w wide budget : ℕ} {r₀ column₀ r column : List ℕ} {pivots : List Pivot} (sizes : Sizes m w wide)
    (now : Going p m w wide budget r₀ column₀ r column pivots) where
  open now use {asked, pivots_are}

  fits : suc m ≤ length pivots
  fits = omega (arith, now.pivots-size, sizes.columns_most)

  pub next-asked : NextAsked (take (suc m) pivots)
  next-asked = Next.next-asked sizes.columns_most asked.columns (omega (arith, sizes.columns_most)) pivots_are

  -- the pivot degrees are within the budget together
  together : degrees_together (take (suc m) pivots) ≡ sum m pivots
  together = degrees-front (suc m) pivots fits

  pub going-sum : (degrees_together (take (suc m) pivots) ≤ budget) × (budget < 512)
  going-sum = (
    rw together (within asked.prime asked.columns asked.held pivots_are),
    omega (arith, asked.held.stage.within, sizes.places, sizes.widened, sizes.wide_most),
  )

  pub going-stop : IsNext (take (suc m) pivots) None → ColumnsReduced p m w wide budget r₀ column₀ r column pivots
  going-stop none = record { pivots_are = pivots_are; none = no-step pivots_are none; by = now.by }

  module _ {step : Step} (found : StepOn (take (suc m) pivots) step) where
    on : StepOf (suc m) m (values_of m w r) pivots step
    on = step-of pivots_are found

    places : 0 < wide
    places = omega (arith, sizes.places, sizes.widened)

    room : degree_at pivots step.pair.l - degree_at pivots step.pair.k + reach m budget step.pair.k pivots ≤ wide
    room = cell_room asked.prime asked.columns asked.held pivots_are on places

    pub rows_fit : (step.pair.l < 8) × (step.pair.k < 8)
    rows_fit = (omega (arith, on.rows.l_fits, sizes.columns_most), omega (arith, on.rows.k_fits, sizes.columns_most))

    -- how far the cell of row k reaches, by the pivot that the step has
    abbrev pub top : ℕ
    top = step.low.degree.0 + (budget - degrees_together (take (suc m) pivots))

    pub lower-asked : LowerAsked p m w step.pair.l step.pair.k step.high step.low r
    lower-asked = rw (on.high_is, on.low_is) (RowsOf.lower-asked (suc m) m w asked.columns r asked.held.matrix.size pivots_are asked.prime
        (held-coefficients (by_rows (suc m) m w) p asked.held.matrix) on.rows)

    pub column-asked : {e c f : ℕ} → Factor p m w step.pair.l step.pair.k step.high step.low r e c f
        → RowsInBuffer p f e 1 wide top step.pair.l step.pair.k column
    column-asked g = rw (on.low_is, together) (record {
      multiplier = record { factor = negative-below g; room = omega (arith, rw (on.high_is, on.low_is) at g.e_is, room) };
      rows = two-rows asked.held.parted.size on.rows.l_fits on.rows.k_fits on.rows.apart;
      residues = held-coefficients (by_rows (suc m) 1 wide) p asked.held.parted;
      short = cell-short asked.prime asked.columns asked.held pivots_are on places;
    })

    -- after the step
    module _ {r' : List ℕ} {x : Lowered} (lowered : IsLowered p m w step.pair.l step.pair.k step.high step.low r r' x) where
      lowered-here : IsLowered p m w step.pair.l step.pair.k (get_or pivots step.pair.l zero_row) (get_or pivots step.pair.k zero_row) r r' x
      lowered-here = rw (on.high_is, on.low_is) at lowered

      pub falls : total (suc m) (values_of m w r') < total (suc m) (values_of m w r)
      falls = step_falls p asked.prime (suc m) m w asked.columns asked.held.matrix pivots_are step.pair.l step.pair.k
          (reducing asked.prime asked.columns asked.held pivots_are on places) lowered-here

      pub going_on : {column' : List ℕ} → RowAdded p 1 wide x.multiple.negated.0 x.multiple.exponent step.pair.l step.pair.k column column'
          → Going p m w wide budget r₀ column₀ r' column' (set pivots step.pair.l x.pivot)
      going_on added = record {
        asked = record {
          prime = asked.prime;
          columns = asked.columns;
          whole = asked.whole;
          f = asked.f;
          held = rows_on asked.prime asked.columns asked.held pivots_are on places lowered-here added;
        };
        pivots_are = RowsOf.pivots-after asked.held.matrix.size on.rows.l_fits lowered-here pivots_are
            (omega (arith, rows_fit, now.pivots-size));
        pivots-size = length-set pivots step.pair.l x.pivot ∙ now.pivots-size;
        by = λ P whole f h. rows_on P asked.columns (now.by P whole f h) pivots_are on places lowered-here added;
      }
