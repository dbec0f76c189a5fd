-- The matrix with its transforms: what the loop keeps beside the matrix, what a step asks of U and V, and what is left at the end.
use mathlib.Core.Path.{◌≡◌, refl, sym, ap, ◌∙◌}
use mathlib.Core.Logic.{◌≢◌}
use mathlib.Core.List.{List}
use Prim.Native.Nat.{ℕ, suc, ◌+◌, ◌-◌, ◌*◌, ◌≤◌, ◌<◌}
use native.Mathlib.Nat as N
use native.Mathlib.Omega.{arith}
use native.Mathlib.Decide.{ℕ_discrete}
use lib.ListN.{length, get_or, set, take}
use lib.Seq.{get_or-set_same, get_or-set_other}
use Rattle.theory_algebra.specs.Field.{Field}
use Rattle.theory_algebra.specs.Prime.{Prime}
use Rattle.theory_algebra.specs.Residue.{Zp}
use Rattle.theory_rings.specs.PrimeField.{zp_field}
use Rattle.theory_lattice.specs.Row.{Row}
use Rattle.theory_lattice.specs.PolynomialMatrix.{AllBounded}
use Rattle.theory_lists.specs.Place.{spot}
use Rattle.theory_lists.specs.Total.{total}
use Rattle.theory_lists.proofs.Total.{total-same, total-change}
use Rattle.theory_reduction.specs.Pivot.{value, values, height}
use Rattle.theory_reduction.specs.Pair.{NoPair, StepRows}
use Rattle.theory_reduction.specs.Step.{Carried, advance}
use Rattle.theory_reduction.specs.Narrow.{pivot_degree, spent_since, Narrow}
use Rattle.theory_reduction.proofs.Degrees.{narrow_start}
use Rattle.matrix_promises.specs.Held.{Held, matrix_of}
use Rattle.matrix_promises.specs.Holding.{Holding}
use Rattle.matrix_promises.specs.Layout.{by_rows}
use Rattle.matrix_promises.specs.Reduced.{IsReduction}
use Rattle.matrix_promises.proofs.Held.{held-bounded, held-coefficients}
use Rattle.matrix_buffers.specs.Bounds.{Checked}
use Rattle.matrix_buffers.proofs.Bounds.{cell-few}
use Rattle.matrix_buffers.proofs.Diagonal.{held-identity}
use Rattle.matrix_rows.specs.Asked.{Short}
use Rattle.matrix_pivots.specs.Pivot.{values_of, degrees_of, zero_row, degree_at, Pivots, AllPivots, least_degree, nonzero_rows}
use Rattle.matrix_pivots.specs.declared.pivot.Pivot.{Pivot}
use Rattle.matrix_pivots.proofs.Front.{least-below}
use Rattle.matrix_steps.specs.Asked.{FollowAsked}
use Rattle.matrix_steps.specs.Subtraction.{IsLowered}
use Rattle.matrix_steps.specs.declared.Lowered.{Lowered}
use Rattle.matrix_steps.specs.declared.Step.{Step}
use Rattle.matrix_steps.proofs.Next.{StepOf}
use Rattle.matrix_steps.proofs.LinesAsked as LinesAsked
use Rattle.matrix_steps.proofs.Value.{value-held}
use Rattle.matrix_steps.proofs.Moving.{height-is, move-narrow, move-holding}
use Rattle.matrix_steps.proofs.RowsOf.{no-higher}
use Rattle.matrix_steps.proofs.Short.{u_short, v_short, spent_fits}
use Rattle.matrix_reduction.specs.Asked.{StartAsked}
use Rattle.matrix_reduction.specs.Advanced.{AdvanceAsked, Advanced}
use Rattle.matrix_reduction.proofs.Loop.{Onward, Going, positive, first, going_start, size, going-last, rank_is}
use Rattle.matrix_reduction.proofs.Loop.{rows_fit, lower-asked, falls, going_on}

-- u and v hold U and V of the state t, within the bounds on the degrees
pub record Transforms (p n m w : ℕ) (a u v : List ℕ) (P : Prime p) (some : 0 < p) (t : Carried (Zp p)) : Type 0 where
  pub U : Held (by_rows n n (n * w)) p u t.U
  pub V' : Held (by_rows n n w) p v t.V'
  pub narrow : Narrow (zp_field p P) n m w (matrix_of (by_rows n m w) p some a) t

-- what the step on U and V asks, once that on the matrix is made
pub follow-asked : {p n m w l k reach : ℕ} {high low : Pivot} {r u v r' : List ℕ} {x : Lowered}
    → AdvanceAsked p n m w l k high low reach r u v → IsLowered p m w l k high low r r' x
    → FollowAsked p n w l k x.multiple.exponent x.multiple.factor.0 x.multiple.negated.0
    reach (w + 1 - high.degree.0) u v
follow-asked asked lowered = LinesAsked.follow-asked asked.move lowered.factor

-- after `count` steps on the matrix in a
module _ {p n m w : ℕ} {a : List ℕ} (input : Checked p n m w a) (P : Prime p) (some : 0 < p)
    {r u v : List ℕ} {count : ℕ} (at : Onward p P some n m w a r count (Transforms p n m w a u v P some)) where
  open input.bounds use {columns, places}

  abbrev K : Field (Zp p)
  K = zp_field p P

  abbrev A : ℕ → Row (Zp p)
  A = matrix_of (by_rows n m w) p some a

  abbrev R : ℕ → Row (Zp p)
  R = at.t.R

  bounded : AllBounded K.ring n m w A
  bounded = held-bounded (by_rows n m w) p P (first input some)

  holding : Holding p n m w r u v at.t
  holding = record { R = at.held; U = at.also.U; V' = at.also.V' }

  module _ {pivots : List Pivot} (found : Pivots n m (values_of m w r) pivots) where
    -- after a step on rows l and k
    transforms-on : {l k : ℕ} {r' u' v' : List ℕ} {new : Pivot} → StepRows n m (values K m w R) l k
        → Advanced p n m w l k (get_or pivots l zero_row) (get_or pivots k zero_row) r u v r' u' v' new
        → Transforms p n m w a u' v' P some (advance K m w l k at.t)
    transforms-on {l} {k} reducing d =
        let narrow = at.also.narrow in
        let after = move-holding p P n m w columns bounded places holding narrow found l k reducing d.lowered d.followed in
        record {
          U = after.U;
          V' = after.V';
          narrow = move-narrow p P n m w columns bounded places holding narrow found l k reducing;
        }

    column-short : (l : ℕ) → l < n → Short w (w + 1 - degree_at pivots l) n (λ i. spot n w i l) v
    column-short = v_short p P n m w A holding at.also.narrow columns places bounded found

    -- `spent` is what all degrees have lost since a
    module _ (spent : ℕ) (lost : spent + total n (λ i. degree_at pivots i - 1) ≡ total n (degrees_of m w a)) where
      height-now : (i : ℕ) → i < n → degree_at pivots i ≡ height m (value K m w (R i))
      height-now = height-is p P n m w columns at.held found

      before : (i : ℕ) → i < n → degrees_of m w a i ≡ pivot_degree K n m w A i
      before i li = ap (λ (x : ℕ). height m x - 1) (sym (value-held p P n m w (first input some) columns i li))

      now : (i : ℕ) → i < n → degree_at pivots i - 1 ≡ pivot_degree K n m w R i
      now i li = ap (λ (x : ℕ). x - 1) (height-now i li)

      spent-is : spent ≡ spent_since K n m w A at.t
      spent-is = omega (arith, lost, total-same n _ _ before, total-same n _ _ now)

      -- U has room for a row so shifted that it is as high as row l
      row_room : (l : ℕ) → l < n → degree_at pivots l + spent ≤ n * w
      row_room l ll = omega (arith, spent-is, height-now l ll, spent_fits p P n m w A holding at.also.narrow places bounded l ll)

      cut : (h s d reach least : ℕ) → 0 < h → least ≤ d → reach + least ≡ h + s → suc (h - 1 + s) - d ≤ reach
      cut h s d reach least some le is = omega arith

      -- where row k of the result is not zero, row k of U has no term from its height and `spent` on, less what every row of a has
      row-short : (k reach least : ℕ) → k < n → 0 < degree_at pivots k → ((i : ℕ) → i < n → least ≤ degrees_of m w a i)
          → reach + least ≡ degree_at pivots k + spent → Short (n * w) reach n (spot n (n * w) k) u
      row-short k reach least lk nonzero all reach-is = u_short p P n m w A holding at.also.narrow k reach lk (λ j lj.
          rw (← spent-is, ← now k lk, ← before j lj)
          (cut (degree_at pivots k) spent (degrees_of m w a j) reach least nonzero (all j lj) reach-is))

-- at the loop's head: `least` is no more than any pivot degree of a, and what a row has lost of it has been spent
pub record Running (p n m w : ℕ) (a u₀ v₀ r u v : List ℕ) (pivots : List Pivot) (least count spent : ℕ) : Type 0 where
  pub u_same : length u ≡ length u₀
  pub v-same : length v ≡ length v₀
  pub going : Going p n m w (Transforms p n m w a u v) a r pivots count
  pub lost : spent + total n (λ i. degree_at pivots i - 1) ≡ total n (degrees_of m w a)
  pub least-is : (i : ℕ) → i < n → least ≤ degrees_of m w a i
  pub above : (i : ℕ) → i < n → least ≤ degree_at pivots i - 1 + spent

module _ {p n m w : ℕ} {a u₀ v₀ : List ℕ} (asked : StartAsked p n m w a u₀ v₀) where
  open asked use {input}
  open input use {prime, bounds}

  pub running-start : {pivots : List Pivot} {least : ℕ} → AllPivots n m (values_of m w a) pivots → least ≡ least_degree w (take n pivots)
      → Running p n m w a u₀ v₀ a u₀ v₀ pivots least 0 0
  running-start {pivots} {least} all is = record {
    u_same = refl;
    v-same = refl;
    going = going_start input (λ P some. record {
      U = held-identity p P n (n * w) (N.mul-pos bounds.rows bounds.places) asked.u_one;
      V' = held-identity p P n w bounds.places asked.v_one;
      narrow = narrow_start (zp_field p P) n m w (matrix_of (by_rows n m w) p some a);
    }) all;
    lost = omega (arith, total-same n (λ i. degree_at pivots i - 1) (degrees_of m w a) degrees);
    least-is = λ i l. omega (arith, is, least-below w n pivots fits i l, degrees i l);
    above = λ i l. omega (arith, is, least-below w n pivots fits i l);
  }
    where
      fits : n ≤ length pivots
      fits = omega (arith, all.size, bounds.rows_most)

      degrees : (i : ℕ) → i < n → degree_at pivots i - 1 ≡ degrees_of m w a i
      degrees i l = ap (λ (h : ℕ). h - 1) (all.pivots_are.row i l).degree_is

  module _ {r u v : List ℕ} {pivots : List Pivot} {least count spent : ℕ}
      (inv : Running p n m w a u₀ v₀ r u v pivots least count spent) where
    open inv use {going}

    pub running-stop : {rank : ℕ} → NoPair n m (values_of m w r) → rank ≡ nonzero_rows (take n pivots) → IsReduction p n m w a r u v rank count
    running-stop stuck is = record {
      by = λ P some. record {
        t = (going.at P some).t;
        runs = going-last input going P some stuck;
        holding = holding input P some (going.at P some);
        rank_is = is ∙ rank_is input going P some;
      };
    }

    -- a turn of the loop
    module _ {step : Step} (on : StepOf n m (values_of m w r) pivots step) where
      open on use {rows}

      abbrev l : ℕ
      l = step.pair.l

      abbrev k : ℕ
      k = step.pair.k

      abbrev high : Pivot
      high = get_or pivots l zero_row

      abbrev low : Pivot
      low = get_or pivots k zero_row

      -- what row k of U has at most fits
      reach : (least ≤ low.degree.0 + spent) × (low.degree.0 ≤ high.degree.0) × (high.degree.0 + spent ≤ n * w) × (n * w ≤ 512)
      reach = (
        omega (arith, inv.above k rows.k_fits),
        (rw (on.high_is, on.low_is) at (lower-asked input going on)).plan.order,
        row_room input prime (positive input) (going.at prime (positive input)) going.found spent inv.lost l rows.l_fits,
        cell-few bounds,
      )

      pub reach-fits : (least ≤ step.low.degree.0 + spent) × (step.low.degree.0 ≤ step.high.degree.0)
          × (step.high.degree.0 + spent ≤ n * w) × (n * w ≤ 512)
      reach-fits = rw (on.high_is, on.low_is) reach

      pub advance-asked : AdvanceAsked p n m w l k step.high step.low (step.low.degree.0 + spent - least) r u v
      advance-asked =
          let at = going.at prime (positive input) in
          let lower = rw (on.high_is, on.low_is) at (lower-asked input going on) in
          rw (on.high_is, on.low_is) (record {
            lower = lower;
            move = record {
              u_size = at.also.U.size;
              v_size = at.also.V'.size;
              u_residues = held-coefficients (by_rows n n (n * w)) p at.also.U;
              v_residues = held-coefficients (by_rows n n w) p at.also.V';
              l_fits = rows.l_fits;
              k_fits = rows.k_fits;
              differ = rows.apart;
              u_short = row-short input prime (positive input) at going.found spent inv.lost k _ least rows.k_fits
                  lower.plan.k_pivot.leading.height inv.least-is (omega (arith, reach));
              v_short = column-short input prime (positive input) at going.found l rows.l_fits;
              u_room = omega (arith, reach);
              v_room = omega (arith, reach, lower.plan.l_pivot.leading.height_most, lower.plan.k_pivot.leading.height);
            };
          })

      -- after the step
      module _ {r' u' v' : List ℕ} {new : Pivot} (made : Advanced p n m w l k step.high step.low r u v r' u' v' new) where
        d : Advanced p n m w l k high low r u v r' u' v' new
        d = rw (on.high_is, on.low_is) at made

        -- the degree of row l has not grown
        pub lower : new.degree.0 ≤ step.high.degree.0
        lower = no-higher (size input going) rows.l_fits made.lowered (lower-asked input going on)

        pub running-falls : total n (values_of m w r') < total n (values_of m w r)
        running-falls = falls input going on made.lowered

        abbrev pivots' : List Pivot
        pivots' = set pivots l new

        here : degree_at pivots' l ≡ new.degree.0
        here = ap (λ (x : Pivot). x.degree.0) (get_or-set_same pivots l new zero_row (omega (arith, going.room, rows_fit input going on)))

        high-degree : step.high.degree.0 ≡ high.degree.0
        high-degree = ap (λ (x : Pivot). x.degree.0) on.high_is

        others : (i : ℕ) → i ≢ l → degree_at pivots' i ≡ degree_at pivots i
        others i ne = ap (λ (x : Pivot). x.degree.0) (get_or-set_other pivots l i new zero_row ne)

        change : total n (λ i. degree_at pivots' i - 1) + (high.degree.0 - 1) ≡ total n (λ i. degree_at pivots i - 1) + (new.degree.0 - 1)
        change = rw here at (total-change n l (λ i. degree_at pivots' i - 1) (λ i. degree_at pivots i - 1) rows.l_fits
            (λ i li ne. ap (λ (h : ℕ). h - 1) (others i ne)))

        pub running-on : {before after : ℕ} → before ≡ step.high.degree.0 - 1 → after ≡ new.degree.0 - 1
            → Running p n m w a u₀ v₀ r' u' v' pivots' least (count + 1) (spent + (before - after))
        running-on before-is after_is = record {
          u_same = d.followed.u_move.size ∙ inv.u_same;
          v-same = d.followed.v_move.size ∙ inv.v-same;
          going = going_on input going on made.lowered
              (λ P some reducing. transforms-on input P some (going.at P some) going.found reducing d);
          lost = omega (arith, inv.lost, change, lower, high-degree, before-is, after_is);
          least-is = inv.least-is;
          above = λ i li. elim (ℕ_discrete i l) [
            | yes e ↦ rw e (omega (arith, inv.above l rows.l_fits, here, lower, high-degree, before-is, after_is))
            | no ne ↦ omega (arith, inv.above i li, others i ne)
          ];
        }
