-- The law of every loop over the steps of the reduction, whatever follows the matrix: the steps that lead on from where it stands lead on
-- from the beginning, and the sum of the values falls.
use mathlib.Core.Path.{◌≡◌, refl, sym, ap, subst, ◌∙◌}
use mathlib.Core.List.{List}
use Prim.Native.Nat.{ℕ, zero, suc, ◌+◌, ◌*◌, ◌≤◌, ◌<◌}
use native.Mathlib.Omega.{arith}
use native.Mathlib.Nat as N
use Rattle.std.specs.Prelude.{Some}
use lib.ListN.{length, get_or, set, take, length-set}
use Rattle.theory_algebra.specs.Field.{Field}
use Rattle.theory_algebra.specs.Prime.{Prime}
use Rattle.theory_algebra.specs.Residue.{Zp}
use Rattle.theory_rings.specs.PrimeField.{zp_field}
use Rattle.theory_lattice.specs.Row.{Row}
use Rattle.theory_lists.specs.Total.{total}
use Rattle.theory_lists.proofs.Total.{total-same}
use Rattle.theory_reduction.specs.Pivot.{values, index}
use Rattle.theory_reduction.specs.Pair.{Pair, NoPair, target, StepRows}
use Rattle.theory_reduction.specs.Step.{Carried, begin, advance}
use Rattle.theory_reduction.specs.Process.{halt, more}
use Rattle.theory_reduction.specs.Run.{advance_pair, Runs}
use Rattle.theory_reduction.specs.Rank.{sign, rank}
use Rattle.theory_reduction.proofs.Pair.{pair-rows, no-pair-same, pair_same}
use Rattle.matrix_promises.specs.Held.{Held, matrix_of}
use Rattle.matrix_promises.specs.Layout.{by_rows}
use Rattle.matrix_promises.proofs.Held.{held-matrix_of, held-coefficients}
use Rattle.matrix_buffers.specs.Bounds.{Checked}
use Rattle.matrix_buffers.proofs.Bounds.{matrix-few}
use Rattle.matrix_pivots.specs.NextPair.{NextAsked, IsNextOf}
use Rattle.matrix_pivots.specs.Pivot.{values_of, zero_row, Pivots, AllPivots, nonzero_rows}
use Rattle.matrix_pivots.specs.declared.pivot.Pivot.{Pivot}
use Rattle.matrix_pivots.specs.declared.next_pair.Pair.{Pair as Rows}
use Rattle.matrix_pivots.proofs.Front.{rank-front}
use Rattle.matrix_pivots.proofs.NextPair as Next
use Rattle.matrix_steps.specs.Asked.{LowerAsked}
use Rattle.matrix_steps.specs.Subtraction.{IsLowered}
use Rattle.matrix_steps.specs.declared.Lowered.{Lowered}
use Rattle.matrix_steps.proofs.Value.{value-held, values-total}
use Rattle.matrix_steps.proofs.Moving.{step-held, step_falls}
use Rattle.matrix_steps.specs.declared.Step.{Step}
use Rattle.matrix_steps.proofs.Next.{StepOf}
use Rattle.matrix_steps.proofs.RowsOf as RowsOf

-- r holds the matrix of a state: its values are those of the matrix, and so are its pair and the step
module _ {p : ℕ} (P : Prime p) {n m w : ℕ} (columns : 0 < m) (t : Carried (Zp p)) {r : List ℕ}
    (held : Held (by_rows n m w) p r t.R) where
  abbrev K : Field (Zp p)
  K = zp_field p P

  agree : (i : ℕ) → i < n → values_of m w r i ≡ values K m w t.R i
  agree i li = sym (value-held p P n m w held columns i li)

  pub at-end : NoPair n m (values_of m w r) → NoPair n m (values K m w t.R)
  at-end = no-pair-same n m _ _ agree

  module _ {rows : Rows} (next : IsNextOf n m (values_of m w r) (Some rows)) where
    the-pair : (q : Pair n m (values K m w t.R)) × (target m (values K m w t.R) q.a q.b ≡ (rows.l, rows.k))
    the-pair = pair_same n m _ _ agree next.0 (rows.l, rows.k) next.1

    pub pair_held : Pair n m (values K m w t.R)
    pair_held = the-pair.0

    pub rows-held : StepRows n m (values K m w t.R) rows.l rows.k
    rows-held = pair-rows the-pair.0 the-pair.1

    pub applied : advance_pair K n m w t pair_held ≡ advance K m w rows.l rows.k t
    unfolding advance_pair pair_held
    applied = ap (λ (x : ℕ × ℕ). advance K m w x.0 x.1 t) the-pair.1

-- after `count` steps on the matrix in a: r holds the matrix of a state t, the steps that lead on from t lead on from the beginning,
-- `count` more of them, and what else is kept is kept of t
pub record Onward (p : ℕ) (P : Prime p) (some : 0 < p) (n m w : ℕ) (a r : List ℕ) (count : ℕ)
    (Also : Carried (Zp p) → Type 0) : Type 0 where
  pub t : Carried (Zp p)
  pub held : Held (by_rows n m w) p r t.R
  pub onward : (c : ℕ) (s : Carried (Zp p)) → Runs (zp_field p P) n m w c t s
      → Runs (zp_field p P) n m w (count + c) (begin (zp_field p P).ring (matrix_of (by_rows n m w) p some a)) s
  pub also : Also t

-- what else is kept, whatever proof of primality is in hand
abbrev pub Kept : ℕ → Type 1
Kept p = (P : Prime p) (some : 0 < p) → Carried (Zp p) → Type 0

-- at the loop's head
pub record Going (p n m w : ℕ) (Also : Kept p) (a r : List ℕ) (pivots : List Pivot) (count : ℕ) : Type 0 where
  pub r-same : length r ≡ length a
  pub room : length pivots ≡ 8
  pub found : Pivots n m (values_of m w r) pivots
  pub at : (P : Prime p) (some : 0 < p) → Onward p P some n m w a r count (Also P some)
  pub budget : count + total n (values_of m w r) ≤ total n (values_of m w a)

-- a pivot index is 0 where the row's value is
sign-index : (m v : ℕ) → sign (index m v) ≡ sign v
unfolding index
sign-index m zero = refl
sign-index m (suc v) = refl

module _ {p n m w : ℕ} {a : List ℕ} (input : Checked p n m w a) where
  open input use {prime, bounds}

  pub positive : 0 < p
  positive = omega (arith, prime.two)

  abbrev A : (some : 0 < p) → ℕ → Row (Zp p)
  A some = matrix_of (by_rows n m w) p some a

  pub first : (some : 0 < p) → Held (by_rows n m w) p a (A some)
  first some = held-matrix_of (by_rows n m w) p some a input.size input.residues

  pub going_start : {Also : Kept p} {pivots : List Pivot}
      → ((P : Prime p) (some : 0 < p) → Also P some (begin (zp_field p P).ring (A some)))
      → AllPivots n m (values_of m w a) pivots → Going p n m w Also a a pivots 0
  going_start also all = record {
    r-same = refl;
    room = all.size;
    found = all.pivots_are;
    at = λ P some. record {
      t = begin (zp_field p P).ring (A some);
      held = first some;
      onward = λ c s x. rw N.zero-add x;
      also = also P some;
    };
    budget = omega arith;
  }

  module _ {Also : Kept p} {r : List ℕ} {pivots : List Pivot} {count : ℕ} (inv : Going p n m w Also a r pivots count) where
    pub size : length r ≡ n * (m * w)
    size = inv.r-same ∙ input.size

    -- the counter fits
    pub count_fits : count ≤ 4096
    count_fits = omega (arith, inv.budget, values-total m w a n, matrix-few bounds, ap (λ (x : ℕ). n * x) (N.mul_comm w m))

    -- there is a pivot for each row
    pub rows_there : n ≤ length pivots
    rows_there = omega (arith, inv.room, bounds.rows_most)

    pub next-asked : NextAsked (take n pivots)
    next-asked = Next.next-asked bounds.rows_most bounds.columns bounds.columns_most inv.found

    -- where no step applies, the reduction is made, and the pivots tell the rank
    module _ (P : Prime p) (some : 0 < p) where
      abbrev t : Carried (Zp p)
      t = (inv.at P some).t

      pub going-last : NoPair n m (values_of m w r) → Runs (zp_field p P) n m w count (begin (zp_field p P).ring (A some)) t
      going-last none = rw N.add-zero at ((inv.at P some).onward 0 t (halt (at-end P bounds.columns t (inv.at P some).held none)))

      pub rank_is : nonzero_rows (take n pivots) ≡ rank (zp_field p P) n m w t.R
      rank_is = rank-front n pivots rows_there ∙ total-same n _ _ (λ i l. ap sign (inv.found.row i l).index_is ∙ sign-index m (values_of m w r i)
          ∙ ap sign (agree P bounds.columns t (inv.at P some).held i l))

    -- a turn of the loop
    module _ {step : Step} (on : StepOf n m (values_of m w r) pivots step) where
      open on use {next, rows}

      abbrev l : ℕ
      l = step.pair.l

      abbrev k : ℕ
      k = step.pair.k

      -- both rows have their place among eight
      pub rows_fit : (l < 8) × (k < 8)
      rows_fit = (omega (arith, rows.l_fits, bounds.rows_most), omega (arith, rows.k_fits, bounds.rows_most))

      pub lower-asked : LowerAsked p m w l k step.high step.low r
      lower-asked = rw (on.high_is, on.low_is) (RowsOf.lower-asked n m w bounds.columns r size inv.found prime
          (held-coefficients (by_rows n m w) p (inv.at prime positive).held) rows)

      -- after the step
      module _ {r' : List ℕ} {x : Lowered} (made : IsLowered p m w l k step.high step.low r r' x) where
        lowered : IsLowered p m w l k (get_or pivots l zero_row) (get_or pivots k zero_row) r r' x
        lowered = rw (on.high_is, on.low_is) at made

        pub falls : total n (values_of m w r') < total n (values_of m w r)
        falls =
            let here = inv.at prime positive in
            step_falls p prime n m w bounds.columns here.held inv.found l k
            (rows-held prime bounds.columns here.t here.held next) lowered

        pub going_on : {Also' : Kept p} → ((P : Prime p) (some : 0 < p) → let t = (inv.at P some).t in
            StepRows n m (values (zp_field p P) m w t.R) l k → Also' P some (advance (zp_field p P) m w l k t))
            → Going p n m w Also' a r' (set pivots l x.pivot) (count + 1)
        going_on also = record {
          r-same = lowered.r_move.size ∙ inv.r-same;
          room = length-set pivots l x.pivot ∙ inv.room;
          found = RowsOf.pivots-after size rows.l_fits lowered inv.found (omega (arith, inv.room, rows_fit));
          at = λ P some.
              let here = inv.at P some in
              let held-rows = rows-held P bounds.columns here.t here.held next in
              record {
                t = advance (zp_field p P) m w l k here.t;
                held = step-held p P n m w bounds.columns here.held inv.found l k held-rows lowered;
                onward = λ c s x. subst (λ (y : ℕ). Runs (zp_field p P) n m w y (begin (zp_field p P).ring (A some)) s) (shift c)
                    (here.onward (suc c) s (more (pair_held P bounds.columns here.t here.held next)
                    (rw (applied P bounds.columns here.t here.held next) x)));
                also = also P some held-rows;
              };
          budget = omega (arith, inv.budget, falls);
        }
          where
            shift : (c : ℕ) → count + suc c ≡ count + 1 + c
            shift c = omega arith
