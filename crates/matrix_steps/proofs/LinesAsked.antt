-- What a step asks of the operations on rows and columns.
use mathlib.Core.Path.{◌≡◌, sym, ◌∙◌}
use mathlib.Core.List.{List}
use Prim.Native.Nat.{ℕ, ◌+◌, ◌-◌, ◌*◌, ◌≤◌}
use native.Mathlib.Nat.{mul-zero, zero-mod}
use native.Mathlib.Omega.{arith}
use borrow.Author.Tests.{le-leb}
use Rattle.theory_lists.specs.Place.{spot}
use Rattle.matrix_buffers.specs.Added.{RowAdded}
use Rattle.matrix_rows.specs.Asked.{Short, RowsInBuffer, ColumnsInBuffer}
use Rattle.matrix_rows.proofs.Lines.{two-rows}
use Rattle.matrix_pivots.specs.Pivot.{RowOfAsked}
use Rattle.matrix_pivots.specs.declared.pivot.Pivot.{Pivot}
use Rattle.matrix_steps.proofs.multiple.Below.{negative-below}
use Rattle.matrix_steps.specs.multiple.Factor.{Divided, Factor}
use Rattle.matrix_steps.specs.Asked.{LowerAsked, MoveAsked, FollowAsked}

-- two rows of R with their pivots, and the multiple that is taken away
module _ {p m w l k : ℕ} {high low : Pivot} {r : List ℕ} (asked : LowerAsked p m w l k high low r)
    {e c f : ℕ} (g : Factor p m w l k high low r e c f) where
  exponent : e + low.degree.0 ≡ high.degree.0
  exponent = omega (arith, g.e_is, asked.plan.order)

  high-most : high.degree.0 ≤ w
  high-most = asked.plan.l_pivot.leading.height_most

  pub row-asked : RowsInBuffer p f e m w low.degree.0 l k r
  row-asked = record {
    multiplier = record { factor = negative-below g; room = omega (arith, exponent, high-most) };
    rows = record { i_fits = asked.plan.l_pivot.leading.row; j_fits = asked.plan.k_pivot.leading.row; differ = asked.differ };
    residues = asked.plan.residues;
    short = asked.k_short;
  }

  -- after the subtraction row l has no coefficient from its old height on
  module _ {r' : List ℕ} (added : RowAdded p m w f e l k r r') where
    pub short-after : Short w high.degree.0 m (spot m w l) r'
    short-after = record {
      zero = λ j t lj from to.
          let above : e ≤ t = omega (arith, exponent) in
          let high_zero = asked.l_short.zero j t lj from to in
          let low-zero = asked.k_short.zero j (t - e) lj (omega (arith, exponent)) (omega arith) in
          added.written j t lj to ∙ simp (le-leb e t above, high_zero, low-zero, mul-zero, zero-mod);
    }

    pub renew-asked : RowOfAsked m w l high.degree.0 r'
    renew-asked = record {
      row = omega (arith, added.size, asked.plan.l_pivot.leading.row);
      columns = asked.columns;
      within = high-most;
      zeros = short-after.zero;
    }

-- row k of U is added to row l, and column l of V to column k
module _ {p n w l k e c f u_top v_top : ℕ} {u v : List ℕ} (asked : FollowAsked p n w l k e c f u_top v_top u v) where
  open asked use {c_below, f_below, move}

  pub u-asked : RowsInBuffer p f e n (n * w) u_top l k u
  u-asked = record {
    multiplier = record { factor = f_below; room = move.u_room };
    rows = two-rows move.u_size move.l_fits move.k_fits move.differ;
    residues = move.u_residues;
    short = move.u_short;
  }

  pub v-asked : ColumnsInBuffer p c e n w v_top k l v
  v-asked = record {
    multiplier = record { factor = c_below; room = move.v_room };
    columns = record { size = move.v_size; x_fits = move.k_fits; y_fits = move.l_fits; differ = λ q. move.differ (sym q) };
    residues = move.v_residues;
    short = move.v_short;
  }

-- with the multiple that a division gives
pub follow-asked : {p n w l k a b d e c f u_top v_top : ℕ} {u v : List ℕ}
    → MoveAsked p n w l k d u_top v_top u v → Divided p a b d e c f
    → FollowAsked p n w l k e c f u_top v_top u v
follow-asked move g = record { c_below = g.c_below; f_below = negative-below g; move = rw g.e_is move }
