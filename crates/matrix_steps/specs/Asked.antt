-- What the parts of a step ask.
use Rattle.std.specs.Prelude.{◌≡◌, ◌≢◌, List, ℕ, ◌+◌, ◌*◌, ◌≤◌, ◌<◌, length}
use Rattle.theory_lists.specs.Coefficients.{Coefficients}
use Rattle.theory_lists.specs.Place.{spot}
use Rattle.matrix_rows.specs.Asked.{Short}
use Rattle.matrix_pivots.specs.declared.pivot.Pivot.{Pivot}
use Rattle.matrix_steps.specs.multiple.Asked.{PlanAsked}

-- two rows that are to be reduced, with their pivots, from whose degrees on they are zero
pub record LowerAsked (p m w l k : ℕ) (high low : Pivot) (r : List ℕ) : Type 0 where
  pub plan : PlanAsked p m w l k high low r
  pub columns : 0 < m
  pub differ : l ≢ k
  pub l_short : Short w high.degree.0 m (spot m w l) r
  pub k_short : Short w low.degree.0 m (spot m w k) r

-- rows l and k of U and columns l and k of V, such that x^e times row k fits U, and x^e times column l fits V: of a cell of row k of U the
-- lowest u_top places can be other than zero, and of one of column l of V v_top
pub record MoveAsked (p n w l k e u_top v_top : ℕ) (u v : List ℕ) : Type 0 where
  pub u_size : length u ≡ n * (n * (n * w))
  pub v_size : length v ≡ n * (n * w)
  pub u_residues : Coefficients p u
  pub v_residues : Coefficients p v
  pub l_fits : l < n
  pub k_fits : k < n
  pub differ : l ≢ k
  pub u_short : Short (n * w) u_top n (spot n (n * w) k) u
  pub v_short : Short w v_top n (λ i. spot n w i l) v
  pub u_room : e + u_top ≤ n * w
  pub v_room : e + v_top ≤ w

-- such rows and columns, and two residues
pub record FollowAsked (p n w l k e c f u_top v_top : ℕ) (u v : List ℕ) : Type 0 where
  pub c_below : c < p
  pub f_below : f < p
  pub move : MoveAsked p n w l k e u_top v_top u v

-- buffers for R, U and V, of which a cell of U has n·(d+1) places
pub record Sizes (n m w : ℕ) (r u v : List ℕ) : Type 0 where
  pub r_size : length r ≡ n * (m * w)
  pub u_size : length u ≡ n * (n * (n * w))
  pub v_size : length v ≡ n * (n * w)
