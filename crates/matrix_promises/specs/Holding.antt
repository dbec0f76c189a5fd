-- What the buffers of a reduction hold.
use Rattle.std.specs.Prelude.{List, ℕ, ◌*◌}
use Rattle.theory_algebra.specs.Residue.{Zp}
use Rattle.matrix_promises.specs.Held.{Held}
use Rattle.matrix_promises.specs.Layout.{by_rows}
use Rattle.theory_reduction.specs.Step.{Carried}

-- the result, U and V, of which a cell of U has n·(d+1) places
pub record Holding (p n m w : ℕ) (r u v : List ℕ) (t : Carried (Zp p)) : Type 0 where
  pub R : Held (by_rows n m w) p r t.R
  pub U : Held (by_rows n n (n * w)) p u t.U
  pub V' : Held (by_rows n n w) p v t.V'
