-- What the reduction asks.
use Rattle.std.specs.Prelude.{List, ℕ, ◌*◌}
use Rattle.matrix_buffers.specs.Bounds.{Checked}
use Rattle.matrix_buffers.specs.Diagonal.{Diagonal}

-- a matrix in r that has passed the checks, and U and V the identity
pub record StartAsked (p n m w : ℕ) (r u v : List ℕ) : Type 0 where
  pub input : Checked p n m w r
  pub u_one : Diagonal n (n * w) u
  pub v_one : Diagonal n w v
