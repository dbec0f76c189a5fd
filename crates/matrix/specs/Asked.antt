-- What the work behind the checks asks.
use Rattle.std.specs.Prelude.{List, ℕ}
use Rattle.matrix_buffers.specs.Bounds.{Checked}
use Rattle.matrix_steps.specs.Asked.{Sizes}

-- a matrix in a that has passed the checks, and buffers for result, U and V
pub record WorkAsked (p n m w : ℕ) (a r u v : List ℕ) : Type 0 where
  pub input : Checked p n m w a
  pub sizes : Sizes n m w r u v
