-- The Popov form in buffers: what is asked of them, and what they then hold.
use Rattle.std.specs.Prelude.{◌≡◌, List, ℕ, ◌*◌, length}
use Rattle.theory_lists.specs.Coefficients.{Coefficients}
use Rattle.matrix_buffers.specs.Bounds.{Checked}
use Rattle.matrix_promises.specs.Reduced.{IsReduction}
use Rattle.matrix_promises.specs.Popov.{IsPopov}

-- the buffers hold the reduction of some matrix that has passed the checks
pub record FinishAsked (p n m w : ℕ) (r u v : List ℕ) : Type 0 where
  pub a : List ℕ
  pub checked : Checked p n m w a
  pub rank : ℕ
  pub count : ℕ
  pub reduced : IsReduction p n m w a r u v rank count

-- of every such matrix they now hold the Popov form, reached by `second` steps of the second kind
pub record Finished (p n m w second : ℕ) (r u v r' u' v' : List ℕ) : Type 0 where
  pub popov : {a : List ℕ} {rank count : ℕ} → length a ≡ n * (m * w) → Coefficients p a → IsReduction p n m w a r u v rank count
      → IsPopov p n m w a r' u' v' rank count second
