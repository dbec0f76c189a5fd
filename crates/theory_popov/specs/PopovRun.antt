-- The way to the Popov form: "Reduce to weak Popov form. Put rows in ascending order", the steps of the second kind,
-- and "Last, divide each non-zero row by its pivot's leading coefficient".
use Rattle.std.specs.Prelude.{◌≡◌, ℕ}
use Rattle.theory_algebra.specs.Field.{Field}
use Rattle.theory_lattice.specs.Row.{Row}
use Rattle.theory_reduction.specs.Step.{Carried, begin}
use Rattle.theory_reduction.specs.Run.{Runs}
use Rattle.theory_popov.specs.Order.{ordered}
use Rattle.theory_popov.specs.SecondRun.{SecondRuns}
use Rattle.theory_popov.specs.Scaled.{scaled}

-- t comes from A by `first` steps of the first kind and `second` steps of the second kind
pub record PopovRun {F : Type 0} (K : Field F) (n m size : ℕ) (A : ℕ → Row F) (first second : ℕ) (t : Carried F) : Type 0 where
  pub weak : Carried F
  pub first_kind : Runs K n m size first (begin K.ring A) weak
  pub reduced : Carried F
  pub second_kind : SecondRuns K n m size second (ordered K n m size weak) reduced
  pub last : scaled K m size reduced ≡ t
