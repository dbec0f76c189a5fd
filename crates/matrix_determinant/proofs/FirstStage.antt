-- The first stage is laid out in the front of its buffers.
use mathlib.Core.Path.{sym, ap, ◌∙◌}
use mathlib.Core.List.{List, ◌++◌}
use Prim.Native.Nat.{ℕ, suc, ◌*◌}
use native.Mathlib.Omega.{arith}
use lib.ListN.{take}
use lib.Seq.{take_at, length-take-le}
use Rattle.theory_lists.proofs.Grid.{line-end}
use Rattle.theory_lists.proofs.Skip.{skip-low}
use Rattle.matrix_buffers.specs.Diagonal.{Diagonal}
use Rattle.matrix_determinant.specs.FirstStage.{LayAsked, Laid}
use Rattle.matrix_determinant.specs.LastColumn.{PartAsked, Parted}
use Rattle.matrix_determinant.specs.Sizes.{places, cells}
use Rattle.matrix_determinant.proofs.LastColumn.{one-column}

module _ {m w wide : ℕ} {a r column product : List ℕ} (asked : LayAsked m w wide a r column product) where
  pub input-asked : PartAsked m w wide (suc m) a (take (places m w) r) (take (cells m wide) column)
  input-asked = record {
    inside = λ s ls.
        omega (arith, asked.size, line-end s (suc m) (suc m * w) ls, ap (λ (x : ℕ). x * (suc m * w)) (skip-low (suc m) s ls));
    next_size = length-take-le _ r asked.r_room;
    column_size = length-take-le _ column asked.column_room ∙ sym (one-column (suc m) wide);
  }

  -- in front of what else there was
  pub laid : {r' column' product' : List ℕ} (beside under : List ℕ) → Parted m w wide (suc m) a r' column' → Diagonal 1 wide product'
      → Laid m w wide a (r' ++ beside) (column' ++ under) product'
  laid {r'} {column'} beside under parted one = record {
    parted = rw (take_at r' beside _ parted.next_size, take_at column' under _ (parted.column_size ∙ one-column (suc m) wide)) parted;
    one = one;
  }
