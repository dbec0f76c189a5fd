-- The step that `next_step` finds among `&pivots[..n]`, by the values of the n rows.
use mathlib.Core.Path.{◌≡◌, refl, ◌∙◌}
use mathlib.Core.List.{List}
use Rattle.std.specs.Prelude.{Some, None}
use Prim.Native.Nat.{ℕ}
use lib.ListN.{get_or, take}
use Rattle.std.proofs.lemmas.List.{get_or-take}
use Rattle.theory_reduction.specs.Pair.{NoPair, StepRows}
use Rattle.theory_reduction.proofs.Pair.{pair-rows}
use Rattle.matrix_pivots.specs.NextPair.{IsNext, IsNextOf}
use Rattle.matrix_pivots.specs.Pivot.{zero_row, Pivots}
use Rattle.matrix_pivots.specs.declared.pivot.Pivot.{Pivot}
use Rattle.matrix_pivots.proofs.NextPair.{next-is}
use Rattle.matrix_steps.specs.Next.{StepOn}
use Rattle.matrix_steps.specs.declared.Step.{Step}

-- a step on the rows of the pair, with their pivots
pub record StepOf (n m : ℕ) (v : ℕ → ℕ) (pivots : List Pivot) (step : Step) : Type 0 where
  pub next : IsNextOf n m v (Some step.pair)
  pub rows : StepRows n m v step.pair.l step.pair.k
  pub high_is : step.high ≡ get_or pivots step.pair.l zero_row
  pub low_is : step.low ≡ get_or pivots step.pair.k zero_row

module _ {n m : ℕ} {v : ℕ → ℕ} {pivots : List Pivot} (found : Pivots n m v pivots) where
  pub step-of : {step : Step} → StepOn (take n pivots) step → StepOf n m v pivots step
  step-of {step} on =
      let next = next-is found (Some step.pair) (Some step.pair) on.next refl in
      let rows = pair-rows next.0 next.1 in
      record {
        next = next;
        rows = rows;
        high_is = on.high_is ∙ get_or-take n pivots step.pair.l zero_row rows.l_fits;
        low_is = on.low_is ∙ get_or-take n pivots step.pair.k zero_row rows.k_fits;
      }

  pub no-step : IsNext (take n pivots) None → NoPair n m v
  no-step none = next-is found None None none refl
