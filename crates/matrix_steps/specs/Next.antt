-- The next step.
use Rattle.std.specs.Prelude.{◌≡◌, List, Option, Some, None, get_or}
use Rattle.matrix_pivots.specs.NextPair.{IsNext}
use Rattle.matrix_pivots.specs.Pivot.{zero_row}
use Rattle.matrix_pivots.specs.declared.pivot.Pivot.{Pivot}
use Rattle.matrix_steps.specs.declared.Step.{Step}

-- a step on two rows, whose pivots are the high and the low one
pub record StepOn (pivots : List Pivot) (step : Step) : Type 0 where
  pub next : IsNext pivots (Some step.pair)
  pub high_is : step.high ≡ get_or pivots step.pair.l zero_row
  pub low_is : step.low ≡ get_or pivots step.pair.k zero_row

abbrev pub IsNextStep : List Pivot → Option Step → Type 0
IsNextStep pivots None = IsNext pivots None
IsNextStep pivots (Some step) = StepOn pivots step
