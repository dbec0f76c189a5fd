-- The steps of the second kind, repeated until none applies.
use Rattle.std.specs.Prelude.{ℕ}
use Rattle.theory_algebra.specs.Field.{Field}
use Rattle.theory_reduction.specs.Process.{Process, Iterates}
use Rattle.theory_reduction.specs.Step.{Carried}
use Rattle.theory_popov.specs.SecondKind.{Removal, NoRemoval, excesses, remove}

module _ {F : Type 0} (K : Field F) (n m size : ℕ) where
  abbrev pub second_kind : Process (Carried F)
  second_kind = record {
    Next = λ t. Removal n (excesses K m size t.R);
    Halt = λ t. NoRemoval n (excesses K m size t.R);
    apply = remove K m size;
  }

  -- `count` steps of the second kind lead from t to u, where none applies
  abbrev pub SecondRuns : ℕ → Carried F → Carried F → Type 0
  SecondRuns = Iterates second_kind
