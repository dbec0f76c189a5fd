-- The reduction: "this step repeated until none applies".
use Rattle.std.specs.Prelude.{ℕ}
use Rattle.theory_algebra.specs.Field.{Field}
use Rattle.theory_reduction.specs.Pivot.{values}
use Rattle.theory_reduction.specs.Pair.{Pair, NoPair, target}
use Rattle.theory_reduction.specs.Step.{Carried, advance}
use Rattle.theory_reduction.specs.Process.{Process, Iterates}

module _ {F : Type 0} (K : Field F) (n m size : ℕ) where
  -- the step that a pair calls for
  unfoldable pub advance_pair : (t : Carried F) → Pair n m (values K m size t.R) → Carried F
  advance_pair t p = let (l, k) = target m (values K m size t.R) p.a p.b in advance K m size l k t

  abbrev pub reduction : Process (Carried F)
  reduction = record {
    Next = λ t. Pair n m (values K m size t.R);
    Halt = λ t. NoPair n m (values K m size t.R);
    apply = advance_pair;
  }

  -- "The whole reduction is this step repeated until none applies. Its count is the number of steps so defined": `count` steps lead
  -- from t to u, where none applies
  abbrev pub Runs : ℕ → Carried F → Carried F → Type 0
  Runs = Iterates reduction
