-- The matrix without its transforms: the whole reduction, and the single step.
use mathlib.Core.Path.{◌≡◌, sym, subst, ◌∙◌}
use mathlib.Core.List.{List}
use Prim.Native.Nat.{ℕ}
use lib.ListN.{take}
use Rattle.theory_algebra.specs.Residue.{Zp}
use Rattle.theory_rings.specs.PrimeField.{zp_field}
use Rattle.theory_reduction.specs.Pair.{NoPair}
use Rattle.theory_reduction.specs.Process.{none, one}
use Rattle.theory_reduction.specs.Run.{advance_pair}
use Rattle.theory_reduction.specs.Step.{Carried, begin}
use Rattle.matrix_promises.specs.Held.{Held, matrix_of}
use Rattle.matrix_promises.specs.Layout.{by_rows}
use Rattle.matrix_promises.specs.Reduced.{IsReducedAlone}
use Rattle.matrix_promises.specs.SteppedOnce.{SteppedOnce}
use Rattle.matrix_buffers.specs.Bounds.{Checked}
use Rattle.matrix_pivots.specs.Pivot.{values_of, AllPivots, nonzero_rows}
use Rattle.matrix_pivots.specs.declared.pivot.Pivot.{Pivot}
use Rattle.matrix_steps.specs.Subtraction.{IsLowered}
use Rattle.matrix_steps.specs.declared.Lowered.{Lowered}
use Rattle.matrix_steps.specs.declared.Step.{Step}
use Rattle.matrix_steps.proofs.Next.{StepOf}
use Rattle.matrix_steps.proofs.Moving.{step-held}
use Rattle.matrix_reduction.proofs.Loop.{Kept, Going, first, at-end, pair_held, rows-held, applied, going_start, going-last, rank_is}

-- nothing else is kept
abbrev pub NothingElse : {p : ℕ} → Kept p
NothingElse P some t = Unit {0}

module _ {p n m w : ℕ} {a : List ℕ} (input : Checked p n m w a) where
  open input.bounds use {columns}

  pub alone-start : {pivots : List Pivot} → AllPivots n m (values_of m w a) pivots → Going p n m w NothingElse a a pivots 0
  alone-start = going_start input (λ P some. tt)

  -- where no step applies, the reduction is made
  pub alone-last : {r : List ℕ} {pivots : List Pivot} {count rank : ℕ} → Going p n m w NothingElse a r pivots count
      → NoPair n m (values_of m w r) → rank ≡ nonzero_rows (take n pivots) → IsReducedAlone p n m w a r rank count
  alone-last inv stuck is = record {
    by = λ P some. record {
      t = (inv.at P some).t;
      runs = going-last input inv P some stuck;
      held = (inv.at P some).held;
      rank_is = is ∙ rank_is input inv P some;
    };
  }

  -- and the single step leaves the matrix as it is
  pub stepped-none : NoPair n m (values_of m w a) → SteppedOnce p n m w 0 a a
  stepped-none stuck = record {
    by = λ P some.
        let t = begin (zp_field p P).ring (matrix_of (by_rows n m w) p some a) in
        record { t = t; stepped = none (at-end P columns t (first input some) stuck); held = first input some };
  }

  -- else it is made on the rows of the pair
  pub stepped-pair : {pivots : List Pivot} {step : Step} {r : List ℕ} {x : Lowered} → AllPivots n m (values_of m w a) pivots
      → StepOf n m (values_of m w a) pivots step → IsLowered p m w step.pair.l step.pair.k step.high step.low a r x
      → SteppedOnce p n m w 1 a r
  stepped-pair {step = step} {r = r} all on made = record {
    by = λ P some.
        let t = begin (zp_field p P).ring (matrix_of (by_rows n m w) p some a) in
        let rows = rows-held P columns t (first input some) on.next in
        record {
          t = advance_pair (zp_field p P) n m w t (pair_held P columns t (first input some) on.next);
          stepped = one (pair_held P columns t (first input some) on.next);
          held = subst (λ (s : Carried (Zp p)). Held (by_rows n m w) p r s.R) (sym (applied P columns t (first input some) on.next))
              (step-held p P n m w columns (first input some) all.pivots_are step.pair.l step.pair.k rows (rw (on.high_is, on.low_is) at made));
        };
  }
