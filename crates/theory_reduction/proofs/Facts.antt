-- The facts of the reduction, for every matrix.
use Prim.Native.Nat.{ℕ, ◌<◌}
use Rattle.theory_algebra.specs.Field.{Field}
use Rattle.theory_lattice.specs.Row.{Row}
use Rattle.theory_lattice.specs.PolynomialMatrix.{AllBounded}
use Rattle.theory_reduction.specs.Step.{Carried, begin}
use Rattle.theory_reduction.specs.Run.{Runs}
use Rattle.theory_reduction.specs.ReductionFacts.{ReductionFacts}
use Rattle.theory_reduction.proofs.Ending.{reach}
use Rattle.theory_reduction.proofs.WeakPopov.{weak-popov-iff}
use Rattle.theory_reduction.proofs.Counts.{count_state, count_rank}
use Rattle.theory_reduction.proofs.Degrees.{runs-narrow, u_degrees, v_degrees}
use Rattle.theory_reduction.proofs.Transforms.{runs-ended}
use Rattle.theory_reduction.proofs.Listed.{runs-lower, listed}
use Rattle.theory_reduction.proofs.Largest.{rank_is}

module _ {F : Type 0} (K : Field F) (n m size : ℕ) (A : ℕ → Row F) (columns : 0 < m) (places : 0 < size) (b : AllBounded K.ring n m size A) where
  -- of every run that starts at A
  pub reduction-facts : (count : ℕ) (t : Carried F) → Runs K n m size count (begin K.ring A) t → ReductionFacts K n m size A count t
  reduction-facts count t r =
      let h = runs-ended K n m size A r b in
      let low = runs-lower K n m size A r b in
      let narrow = runs-narrow K n m size A r b in
      record {
        weak_popov = (weak-popov-iff K n m size t.R h.bounded).0 h.done;
        bounded = h.bounded;
        transformed = h.transformed;
        u_degrees = u_degrees K n m size A t b narrow;
        v_degrees = v_degrees K n m size A t b narrow places;
        count_state = count_state K n m size r b;
        count_rank = count_rank K n m size r b columns;
        rank_is = rank_is K n m size A t b h low;
        listed = listed K n m size A t h low;
      }

  -- there is such a run
  pub reduction-exists : (count : ℕ) × (t : Carried F) × Runs K n m size count (begin K.ring A) t × ReductionFacts K n m size A count t
  reduction-exists = let (count, t, r) = reach K n m size (begin K.ring A) b in (count, t, r, reduction-facts count t r)
