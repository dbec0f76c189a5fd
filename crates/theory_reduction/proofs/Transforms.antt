-- The reduction keeps U·A = R, V·R = A, U·V = V·U = 1.
use Prim.Native.Nat.{ℕ}
use Rattle.theory_algebra.specs.Field.{Field}
use Rattle.theory_lattice.specs.Row.{Row}
use Rattle.theory_lattice.specs.PolynomialMatrix.{AllBounded, Transformed}
use Rattle.theory_lattice.proofs.Moves.{start, subtract-transformed}
use Rattle.theory_reduction.specs.Pivot.{values}
use Rattle.theory_reduction.specs.Pair.{NoPair}
use Rattle.theory_reduction.specs.Step.{Carried, begin, advance}
use Rattle.theory_reduction.specs.Run.{reduction, Runs}
use Rattle.theory_reduction.proofs.Process.{iterates-halt}
use Rattle.theory_reduction.proofs.Lowering.{Lowered, factor-degree}
use Rattle.theory_reduction.proofs.Ending.{runs-keep}

module _ {F : Type 0} (K : Field F) (n m size : ℕ) (A : ℕ → Row F) where
  -- what is known of t where A was reduced to it
  pub record Ended (t : Carried F) : Type 0 where
    pub bounded : AllBounded K.ring n m size t.R
    pub done : NoPair n m (values K m size t.R)
    pub transformed : Transformed K.ring n m A t.R t.U t.V'

  step-transformed : (t : Carried F) (l k : ℕ) → AllBounded K.ring n m size t.R → Lowered K n m size t.R l k
      → Transformed K.ring n m A t.R t.U t.V'
      → let u = advance K m size l k t in Transformed K.ring n m A u.R u.U u.V'
  step-transformed t l k b w =
      let x = w.reducing in
      let d = factor-degree K m size (t.R l) (t.R k) (b l x.l_fits) (b k x.k_fits) x.clash x.degrees in
      subtract-transformed K.ring n m A t.R t.U t.V' l k _ (_, d.below) x.l_fits x.k_fits x.apart

  pub runs-ended : {c : ℕ} {t : Carried F} → Runs K n m size c (begin K.ring A) t → AllBounded K.ring n m size A → Ended t
  runs-ended r b =
      let (tb, h) = runs-keep K n m size (λ t. Transformed K.ring n m A t.R t.U t.V') step-transformed r b (start K.ring n m A) in
      record { bounded = tb; done = iterates-halt (reduction K n m size) r; transformed = h }
