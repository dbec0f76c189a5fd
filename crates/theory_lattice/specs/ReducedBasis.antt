-- Reduced bases in a term order T, their rows standing in the order O.
use Rattle.std.specs.Prelude.{◌≡◌, ◌≢◌, ℕ, ◌≤◌, ◌<◌}
use Rattle.theory_algebra.specs.Ring.{CommRing}
use Rattle.theory_algebra.specs.Polynomial.{Below}
use Rattle.theory_lattice.specs.Term.{Term, TermOrder}
use Rattle.theory_lattice.specs.RowOrder.{RowOrder}
use Rattle.theory_lattice.specs.Row.{Row, coef, Null}
use Rattle.theory_lattice.specs.Lead.{Lead}

-- of the n rows of P the first `rank` are not zero and stand in the order O by their leading terms, the others are zero;
-- `lead i` is the leading term of row i
pub record ReducedBasis {F : Type 0} (R : CommRing F) {m : ℕ} (T : TermOrder m) (O : RowOrder) (n : ℕ) (P : ℕ → Row F) : Type 0 where
  pub rank : ℕ
  pub rank_fits : rank ≤ n
  pub lead : ℕ → Term
  pub leads : (i : ℕ) → i < rank → Lead R T (lead i) (P i)
  pub null : (i : ℕ) → rank ≤ i → i < n → Null R m (P i)
  pub sorted : (i j : ℕ) → i < j → j < rank → O.before (lead i) (lead j)
  -- "In P each pivot is monic and every other entry of its column has smaller degree."
  pub monic : (i : ℕ) → i < rank → coef (P i) (lead i) ≡ R.𝟙
  pub smaller : (i j : ℕ) → i < n → j < rank → i ≢ j → Below R (P i (lead j).col) (lead j).deg
