-- What is known of the degrees of U and V while steps are taken.
use Rattle.std.specs.Prelude.{ℕ, suc, ◌+◌, ◌-◌, ◌≤◌, ◌<◌}
use Rattle.theory_algebra.specs.Field.{Field}
use Rattle.theory_algebra.specs.Polynomial.{Below}
use Rattle.theory_lattice.specs.Row.{Row}
use Rattle.theory_lists.specs.Total.{total}
use Rattle.theory_reduction.specs.Pivot.{value, height}
use Rattle.theory_reduction.specs.Step.{Carried}

module _ {F : Type 0} (K : Field F) (n m size : ℕ) where
  -- the pivot degree of row i, and 0 for a zero row
  abbrev pub pivot_degree : (ℕ → Row F) → ℕ → ℕ
  pivot_degree M i = height m (value K m size (M i)) - 1

  -- what the pivot degrees have lost together since A
  abbrev pub spent_since : (ℕ → Row F) → Carried F → ℕ
  spent_since A t = total n (pivot_degree A) - total n (pivot_degree t.R)

  -- with D for the pivot degrees: deg U_ij + D_j(A) ≤ D_i(R) + spent, and deg V_ij + D_j(R) ≤ D_i(A)
  pub record Narrow (A : ℕ → Row F) (t : Carried F) : Type 0 where
    pub less : total n (pivot_degree t.R) ≤ total n (pivot_degree A)
    pub u_bound : (i j : ℕ) → i < n → j < n → Below K.ring (t.U i j) (suc (pivot_degree t.R i + spent_since A t) - pivot_degree A j)
    pub v_bound : (i j : ℕ) → i < n → j < n → Below K.ring (t.V' i j) (suc (pivot_degree A i) - pivot_degree t.R j)
