-- One row: what its division asks of the operations on rows, and a zero row, which is as good as divided by 1.
use mathlib.Core.Path.{◌≡◌, refl, sym, ◌∙◌, ap}
use mathlib.Core.List.{List}
use Prim.Native.Nat.{ℕ, ◌*◌, ◌%◌, ◌<◌}
use native.Mathlib.Nat as N
use native.Mathlib.Omega.{arith}
use lib.ListN.{length, get_or}
use Rattle.theory_algebra.proofs.Cases.{case-le}
use Rattle.theory_lists.proofs.Change.{get_or-past}
use Rattle.theory_lists.proofs.Grid.{line-end}
use Rattle.theory_lists.specs.Coefficients.{Coefficients}
use Rattle.matrix_promises.specs.Layout.{by_rows}
use Rattle.matrix_promises.proofs.Held.{held-coefficients}
use Rattle.matrix_buffers.specs.Scaled.{CellsScaled}
use Rattle.matrix_rows.specs.Asked.{OneRow}
use Rattle.matrix_pivots.specs.declared.pivot.Pivot.{Pivot}
use Rattle.matrix_popov.specs.monic.Monic.{RowToDivide, RowDivided}

-- residues times 1
once : {p w count : ℕ} {at : ℕ → ℕ → ℕ} {b : List ℕ} → 1 < p → Coefficients p b → CellsScaled p 1 w count at b b
once {p} {at = at} {b = b} two residues = record {
  size = refl;
  written = λ i t _ _. sym (ap (λ (x : ℕ). x % p) (N.one-mul (get_or b (at i t) 0)) ∙ N.mod-eq_of_lt (below (at i t)));
  others = λ _ _. refl;
}
  where
    below : (x : ℕ) → get_or b x 0 < p
    below x = case-le (length b) x (λ past. omega (arith, get_or-past b x past)) (λ inside. residues.below x inside)

-- a row of a matrix
pub one-row : {n m w i : ℕ} {b : List ℕ} → length b ≡ n * (m * w) → i < n → OneRow m w i b
one-row {n} {m} {w} {i} size li = record { fits = omega (arith, size, line-end i n (m * w) li) }

module _ {p n m w i : ℕ} {pivot : Pivot} {r u v : List ℕ} (asked : RowToDivide p n m w i pivot r u v) where
  open asked use {prime, holding, fits, led}

  pub zero_row : pivot.index.0 ≡ 0 → RowDivided p n m w i pivot r u v r u v
  zero_row none = record {
    c = 1;
    f = 1;
    c_is = rw none refl;
    inverse = record { one = N.mod-eq_of_lt prime.two; below = prime.two };
    r_divided = once prime.two (held-coefficients (by_rows n m w) p holding.R);
    u_divided = once prime.two (held-coefficients (by_rows n n (n * w)) p holding.U);
    v_multiplied = once prime.two (held-coefficients (by_rows n n w) p holding.V');
  }
