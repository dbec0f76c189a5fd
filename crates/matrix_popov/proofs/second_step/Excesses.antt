-- The excesses by numbers are those of the rows of the matrix that the buffer holds.
use mathlib.Core.Path.{◌≡◌, sym, ap, ap₂, ◌∙◌}
use mathlib.Core.List.{List}
use Prim.Native.Nat.{ℕ, ◌+◌, ◌-◌, ◌*◌, ◌≤◌, ◌<◌}
use native.Mathlib.Nat as N
use native.Mathlib.Omega.{arith}
use lib.ListN.{length, get_or}
use Rattle.theory_algebra.specs.Field.{Field}
use Rattle.theory_algebra.specs.Prime.{Prime}
use Rattle.theory_algebra.specs.Residue.{Zp}
use Rattle.theory_rings.specs.PrimeField.{zp_field}
use Rattle.theory_lattice.specs.Row.{Row}
use Rattle.theory_lists.specs.Last.{last_nonzero}
use Rattle.theory_lists.specs.Total.{total}
use Rattle.theory_lists.proofs.Grid.{line-end}
use Rattle.theory_lists.proofs.Part.{length_part, get_or-part}
use Rattle.theory_lists.proofs.Total.{total-same}
use Rattle.poly.specs.Polynomial.{used_places}
use Rattle.matrix_promises.specs.Held.{Held}
use Rattle.matrix_promises.specs.Layout.{by_rows}
use Rattle.theory_reduction.specs.Pivot.{top}
use Rattle.theory_popov.specs.SecondKind.{excess, excesses}
use Rattle.theory_popov.proofs.Load.{load, load_same}
use Rattle.theory_popov.proofs.SecondStep.{left}
use Rattle.matrix_pivots.specs.Pivot.{values_of, Pivots}
use Rattle.matrix_pivots.specs.declared.pivot.Pivot.{Pivot}
use Rattle.matrix_steps.proofs.Value.{top-last}
use Rattle.matrix_steps.proofs.Moving.{column-is, degree_is}
use Rattle.matrix_popov.specs.second_step.Excess.{cell_of, excess_at}

-- what is left to remove, by numbers
abbrev pub left_of : ℕ → ℕ → ℕ → List ℕ → List Pivot → ℕ
left_of n m w r pivots = total n (λ a. load a (excess_at m w r pivots a))

module _ (p : ℕ) (P : Prime p) (n m w : ℕ) (columns : 0 < m) {r : List ℕ} {pivots : List Pivot} {M : ℕ → Row (Zp p)}
    (h : Held (by_rows n m w) p r M) (found : Pivots n m (values_of m w r) pivots) where
  abbrev K : Field (Zp p)
  K = zp_field p P

  cell-top : (i j : ℕ) → i < n → j < m → used_places (cell_of m w r i j) ≡ top K w (M i j)
  cell-top i j li lj =
      ap (λ (s : ℕ). last_nonzero s (λ t. get_or (cell_of m w r i j) t 0)) (length_part start w r fits)
      ∙ sym (top-last p P w (M i j) _ (λ t lt.
      get_or-part start w r fits t lt ∙ ap (λ (x : ℕ). get_or r x 0) (N.add_assoc (i * (m * w)) (j * w) t) ∙ h.at i j t li lj lt))
    where
      start : ℕ
      start = i * (m * w) + j * w

      fits : start + w ≤ length r
      fits = omega (arith, h.size, line-end i n (m * w) li, line-end j m w lj)

  pub excess-held : (k i : ℕ) → k < n → i < n → excess_at m w r pivots k i ≡ excesses K m w M k i
  unfolding excess
  excess-held k i lk li = ap₂ (λ (x y : ℕ). x - y)
      (ap (λ (j : ℕ). used_places (cell_of m w r k j)) (column-is p P n m w columns h found i li) ∙ cell-top k _ lk (N.mod-lt _ columns))
      (degree_is p P n m w columns h found i li)

  pub left-held : left_of n m w r pivots ≡ left K n m w M
  left-held = total-same n _ _ (λ a la. load_same a _ _ (λ j lj. excess-held a j la (omega arith)))
