-- The pivots of the rows of a buffer are those of the rows of the matrix that it holds.
use mathlib.Core.Path.{◌≡◌, sym, ◌∙◌, ap}
use mathlib.Core.List.{List}
use Prim.Native.Nat.{ℕ, zero, suc, ◌-◌, ◌*◌, ◌/◌, ◌%◌, ◌≤◌, ◌<◌}
use native.Mathlib.Omega.{arith}
use native.Mathlib.Nat as N
use Rattle.theory_algebra.specs.Field.{Field}
use Rattle.theory_algebra.specs.Prime.{Prime}
use Rattle.theory_algebra.specs.Residue.{Zp}
use Rattle.theory_rings.specs.PrimeField.{zp_field}
use Rattle.theory_rings.proofs.PrimeField.{field-zero}
use Rattle.theory_algebra.proofs.Residue.{zp-path}
use Rattle.theory_lattice.specs.Row.{Row}
use Rattle.theory_lists.specs.Last.{last_nonzero}
use Rattle.theory_lists.specs.Total.{total}
use Rattle.theory_lists.proofs.Last.{last-is, last-nil, last-zero, last-here}
use Rattle.theory_lists.proofs.Total.{total-bound}
use Rattle.theory_lists.proofs.Part.{get_or-part}
use Rattle.matrix_promises.specs.Held.{Held}
use Rattle.matrix_promises.specs.Layout.{by_rows}
use Rattle.theory_reduction.specs.Pivot.{top, value, height}
use Rattle.theory_reduction.proofs.Index.{height_bound}
use Rattle.matrix_pivots.specs.Pivot.{value_of, row_of, values_of}
use Rattle.theory_lists.proofs.Grid.{line-end, within}

module _ (p : ℕ) (P : Prime p) where
  abbrev K : Field (Zp p)
  K = zp_field p P

  -- the last residue that is not zero is the last number that is not
  pub top-last : (n : ℕ) (f : ℕ → Zp p) (g : ℕ → ℕ) → ((x : ℕ) → x < n → g x ≡ (f x).val) → top K n f ≡ last_nonzero n g
  unfolding top
  top-last zero f g h = sym (last-nil g)
  top-last (suc n) f g h = go (K.dec (f n) K.ring.𝟘) (top-last n f g (λ x l. h x (omega arith)))
    where
      less : suc n - 1 ≡ n
      less = omega arith

      go : (d : Dec (f n ≡ K.ring.𝟘)) → top K n f ≡ last_nonzero n g → (elim d as (λ _. ℕ) [ yes _ ↦ top K n f | no _ ↦ suc n ]) ≡ last_nonzero (suc n) g
      go (yes z) rec = rec ∙ sym (last-zero (suc n) g (omega arith) (ap g less ∙ h n (omega arith) ∙ ap (λ (x : Zp p). x.val) z ∙ field-zero p P)
          ∙ ap (λ (y : ℕ). last_nonzero y g) less)
      go (no ne) rec = sym (last-here (suc n) g (omega arith) (λ z. ne (zp-path _ _ (sym (h n (omega arith)) ∙ ap g (sym less) ∙ z ∙ sym (field-zero p P)))))

  -- the value of a row
  pub value-held : (n m w : ℕ) {l : List ℕ} {M : ℕ → Row (Zp p)} → Held (by_rows n m w) p l M → 0 < m → (i : ℕ) → i < n
      → value K m w (M i) ≡ value_of m w (row_of m w l i)
  unfolding value value_of
  value-held n m w {l} h columns i li = top-last (w * m) _ _ (λ x lx.
      let column : x % m < m = N.mod-lt x columns in
      let degree : x / m < w = (N.div-lt_iff_lt-mul columns).1 lx in
      get_or-part (i * (m * w)) (m * w) l (omega (arith, h.size, line-end i n (m * w) li)) _ (within (x % m) (x / m) m w column degree)
      ∙ h.at i (x % m) (x / m) li column degree)

-- the bounds that hold for every list
module _ (m w : ℕ) (r : List ℕ) where
  pub values-most : (i : ℕ) → values_of m w r i ≤ w * m
  unfolding value_of
  values-most i = (last-is (w * m) _).within

  pub values-total : (n : ℕ) → total n (values_of m w r) ≤ n * (w * m)
  values-total n = total-bound n (w * m) _ (λ i _. values-most i)

  pub height_most : (i : ℕ) → height m (values_of m w r i) ≤ w
  height_most i = height_bound m w _ (values-most i)
