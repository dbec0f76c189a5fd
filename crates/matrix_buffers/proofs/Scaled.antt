-- A row or column that is multiplied by a residue in a buffer is multiplied by it in the matrix that the buffer holds.
use mathlib.Core.Path.{◌≡◌, sym, ap, ◌∙◌}
use mathlib.Core.List.{List}
use Prim.Native.Nat.{ℕ, ◌*◌, ◌%◌, ◌<◌}
use native.Mathlib.Nat as N
use Rattle.theory_algebra.specs.Ring.{CommRing}
use Rattle.theory_algebra.specs.Matrix.{transpose, scalerow}
use Rattle.theory_algebra.specs.Prime.{Prime}
use Rattle.theory_algebra.specs.Residue.{Zp}
use Rattle.theory_algebra.specs.Series.{const}
use Rattle.theory_rings.specs.PrimeField.{zp_field}
use Rattle.theory_rings.proofs.PrimeField.{field-mul}
use Rattle.theory_rings.specs.Series.{series}
use Rattle.theory_rings.proofs.Series.{const-mul-at}
use Rattle.theory_lattice.specs.Row.{Row}
use Rattle.theory_lists.specs.Place.{Layout}
use Rattle.matrix_promises.specs.Held.{Held}
use Rattle.matrix_buffers.specs.Scaled.{CellsScaled, RowScaled, ColumnScaled}
use Rattle.matrix_promises.specs.Layout.{by_rows}
use Rattle.theory_lists.proofs.Place.{turned}
use Rattle.matrix_promises.proofs.Held.{held-turned, held-turned-back}
use Rattle.matrix_buffers.proofs.Written.{held-written}

module _ (p : ℕ) (P : Prime p) where
  abbrev R : CommRing (Zp p)
  R = (zp_field p P).ring

  -- c times f, by numbers
  multiple-number : (c : Zp p) (f : ℕ → Zp p) (t : ℕ) → ((series R).mul (const R c) f t).val ≡ c.val * (f t).val % p
  multiple-number c f t = ap (λ (x : Zp p). x.val) (const-mul-at R c f t) ∙ field-mul p P c (f t)

  -- rows, in any layout
  held-scaled : {n m w : ℕ} (L : Layout n m w) {b b' : List ℕ} {M : ℕ → Row (Zp p)} (c : Zp p) (i : ℕ) → i < n
      → Held L p b M → CellsScaled p c.val w m (L.spot i) b b' → Held L p b' (scalerow (series R) M i (const R c))
  held-scaled L {M = M} c i li h d = held-written p L i _ li h d
      (λ j t lj lt. ap (λ (x : ℕ). c.val * x % p) (h.at i j t li lj lt) ∙ sym (multiple-number c (M i j) t))
      (λ j t lj past. multiple-number c (M i j) t ∙ rw (h.beyond i j t li lj past, N.mul-zero, N.zero-mod))

  pub held-row-scaled : (n m w : ℕ) {b b' : List ℕ} {M : ℕ → Row (Zp p)} (c : Zp p) (i : ℕ) → i < n
      → Held (by_rows n m w) p b M → RowScaled p m w c.val i b b' → Held (by_rows n m w) p b' (scalerow (series R) M i (const R c))
  held-row-scaled n m w = held-scaled (by_rows n m w)

  pub held-column-scaled : (n w : ℕ) {b b' : List ℕ} {M : ℕ → Row (Zp p)} (c : Zp p) (x : ℕ) → x < n
      → Held (by_rows n n w) p b M → ColumnScaled p n w c.val x b b'
      → Held (by_rows n n w) p b' (transpose (scalerow (series R) (transpose M) x (const R c)))
  held-column-scaled n w c x lx h d =
      let L = by_rows n n w in held-turned-back L p (held-scaled (turned L) c x lx (held-turned L p h) d)
