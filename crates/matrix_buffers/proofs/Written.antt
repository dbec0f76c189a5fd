-- A row that is written in the buffer is replaced in the matrix that the buffer holds.
use mathlib.Core.Path.{◌≡◌, ◌∙◌}
use mathlib.Core.List.{List}
use Prim.Native.Nat.{ℕ, ◌≤◌, ◌<◌}
use native.Mathlib.Decide.{ℕ_discrete}
use Rattle.theory_algebra.specs.Matrix.{setrow}
use Rattle.theory_algebra.specs.Residue.{Zp}
use Rattle.theory_algebra.proofs.Matrix.{setrow-same, setrow-other}
use Rattle.theory_lattice.specs.Row.{Row}
use Rattle.theory_lists.specs.Place.{Layout}
use Rattle.matrix_promises.specs.Held.{Held}
use Rattle.matrix_buffers.specs.Written.{CellsWritten}
use Rattle.theory_lists.proofs.Place.{own_row}

module _ (p : ℕ) {n m w : ℕ} (L : Layout n m w) where
  pub held-written : {new : ℕ → ℕ → ℕ} {b b' : List ℕ} {M : ℕ → Row (Zp p)} (l : ℕ) (r : Row (Zp p)) → l < n
      → Held L p b M → CellsWritten w m (L.spot l) new b b'
      → ((j t : ℕ) → j < m → t < w → new j t ≡ (r j t).val) → ((j t : ℕ) → j < m → w ≤ t → (r j t).val ≡ 0)
      → Held L p b' (setrow M l r)
  held-written {M = M} l r ll h d is past = record {
    size = d.size ∙ h.size;
    at = λ i j t li lj lt. elim (ℕ_discrete i l) [
      | yes here ↦ rw (here, setrow-same M l r) (d.written j t lj lt ∙ is j t lj lt)
      | no other ↦ rw (setrow-other M l r i other)
          (d.others _ (λ j' t' lj' lt' same. other (own_row L i j t l j' t' li lj lt ll lj' lt' same)) ∙ h.at i j t li lj lt)
    ];
    beyond = λ i j t li lj from. elim (ℕ_discrete i l) [
      | yes here ↦ rw (here, setrow-same M l r) (past j t lj from)
      | no other ↦ rw (setrow-other M l r i other) (h.beyond i j t li lj from)
    ];
  }
