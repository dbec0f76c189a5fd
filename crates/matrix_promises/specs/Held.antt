-- What a buffer holds: a matrix of polynomials over Z/p, in any layout.
use Rattle.std.specs.Prelude.{◌≡◌, List, ℕ, ◌*◌, ◌≤◌, ◌<◌, length, get_or, ltb}
use Rattle.theory_algebra.specs.Residue.{Zp, of}
use Rattle.theory_lattice.specs.Row.{Row}
use Rattle.theory_lists.specs.Place.{Layout}
use Rattle.theory_lists.specs.Where.{where_true}

module _ {n m w : ℕ} (L : Layout n m w) (p : ℕ) where
  -- l holds the n rows and m columns of M: the number of every coefficient of degree below w stands at its place, and M has
  -- no other terms. "All places are present: zeros are never cut off at either end."
  pub record Held (l : List ℕ) (M : ℕ → Row (Zp p)) : Type 0 where
    pub size : length l ≡ n * (m * w)
    pub at : (i j t : ℕ) → i < n → j < m → t < w → get_or l (L.spot i j t) 0 ≡ (M i j t).val
    pub beyond : (i j t : ℕ) → i < n → j < m → w ≤ t → (M i j t).val ≡ 0

  -- the matrix that a list of residues holds
  unfoldable pub matrix_of : 0 < p → List ℕ → ℕ → Row (Zp p)
  matrix_of some l i j t = of p some (where_true (ltb t w) (get_or l (L.spot i j t) 0))
