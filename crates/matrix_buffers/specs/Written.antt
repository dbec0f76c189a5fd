-- Cells of a buffer that are written.
use Rattle.std.specs.Prelude.{◌≡◌, List, ℕ, ◌<◌, length, get_or}
use Rattle.theory_lists.specs.Place.{Outside}

-- b became b': `count` cells of w places were written, cell i at `at i t` with the coefficient `new i t` of degree t, and no other place
pub record CellsWritten (w count : ℕ) (at new : ℕ → ℕ → ℕ) (b b' : List ℕ) : Type 0 where
  pub size : length b' ≡ length b
  pub written : (i t : ℕ) → i < count → t < w → get_or b' (at i t) 0 ≡ new i t
  pub others : (x : ℕ) → Outside w count at x → get_or b' x 0 ≡ get_or b x 0
