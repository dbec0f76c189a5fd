-- Where the coefficients of a matrix of polynomials stand in a buffer. A cell is the room of one polynomial.
use Rattle.std.specs.Prelude.{◌≡◌, ◌≢◌, ℕ, ◌+◌, ◌*◌, ◌<◌}

-- in a row of cells of w places each: the spot of the coefficient of degree t in cell j, "constant term first"
abbrev pub place_in_row : ℕ → ℕ → ℕ → ℕ
place_in_row w j t = j * w + t

-- the spot, or index in the buffer, of the coefficient of degree t in row i and column j, of m columns of cells of w places:
-- "Cells stand row after row, in each row column after column."
abbrev pub spot : ℕ → ℕ → ℕ → ℕ → ℕ → ℕ
spot m w i j t = i * (m * w) + place_in_row w j t

-- cells that follow one another at equal distances, the first at `start`: the spot of the coefficient of degree t in cell i
abbrev pub spaced : ℕ → ℕ → ℕ → ℕ → ℕ
spaced start stride i t = start + i * stride + t

-- x is no spot of `count` cells of w places, of which cell i has its coefficient of degree t at `at i t`
abbrev pub Outside : (w count : ℕ) (at : ℕ → ℕ → ℕ) (x : ℕ) → Type 0
Outside w count at x = (i t : ℕ) → i < count → t < w → x ≢ at i t

-- x is the spot of a coefficient of n rows and m columns of cells of w places, which stand as `spot` says
pub record Hit (n m w : ℕ) (spot : ℕ → ℕ → ℕ → ℕ) (x : ℕ) : Type 0 where
  pub row : ℕ
  pub col : ℕ
  pub deg : ℕ
  pub row_fits : row < n
  pub col_fits : col < m
  pub deg_fits : deg < w
  pub same : spot row col deg ≡ x

-- a layout of n·m·w places: every coefficient has a spot of its own, and every place of the buffer is the spot of one
pub record Layout (n m w : ℕ) : Type 0 where
  pub spot : ℕ → ℕ → ℕ → ℕ
  pub within : (i j t : ℕ) → i < n → j < m → t < w → spot i j t < n * (m * w)
  pub own : (x : ℕ) (a b : Hit n m w spot x) → (a.row ≡ b.row) × ((a.col ≡ b.col) × (a.deg ≡ b.deg))
  pub hits : (x : ℕ) → x < n * (m * w) → Hit n m w spot x
