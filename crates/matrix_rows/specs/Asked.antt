-- What the row and column operations ask of their callers.
use Rattle.std.specs.Prelude.{◌≡◌, ◌≢◌, List, ℕ, ◌+◌, ◌*◌, ◌≤◌, ◌<◌, length, get_or}
use Rattle.theory_lists.specs.Coefficients.{Coefficients}
use Rattle.theory_lists.specs.Place.{spot}
use Rattle.matrix_rows.specs.declared.cells.Cells.{Cells}
use Rattle.matrix_rows.specs.Cells.{place}

-- c·x^e, by which cells of w places are multiplied that have no term from degree `top` on, so that the multiples fit such cells
pub record Multiplier (p c e w top : ℕ) : Type 0 where
  pub factor : c < p
  pub room : e + top ≤ w

-- `count` cells of w places have no term from degree `top` on; cell i has its coefficient of degree t at `from i t`
pub record Short (w top count : ℕ) (from : ℕ → ℕ → ℕ) (b : List ℕ) : Type 0 where
  pub zero : (i t : ℕ) → i < count → top ≤ t → t < w → get_or b (from i t) 0 ≡ 0

-- `count` of the cells are within the buffer, by w places each, and do not overlap
pub record InBuffer (w count : ℕ) (cells : Cells) (b : List ℕ) : Type 0 where
  pub fits : (i : ℕ) → i < count → cells.first + i * cells.stride + w ≤ length b
  pub distance : w ≤ cells.stride

-- the cells of one row or column, and as many of another, no two of which have a place in common
pub record Pairs (one other : Cells) (b : List ℕ) : Type 0 where
  pub one_fits : InBuffer one.w one.count one b
  pub other_fits : InBuffer one.w one.count other b
  pub apart : (i j t u : ℕ) → i < one.count → j < one.count → t < one.w → u < one.w → place one i t ≢ place other j u

-- two cells of w places in one buffer that have no place in common
pub record TwoParts (w one other : ℕ) (b : List ℕ) : Type 0 where
  pub one_fits : one + w ≤ length b
  pub other_fits : other + w ≤ length b
  pub apart : (t u : ℕ) → t < w → u < w → one + t ≢ other + u

-- a row of m cells in a buffer, and two rows
pub record OneRow (m w i : ℕ) (b : List ℕ) : Type 0 where
  pub fits : i * (m * w) + m * w ≤ length b

pub record TwoRows (m w i j : ℕ) (b : List ℕ) : Type 0 where
  pub i_fits : i * (m * w) + m * w ≤ length b
  pub j_fits : j * (m * w) + m * w ≤ length b
  pub differ : i ≢ j

-- a column of an n by n matrix, and two columns
pub record OneColumn (n w x : ℕ) (b : List ℕ) : Type 0 where
  pub size : length b ≡ n * (n * w)
  pub x_fits : x < n

pub record TwoColumns (n w x y : ℕ) (b : List ℕ) : Type 0 where
  pub size : length b ≡ n * (n * w)
  pub x_fits : x < n
  pub y_fits : y < n
  pub differ : x ≢ y

-- two such cells of residues, and a multiple of the second that fits the first
pub record CellPair (p c e w top to from : ℕ) (b : List ℕ) : Type 0 where
  pub multiplier : Multiplier p c e w top
  pub parts : TwoParts w to from b
  pub to_residues : (t : ℕ) → t < w → get_or b (to + t) 0 < p
  pub from_residues : (t : ℕ) → t < w → get_or b (from + t) 0 < p
  pub short : Short w top 1 (λ _ t. from + t) b

-- the same for pairs of cells, for two rows, and for two columns
pub record CellPairs (p c e top : ℕ) (to from : Cells) (b : List ℕ) : Type 0 where
  pub multiplier : Multiplier p c e to.w top
  pub pairs : Pairs to from b
  pub residues : Coefficients p b
  pub short : Short to.w top to.count (place from) b

pub record RowsInBuffer (p c e m w top l k : ℕ) (b : List ℕ) : Type 0 where
  pub multiplier : Multiplier p c e w top
  pub rows : TwoRows m w l k b
  pub residues : Coefficients p b
  pub short : Short w top m (spot m w k) b

pub record ColumnsInBuffer (p c e n w top x y : ℕ) (b : List ℕ) : Type 0 where
  pub multiplier : Multiplier p c e w top
  pub columns : TwoColumns n w x y b
  pub residues : Coefficients p b
  pub short : Short w top n (λ i. spot n w i y) b

-- the room of an n by n matrix whose cells have a place for the constant term
pub record Square (n w : ℕ) (b : List ℕ) : Type 0 where
  pub some : 0 < w
  pub size : length b ≡ n * (n * w)
