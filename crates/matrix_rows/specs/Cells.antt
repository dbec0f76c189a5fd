-- The cells of a row and of a column, and their places.
use Rattle.std.specs.Prelude.{ℕ, ◌*◌}
use Rattle.theory_lists.specs.Place.{spaced}
use Rattle.matrix_rows.specs.declared.cells.Cells.{Cells}

-- row i of m cells of w places
abbrev pub row : (m w i : ℕ) → Cells
row m w i = record { first = i * (m * w); stride = w; count = m; w = w }

-- column x of an n by n matrix, whose cells have w places
abbrev pub column : (n w x : ℕ) → Cells
column n w x = record { first = x * w; stride = n * w; count = n; w = w }

-- the spot of the coefficient of degree t in cell i
abbrev pub place : Cells → ℕ → ℕ → ℕ
place cells = spaced cells.first cells.stride
