-- Cells that are multiplied by a residue, place by place.
use Rattle.std.specs.Prelude.{List, ℕ, ◌+◌, ◌*◌, ◌%◌, get_or}
use Rattle.theory_lists.specs.Place.{spot}
use Rattle.matrix_buffers.specs.Written.{CellsWritten}

-- b became b': each of `count` cells was multiplied by c, modulo p, and no other place was written.
-- Cell i has its coefficient of degree t at `at i t`.
abbrev pub CellsScaled : (p c w count : ℕ) (at : ℕ → ℕ → ℕ) (b b' : List ℕ) → Type 0
CellsScaled p c w count at b b' = CellsWritten w count at (λ i t. c * get_or b (at i t) 0 % p) b b'

-- the same of one cell, which starts at `start`
abbrev pub CellScaled : (p c w start : ℕ) (b b' : List ℕ) → Type 0
CellScaled p c w start b b' = CellsScaled p c w 1 (λ _ t. start + t) b b'

-- row i of m cells was multiplied by c
abbrev pub RowScaled : (p m w c i : ℕ) (b b' : List ℕ) → Type 0
RowScaled p m w c i b b' = CellsScaled p c w m (spot m w i) b b'

-- column x of an n by n matrix was multiplied by c
abbrev pub ColumnScaled : (p n w c x : ℕ) (b b' : List ℕ) → Type 0
ColumnScaled p n w c x b b' = CellsScaled p c w n (λ i. spot n w i x) b b'
