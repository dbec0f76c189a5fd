-- Multiples of cells that are added to other cells, place by place.
use Rattle.std.specs.Prelude.{List, ℕ, ◌+◌, ◌*◌, ◌-◌, ◌%◌, get_or, leb}
use Rattle.theory_lists.specs.Place.{spot}
use Rattle.theory_lists.specs.Where.{where_true}
use Rattle.matrix_buffers.specs.Written.{CellsWritten}

-- the coefficient at degree t of x^e times f
abbrev pub raised : ℕ → (ℕ → ℕ) → ℕ → ℕ
raised e f t = where_true (leb e t) (f (t - e))

-- b became b': to each of `count` cells of b, c·x^e times a cell of s was added, modulo p, and no other place was written.
-- Cell i has its coefficient of degree t at `to i t`, and what is added to it stands at `from i t`.
abbrev pub CellsAdded : (p c e w count : ℕ) (to from : ℕ → ℕ → ℕ) (s b b' : List ℕ) → Type 0
CellsAdded p c e w count to from s b b' =
    CellsWritten w count to (λ i t. (get_or b (to i t) 0 + c * raised e (λ u. get_or s (from i u) 0) t) % p) b b'

-- the same of one cell, which starts at `to` in b, and one that starts at `from` in s
abbrev pub CellAdded : (p c e w to from : ℕ) (s b b' : List ℕ) → Type 0
CellAdded p c e w to from s b b' = CellsAdded p c e w 1 (λ _ t. to + t) (λ _ t. from + t) s b b'

-- row l of m cells has had c·x^e times row k added: "a step writes only the places of row l"
abbrev pub RowAdded : (p m w c e l k : ℕ) (b b' : List ℕ) → Type 0
RowAdded p m w c e l k b b' = CellsAdded p c e w m (spot m w l) (spot m w k) b b b'

-- column x of an n by n matrix has had c·x^e times column y added: "the inverse moves by columns"
abbrev pub ColumnAdded : (p n w c e x y : ℕ) (b b' : List ℕ) → Type 0
ColumnAdded p n w c e x y b b' = CellsAdded p c e w n (λ i. spot n w i x) (λ i. spot n w i y) b b b'
