-- Cells that change places with other cells of the same buffer.
use Rattle.std.specs.Prelude.{◌≡◌, List, ℕ, ◌+◌, ◌<◌, length, get_or}
use Rattle.theory_lists.specs.Place.{spot, Outside}

-- b became b': each of `count` pairs of cells of w places changed places, and no other place was written.
-- The cells of pair i have their coefficients of degree t at `one i t` and at `other i t`.
pub record CellsExchanged (w count : ℕ) (one other : ℕ → ℕ → ℕ) (b b' : List ℕ) : Type 0 where
  pub size : length b' ≡ length b
  pub exchanged : (i t : ℕ) → i < count → t < w
      → (get_or b' (one i t) 0 ≡ get_or b (other i t) 0) × (get_or b' (other i t) 0 ≡ get_or b (one i t) 0)
  pub others : (x : ℕ) → Outside w count one x → Outside w count other x → get_or b' x 0 ≡ get_or b x 0

-- the same of one pair of cells, which start at `one` and at `other`
abbrev pub CellExchanged : (w one other : ℕ) (b b' : List ℕ) → Type 0
CellExchanged w one other b b' = CellsExchanged w 1 (λ _ t. one + t) (λ _ t. other + t) b b'

-- rows i and j of m cells changed places
abbrev pub RowsExchanged : (m w i j : ℕ) (b b' : List ℕ) → Type 0
RowsExchanged m w i j b b' = CellsExchanged w m (spot m w i) (spot m w j) b b'

-- columns x and y of an n by n matrix changed places
abbrev pub ColumnsExchanged : (n w x y : ℕ) (b b' : List ℕ) → Type 0
ColumnsExchanged n w x y b b' = CellsExchanged w n (λ i. spot n w i x) (λ i. spot n w i y) b b'
