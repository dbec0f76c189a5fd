-- The laws of the places.
use mathlib.Core.Path.{◌≡◌, refl, sym, ap, ◌∙◌}
use mathlib.Core.Logic.{◌≢◌}
use Prim.Native.Nat.{ℕ, suc, ◌+◌, ◌*◌, ◌/◌, ◌%◌, ◌≤◌, ◌<◌}
use native.Mathlib.Omega.{arith}
use native.Mathlib.Nat as N
use Rattle.theory_algebra.proofs.Cases.{case-le}
use Rattle.theory_lists.proofs.Grid.{line-end, within}
use Rattle.theory_lists.specs.Place.{place_in_row, spot, spaced, Hit, Layout}

-- a place tells its block and its place in the block
pub block-own : (s i r i' r' : ℕ) → r < s → r' < s → i * s + r ≡ i' * s + r' → (i ≡ i') × (r ≡ r')
block-own s i r i' r' h h' e = case-le (suc i) i'
    (λ less. absurd (omega (arith, line-end i i' s less)))
    (λ from. case-le (suc i') i
    (λ more. absurd (omega (arith, line-end i' i s more)))
    (λ to. let q : i ≡ i' = omega arith in (q, omega (arith, ap (λ y. y * s) q))))

pub spot-inside : (n m w i j t : ℕ) → i < n → j < m → t < w → spot m w i j t < n * (m * w)
spot-inside n m w i j t li lj lt = omega (arith, line-end i n (m * w) li, within j t m w lj lt)

-- a place tells its row, its column and its degree
pub spot-own : (m w i j t i' j' t' : ℕ) → j < m → t < w → j' < m → t' < w → spot m w i j t ≡ spot m w i' j' t'
    → (i ≡ i') × ((j ≡ j') × (t ≡ t'))
spot-own m w i j t i' j' t' lj lt lj' lt' e =
    let (row, rest) = block-own (m * w) i (place_in_row w j t) i' (place_in_row w j' t') (within j t m w lj lt) (within j' t' m w lj' lt') e in
    (row, block-own w j t j' t' lt lt' rest)

-- cells at distances of at least their size have no place in common
pub spaced-apart : {w stride : ℕ} (start : ℕ) → w ≤ stride → (i j t u : ℕ) → j < i → t < w → u < w → spaced start stride j t ≢ spaced start stride i u
spaced-apart {stride = stride} start wide i j t u lj lt lu same = omega (arith, line-end j i stride lj)

-- row i ends within an n by n matrix, and the cell of column x within its row
pub cell-ends : {n i x : ℕ} (w : ℕ) → i < n → x < n → (i * (n * w) + n * w ≤ n * (n * w)) × (x * w + w ≤ n * w)
cell-ends {n} {i} {x} w li lx = (line-end i n (n * w) li, line-end x n w lx)

-- every place of n blocks has its block and its place in the block
block-hit : (n s x : ℕ) → x < n * s → ((x / s < n) × (x % s < s)) × (x / s * s + x % s ≡ x)
block-hit n s x l = (((N.div-lt_iff_lt-mul some).1 l, N.mod-lt x some), N.div-add-mod' x s)
  where
    some : 0 < s
    some = N.pos_of_ne-zero (λ z. let e : n * s ≡ 0 = ap (λ y. n * y) z ∙ N.mul-zero n in omega arith)

pub spot-hit : (n m w x : ℕ) → x < n * (m * w) → Hit n m w (spot m w) x
spot-hit n m w x l =
    let ((row_fits, in_row), is_row) = block-hit n (m * w) x l in
    let ((col_fits, deg_fits), is-cell) = block-hit m w (x % (m * w)) in_row in
    record {
      row = x / (m * w);
      col = x % (m * w) / w;
      deg = x % (m * w) % w;
      row_fits = row_fits;
      col_fits = col_fits;
      deg_fits = deg_fits;
      same = ap (λ y. x / (m * w) * (m * w) + y) is-cell ∙ is_row;
    }

-- so that the layout of paper 01 is one
pub spot-told : {n m w x : ℕ} (a b : Hit n m w (spot m w) x) → (a.row ≡ b.row) × ((a.col ≡ b.col) × (a.deg ≡ b.deg))
spot-told {m = m} {w = w} a b = spot-own m w _ _ _ _ _ _ a.col_fits a.deg_fits b.col_fits b.deg_fits (a.same ∙ sym b.same)

-- in every layout a place tells its row
module _ {n m w : ℕ} (L : Layout n m w) where
  abbrev hit : (i j t : ℕ) → i < n → j < m → t < w → {x : ℕ} → L.spot i j t ≡ x → Hit n m w L.spot x
  hit i j t li lj lt same = record { row = i; col = j; deg = t; row_fits = li; col_fits = lj; deg_fits = lt; same = same }

  pub own_row : (i j t i' j' t' : ℕ) → i < n → j < m → t < w → i' < n → j' < m → t' < w → L.spot i j t ≡ L.spot i' j' t' → i ≡ i'
  own_row i j t i' j' t' li lj lt li' lj' lt' same = (L.own _ (hit i j t li lj lt same) (hit i' j' t' li' lj' lt' refl)).0

abbrev turned-hit : {n m w : ℕ} {spot : ℕ → ℕ → ℕ → ℕ} {x : ℕ} → Hit n m w spot x → Hit m n w (λ j i t. spot i j t) x
turned-hit h =
    record { row = h.col; col = h.row; deg = h.deg; row_fits = h.col_fits; col_fits = h.row_fits; deg_fits = h.deg_fits; same = h.same }

-- the same places with the columns as rows
abbrev pub turned : {n m w : ℕ} → Layout n m w → Layout m n w
turned {n} {m} {w} L = record {
  spot = λ j i t. L.spot i j t;
  within = λ j i t lj li lt. rw (N.mul_left_comm m n w) (L.within i j t li lj lt);
  own = λ x a b. let (row, (col, deg)) = L.own x (turned-hit a) (turned-hit b) in (col, (row, deg));
  hits = λ x l. turned-hit (L.hits x (rw (N.mul_left_comm n m w) l));
}
