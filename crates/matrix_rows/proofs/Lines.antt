-- The cells of rows and of columns.
use mathlib.Core.Path.{◌≡◌, fun_ext, subst, subst₂}
use mathlib.Core.Logic.{◌≢◌}
use mathlib.Core.List.{List}
use Prim.Native.Nat.{ℕ, ◌*◌, ◌<◌}
use native.Mathlib.Omega.{arith}
use lib.ListN.{length}
use Rattle.theory_lists.proofs.Grid.{line-end}
use Rattle.theory_lists.specs.Place.{spot}
use Rattle.theory_lists.proofs.Place.{cell-ends, spot-own}
use Rattle.matrix_buffers.specs.Added.{CellsAdded}
use Rattle.matrix_buffers.specs.Exchanged.{CellsExchanged}
use Rattle.matrix_buffers.specs.Scaled.{CellsScaled}
use Rattle.matrix_rows.specs.Cells.{row, column, place}
use Rattle.matrix_rows.specs.Asked.{InBuffer, Pairs, CellPairs, OneRow, TwoRows, OneColumn, TwoColumns, RowsInBuffer, ColumnsInBuffer}

-- a row and two rows
row-in : {m w i : ℕ} {b : List ℕ} → OneRow m w i b → InBuffer w m (row m w i) b
row-in {m} {w} asked = record { fits = λ j lj. omega (arith, asked.fits, line-end j m w lj); distance = omega arith }

pub two-rows : {n m w i j : ℕ} {b : List ℕ} → length b ≡ n * (m * w) → i < n → j < n → i ≢ j → TwoRows m w i j b
two-rows {n} {m} {w} {i} {j} size li lj differ = record {
  i_fits = omega (arith, line-end i n (m * w) li);
  j_fits = omega (arith, line-end j n (m * w) lj);
  differ = differ;
}

pub rows-paired : {m w i j : ℕ} {b : List ℕ} → TwoRows m w i j b → Pairs (row m w i) (row m w j) b
rows-paired {m} {w} {i} {j} rows = record {
  one_fits = row-in (record { fits = rows.i_fits });
  other_fits = row-in (record { fits = rows.j_fits });
  apart = λ x y t u lx ly lt lu meet. rows.differ (spot-own m w i x t j y u lx lt ly lu (omega arith)).0;
}

-- a column and two columns
pub column-in : {n w x : ℕ} {b : List ℕ} → OneColumn n w x b → InBuffer w n (column n w x) b
column-in {w = w} asked = record {
  fits = λ i li. omega (arith, asked.size, cell-ends w li asked.x_fits);
  distance = omega (arith, cell-ends w asked.x_fits asked.x_fits);
}

pub columns-paired : {n w x y : ℕ} {b : List ℕ} → TwoColumns n w x y b → Pairs (column n w x) (column n w y) b
columns-paired {n} {w} {x} {y} columns = record {
  one_fits = column-in (record { size = columns.size; x_fits = columns.x_fits });
  other_fits = column-in (record { size = columns.size; x_fits = columns.y_fits });
  apart = λ i j t u li lj lt lu meet. columns.differ (spot-own n w i x t j y u columns.x_fits lt columns.y_fits lu (omega arith)).1.0;
}

-- their places
pub row-places : (m w i : ℕ) → place (row m w i) ≡ spot m w i
row-places m w i = fun_ext (λ j. fun_ext (λ t. omega arith))

pub column-places : (n w x : ℕ) → ◌≡◌ {A = ℕ → ℕ → ℕ} (place (column n w x)) (λ i. spot n w i x)
column-places n w x = fun_ext (λ i. fun_ext (λ t. omega arith))

-- and what is added asks no more of their cells
pub row-pairs : {p c e m w top l k : ℕ} {b : List ℕ} → RowsInBuffer p c e m w top l k b → CellPairs p c e top (row m w l) (row m w k) b
row-pairs asked = record {
  multiplier = asked.multiplier;
  pairs = rows-paired asked.rows;
  residues = asked.residues;
  short = rw row-places asked.short;
}

pub column-pairs : {p c e n w top x y : ℕ} {b : List ℕ} → ColumnsInBuffer p c e n w top x y b
    → CellPairs p c e top (column n w x) (column n w y) b
column-pairs asked = record {
  multiplier = asked.multiplier;
  pairs = columns-paired asked.columns;
  residues = asked.residues;
  short = rw column-places asked.short;
}

-- what is done to cells by their places is done to the row or column whose places they are
module _ {one other at at' : ℕ → ℕ → ℕ} (one-at : one ≡ at) (other-at : other ≡ at') where
  pub added-at : (p c e w n : ℕ) (b b' : List ℕ) → CellsAdded p c e w n one other b b b' → CellsAdded p c e w n at at' b b b'
  added-at p c e w n b b' = subst₂ (λ to from. CellsAdded p c e w n to from b b b') one-at other-at

  pub exchanged-at : (w n : ℕ) (b b' : List ℕ) → CellsExchanged w n one other b b' → CellsExchanged w n at at' b b'
  exchanged-at w n b b' = subst₂ (λ x y. CellsExchanged w n x y b b') one-at other-at

pub scaled-at : {cells at : ℕ → ℕ → ℕ} → cells ≡ at → (p c w n : ℕ) (b b' : List ℕ) → CellsScaled p c w n cells b b' → CellsScaled p c w n at b b'
scaled-at cells-at p c w n b b' = subst (λ x. CellsScaled p c w n x b b') cells-at
