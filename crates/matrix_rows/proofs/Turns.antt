-- The cells of a row or column that are multiplied, or added to those of another, one after the other.
use native.Mathlib.Omega.{arith}
use mathlib.Core.Path.{◌≡◌, sym, ap, ap₂, ◌∙◌}
use mathlib.Core.Logic.{◌≢◌}
use mathlib.Core.List.{List}
use Prim.Native.Nat.{ℕ, ◌+◌, ◌*◌, ◌-◌, ◌%◌, ◌<◌}
use lib.ListN.{length, get_or}
use lib.Dec.{leb}
use Rattle.theory_lists.specs.Where.{where_true}
use Rattle.theory_lists.proofs.Place.{spaced-apart}
use Rattle.matrix_buffers.specs.Added.{CellsAdded, CellAdded}
use Rattle.matrix_buffers.specs.Scaled.{CellsScaled, CellScaled}
use Rattle.matrix_buffers.proofs.CellByCell.{next-kept, writing-turn}
use Rattle.matrix_rows.specs.Cells.{place}
use Rattle.matrix_rows.specs.Asked.{InBuffer, Pairs, TwoParts, CellPair, CellPairs}
use Rattle.matrix_rows.specs.declared.cells.Cells.{Cells}

-- cell i, after i cells that are multiplied
module _ (p c : ℕ) {cells : Cells} {b₀ : List ℕ} (asked : InBuffer cells.w cells.count cells b₀) {i : ℕ} {b : List ℕ}
    (done : CellsScaled p c cells.w i (place cells) b₀ b) where
  apart : (j t u : ℕ) → j < i → t < cells.w → u < cells.w → place cells j t ≢ place cells i u
  apart = spaced-apart cells.first asked.distance i

  pub scale-turn : {b' : List ℕ} → CellScaled p c cells.w (cells.first + i * cells.stride) b b' → CellsScaled p c cells.w (i + 1) (place cells) b₀ b'
  scale-turn cell =
      (writing-turn {count = i + 1} (record { reached = omega arith; done = done }) (omega arith) apart
      (λ t lt. ap (λ (y : ℕ). c * y % p) (next-kept apart done t lt)) cell).done

-- the cells of pair i are two parts of the buffer as it is now
pub parts : {one other : Cells} {b₀ b : List ℕ} → Pairs one other b₀ → length b ≡ length b₀ → {i : ℕ} → i < one.count
    → TwoParts one.w (one.first + i * one.stride) (other.first + i * other.stride) b
parts pairs size {i} li = record {
  one_fits = omega (arith, pairs.one_fits.fits i li);
  other_fits = omega (arith, pairs.other_fits.fits i li);
  apart = λ t u. pairs.apart i i t u li li;
}

-- pair i, after i pairs that are added
module _ {p c e top : ℕ} {to from : Cells} {b₀ : List ℕ} (asked : CellPairs p c e top to from b₀) {i : ℕ} {b : List ℕ}
    (done : CellsAdded p c e to.w i (place to) (place from) b₀ b₀ b) (li : i < to.count) where
  away : (j t u : ℕ) → j < i → t < to.w → u < to.w → place to j t ≢ place to i u
  away = spaced-apart to.first asked.pairs.one_fits.distance i

  -- the cell that is added to is as it was, and so is the cell that is read
  target : (t : ℕ) → t < to.w → get_or b (place to i t) 0 ≡ get_or b₀ (place to i t) 0
  target = next-kept away done

  source : (u : ℕ) → u < to.w → get_or b (place from i u) 0 ≡ get_or b₀ (place from i u) 0
  source u lu = done.others _ (λ j t lj lt same. asked.pairs.apart j i t u (omega arith) li lt lu (sym same))

  pub add-asked : CellPair p c e to.w top (to.first + i * to.stride) (from.first + i * from.stride) b
  add-asked =
      let to_fits = asked.pairs.one_fits.fits i li in
      let from_fits = asked.pairs.other_fits.fits i li in
      record {
        multiplier = asked.multiplier;
        parts = parts asked.pairs done.size li;
        to_residues = λ t lt. rw (target t lt) (asked.residues.below _ (omega arith));
        from_residues = λ t lt. rw (source t lt) (asked.residues.below _ (omega arith));
        short = record { zero = λ _ t _ lo lt. source t lt ∙ asked.short.zero i t li lo lt };
      }

  pub add-turn : {b' : List ℕ} → CellAdded p c e to.w (to.first + i * to.stride) (from.first + i * from.stride) b b b'
      → CellsAdded p c e to.w (i + 1) (place to) (place from) b₀ b₀ b'
  add-turn cell =
      (writing-turn {count = to.count} (record { reached = omega arith; done = done }) li away
      (λ t lt. ap₂ (λ (x y : ℕ). (x + c * where_true (leb e t) y) % p) (target t lt) (source (t - e) (omega arith))) cell).done
