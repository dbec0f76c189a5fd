-- Cells that are written, in a part of a buffer that is lent, and one after the other.
use mathlib.Core.Path.{◌≡◌, refl, sym, ap, ◌∙◌}
use mathlib.Core.Logic.{◌≢◌}
use mathlib.Core.List.{List, ◌++◌}
use Prim.Native.Nat.{ℕ, suc, ◌+◌, ◌-◌, ◌≤◌, ◌<◌}
use native.Mathlib.Omega.{arith}
use lib.ListN.{length, get_or, take, drop}
use Rattle.theory_algebra.proofs.Cases.{case-le}
use Rattle.theory_lists.specs.Change.{imap}
use Rattle.theory_lists.specs.Part.{part, on_part}
use Rattle.theory_lists.proofs.Change.{length-imap, get_or-imap, get_or-past}
use Rattle.theory_lists.proofs.Part.{length_part, get_or-part, length-on_part, on_part-low, on_part-in, on_part-high}
use Rattle.matrix_buffers.specs.Written.{CellsWritten}

pub none_written : {w : ℕ} {at new : ℕ → ℕ → ℕ} {b : List ℕ} → CellsWritten w 0 at new b b
none_written = record { size = refl; written = λ i t l _. absurd (omega arith); others = λ _ _. refl }

-- the coefficients written may be worked out in another way
pub written_as : {w count : ℕ} {at new new' : ℕ → ℕ → ℕ} {b b' : List ℕ} → ((i t : ℕ) → i < count → t < w → new i t ≡ new' i t)
    → CellsWritten w count at new b b' → CellsWritten w count at new' b b'
written_as same d = record { size = d.size; written = λ i t li lt. d.written i t li lt ∙ same i t li lt; others = d.others }

-- n places from a on are lent, and cells in them are written: what is there when they come back
pub part-written : {w count : ℕ} {at new : ℕ → ℕ → ℕ} (a n : ℕ) (b l : List ℕ) → a + n ≤ length b → ((i t : ℕ) → i < count → t < w → at i t < n)
    → CellsWritten w count at new (part a n b) l → CellsWritten w count (λ i t. a + at i t) new b (take a b ++ (l ++ drop n (drop a b)))
unfolding on_part
part-written {at = at} a n b l fits inside d =
    let back : List ℕ → List ℕ = λ _. l in
    let keeps : length l ≡ n = d.size ∙ length_part a n b fits in
    record {
      size = length-on_part a n b fits back keeps;
      written = λ i t li lt. on_part-in a n b fits back keeps (at i t) (inside i t li lt) ∙ d.written i t li lt;
      others = λ x elsewhere. case-le a x
          (λ after. case-le (a + n) x
          (λ past. on_part-high a n b fits back keeps x past)
          (λ before. let here : x ≡ a + (x - a) = omega arith in
          rw here (on_part-in a n b fits back keeps (x - a) (omega arith)
          ∙ d.others (x - a) (λ i t li lt same. elsewhere i t li lt (here ∙ ap (λ (y : ℕ). a + y) same))
          ∙ get_or-part a n b fits (x - a) (omega arith))))
          (λ before. on_part-low a n b fits back keeps x before);
    }

-- the same where one cell is lent and changed by a rule
pub cell-changed : (f : ℕ → ℕ → ℕ) (a w : ℕ) (b : List ℕ) → a + w ≤ length b
    → CellsWritten w 1 (λ _ t. a + t) (λ _ t. f t (get_or b (a + t) 0)) b (take a b ++ (imap f (part a w b) ++ drop w (drop a b)))
cell-changed f a w b fits =
    let size : length (part a w b) ≡ w = length_part a w b fits in
    part-written a w b (imap f (part a w b)) fits (λ _ _ _ lt. lt) (record {
      size = length-imap f (part a w b);
      written = λ _ t _ lt. get_or-imap f (part a w b) t (omega arith) ∙ ap (f t) (get_or-part a w b fits t lt);
      others = λ x elsewhere. case-le w x
          (λ past. get_or-past (imap f (part a w b)) x (omega (arith, length-imap f (part a w b))) ∙ sym (get_or-past (part a w b) x (omega arith)))
          (λ inside. absurd (elsewhere 0 x (omega arith) inside refl));
    })

-- the places of a cell from n on may be left, where they have what would be written
pub rest-kept : (w a n : ℕ) (new : ℕ → ℕ) (b b' : List ℕ) → n ≤ w → ((t : ℕ) → n ≤ t → t < w → get_or b (a + t) 0 ≡ new t)
    → CellsWritten n 1 (λ _ t. a + t) (λ _. new) b b' → CellsWritten w 1 (λ _ t. a + t) (λ _. new) b b'
rest-kept w a n new b b' enough rest d = record {
  size = d.size;
  written = λ _ t _ lt. case-le n t
      (λ past. d.others _ (λ _ u _ lu. omega arith) ∙ rest t past lt)
      (λ before. d.written 0 t (omega arith) before);
  others = λ x elsewhere. d.others x (λ _ t _ lt. elsewhere 0 t (omega arith) (omega arith));
}

-- `at i` is the next cell, after i cells that are written, and has no place of theirs
module _ {w i : ℕ} {at new : ℕ → ℕ → ℕ} {b₀ b : List ℕ} (apart : (j t u : ℕ) → j < i → t < w → u < w → at j t ≢ at i u)
    (now : CellsWritten w i at new b₀ b) where
  -- it is as it was
  pub next-kept : (t : ℕ) → t < w → get_or b (at i t) 0 ≡ get_or b₀ (at i t) 0
  next-kept t lt = now.others _ (λ j u lj lu q. apart j u t lj lu lt (sym q))

  pub next-written : {b' : List ℕ} → CellsWritten w 1 (λ _. at i) (λ _. new i) b b' → CellsWritten w (i + 1) at new b₀ b'
  next-written cell = record {
    size = cell.size ∙ now.size;
    written = λ j t lj lt. case-le (suc j) i
        (λ before. cell.others _ (λ _ u _ lu. apart j t u before lt lu) ∙ now.written j t before lt)
        (λ from-i. let here : j ≡ i = omega arith in rw here (cell.written 0 t (omega arith) lt));
    others = λ x elsewhere. cell.others x (λ _ t _ lt. elsewhere i t (omega arith) lt) ∙ now.others x (λ j t lj lt. elsewhere j t (omega arith) lt);
  }

-- where a loop stands that writes `count` cells, one after the other: it has come to i, and the buffer is now b
pub record Writing (w count : ℕ) (at new : ℕ → ℕ → ℕ) (b₀ b : List ℕ) (i : ℕ) : Type 0 where
  pub reached : i ≤ count
  pub done : CellsWritten w i at new b₀ b

pub writing_start : {w count : ℕ} {at new : ℕ → ℕ → ℕ} {b : List ℕ} → Writing w count at new b b 0
writing_start = record { reached = omega arith; done = none_written }

-- one turn: what the cell's operation writes, by the buffer as it is now, is `new` of the buffer as it was before the loop
pub writing-turn : {w count i : ℕ} {at new : ℕ → ℕ → ℕ} {found : ℕ → ℕ} {b₀ b b' : List ℕ} → Writing w count at new b₀ b i → i < count
    → ((j t u : ℕ) → j < i → t < w → u < w → at j t ≢ at i u) → ((t : ℕ) → t < w → found t ≡ new i t)
    → CellsWritten w 1 (λ _. at i) (λ _. found) b b' → Writing w count at new b₀ b' (i + 1)
writing-turn now li apart same cell = record {
  reached = omega arith;
  done = next-written apart now.done (written_as (λ _ t _ lt. same t lt) cell);
}
