-- What is said of the places written leaves one content of a buffer: "equality of any two answers that satisfy the promise is itself
-- proved".
use mathlib.Core.Path.{◌≡◌, sym, ◌∙◌}
use mathlib.Core.Logic.{◌≢◌}
use mathlib.Core.List.{List}
use Prim.Native.Nat.{ℕ, ◌<◌}
use native.Mathlib.Decide.{ℕ_discrete}
use lib.ListN.{length, get_or}
use lib.Seq.{ext_get_or}
use Rattle.theory_lists.specs.Place.{spot, Outside}
use Rattle.matrix_buffers.specs.Written.{CellsWritten}
use Rattle.matrix_buffers.specs.Exchanged.{CellsExchanged}
use Rattle.matrix_buffers.specs.Diagonal.{Diagonal}

-- two lists of one length are equal where no place can differ
no_difference : (l l' : List ℕ) → length l ≡ length l' → ((x : ℕ) → get_or l x 0 ≢ get_or l' x 0 → get_or l x 0 ≡ get_or l' x 0) → l ≡ l'
no_difference l l' size none =
    ext_get_or 0 l l' size (λ x _. elim (ℕ_discrete (get_or l x 0) (get_or l' x 0)) [ yes same ↦ same | no other ↦ none x other ])

-- a place that differs is no spot of a cell, so that it is as it was before
pub written-unique : {w count : ℕ} {at new : ℕ → ℕ → ℕ} {b b₁ b₂ : List ℕ}
    → CellsWritten w count at new b b₁ → CellsWritten w count at new b b₂ → b₁ ≡ b₂
written-unique {w} {count} {at} d₁ d₂ = no_difference _ _ (d₁.size ∙ sym d₂.size) (λ x other.
    let outside : Outside w count at x = λ i t li lt here. other (rw here (d₁.written i t li lt ∙ sym (d₂.written i t li lt))) in
    d₁.others x outside ∙ sym (d₂.others x outside))

pub exchanged-unique : {w count : ℕ} {one another : ℕ → ℕ → ℕ} {b b₁ b₂ : List ℕ}
    → CellsExchanged w count one another b b₁ → CellsExchanged w count one another b b₂ → b₁ ≡ b₂
exchanged-unique {w} {count} {one} {another} d₁ d₂ = no_difference _ _ (d₁.size ∙ sym d₂.size) (λ x other.
    let not-one : Outside w count one x =
    λ i t li lt here. other (rw here ((d₁.exchanged i t li lt).0 ∙ sym (d₂.exchanged i t li lt).0)) in
    let not-another : Outside w count another x =
    λ i t li lt here. other (rw here ((d₁.exchanged i t li lt).1 ∙ sym (d₂.exchanged i t li lt).1)) in
    d₁.others x not-one not-another ∙ sym (d₂.others x not-one not-another))

pub diagonal-unique : {n w : ℕ} {b₁ b₂ : List ℕ} → Diagonal n w b₁ → Diagonal n w b₂ → b₁ ≡ b₂
diagonal-unique {n} {w} d₁ d₂ = no_difference _ _ (d₁.size ∙ sym d₂.size) (λ x other.
    let outside : (i : ℕ) → i < n → x ≢ spot n w i i 0 = λ i li here. other (rw here (d₁.one i li ∙ sym (d₂.one i li))) in
    d₁.others x outside ∙ sym (d₂.others x outside))
