-- A loop that reads numbers with their marks into lent room.
use Prim.Native.Nat.{ℕ, suc, ◌+◌, ◌-◌, ◌≤◌, ◌<◌}
use mathlib.Core.Path.{◌≡◌, refl, sym, ap, ◌∙◌}
use mathlib.Core.Bool.{true, false, ◌&&◌}
use mathlib.Core.List.{List, [], ◌∷◌, ◌++◌, append-nil}
use native.Mathlib.Numerals.{add-one}
use native.Mathlib.Omega.{arith}
use lib.Dec.{eqb}
use lib.ListN.{length, take, drop, set}
use lib.Seq.{take_all, take-suc-set}
use Rattle.std.specs.Cmp.Lexicographic.{pointwise}
use Rattle.printer_format.specs.Number.{got, bad, number}
use Rattle.printer_format.specs.Line.{mark, starts_with, prefixed, numbers}
use Rattle.printer_format.proofs.Line.{prefixed-append, numbers-next, numbers-unmarked, numbers-bad}

-- a key is stripped from a text that begins with it
pub strips : (key s : List ℕ) → pointwise eqb (take (length key) s) key ≡ starts_with key s
unfolding starts_with
strips [] s = refl
strips (k ∷ key) [] = refl
strips (k ∷ key) (b ∷ s) = ap (λ x. eqb b k && x) (strips key s)

-- the first k of count numbers stand in the room, and the others are read from what is left
abbrev pub Filling : (s : List ℕ) (count k : ℕ) (rest room : List ℕ) → Type 0
Filling s count k rest room = numbers count s ≡ prefixed (take k room) (numbers (count - k) rest)

module _ (s : List ℕ) (count k : ℕ) (rest room : List ℕ) (r : Filling s count k rest room) where
  pub filling_end : length room ≡ count → count ≤ k → numbers count s ≡ got room rest
  unfolding numbers
  filling_end size h =
      let none : count - k ≡ 0 = omega arith in
      r ∙ rw (none, take_all k room (omega arith)) (rw append-nil)

  module _ (before : k < count) where
    left : count - k ≡ suc (count - k - 1)
    left = omega arith

    pub filling_bad : number rest ≡ bad → numbers count s ≡ bad
    filling_bad e = r ∙ rw (left, numbers-bad _ _ e)

    module _ (v : ℕ) (after : List ℕ) (e : number rest ≡ got v after) where
      pub filling_unmarked : (m : List ℕ) → m ≡ mark (count - k - 1) ∷ [] → pointwise eqb (take (length m) after) m ≡ false → numbers count s ≡ bad
      filling_unmarked m is h = r ∙ rw (left, numbers-unmarked _ _ _ _ e (rw is at (sym (strips m after) ∙ h)))

      pub filling_turn : length room ≡ count → (m : List ℕ) → m ≡ mark (count - k - 1) ∷ [] → pointwise eqb (take (length m) after) m ≡ true
          → Filling s count (k + 1) (drop (length m) after) (set room k v)
      filling_turn size m is h =
          let one_less : count - k - 1 ≡ count - (k + 1) = omega arith in
          let others = numbers (count - (k + 1)) (drop 1 after) in
          let here : numbers (count - k) rest ≡ prefixed (v ∷ []) others =
          rw left (numbers-next _ _ _ _ e (rw is at (sym (strips m after) ∙ h)) ∙ rw one_less) in
          let more : take k room ++ (v ∷ []) ≡ take (k + 1) (set room k v) = rw add-one (sym (take-suc-set room k v (omega arith))) in
          rw is (r ∙ ap (prefixed (take k room)) here ∙ sym (prefixed-append (take k room) (v ∷ []) others)
          ∙ ap (λ (l : List ℕ). prefixed l others) more)
