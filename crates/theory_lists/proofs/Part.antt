-- The laws of a part of a list.
use mathlib.Core.Path.{◌≡◌, sym, ap, ◌∙◌}
use mathlib.Core.List.{List, ◌++◌}
use Prim.Native.Nat.{ℕ, ◌+◌, ◌-◌, ◌≤◌, ◌<◌}
use native.Mathlib.Omega.{arith}
use lib.ListN.{length, get_or, take, drop, length-append, length-take, length-drop, get_or-append}
use lib.Seq.{get_or-take, get_or-drop, get_or-append-add, length-take-le}
use Rattle.theory_lists.specs.Part.{part, on_part}

module _ (a n : ℕ) (l : List ℕ) (fits : a + n ≤ length l) where
  pub length_part : length (part a n l) ≡ n
  length_part = simp (length-take, length-drop) (omega arith)

  pub get_or-part : (i : ℕ) → i < n → get_or (part a n l) i 0 ≡ get_or l (a + i) 0
  get_or-part i h = get_or-take n (drop a l) i 0 h ∙ get_or-drop a l i 0

  -- l with g applied to the part, where g keeps the part's length
  module _ (g : List ℕ → List ℕ) (keeps : length (g (part a n l)) ≡ n) where
    front : length (take a l) ≡ a
    front = length-take-le a l (omega arith)

    pub length-on_part : length (on_part a n g l) ≡ length l
    unfolding on_part
    length-on_part = simp (length-append, length-take, length-drop, keeps) (omega arith)

    pub on_part-low : (i : ℕ) → i < a → get_or (on_part a n g l) i 0 ≡ get_or l i 0
    unfolding on_part
    on_part-low i h = get_or-append (take a l) _ 0 i (omega (arith, front)) ∙ get_or-take a l i 0 h

    pub on_part-in : (i : ℕ) → i < n → get_or (on_part a n g l) (a + i) 0 ≡ get_or (g (part a n l)) i 0
    unfolding on_part
    on_part-in i h =
        ap (λ (m : ℕ). get_or (on_part a n g l) (m + i) 0) (sym front)
        ∙ get_or-append-add (take a l) _ i 0
        ∙ get_or-append (g (part a n l)) _ 0 i (rw keeps h)

    pub on_part-high : (i : ℕ) → a + n ≤ i → get_or (on_part a n g l) i 0 ≡ get_or l i 0
    unfolding on_part
    on_part-high i h =
        let k = i - (a + n) in
        let split : i ≡ a + (n + k) = omega arith in
        ap (λ (m : ℕ). get_or (on_part a n g l) m 0) split
        ∙ ap (λ (m : ℕ). get_or (on_part a n g l) (m + (n + k)) 0) (sym front)
        ∙ get_or-append-add (take a l) _ (n + k) 0
        ∙ ap (λ (m : ℕ). get_or (g (part a n l) ++ drop n (drop a l)) (m + k) 0) (sym keeps)
        ∙ get_or-append-add (g (part a n l)) _ k 0
        ∙ get_or-drop n (drop a l) k 0
        ∙ get_or-drop a l (n + k) 0
        ∙ ap (λ (m : ℕ). get_or l m 0) (sym split)
