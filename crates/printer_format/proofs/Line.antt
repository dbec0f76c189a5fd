-- The laws of lines: how a reader goes on, number by number and line by line.
use Prim.Native.Nat.{ℕ, suc}
use mathlib.Core.Path.{◌≡◌, refl, ap}
use mathlib.Core.Bool.{true, false}
use mathlib.Core.List.{List, [], ◌∷◌, ◌++◌, append_assoc}
use lib.ListN.{drop}
use Rattle.printer_format.specs.Number.{Got, got, bad, number}
use Rattle.printer_format.specs.Line.{mark, starts_with, prefixed, numbers, Lines, read, wrong, behind, read_lines}

-- ## Numbers

pub prefixed-append : (k l : List ℕ) (g : Got (List ℕ)) → prefixed (k ++ l) g ≡ prefixed k (prefixed l g)
prefixed-append k l (got m s) = ap (λ (x : List ℕ). got x s) (append_assoc k l m)
prefixed-append k l bad = refl

module _ (left : ℕ) (s : List ℕ) where
  pub numbers-bad : number s ≡ bad → numbers (suc left) s ≡ bad
  unfolding numbers
  numbers-bad e = rw e

  module _ (v : ℕ) (t : List ℕ) (e : number s ≡ got v t) where
    pub numbers-unmarked : starts_with (mark left ∷ []) t ≡ false → numbers (suc left) s ≡ bad
    unfolding numbers
    numbers-unmarked m = rw e (rw m)

    -- a number and its mark are passed
    pub numbers-next : starts_with (mark left ∷ []) t ≡ true → numbers (suc left) s ≡ prefixed (v ∷ []) (numbers left (drop 1 t))
    unfolding numbers
    numbers-next m = rw e (rw m)

-- ## Lines

pub behind-append : (k l : List ℕ) (x : Lines) → behind (k ++ l) x ≡ behind k (behind l x)
behind-append k l (read m s) = ap (λ (x : List ℕ). read x s) (append_assoc k l m)
behind-append k l (wrong c) = refl

module _ (reader : ℕ → List ℕ → Got (List ℕ)) (count c : ℕ) (s : List ℕ) where
  pub lines-wrong : reader c s ≡ bad → read_lines reader (suc count) c s ≡ wrong c
  unfolding read_lines
  lines-wrong e = rw e

  -- a line is passed
  pub lines_next : (l t : List ℕ) → reader c s ≡ got l t → read_lines reader (suc count) c s ≡ behind l (read_lines reader count (suc c) t)
  unfolding read_lines
  lines_next l t e = rw e
