-- The loops that write: what a turn writes, and what it leaves.
use Prim.Native.Nat.{ℕ, suc, ◌+◌, ◌-◌, ◌*◌, ◌≤◌, ◌<◌}
use mathlib.Core.Path.{◌≡◌}
use mathlib.Core.List.{List, [], ◌∷◌, ◌++◌, append_assoc}
use native.Mathlib.Numerals.{add-one}
use native.Mathlib.Nat.{suc-mul}
use native.Mathlib.Omega.{arith}
use lib.ListN.{length, get_or, take, drop, length-drop, drop_of_length-le}
use lib.Seq.{drop-drop, drop-cons}
use Rattle.printer_format.specs.Number.{decimal}
use Rattle.printer_format.specs.Line.{mark, row, line, lines}

-- numbers with their marks
module _ (l : List ℕ) (k : ℕ) where
  pub row_next : k < length l → row (drop k l) ≡ (decimal (get_or l k 0) ++ (mark (length l - k - 1) ∷ [])) ++ row (drop (k + 1) l)
  unfolding row
  row_next h =
      let size : length (drop (suc k) l) ≡ length l - k - 1 = simp length-drop (omega arith) in
      rw (drop-cons l k 0 h, size, add-one, append_assoc)

  pub row-end : length l ≤ k → row (drop k l) ≡ []
  unfolding row
  row-end h = rw (drop_of_length-le l h)

-- lines
module _ (key : ℕ → List ℕ) (width count c : ℕ) where
  pub lines_next : (l : List ℕ) → c < count → lines key width (count - c) c (drop (c * width) l)
      ≡ line (key c) (take (c * width + width - c * width) (drop (c * width) l)) ++ lines key width (count - (c + 1)) (c + 1) (drop ((c + 1) * width) l)
  unfolding lines
  lines_next l h =
      let left : count - c ≡ suc (count - (c + 1)) = omega arith in
      let size : c * width + width - c * width ≡ width = omega arith in
      let behind : (c + 1) * width ≡ c * width + width = omega (arith, suc-mul c width, add-one c) in
      rw (left, size, behind, add-one, drop-drop)

  pub lines_end : (l : List ℕ) → count ≤ c → lines key width (count - c) c l ≡ []
  unfolding lines
  lines_end l h = let none : count - c ≡ 0 = omega arith in rw none
