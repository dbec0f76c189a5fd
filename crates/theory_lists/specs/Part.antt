-- A part of a list: n elements from index a on.
use Rattle.std.specs.Prelude.{ℕ, List, ◌++◌, take, drop}

abbrev pub part : ℕ → ℕ → List ℕ → List ℕ
part a n l = take n (drop a l)

-- l with g applied to that part, and the rest as it is: what a part that was lent leaves behind
unfoldable pub on_part : ℕ → ℕ → (List ℕ → List ℕ) → List ℕ → List ℕ
on_part a n g l = take a l ++ (g (part a n l) ++ drop n (drop a l))
