-- The identity in a buffer.
use Rattle.std.specs.Prelude.{◌≡◌, ◌≢◌, List, ℕ, ◌*◌, ◌<◌, length, get_or}
use Rattle.theory_lists.specs.Place.{spot}

-- b has the room of an n by n matrix, 1 as the constant term of the first `count` diagonal cells, and 0 at every other place
pub record Ones (n w count : ℕ) (b : List ℕ) : Type 0 where
  pub size : length b ≡ n * (n * w)
  pub one : (i : ℕ) → i < count → get_or b (spot n w i i 0) 0 ≡ 1
  pub others : (x : ℕ) → ((i : ℕ) → i < count → x ≢ spot n w i i 0) → get_or b x 0 ≡ 0

-- the identity: all of them
abbrev pub Diagonal : (n w : ℕ) (b : List ℕ) → Type 0
Diagonal n w b = Ones n w n b
