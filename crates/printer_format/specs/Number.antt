-- Numbers in a text: how they are written, and how they are read. A text is the list of its bytes.
use Rattle.std.specs.Prelude.{ℕ, zero, suc, ◌+◌, ◌*◌, ◌-◌, ◌/◌, ◌%◌, Bool, cond, ◌&&◌, ◌||◌, List, [], ◌∷◌, ◌++◌, length, get_or, drop, leb, ltb, eqb}

-- the byte of a digit
abbrev pub digit : ℕ → ℕ
digit v = 48 + v

-- ## Writing

-- a number in decimal, by at most k digits
unfoldable pub decimal_by : ℕ → ℕ → List ℕ
decimal_by zero v = []
decimal_by (suc k) v = cond (ltb v 10) (digit v ∷ []) (decimal_by k (v / 10) ++ (digit (v % 10) ∷ []))

-- a number in decimal: all its digits, with no needless zero in front
unfoldable pub decimal : ℕ → List ℕ
decimal v = decimal_by (suc v) v

-- ## Reading

-- what a text begins with and the text that follows it, or that it begins with nothing of the kind asked for
pub data Got (A : Type 0) : Type 0 where
  got : A → List ℕ → Got A
  bad : Got A

-- a byte that is a digit
abbrev pub is_digit : ℕ → Bool
is_digit b = leb (digit 0) b && leb b (digit 9)

-- the digits that a text begins with, all of them
unfoldable pub digits_of : List ℕ → List ℕ
digits_of [] = []
digits_of (b ∷ s) = cond (is_digit b) (b ∷ digits_of s) []

-- what digits stand for, after digits that stand for v
unfoldable pub value_from : ℕ → List ℕ → ℕ
value_from v [] = v
value_from v (b ∷ w) = value_from (v * 10 + (b - digit 0)) w

abbrev pub value_of : List ℕ → ℕ
value_of w = value_from 0 w

-- "no needless leading zero; 0 itself is written 0"
abbrev pub is_plain : List ℕ → Bool
is_plain w = eqb (length w) 1 || ltb (digit 0) (get_or w 0 0)

-- "Numbers have 1 to 5 digits, a value up to 65,535, and no needless leading zero"
unfoldable pub is_number : List ℕ → Bool
is_number w = leb 1 (length w) && leb (length w) 5 && is_plain w && leb (value_of w) 65535

-- the number that a text begins with
unfoldable pub number : List ℕ → Got ℕ
number s = cond (is_number (digits_of s)) (got (value_of (digits_of s)) (drop (length (digits_of s)) s)) bad
