-- Paper 01's examples W1 to W12. The numbers of an example stand in the order p, n, m, d. Where the paper leaves some of them open, the
-- example is stated of all for which it is meant.
use Rattle.std.specs.Prelude.{◌≡◌, List, [], ◌∷◌, ◌++◌, ℕ, zero, suc, ◌+◌, ◌≤◌, ◌<◌, length, get_or}
use Rattle.theory_algebra.specs.Modulus.{Accepted}
use Rattle.matrix_promises.specs.Refused.{InShape, InDegree}
use Rattle.examples.specs.Answers.{ArePivots}
use Rattle.examples.specs.Example.{Example, answers, determinant, Every, Gives, Kind, Returns, DoesNotReturn, Sized}
use Rattle.examples.specs.Example.{Rank, Steps, Result, Transform, Inverse, FirstKind, SecondKind, PopovForm}

-- a polynomial is written up to its last coefficient, and takes w places: "All places are present"
abbrev pub padded : ℕ → List ℕ → List ℕ
padded zero f = []
padded (suc w) [] = 0 ∷ padded w []
padded (suc w) (c ∷ f) = c ∷ padded w f

-- "Cells stand row after row, in each row column after column."
abbrev pub cells : ℕ → List (List ℕ) → List ℕ
cells w [] = []
cells w (f ∷ rest) = padded w f ++ cells w rest

abbrev nought : List ℕ
nought = []

-- c, c x and c x²
abbrev const : ℕ → List ℕ
const c = c ∷ []

abbrev pub linear : ℕ → List ℕ
linear c = 0 ∷ c ∷ []

abbrev square : ℕ → List ℕ
square c = 0 ∷ 0 ∷ c ∷ []

-- "W1: the matrix above. U = (1+x², 6x; 6x, 1), V = A." Above, in the printer's example, stand the rank, the count, R and the determinant.
abbrev pub a1 : List ℕ
a1 = cells 3 (const 1 ∷ linear 1 ∷ linear 1 ∷ (1 ∷ 0 ∷ 1 ∷ []) ∷ [])

abbrev pub w1 : List Example
w1 =
    answers 7 2 2 2 a1
    ((Rank, 2 ∷ []) ∷ (Steps, 2 ∷ []) ∷ (Result, cells 3 (const 1 ∷ nought ∷ nought ∷ const 1 ∷ [])) ∷
    (Transform, cells 6 ((1 ∷ 0 ∷ 1 ∷ []) ∷ linear 6 ∷ linear 6 ∷ const 1 ∷ [])) ∷ (Inverse, a1) ∷ []) ∷
    determinant 7 2 2 a1 (1 ∷ 0 ∷ 0 ∷ 0 ∷ 0 ∷ []) ∷ []

-- "W2: p=5, d=2, rows (x, 1), (x², x): R has rows (x, 1), (0, 0); rank 1; one step; determinant 0."
abbrev a2 : List ℕ
a2 = cells 3 (linear 1 ∷ const 1 ∷ square 1 ∷ linear 1 ∷ [])

abbrev pub w2 : List Example
w2 =
    answers 5 2 2 2 a2 ((Result, cells 3 (linear 1 ∷ const 1 ∷ nought ∷ nought ∷ [])) ∷ (Rank, 1 ∷ []) ∷ (Steps, 1 ∷ []) ∷ []) ∷
    determinant 5 2 2 a2 (0 ∷ 0 ∷ 0 ∷ 0 ∷ 0 ∷ []) ∷ []

-- "W3: p=7, d=2, rows (2, 0), (3x, x²): no step of the first kind, one of the second; P has rows (1, 0), (0, x²)."
abbrev pub w3 : List Example
w3 =
    answers 7 2 2 2 (cells 3 (const 2 ∷ nought ∷ linear 3 ∷ square 1 ∷ []))
    ((FirstKind, 0 ∷ []) ∷ (SecondKind, 1 ∷ []) ∷ (PopovForm, cells 3 (const 1 ∷ nought ∷ nought ∷ square 1 ∷ [])) ∷ []) ∷ []

-- "W4: p=2, d=0, rows (0, 1), (1, 1): R has rows (0, 1), (1, 0); one step; P is the identity."
abbrev pub w4 : List Example
w4 = answers 2 2 2 0 (0 ∷ 1 ∷ 1 ∷ 1 ∷ []) ((Result, 0 ∷ 1 ∷ 1 ∷ 0 ∷ []) ∷ (Steps, 1 ∷ []) ∷ (PopovForm, 1 ∷ 0 ∷ 0 ∷ 1 ∷ []) ∷ []) ∷ []

-- "W5: n=m=1, d=0, entry 0: rank 0, no step, U = V = 1, determinant 0." The paper leaves p open.
abbrev pub w5 : (p : ℕ) → List Example
w5 p =
    answers p 1 1 0 (0 ∷ []) ((Rank, 0 ∷ []) ∷ (Steps, 0 ∷ []) ∷ (Transform, 1 ∷ []) ∷ (Inverse, 1 ∷ []) ∷ []) ∷
    determinant p 1 0 (0 ∷ []) (0 ∷ []) ∷ []

-- "W6: p=3, d=1, n=2, m=1, rows (x), (x): second row becomes zero, U = (1, 0; 2, 1), V = (1, 0; 1, 1)."
abbrev pub w6 : List Example
w6 =
    answers 3 2 1 1 (cells 2 (linear 1 ∷ linear 1 ∷ []))
    ((Result, cells 2 (linear 1 ∷ nought ∷ [])) ∷ (Transform, cells 4 (const 1 ∷ nought ∷ const 2 ∷ const 1 ∷ [])) ∷
    (Inverse, cells 2 (const 1 ∷ nought ∷ const 1 ∷ const 1 ∷ [])) ∷ []) ∷ []

-- "W7: the row (x, x) has pivot index 2." The paper leaves p and d open; x needs a degree limit of 1 at least.
abbrev pub w7 : (p d : ℕ) → Type 0
w7 p d = ArePivots p 1 2 d (cells (d + 1) (linear 1 ∷ linear 1 ∷ [])) (2 ∷ [])

-- "W8: p=5, d=1, rows (x, 2), (3, x): determinant 4 0 1."
abbrev pub w8 : List Example
w8 = determinant 5 2 1 (cells 2 (linear 1 ∷ const 2 ∷ const 3 ∷ linear 1 ∷ [])) (4 ∷ 0 ∷ 1 ∷ []) ∷ []

-- "W9: p=9 and p=1 give 1; p=65,521 does not." So it is for every n, m, d and input, and for buffers of any lengths.
abbrev pub w9 : Type 0
w9 = (service : Kind) (n m d : ℕ) (given a : List ℕ)
    → Returns service 9 n m d given a 1 0 × Returns service 1 n m d given a 1 0 × DoesNotReturn service 65521 n m d given a 1

-- "W10: n=9 gives 2; n=8 does not." So it is for every m, d and input, and for buffers of any lengths, if no earlier check gives another
-- number: p is one that is taken. For the second, m must not call for a 2 itself.
abbrev pub w10 : Type 0
w10 = (service : Kind) (p m d : ℕ) (given a : List ℕ)
    → (Accepted p → Returns service p 9 m d given a 2 0) × (1 ≤ m → m ≤ 8 → DoesNotReturn service p 8 m d given a 2)

-- "W11: d=64 gives 3; d=63 does not." So it is for every input and for buffers of any lengths, if no earlier check gives another number.
abbrev pub w11 : Type 0
w11 = (service : Kind) (p n m : ℕ) (given a : List ℕ)
    → (Accepted p → InShape n m → Returns service p n m 64 given a 3 0) × DoesNotReturn service p n m 63 given a 3

-- "W12: p=7, coefficient 7 first at index 3: 6, place 3; coefficient 6 is taken." So it is where no earlier check gives another number:
-- n, m and d are in range, and the buffers have their lengths. In the second a has no coefficient above 6, and is taken.
abbrev pub w12 : Type 0
w12 = (service : Kind) (n m d : ℕ) (given a : List ℕ) → InShape n m → InDegree d → Sized service n m d given
    → (3 < length a → get_or a 3 0 ≡ 7 → ((i : ℕ) → i < 3 → get_or a i 0 ≤ 6) → Returns service 7 n m d given a 6 3)
    × (((i : ℕ) → i < length a → get_or a i 0 ≤ 6) → Returns service 7 n m d given a 0 0)

-- the statements, one for each example; where the paper leaves p open it is made of every p that is taken
abbrev pub w_examples : List (Type 0)
w_examples =
    Every Gives w1 ∷
    Every Gives w2 ∷
    Every Gives w3 ∷
    Every Gives w4 ∷
    ((p : ℕ) → Accepted p → Every Gives (w5 p)) ∷
    Every Gives w6 ∷
    ((p d : ℕ) → Accepted p → 1 ≤ d → w7 p d) ∷
    Every Gives w8 ∷
    w9 ∷
    w10 ∷
    w11 ∷
    w12 ∷
    []

-- they are all true
abbrev pub All : List (Type 0) → Type 0
All [] = Unit
All (X ∷ statements) = X × All statements
