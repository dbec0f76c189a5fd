-- How long the printer's texts are.
use Prim.Native.Nat.{ℕ, zero, suc, ◌+◌, ◌*◌, ◌≤◌, ◌<◌, zero-le, suc-le-suc}
use mathlib.Core.Path.{◌≡◌, refl}
use mathlib.Core.Bool.{Bool, true, false, cond}
use mathlib.Core.List.{List, [], ◌∷◌, ◌++◌}
use native.Mathlib.Omega.{arith}
use native.Mathlib.Nat.{suc-mul, mul-le-mul}
use lib.ListN.{length, get_or, take, drop, length-append, length-take, length-drop, length-set}
use lib.Seq.{length-take-le, get_or-take, get_or-drop}
use lib.Dec.{eqb}
use borrow.Author.Tests.{eqb-true}
use Rattle.printer_format.specs.Number.{decimal_by, decimal}
use Rattle.printer_format.specs.Line.{bytes, cell_key, row, line, lines}
use Rattle.printer_format.specs.Answer.{refusal_text, counts_text, result_text, determinant_text, answer_text, output_room}
use Rattle.printer_format.proofs.Number.{five-digits, twenty-digits}

-- numbers of at most five digits
pub record Writable (l : List ℕ) : Type 0 where
  pub small : (i : ℕ) → i < length l → get_or l i 0 ≤ 65535

writable-take : (n : ℕ) (l : List ℕ) → Writable l → Writable (take n l)
writable-take n l h = record {
  small = λ i lt. let size = length-take n l in omega (arith, get_or-take n l i 0 (omega (arith, size)), h.small i (omega (arith, size)));
}

writable-drop : (n : ℕ) (l : List ℕ) → Writable l → Writable (drop n l)
writable-drop n l h = record { small = λ i lt. rw get_or-drop (h.small (n + i) (omega (arith, length-drop n l))) }

-- five digits and a mark for each number
row-length : (l : List ℕ) → Writable l → length (row l) ≤ length l * 6
unfolding row
row-length [] h = omega arith
row-length (v ∷ l) h = simp length-append (omega (
  arith,
  five-digits v (h.small 0 (suc-le-suc zero-le)),
  row-length l (record { small = λ i lt. h.small (suc i) (suc-le-suc lt) }),
  suc-mul (length l) 6,
))

line-length : (key l : List ℕ) → Writable l → length (line key l) ≤ length key + length l * 6
line-length key l h = simp length-append (omega (arith, row-length l h))

-- lines whose keys have four bytes
lines-length : (key : ℕ → List ℕ) → ((c : ℕ) → length (key c) ≡ 4) → (width count c : ℕ) (l : List ℕ) → Writable l → count * width ≤ length l
    → length (lines key width count c l) ≤ count * (width * 6 + 4)
unfolding lines
lines-length key four width zero c l h all = omega arith
lines-length key four width (suc count) c l h all =
    let within : count * width + width ≤ length l = omega (arith, suc-mul count width) in
    let size : length (take width l) ≡ width = length-take-le width l (omega arith) in
    let first : length (line (key c) (take width l)) ≤ 4 + width * 6 =
    rw (four c, size) at (line-length (key c) (take width l) (writable-take width l h)) in
    let others = lines-length key four width count (suc c) (drop width l) (writable-drop width l h) (simp length-drop (omega arith)) in
    rw (length-append (line (key c) (take width l)) (lines key width count (suc c) (drop width l)))
    (omega (arith, first, others, suc-mul count (width * 6 + 4)))

-- a line with one number of 64 bits
field-length : (key : List ℕ) (v : ℕ) → v < 18446744073709551616 → length (line key (v ∷ [])) ≤ length key + 21
unfolding row
field-length key v h = simp length-append (omega (arith, twenty-digits v h))

done-length : length (line (bytes "answer=") (0 ∷ [])) ≡ 9
unfolding row decimal decimal_by
done-length = refl

pub refusal-length : (number place : ℕ) → number < 18446744073709551616 → place < 18446744073709551616
    → length (refusal_text number place) ≤ output_room
refusal-length number place h k = rw (length-append (line (bytes "answer=") (number ∷ [])) (line (bytes "place=") (place ∷ [])))
    (omega (arith, field-length (bytes "answer=") number h, field-length (bytes "place=") place k))

-- the numbers of an answer, and how many they are
pub record Answerable (rank steps n m d : ℕ) (r det : List ℕ) : Type 0 where
  pub rank_fits : rank < 18446744073709551616
  pub steps-fits : steps < 18446744073709551616
  pub rows : n ≤ 8
  pub columns : m ≤ 8
  pub degree : d ≤ 63
  pub result-size : n * m * (d + 1) ≤ length r
  pub result-small : Writable r
  pub determinant-size : length det ≤ 505
  pub determinant-small : n ≡ m → Writable det

module _ (rank steps n m d : ℕ) (r det : List ℕ) (h : Answerable rank steps n m d r det) where
  result-length : length (result_text n m d r) ≤ 64 * 388
  result-length =
      let four : (c : ℕ) → length (cell_key (bytes "r11=") m c) ≡ 4 = λ c. simp length-set in
      let cells : n * m ≤ 8 * 8 = mul-le-mul h.rows h.columns in
      let one_cell : (d + 1) * 6 + 4 ≤ 388 = omega (arith, h.degree) in
      let most : n * m * ((d + 1) * 6 + 4) ≤ 64 * 388 = mul-le-mul cells one_cell in
      omega (arith, most, lines-length (cell_key (bytes "r11=") m) four (d + 1) (n * m) 0 r h.result-small h.result-size)

  determinant-length : length (determinant_text n m det) ≤ 3034
  determinant-length = go (eqb n m) refl
    where
      go : (b : Bool) → eqb n m ≡ b → length (cond b (line (bytes "det=") det) []) ≤ 3034
      go true square = omega (arith, line-length (bytes "det=") det (h.determinant-small (eqb-true n m square)), h.determinant-size)
      go false differ = omega arith

  pub answer-length : length (answer_text rank steps n m d r det) ≤ output_room
  answer-length = omega (
    arith,
    length-append (counts_text rank steps) (result_text n m d r ++ determinant_text n m det),
    length-append (line (bytes "answer=") (0 ∷ [])) (line (bytes "rank=") (rank ∷ []) ++ line (bytes "steps=") (steps ∷ [])),
    length-append (line (bytes "rank=") (rank ∷ [])) (line (bytes "steps=") (steps ∷ [])),
    length-append (result_text n m d r) (determinant_text n m det),
    done-length,
    field-length (bytes "rank=") rank h.rank_fits,
    field-length (bytes "steps=") steps h.steps-fits,
    result-length,
    determinant-length,
  )
