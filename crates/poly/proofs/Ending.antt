-- The zeros at the end of a list, and what is read off where they begin: the degree, the leading coefficient, sameness.
use mathlib.Core.Path.{◌≡◌, sym, ap, ap₂, ◌∙◌}
use mathlib.Core.Logic.{◌≢◌, ◌↔◌}
use mathlib.Core.List.{List, [], ◌∷◌}
use Prim.Native.Nat.{ℕ, zero, suc, ◌+◌, ◌-◌, ◌≤◌, ◌<◌}
use native.Mathlib.Decide.{dec_le}
use native.Mathlib.Omega.{arith}
use lib.Bits.{bit_or, or_add_and, and_le_l, and_le_r}
use lib.ListN.{length, get_or, take}
use lib.Seq.{ext_get_or, get_or-take, length-take-le}
use Rattle.std.specs.List.{fold}
use Rattle.theory_lists.specs.Part.{part}
use Rattle.theory_lists.proofs.Change.{get_or-past}
use Rattle.theory_lists.proofs.Last.{last-is, last-unique}
use Rattle.theory_lists.proofs.Part.{length_part, get_or-part}
use Rattle.poly.specs.Polynomial.{used_places, leading_of, SamePolynomial}

-- the first i places are zero
abbrev pub ZerosBelow : List ℕ → ℕ → Type 0
ZerosBelow l i = (j : ℕ) → j < i → get_or l j 0 ≡ 0

zeros-more : (x : ℕ) (l : List ℕ) → x ≡ 0 → ZerosBelow l (length l) → ZerosBelow (x ∷ l) (suc (length l))
zeros-more x l e z zero h = e
zeros-more x l e z (suc j) h = z j (omega arith)

-- the bits of all places and of what there was before are 0 exactly where all of these are
pub gathered : (l : List ℕ) (bits : ℕ) → (fold bit_or bits l ≡ 0) ↔ ((bits ≡ 0) × ZerosBelow l (length l))
gathered [] bits = ((λ z. (z, λ j h. absurd (omega arith))), (λ z. z.0))
gathered (x ∷ l) bits =
    let shared = or_add_and bits x in
    let in-bits = and_le_l bits x in
    let in-x = and_le_r bits x in
    let rest = gathered l (bit_or bits x) in (
      (λ z. let none : bit_or bits x ≡ 0 = (rest.0 z).0 in (omega arith, zeros-more x l (omega arith) (rest.0 z).1)),
      (λ z. rest.1 (ap₂ bit_or z.0 (z.1 0 (omega arith)), λ j h. z.1 (suc j) (omega arith))),
    )

-- all that is not zero stands before n
pub record Ends (l : List ℕ) (n : ℕ) : Type 0 where
  pub within : n ≤ length l
  pub zeros : (i : ℕ) → n ≤ i → get_or l i 0 ≡ 0

-- and before s, where the places from s to n are zero
pub ends-lower : (l : List ℕ) (s n : ℕ) → Ends l n → s ≤ n → ((i : ℕ) → s ≤ i → i < n → get_or l i 0 ≡ 0) → Ends l s
ends-lower l s n e le z = record {
  within = omega arith;
  zeros = λ i h. elim (dec_le n i) [ yes from ↦ e.zeros i from | no before ↦ z i h (omega arith) ];
}

pub ends-part : (l : List ℕ) (s n : ℕ) → Ends l n → s ≤ n → ZerosBelow (part s (n - s) l) (length (part s (n - s) l)) → Ends l s
ends-part l s n e le z = ends-lower l s n e le (λ i h k.
    let fits : s + (n - s) ≤ length l = omega arith in
    let here : i ≡ s + (i - s) = omega arith in
    ap (λ (j : ℕ). get_or l j 0) here
    ∙ sym (get_or-part s (n - s) l fits (i - s) (omega arith))
    ∙ z (i - s) (omega (arith, length_part s (n - s) l fits)))

pub ends-height : (l : List ℕ) → Ends l (used_places l)
ends-height l = let x = last-is (length l) (λ i. get_or l i 0) in record {
  within = x.within;
  zeros = λ i h. elim (dec_le (length l) i) [ yes past ↦ get_or-past l i past | no before ↦ x.zeros i h (omega arith) ];
}

-- the last that is not zero is the one before n
pub ends_at : (l : List ℕ) (n : ℕ) → Ends l n → (0 < n → get_or l (n - 1) 0 ≢ 0) → n ≡ used_places l
ends_at l n e top = sym (last-unique (length l) (λ i. get_or l i 0) n (record { within = e.within; zeros = λ i h _. e.zeros i h; top = top }))

-- of the first n places, past which there are zeros only, the last that is not zero, or none
module _ (l : List ℕ) (n : ℕ) (left : (n ≤ length l) × ((i : ℕ) → n ≤ i → get_or l i 0 ≡ 0)) where
  ends : Ends l n
  ends = record { within = left.0; zeros = left.1 }

  long : length (take n l) ≡ n
  long = length-take-le n l left.0

  pub used-some : (i : ℕ) → i < length (take n l) → get_or (take n l) i 0 ≢ 0
      → ((k : ℕ) → i + 1 ≤ k → k < length (take n l) → get_or (take n l) k 0 ≡ 0)
      → i + 1 ≡ used_places l
  used-some i low top z =
      let here : i + 1 - 1 ≡ i = omega arith in
      ends_at l (i + 1) (ends-lower l (i + 1) n ends (omega (arith, long)) (λ k h m. sym (get_or-take n l k 0 m) ∙ z k h (omega (arith, long))))
      (λ _ none. top (get_or-take n l i 0 (omega (arith, long)) ∙ rw here at none))

  pub used-none : ZerosBelow (take n l) (length (take n l)) → 0 ≡ used_places l
  used-none z =
      ends_at l 0 (ends-lower l 0 n ends (omega arith) (λ k _ m. sym (get_or-take n l k 0 m) ∙ z k (omega (arith, long)))) (λ h. absurd (omega arith))

-- the places up to the last that is not zero
length-used : (l : List ℕ) → length (take (used_places l) l) ≡ used_places l
length-used l = length-take-le (used_places l) l (ends-height l).within

get_or-used : (l : List ℕ) (j : ℕ) → get_or (take (used_places l) l) j 0 ≡ get_or l j 0
get_or-used l j = elim (dec_le (used_places l) j) [
  | yes past ↦ get_or-past _ j (omega (arith, length-used l)) ∙ sym ((ends-height l).zeros j past)
  | no before ↦ get_or-take (used_places l) l j 0 (omega arith)
]

-- the last of them is the leading coefficient
pub leading-used : (l : List ℕ) → get_or (take (used_places l) l) (length (take (used_places l) l) - 1) 0 ≡ leading_of l
leading-used l = get_or-used l _ ∙ ap (λ (n : ℕ). get_or l (n - 1) 0) (length-used l)

module _ (a b : List ℕ) where
  -- the same polynomial ends at the same place
  pub same-height : SamePolynomial a b → used_places a ≡ used_places b
  same-height s = sym (ends_at a (used_places b) ends some)
    where
      some : 0 < used_places b → get_or a (used_places b - 1) 0 ≢ 0
      some h z = (last-is (length b) (λ i. get_or b i 0)).top h (sym (s.same (used_places b - 1)) ∙ z)

      ends : Ends a (used_places b)
      ends = record {
        within = elim (dec_le (used_places b) (length a)) [
          | yes in-a ↦ in-a
          | no past ↦ absurd (some (omega arith) (get_or-past a (used_places b - 1) (omega arith)))
        ];
        zeros = λ i h. s.same i ∙ (ends-height b).zeros i h;
      }

  -- and has the same places before it
  pub same_used : (take (used_places a) a ≡ take (used_places b) b) ↔ SamePolynomial a b
  same_used = (
    (λ e. record { same = λ j. sym (get_or-used a j) ∙ ap (λ (l : List ℕ). get_or l j 0) e ∙ get_or-used b j }),
    (λ s. ext_get_or 0 _ _ (length-used a ∙ same-height s ∙ sym (length-used b)) (λ j _. get_or-used a j ∙ s.same j ∙ sym (get_or-used b j))),
  )
