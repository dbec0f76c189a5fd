-- The terms of a cell that are added to another cell of the same buffer, one after the other.
use mathlib.Core.Path.{◌≡◌, sym, ap₂, ◌∙◌}
use mathlib.Core.List.{List, ◌++◌}
use Prim.Native.Nat.{ℕ, ◌+◌, ◌*◌, ◌-◌, ◌%◌, ◌≤◌, ◌<◌}
use native.Mathlib.Nat.{add-sub_cancel_left, add-zero, mul-zero, mod-eq_of_lt}
use native.Mathlib.Omega.{arith}
use lib.ListN.{length, get_or, take, drop, length-set}
use lib.Seq.{get_or-set_same, get_or-set_other}
use borrow.Author.Tests.{le-leb, lt-leb}
use Rattle.theory_algebra.proofs.Cases.{case-le}
use Rattle.theory_lists.specs.Part.{part}
use Rattle.theory_lists.proofs.Part.{length_part, get_or-part}
use Rattle.poly.specs.Polynomial.{used_places}
use Rattle.poly.specs.arithmetic.Operations.{plus_term}
use Rattle.poly.proofs.Ending.{ends-height}
use Rattle.matrix_buffers.specs.Written.{CellsWritten}
use Rattle.matrix_buffers.specs.Added.{CellAdded}
use Rattle.matrix_buffers.proofs.CellByCell.{part-written, writing-turn}
use Rattle.matrix_rows.specs.Asked.{CellPair}

-- one place is written, as a cell of one place
term-written : (p c y i : ℕ) (a : List ℕ) → i < length a
    → CellsWritten 1 1 (λ _ t. i + t) (λ _ _. (get_or a i 0 + c * y) % p) a (plus_term p c y i a)
unfolding plus_term
term-written p c y i a inside = record {
  size = length-set a i _;
  written = λ _ t _ lt. let zero : t ≡ 0 = omega arith in rw (zero, add-zero) (get_or-set_same a i _ 0 inside);
  others = λ x elsewhere. get_or-set_other a i x _ 0 (λ same. elsewhere 0 0 (omega arith) (omega arith) (same ∙ sym (add-zero i)));
}

-- where the loop over the terms stands, having come to i: each place is written as a cell of its own
abbrev pub Adding : (p c e to from : ℕ) (b₀ b : List ℕ) (i : ℕ) → Type 0
Adding p c e to from b₀ b i =
    CellsWritten 1 i (λ i t. to + (e + i + t)) (λ i t. (get_or b₀ (to + (e + i + t)) 0 + c * get_or b₀ (from + i) 0) % p) b₀ b

-- n of the lowest `top` places of the cell at `from` are in use
module _ {p c e w top to from n : ℕ} {b₀ : List ℕ} (pre : CellPair p c e w top to from b₀)
    (n-is : n ≡ used_places (take (from + top - from) (drop from b₀))) where
  used-is : n ≡ used_places (part from top b₀)
  used-is = rw (add-sub_cancel_left from top) at n-is

  read_fits : from + top ≤ length b₀
  read_fits = let room = pre.multiplier.room in omega (arith, pre.parts.other_fits)

  -- the terms in use are among those read, and have room in the cell
  few : (n ≤ top) × (e + n ≤ w)
  few =
      let room = pre.multiplier.room in
      let few : n ≤ top = omega (arith, used-is, (ends-height (part from top b₀)).within, length_part from top b₀ read_fits) in
      (few, omega arith)

  -- no term behind those in use
  none : (t : ℕ) → n ≤ t → t < w → get_or b₀ (from + t) 0 ≡ 0
  none t past lt = case-le top t
      (λ high. pre.short.zero 0 t (omega arith) high lt)
      (λ low. sym (get_or-part from top b₀ read_fits t low) ∙ (ends-height (part from top b₀)).zeros t (omega (arith, used-is)))

  module _ {b : List ℕ} {i y : ℕ} (done : Adding p c e to from b₀ b i) (li : i < n) (y-is : y ≡ get_or b (from + i) 0) where
    -- the number that is read is as it was
    source : y ≡ get_or b₀ (from + i) 0
    source = y-is ∙ done.others _ (λ j t lj lt same. pre.parts.apart (e + j + t) i (omega (arith, few)) (omega (arith, few)) (sym same))

    fits : to + w ≤ length b
    fits = omega (arith, done.size, pre.parts.one_fits)

    pub term-turn : {l : List ℕ} → l ≡ plus_term p c y (e + i) (take (to + w - to) (drop to b))
        → Adding p c e to from b₀ (take to b ++ (l ++ drop (to + w - to) (drop to b))) (i + 1)
    term-turn l-is =
        let kept : get_or (part to w b) (e + i) 0 ≡ get_or b₀ (to + (e + i)) 0 =
        get_or-part to w b fits (e + i) (omega (arith, few)) ∙ done.others _ (λ j t lj lt same. omega arith) in
        let cell =
        part-written to w b _ fits (λ _ t _ lt. omega (arith, few))
        (term-written p c y (e + i) (part to w b) (omega (arith, length_part to w b fits, few))) in
        rw (l-is, add-sub_cancel_left to w)
        (writing-turn {count = n} (record { reached = omega arith; done = done }) li (λ j t u lj lt lu same. omega arith)
        (λ t lt. let zero : t ≡ 0 = omega arith in rw (zero, add-zero) (ap₂ (λ (x y : ℕ). (x + c * y) % p) kept source)) cell).done

  -- a place that got no term is its own remainder
  pub terms-end : {b : List ℕ} → Adding p c e to from b₀ b n → CellAdded p c e w to from b₀ b₀ b
  terms-end d = record {
    size = d.size;
    written = λ _ t _ lt. case-le e t
        (λ high. simp (le-leb e t high) (case-le n (t - e)
        (λ past. d.others _ (λ j u lj lu same. omega arith)
        ∙ rw (none (t - e) past (omega arith), mul-zero, add-zero) (sym (mod-eq_of_lt (pre.to_residues t lt))))
        (λ inside. let here : to + (e + (t - e) + 0) ≡ to + t = omega arith in
        rw here at (d.written (t - e) 0 inside (omega arith)))))
        (λ low. simp (lt-leb e t low, mul-zero, add-zero)
        (d.others _ (λ j u lj lu same. omega arith) ∙ sym (mod-eq_of_lt (pre.to_residues t lt))));
    others = λ x elsewhere. d.others x (λ j u lj lu same. elsewhere 0 (e + j + u) (omega arith) (omega (arith, few)) same);
  }
