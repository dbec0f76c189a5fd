-- Pairs of cells that change places, one pair after the other.
use mathlib.Core.Path.{◌≡◌, sym, ◌∙◌}
use mathlib.Core.List.{List}
use Prim.Native.Nat.{ℕ, suc, ◌+◌, ◌<◌}
use native.Mathlib.Omega.{arith}
use lib.ListN.{get_or}
use Rattle.theory_algebra.proofs.Cases.{case-le}
use Rattle.theory_lists.specs.Place.{Outside}
use Rattle.matrix_buffers.specs.Exchanged.{CellsExchanged}

-- `one i` and `other i` are the next pair, after i pairs that changed places, and have no place of theirs
module _ {w i : ℕ} {one other : ℕ → ℕ → ℕ} {b₀ b : List ℕ}
    (one-away : (t : ℕ) → t < w → Outside w i one (one i t) × Outside w i other (one i t))
    (other-away : (t : ℕ) → t < w → Outside w i one (other i t) × Outside w i other (other i t))
    (now : CellsExchanged w i one other b₀ b) where
  -- they are as they were
  one_kept : (t : ℕ) → t < w → get_or b (one i t) 0 ≡ get_or b₀ (one i t) 0
  one_kept t lt = now.others _ (one-away t lt).0 (one-away t lt).1

  other-kept : (t : ℕ) → t < w → get_or b (other i t) 0 ≡ get_or b₀ (other i t) 0
  other-kept t lt = now.others _ (other-away t lt).0 (other-away t lt).1

  module _ {b' : List ℕ} (pair : CellsExchanged w 1 (λ _. one i) (λ _. other i) b b') where
    -- and the pairs before them stay
    one-stays : (j t : ℕ) → j < i → t < w → get_or b' (one j t) 0 ≡ get_or b (one j t) 0
    one-stays j t lj lt = pair.others _
        (λ _ u _ lu same. (one-away u lu).0 j t lj lt (sym same))
        (λ _ u _ lu same. (other-away u lu).0 j t lj lt (sym same))

    other-stays : (j t : ℕ) → j < i → t < w → get_or b' (other j t) 0 ≡ get_or b (other j t) 0
    other-stays j t lj lt = pair.others _
        (λ _ u _ lu same. (one-away u lu).1 j t lj lt (sym same))
        (λ _ u _ lu same. (other-away u lu).1 j t lj lt (sym same))

    pub next-exchanged : CellsExchanged w (i + 1) one other b₀ b'
    next-exchanged = record {
      size = pair.size ∙ now.size;
      exchanged = λ j t lj lt. case-le (suc j) i
          (λ before. let (in_one, in-other) = now.exchanged j t before lt in (one-stays j t before lt ∙ in_one, other-stays j t before lt ∙ in-other))
          (λ from. let here : j ≡ i = omega arith in
          let (in_one, in-other) = pair.exchanged 0 t (omega arith) lt in
          rw here (in_one ∙ other-kept t lt, in-other ∙ one_kept t lt));
      others = λ x outside outside'.
          pair.others x (λ _ t _ lt. outside i t (omega arith) lt) (λ _ t _ lt. outside' i t (omega arith) lt)
          ∙ now.others x (λ j t lj lt. outside j t (omega arith) lt) (λ j t lj lt. outside' j t (omega arith) lt);
    }
