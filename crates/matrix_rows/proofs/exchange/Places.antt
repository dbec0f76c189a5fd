-- Two cells of one buffer that change places, place by place, and pairs of cells of two rows or columns, cell by cell.
use native.Mathlib.Omega.{arith}
use mathlib.Core.Path.{◌≡◌, sym, ◌∙◌}
use mathlib.Core.Logic.{◌≢◌}
use mathlib.Core.List.{List}
use Prim.Native.Nat.{ℕ, suc, ◌+◌, ◌*◌, ◌≤◌, ◌<◌}
use lib.ListN.{length, get_or, set, length-set}
use lib.Seq.{get_or-set_same, get_or-set_other}
use Rattle.theory_algebra.proofs.Cases.{case-le}
use Rattle.theory_lists.proofs.Place.{spaced-apart}
use Rattle.matrix_buffers.specs.Exchanged.{CellsExchanged, CellExchanged}
use Rattle.matrix_rows.specs.Cells.{place}
use Rattle.matrix_rows.specs.Asked.{Pairs, TwoParts}
use Rattle.matrix_rows.specs.declared.cells.Cells.{Cells}
use Rattle.matrix_rows.proofs.exchange.Pairs.{next-exchanged}

-- the numbers at x and y are in each other's place, and all others stay
abbrev pub Traded : (b b' : List ℕ) (x y : ℕ) → Type 0
Traded b b' x y = (length b' ≡ length b) × (get_or b' x 0 ≡ get_or b y 0) × (get_or b' y 0 ≡ get_or b x 0)
    × ((z : ℕ) → z ≢ x → z ≢ y → get_or b' z 0 ≡ get_or b z 0)

-- which is what two stores make of them
pub stored : (b : List ℕ) {x y : ℕ} → x ≢ y → x < length b → y < length b → Traded b (set (set b x (get_or b y 0)) y (get_or b x 0)) x y
stored b {x} {y} differ in-x in-y =
    let half = set b x (get_or b y 0) in (
      length-set half _ _ ∙ length-set b _ _,
      get_or-set_other half y x _ 0 differ ∙ get_or-set_same b x _ 0 in-x,
      get_or-set_same half y _ 0 (omega (arith, in-y, length-set b x (get_or b y 0))),
      λ z not-x not-y. get_or-set_other half y z _ 0 not-y ∙ get_or-set_other b x z _ 0 not-x,
    )

-- place t, after the t places before it
pub place-turn : {w one other t : ℕ} {b₀ b b' : List ℕ} → TwoParts w one other b₀ → CellExchanged t one other b₀ b → t < w
    → Traded b b' (one + t) (other + t) → CellExchanged (t + 1) one other b₀ b'
place-turn {w = w} {one} {other} {t} asked done lt (size, at_one, at_other, others) =
    let apart : (u v : ℕ) → u ≤ t → v ≤ t → one + u ≢ other + v = λ u v lu lv. asked.apart u v (omega arith) (omega arith) in
    record {
      size = size ∙ done.size;
      exchanged = λ _ u _ lu. case-le (suc u) t
          (λ before. let (in_one, in_other) = done.exchanged 0 u (omega arith) before in (
            others _ (λ same. omega arith) (apart u t (omega arith) (omega arith)) ∙ in_one,
            others _ (λ same. apart t u (omega arith) (omega arith) (sym same)) (λ same. omega arith) ∙ in_other,
          ))
          (λ from. let here : u ≡ t = omega arith in rw here (
            at_one ∙ done.others _ (λ _ v _ lv same. apart v t (omega arith) (omega arith) (sym same)) (λ _ v _ lv same. omega arith),
            at_other ∙ done.others _ (λ _ v _ lv same. omega arith) (λ _ v _ lv. apart t v (omega arith) (omega arith)),
          ));
      others = λ x outside outside'. others x (outside 0 t (omega arith) (omega arith)) (outside' 0 t (omega arith) (omega arith))
          ∙ done.others x (λ i u li lu. outside i u li (omega arith)) (λ i u li lu. outside' i u li (omega arith));
    }

-- pair i, after i pairs that changed places
module _ {one other : Cells} {b₀ : List ℕ} (asked : Pairs one other b₀) {i : ℕ} {b : List ℕ}
    (done : CellsExchanged one.w i (place one) (place other) b₀ b) (li : i < one.count) where
  pub pair-turn : {b' : List ℕ} → CellExchanged one.w (one.first + i * one.stride) (other.first + i * other.stride) b b'
      → CellsExchanged one.w (i + 1) (place one) (place other) b₀ b'
  pair-turn = next-exchanged
      (λ t lt. (
        (λ j u lj lu same. spaced-apart one.first asked.one_fits.distance i j u t lj lu lt (sym same)),
        (λ j u lj lu. asked.apart i j t u li (omega arith) lt lu),
      ))
      (λ t lt. (
        (λ j u lj lu same. asked.apart j i u t (omega arith) li lu lt (sym same)),
        (λ j u lj lu same. spaced-apart other.first asked.other_fits.distance i j u t lj lu lt (sym same)),
      )) done
