use borrow.Author.Rules.{rules}
use native.Mathlib.Omega.{arith}
use mathlib.Core.Path.{◌≡◌, refl, sym, ◌∙◌}
use mathlib.Core.List.{List, ◌++◌}
use Prim.Native.Nat.{ℕ, ◌+◌, ◌*◌, ◌-◌, ◌%◌, ◌≤◌, ◌<◌}
use native.Mathlib.Nat as N
use lib.ListN.{length, get_or, take, drop}
use Rattle.theory_lists.specs.Part.{part}
use Rattle.theory_lists.proofs.Part.{length_part, get_or-part}
use Rattle.poly.specs.Polynomial.{used_places}
use Rattle.poly.specs.arithmetic.Operations.{scaled_by}
use Rattle.poly.proofs.Ending.{ends-height}
use Rattle.matrix_buffers.specs.Scaled.{CellScaled}
use Rattle.matrix_buffers.proofs.CellByCell.{cell-changed, rest-kept}
use Rattle.matrix_rows.proofs.scale.scale_cell.Goals as goal

-- n places are used, and lent; the zeros behind them are their own multiples
module _ (p c w start n : ℕ) (b : List ℕ) (fits : start + w ≤ length b) (n-is : n ≡ used_places (take (start + w - start) (drop start b))) where
  used-is : n ≡ used_places (part start w b)
  used-is = rw (N.add-sub_cancel_left start w) at n-is

  enough : n ≤ w
  enough = omega (arith, used-is, (ends-height (part start w b)).within, length_part start w b fits)

  behind : (t : ℕ) → n ≤ t → t < w → get_or b (start + t) 0 ≡ c * get_or b (start + t) 0 % p
  behind t past lt =
      let zero : get_or b (start + t) 0 ≡ 0 = sym (get_or-part start w b fits t lt) ∙ (ends-height (part start w b)).zeros t (omega (arith, used-is)) in
      rw (zero, N.mul-zero, N.zero-mod) refl

  back : (new : List ℕ) → new ≡ scaled_by p c (take (start + n - start) (drop start b))
      → CellScaled p c w start b (take start b ++ (new ++ drop (start + n - start) (drop start b)))
  unfolding scaled_by
  back new new-is = rw (new-is, N.add-sub_cancel_left start n)
      (rest-kept w start n _ b _ enough behind (cell-changed (λ _ x. c * x % p) start n b (omega (arith, enough))))

pub returns : goal.returns
returns c = search (rules, back)
