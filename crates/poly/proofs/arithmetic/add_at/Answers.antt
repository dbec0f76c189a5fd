use mathlib.Core.Path.{◌≡◌, ap, ◌∙◌}
use mathlib.Core.List.{List}
use Prim.Native.Nat.{ℕ, ◌+◌, ◌*◌, ◌%◌}
use lib.ListN.{get_or, set}
use Rattle.poly.specs.arithmetic.Operations.{plus_term}
use Rattle.poly.proofs.arithmetic.add_at.Goals as goal

written : (p c y i x v : ℕ) (a : List ℕ) → x ≡ get_or a i 0 → v ≡ (x + c * y) % p → set a i v ≡ plus_term p c y i a
unfolding plus_term
written p c y i x v a x-is v-is = ap (λ (x : ℕ). set a i x) (v-is ∙ ap (λ (x : ℕ). (x + c * y) % p) x-is)

pub returns : goal.returns
returns c =
    written _ _ _ _ _ _ _ c.from.ensures (c.from-2.ensures ∙ c.plus_product.ensures)
