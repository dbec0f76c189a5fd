-- Each promise leaves one content of the buffers and one count for each entry: "equality of any two answers that satisfy the promise is
-- itself proved".
use mathlib.Core.Path.{◌≡◌, subst}
use mathlib.Core.List.{List}
use Prim.Native.Nat.{ℕ}
use Rattle.theory_rings.specs.PrimeField.{zp_field}
use Rattle.theory_popov.proofs.SecondEnding.{second-unique}
use Rattle.matrix_promises.specs.Holding.{Holding}
use Rattle.matrix_promises.proofs.Unique.{holding-unique, popov-form-unique}
use Rattle.matrix_pivots.specs.declared.pivot.Pivot.{Pivot}
use Rattle.matrix_popov.specs.row_order.PutInOrder.{OrderAsked, PutInOrder}
use Rattle.matrix_popov.specs.second_step.Removing.{RemovingAsked, Cleared}
use Rattle.matrix_popov.specs.monic.Monic.{MonicAsked, MadeMonic}
use Rattle.matrix_popov.specs.Finished.{FinishAsked, Finished}

module _ (p n m w : ℕ) (r u v r₁ u₁ v₁ r₂ u₂ v₂ : List ℕ) where
  pub put-in-order-unique : OrderAsked n m w r u v → PutInOrder n m w r u v r₁ u₁ v₁ → PutInOrder n m w r u v r₂ u₂ v₂
      → (r₁ ≡ r₂) × (u₁ ≡ u₂) × (v₁ ≡ v₂)
  put-in-order-unique asked x y =
      let q = asked.p in
      holding-unique (x.by q asked.prime asked.t asked.holding) (y.by q asked.prime asked.t asked.holding)

  -- k + 1 for the function that clears row k, and n for the one that clears all
  pub clear-unique : (pivots : List Pivot) → RemovingAsked p n m w r u v pivots
      → (k count count' : ℕ) → Cleared p n m w k count pivots r u v r₁ u₁ v₁ → Cleared p n m w k count' pivots r u v r₂ u₂ v₂
      → (count ≡ count') × (r₁ ≡ r₂) × (u₁ ≡ u₂) × (v₁ ≡ v₂)
  clear-unique pivots asked k count count' x y =
      let f = x.by asked.prime _ _ _ asked.standing in
      let g = y.by asked.prime _ _ _ asked.standing in
      let (counts, ends) = second-unique (zp_field p asked.prime) k m w f.runs g.runs in
      let (same-r, same-u, same-v) = holding-unique (subst (Holding p n m w r₁ u₁ v₁) ends f.standing.holding) g.standing.holding in
      (counts, same-r, same-u, same-v)

  pub make-monic-unique : (pivots : List Pivot) → MonicAsked p n m w r u v pivots
      → MadeMonic p n m w r u v r₁ u₁ v₁ → MadeMonic p n m w r u v r₂ u₂ v₂ → (r₁ ≡ r₂) × (u₁ ≡ u₂) × (v₁ ≡ v₂)
  make-monic-unique pivots asked x y =
      holding-unique (x.by asked.prime asked.t asked.holding) (y.by asked.prime asked.t asked.holding)

  pub finish-unique : FinishAsked p n m w r u v
      → (second second' : ℕ) → Finished p n m w second r u v r₁ u₁ v₁ → Finished p n m w second' r u v r₂ u₂ v₂
      → (second ≡ second') × (r₁ ≡ r₂) × (u₁ ≡ u₂) × (v₁ ≡ v₂)
  finish-unique asked second second' x y =
      let checked = asked.checked in
      let first-answer = x.popov checked.size checked.residues asked.reduced in
      let other-answer = y.popov checked.size checked.residues asked.reduced in
      let (_, _, seconds, same-r, same-u, same-v) = popov-form-unique checked.prime first-answer other-answer in
      (seconds, same-r, same-u, same-v)
