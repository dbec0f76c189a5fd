-- The promises of the steps leave one answer only, and one final content of the buffers.
use mathlib.Core.Path.{◌≡◌, refl, sym, ap, subst, ◌∙◌}
use mathlib.Core.Logic.{◌≢◌}
use mathlib.Core.List.{List}
use Prim.Native.Nat.{ℕ, ◌-◌, ◌*◌, ◌%◌, ◌<◌}
use native.Mathlib.Omega.{arith}
use Rattle.theory_algebra.specs.Field.{Field}
use Rattle.theory_algebra.specs.Prime.{Prime}
use Rattle.theory_algebra.specs.Residue.{Zp}
use Rattle.theory_algebra.proofs.Residue.{zp-path}
use Rattle.theory_rings.specs.PrimeField.{zp_field}
use Rattle.theory_rings.proofs.PrimeField.{field-mul, field-zero}
use Rattle.matrix_buffers.specs.Added.{RowAdded}
use Rattle.matrix_buffers.proofs.Unique.{written-unique}
use Rattle.matrix_pivots.proofs.Unique.{pivot-unique}
use Rattle.matrix_pivots.specs.Pivot.{values_of, IsPivotOf}
use Rattle.matrix_pivots.specs.declared.pivot.Pivot.{Pivot}
use Rattle.matrix_steps.specs.declared.Lowered.{Lowered}
use Rattle.matrix_steps.specs.declared.multiple.Multiple.{Multiple}
use Rattle.matrix_steps.specs.multiple.Factor.{Divided, Factor}
use Rattle.matrix_steps.specs.multiple.Asked.{DivideAsked, PlanAsked}
use Rattle.matrix_steps.specs.Asked.{LowerAsked}
use Rattle.matrix_steps.specs.Subtraction.{IsLowered, Followed}
use Rattle.matrix_steps.proofs.multiple.Below.{divide-asked}
use Rattle.matrix_steps.proofs.Moving.{quotient_is}

-- a quotient modulo a prime
quotient-unique : {p a b c c' : ℕ} → Prime p → b < p → 0 < b → c < p → c' < p → c * b % p ≡ a → c' * b % p ≡ a → c ≡ c'
quotient-unique {p} {b = b} {c} {c'} P b-below nonzero c_below c'-below is is' =
    ap (λ (x : Zp p). x.val) (sym (quotient_is K (K.ring.mul y x) x y x-some refl) ∙ quotient_is K (K.ring.mul y x) x y' x-some same)
  where
    K : Field (Zp p)
    K = zp_field p P

    x : Zp p
    x = record { val = b; lt = b-below }

    y : Zp p
    y = record { val = c; lt = c_below }

    y' : Zp p
    y' = record { val = c'; lt = c'-below }

    x-some : x ≢ K.ring.𝟘
    x-some z = omega (arith, ap (λ (x : Zp p). x.val) z, field-zero p P)

    same : K.ring.mul y' x ≡ K.ring.mul y x
    same = zp-path _ _ (field-mul p P y' x ∙ is' ∙ sym (field-mul p P y x ∙ is))

-- the multiple that a division gives
pub divide-unique : {p a b d : ℕ} → DivideAsked p a b → (x y : Multiple)
    → Divided p a b d x.exponent x.factor.0 x.negated.0 → Divided p a b d y.exponent y.factor.0 y.negated.0 → x ≡ y
divide-unique {p} asked x y f g =
    let e-same : x.exponent ≡ y.exponent = f.e_is ∙ sym g.e_is in
    let c-same = quotient-unique asked.prime asked.divisor asked.nonzero f.c_below g.c_below f.c_is g.c_is in
    let f-same : x.negated.0 ≡ y.negated.0 = f.f_is ∙ ap (λ (c : ℕ). (p - c) % p) c-same ∙ sym g.f_is in
    λ i. record { exponent = e-same i; factor = record { 0 = c-same i }; negated = record { 0 = f-same i } }

pub plan-unique : {p m w l k : ℕ} {high low : Pivot} {r : List ℕ} → PlanAsked p m w l k high low r → (x y : Multiple)
    → Factor p m w l k high low r x.exponent x.factor.0 x.negated.0
    → Factor p m w l k high low r y.exponent y.factor.0 y.negated.0 → x ≡ y
plan-unique asked = divide-unique (divide-asked asked)

-- the multiple, the pivot that is found anew, and the matrix
pub lower-unique : {p m w l k : ℕ} {high low : Pivot} {r r₁ r₂ : List ℕ}
    → LowerAsked p m w l k high low r → (x y : Lowered)
    → IsLowered p m w l k high low r r₁ x → IsLowered p m w l k high low r r₂ y → ◌≡◌ {A = Lowered × List ℕ} (x, r₁) (y, r₂)
lower-unique {p} {m = m} {w} {l} {k} {r = r} {r₁} {r₂} asked x y f g =
    let multiples = plan-unique asked.plan x.multiple y.multiple f.factor g.factor in
    let added = subst (λ (z : Multiple). RowAdded p m w z.negated.0 z.exponent l k r r₁) multiples f.r_move in
    let matrices = written-unique added g.r_move in
    let renewed = subst (λ (s : List ℕ). IsPivotOf m (values_of m w s l) x.pivot.index.0 x.pivot.degree.0) matrices f.renewed in
    let pivots = pivot-unique x.pivot y.pivot renewed g.renewed in
    λ i. (record { multiple = multiples i; pivot = pivots i }, matrices i)

-- U and V
pub follow-unique : {p n w l k e c f : ℕ} {u v u₁ v₁ u₂ v₂ : List ℕ}
    → Followed p n w l k e c f u v u₁ v₁ → Followed p n w l k e c f u v u₂ v₂ → ◌≡◌ {A = List ℕ × List ℕ} (u₁, v₁) (u₂, v₂)
follow-unique f g =
    let us = written-unique f.u_move g.u_move in
    let vs = written-unique f.v_move g.v_move in
    λ i. (us i, vs i)
