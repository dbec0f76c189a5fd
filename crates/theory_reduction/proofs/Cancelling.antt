-- The multiple c x^e of a row g that removes the term t of a row f, where t is x^e times the leading term of g, in any term order.
use mathlib.Core.Path.{◌≡◌, sym, ◌∙◌, ap, subst}
use mathlib.Core.Logic.{◌≢◌}
use Prim.Native.Nat.{ℕ}
use Rattle.theory_algebra.specs.Field.{Field}
use Rattle.theory_algebra.specs.Series.{mono}
use Rattle.theory_algebra.specs.Polynomial.{Degree}
use Rattle.theory_algebra.proofs.Ring as Ring
use Rattle.theory_algebra.proofs.Series.{mono-same}
use Rattle.theory_rings.specs.Series.{series}
use Rattle.theory_rings.proofs.Series.{neg-at}
use Rattle.theory_lattice.specs.Term.{Term, up, TermOrder}
use Rattle.theory_lattice.specs.Row.{Row, coef, scale}
use Rattle.theory_lattice.specs.Lead.{Lead}
use Rattle.theory_lattice.proofs.Coefficients.{degree-mono, degree-neg}
use Rattle.theory_lattice.proofs.Lead.{lead-scale, lead-scale-coef}

module _ {F : Type 0} (K : Field F) {m : ℕ} (T : TermOrder m) (f g : Row F) (s t : Term) (e : ℕ)
    (lead : Lead K.ring T s g) (shifted : up e s ≡ t) (some : coef f t ≢ K.ring.𝟘) where
  infixl 65 ◌⊕◌
  infixl 70 ◌⊛◌
  open K.ring use {add as ◌⊕◌, mul as ◌⊛◌, neg, 𝟘}

  -- c, the quotient of the two coefficients, and c x^e
  abbrev c : F
  c = coef f t ⊛ K.inv (coef g s)

  abbrev q : ℕ → F
  q = mono K.ring c e

  -- - c x^e g
  abbrev multiple : Row F
  multiple = scale K.ring ((series K.ring).neg q) g

  divided : c ⊛ coef g s ≡ coef f t
  divided =
      Ring.mul_assoc K.ring _ _ _
      ∙ ap (λ x. coef f t ⊛ x) (Ring.mul_comm K.ring _ _ ∙ K.mul-inv (coef g s) lead.top)
      ∙ Ring.mul-one K.ring _

  pub quotient-degree : Degree K.ring q e
  quotient-degree = degree-mono K.ring c e (λ z. some (sym divided ∙ ap (λ x. x ⊛ coef g s) z ∙ Ring.zero-mul K.ring _))

  -- its leading term is that term of f, with the opposite coefficient
  pub multiple-lead : Lead K.ring T t multiple
  multiple-lead = subst (λ u. Lead K.ring T u multiple) shifted (lead-scale K T _ g e s (degree-neg K.ring q e quotient-degree) lead)

  pub multiple-cancels : coef f t ⊕ coef multiple t ≡ 𝟘
  multiple-cancels =
      ap (λ x. coef f t ⊕ x)
      (ap (coef multiple) (sym shifted)
      ∙ lead-scale-coef K.ring T _ g e s (degree-neg K.ring q e quotient-degree) lead
      ∙ ap (λ x. x ⊛ coef g s) (neg-at K.ring q e ∙ ap neg (mono-same K.ring c e))
      ∙ Ring.neg-mul K.ring _ _
      ∙ ap neg divided)
      ∙ Ring.add-neg K.ring _
