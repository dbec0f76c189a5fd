-- Left-equivalent reduced bases are equal.
use mathlib.Core.Path.{◌≡◌, sym, ◌∙◌, ap, fun_ext}
use Prim.Native.Nat.{ℕ, ◌<◌}
use native.Mathlib.Omega.{arith}
use Rattle.theory_algebra.specs.Ring.{CommRing}
use Rattle.theory_algebra.specs.Field.{Field}
use Rattle.theory_algebra.specs.Matrix.{Same, product, identity}
use Rattle.theory_algebra.proofs.Ring as Ring
use Rattle.theory_rings.specs.Series.{series}
use Rattle.theory_rings.proofs.Series.{add_at, neg-at}
use Rattle.theory_rings.proofs.Polynomial.{polynomial-add, polynomial-neg, polynomial-identity}
use Rattle.theory_algebra.proofs.Matrix.{less-identity-product}
use Rattle.theory_lattice.specs.Term.{Term, term, up, TermOrder}
use Rattle.theory_lattice.specs.RowOrder.{RowOrder}
use Rattle.theory_lattice.specs.Row.{Row, coef, Null, comb}
use Rattle.theory_lattice.specs.Lead.{Lead}
use Rattle.theory_lattice.specs.PolynomialMatrix.{LeftEquivalent}
use Rattle.theory_lattice.specs.ReducedBasis.{ReducedBasis}
use Rattle.theory_lattice.proofs.LeadTheorem.{lead-theorem, led-null}
use Rattle.theory_lattice.proofs.LeftEquivalent.{equivalent-sym}
use Rattle.theory_lattice.proofs.Leads.{same-lead}
use Rattle.theory_lattice.proofs.RowOrder.{Members, same-list}
use Rattle.theory_lattice.proofs.ReducedBasis.{basis-known, basis-lead, basis-apart, basis-at}

module _ {F : Type 0} (K : Field F) where
  infixl 65 ◌⊕◌
  open K.ring use {add as ◌⊕◌, neg}

  abbrev R : CommRing F
  R = K.ring

  abbrev S : CommRing (ℕ → F)
  S = series R

  module _ {m : ℕ} {T : TermOrder m} {O : RowOrder} {n : ℕ} where
    -- the leading terms of P are among those of Q
    members : {P Q : ℕ → Row F} (b : ReducedBasis R T O n P) (c : ReducedBasis R T O n Q) → LeftEquivalent R n m P Q
        → Members b.rank b.lead c.rank c.lead
    members {P} {Q} b c e i l =
        let found = same-lead K T n P Q e (basis-known K b) (basis-apart b) (basis-known K c) (basis-apart c) in
        let (j, lj, x) = found i (omega (arith, b.rank_fits)) (b.lead i) (b.leads i l) in
        let (l', w) = basis-lead c j lj (b.lead i) x in
        (j, l', w)

    module _ {P Q : ℕ → Row F} (b : ReducedBasis R T O n P) (c : ReducedBasis R T O n Q) (e : LeftEquivalent R n m P Q) where
      -- at a multiple of a leading term P and Q agree, for both have the same leading terms in the same order
      agree : (i j : ℕ) → i < n → j < n → (t : Term) → Lead R T t (P j) → (a : ℕ) → coef (Q i) (up a t) ≡ coef (P i) (up a t)
      agree i j li lj t x a =
          let found = same-list O b.rank c.rank b.lead c.lead b.sorted c.sorted in
          let (ranks, leads) = found (members b c e) (members c b (equivalent-sym e)) in
          let (l, w) = basis-lead b j lj t x in
          rw w (ap (λ u. coef (Q i) (up a u)) (leads j l) ∙ basis-at c i j a li (omega arith) ∙ sym (basis-at b i j a li l))

      -- row i of Q less row i of P is a combination of the rows of P
      abbrev factors : ℕ → ℕ → ℕ → F
      factors i j = S.add (e.W i j) (S.neg (identity S i j))

      difference : (i : ℕ) → i < n → (u : Term) → u.col < m → coef (comb R n (factors i) P) u ≡ coef (Q i) u ⊕ neg (coef (P i) u)
      unfolding comb product
      difference i l u lu =
          ap (λ f. f u.deg)
          (less-identity-product S n m e.W P i u.col l lu ∙ ap (λ f. S.add f (S.neg (P i u.col))) (e.carries i u.col l lu))
          ∙ add_at R _ _ u.deg
          ∙ ap (λ x. coef (Q i) u ⊕ x) (neg-at R _ u.deg)

      -- with no term at a multiple of a leading term, so that it is a zero row
      pub basis-unique : Same n m P Q
      basis-unique i c li lc = fun_ext (λ k. sym (Ring.add-cancel R _ _ (neg (P i c k))
          (sym (difference i li (term c k) lc) ∙ zero_row (term c k) lc ∙ sym (Ring.add-neg R (P i c k)))))
        where
          zero_row : Null R m (comb R n (factors i) P)
          zero_row = led-null K T n (factors i) P
              (lead-theorem K T n (factors i) P
              (λ j lj. polynomial-add R _ _ (e.inverse.left_polynomial i j li lj) (polynomial-neg R _ (polynomial-identity R i j)))
              (basis-known K b) (basis-apart b))
              (λ j lj t x a. difference i li (up a t) x.inside ∙ rw (agree i j li lj t x a) (Ring.add-neg R _))
