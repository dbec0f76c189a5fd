-- Left-equivalent matrices, both with their leading terms in different columns, have the same leading terms.
use mathlib.Core.Path.{◌≡◌, sym, ◌∙◌, ap, ap₂}
use Prim.Native.Nat.{ℕ, ◌+◌, ◌<◌}
use native.Mathlib.Omega.{arith}
use Rattle.theory_algebra.specs.Ring.{CommRing}
use Rattle.theory_algebra.specs.Field.{Field}
use Rattle.theory_algebra.specs.Matrix.{product}
use Rattle.theory_lattice.specs.Term.{Term, term, up, TermOrder}
use Rattle.theory_lattice.specs.Row.{Row, comb}
use Rattle.theory_lattice.specs.Lead.{Lead, LeadsApart}
use Rattle.theory_lattice.specs.PolynomialMatrix.{LeftEquivalent}
use Rattle.theory_lattice.proofs.Lead.{lead-same, apart-column}
use Rattle.theory_lattice.proofs.LeadTheorem.{Greatest, Known, lead-theorem, led-lead}
use Rattle.theory_lattice.proofs.LeftEquivalent.{equivalent-sym}

-- two terms that are multiples of each other are equal
multiples-same : (s t : Term) (a b : ℕ) → s ≡ up a t → t ≡ up b s → t ≡ s
multiples-same s t a b e f =
    let d : s.deg ≡ a + t.deg = ap (λ u. u.deg) e in
    let d' : t.deg ≡ b + s.deg = ap (λ u. u.deg) f in
    ap₂ term (ap (λ u. u.col) f) (omega arith)

module _ {F : Type 0} (K : Field F) {m : ℕ} (T : TermOrder m) (n : ℕ) where
  abbrev R : CommRing F
  R = K.ring

  -- the leading term of a row of P is a multiple of that of a row of Q
  lead-multiple : (P Q : ℕ → Row F) (e : LeftEquivalent R n m Q P) → Known K T n Q → LeadsApart R T n Q
      → (i : ℕ) → i < n → (s : Term) → Lead R T s (P i) → (g : Greatest K T n (e.W i) Q) × (s ≡ up g.exp g.row)
  unfolding product comb
  lead-multiple P Q e known apart i l s x =
      led-lead K T n (e.W i) Q (lead-theorem K T n (e.W i) Q (λ j lj. e.inverse.left_polynomial i j l lj) known apart) s
      (lead-same R T s (P i) _ (λ u lu. sym (ap (λ f. f u.deg) (e.carries i u.col l lu))) x)

  -- and, since that is one of a row of P in turn, it is itself the leading term of a row of Q
  pub same-lead : (P Q : ℕ → Row F) → LeftEquivalent R n m P Q → Known K T n P → LeadsApart R T n P → Known K T n Q → LeadsApart R T n Q
      → (i : ℕ) → i < n → (s : Term) → Lead R T s (P i) → (j : ℕ) × (j < n) × Lead R T s (Q j)
  same-lead P Q e known-P apart-P known-Q apart-Q i l s x =
      let (g, u) = lead-multiple P Q (equivalent-sym e) known-Q apart-Q i l s x in
      let (h, v) = lead-multiple Q P e known-P apart-P g.at g.fits g.row g.row-lead in
      let w = apart-column R T n P apart-P i h.at l h.fits s h.row x h.row-lead (ap (λ t. t.col) (u ∙ ap (up g.exp) v)) in
      (g.at, g.fits, rw (multiples-same s g.row _ _ u (v ∙ ap (up h.exp) (sym w))) at g.row-lead)
