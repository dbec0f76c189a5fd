-- "Degree over position" is a term order.
use mathlib.Core.Path.{◌≡◌, sym, ◌∙◌, ap, ap₂}
use mathlib.Core.Logic.{inl, inr}
use Prim.Native.Nat.{ℕ, suc, ◌+◌, ◌*◌, ◌/◌, ◌%◌, ◌<◌}
use native.Mathlib.Omega.{arith}
use native.Mathlib.Nat as N
use Rattle.theory_algebra.proofs.Cases.{case-le}
use Rattle.theory_lattice.specs.Term.{Term, term, up, TermOrder}
use Rattle.theory_lattice.specs.DegreeOverPosition.{key}

-- the degree and the column, from the key
pub key-deg : (m : ℕ) (t : Term) → t.col < m → key m t / m ≡ t.deg
key-deg m t l =
    N.mul-add-div_right (omega arith) t.deg t.col ∙ ap (λ x. t.deg + x) (N.div-eq_of_lt l) ∙ N.add-zero t.deg

pub key-col : (m : ℕ) (t : Term) → t.col < m → key m t % m ≡ t.col
key-col m t l = N.mul-add-mod_self_right t.deg m t.col ∙ N.mod-eq_of_lt l

pub key-injective : (m : ℕ) (s t : Term) → s.col < m → t.col < m → key m s ≡ key m t → s ≡ t
key-injective m s t ls lt e =
    ap₂ term (sym (key-col m s ls) ∙ ap (λ x. x % m) e ∙ key-col m t lt) (sym (key-deg m s ls) ∙ ap (λ x. x / m) e ∙ key-deg m t lt)

pub key-up : (m e : ℕ) (t : Term) → key m (up e t) ≡ e * m + key m t
key-up m e t = ap (λ x. x + t.col) (N.add-mul e t.deg m) ∙ N.add_assoc (e * m) (t.deg * m) t.col

unfoldable pub degree-over-position : (m : ℕ) → TermOrder m
degree-over-position m = record {
  lt = λ s t. key m s < key m t;
  trans = λ s t u p q. omega arith;
  irrefl = λ t p. omega arith;
  total = λ s t ls lt. case-le (suc (key m s)) (key m t) inl
      (λ q. case-le (suc (key m t)) (key m s) (λ p. inr (inr p)) (λ p. inr (inl (key-injective m s t ls lt (omega arith)))));
  grow = λ c j k i l. omega (arith, N.mul-le-mul_right m l, N.suc-mul j m);
  shift = λ e s t l. rw (key-up m e s, key-up m e t) (omega arith);
}
