-- The laws of the residues modulo p, by which they are a commutative ring, and a field where p is a prime.
use mathlib.Core.Path.{◌≡◌, sym, ◌∙◌, ap}
use mathlib.Core.Logic.{◌≢◌}
use mathlib.Core.HLevel.{is_prop→PathP}
use Prim.Native.Nat.{ℕ, zero, suc, ◌+◌, ◌-◌, ◌*◌, ◌%◌, ◌/◌, ◌≤◌, ◌<◌}
use native.Mathlib.Omega.{arith}
use native.Mathlib.Decide.{ℕ_discrete}
use native.Mathlib.Bridge.{le_prop}
use native.Mathlib.Nat as N
use Rattle.theory_algebra.specs.Prime.{Prime}
use Rattle.theory_algebra.specs.Residue.{Zp, inverse_by, of, plus, times, opposite, inverse}

-- a factor may be reduced first
pub mul_mod_right : (a b m : ℕ) → a * (b % m) % m ≡ a * b % m
mul_mod_right a b m =
    let e : a * b ≡ a * (b % m) + m * (a * (b / m)) =
    sym (ap (λ x. a * x) (N.mod-add-div b m)) ∙ N.mul-add a (b % m) (m * (b / m)) ∙ ap (λ x. a * (b % m) + x) (N.mul_left_comm a m (b / m)) in
    sym (ap (λ x. x % m) e ∙ N.add-mul-mod_self_left (a * (b % m)) m (a * (b / m)))

pub mul_mod_left : (a b m : ℕ) → (a % m) * b % m ≡ a * b % m
mul_mod_left a b m = ap (λ x. x % m) (N.mul_comm (a % m) b) ∙ mul_mod_right b a m ∙ ap (λ x. x % m) (N.mul_comm b a)

-- residues with equal numbers are equal
pub zp-path : {p : ℕ} (a b : Zp p) → a.val ≡ b.val → a ≡ b
zp-path {p} a b e = λ i. record { val = e i; lt = is_prop→PathP (λ j. e j < p) (λ j. le_prop) a.lt b.lt i }

-- whether two residues are equal
unfoldable pub zp-dec : {p : ℕ} (a b : Zp p) → Dec (a ≡ b)
zp-dec a b = elim (ℕ_discrete a.val b.val) [ yes e ↦ yes (zp-path a b e) | no h ↦ no (λ e. h (ap (λ x. x.val) e)) ]

module _ (p : ℕ) (some : 0 < p) where
  pub plus_comm : (a b : Zp p) → plus p some a b ≡ plus p some b a
  plus_comm a b = ap (of p some) (N.add_comm a.val b.val)

  pub plus_assoc : (a b c : Zp p) → plus p some (plus p some a b) c ≡ plus p some a (plus p some b c)
  plus_assoc a b c = zp-path _ _ (simp (N.mod-add-mod, N.add-mod-mod, N.add_assoc))

  pub plus-zero : (a : Zp p) → plus p some a (of p some 0) ≡ a
  plus-zero a = zp-path _ _ (simp (N.zero-mod, N.add-zero) (N.mod-eq_of_lt a.lt))

  pub plus-opposite : (a : Zp p) → plus p some a (opposite p some a) ≡ of p some 0
  plus-opposite a = zp-path _ _ whole
    where
      whole : (a.val + (p - a.val) % p) % p ≡ 0 % p
      whole =
          let l : a.val < p = a.lt in
          let e : a.val + (p - a.val) ≡ p = omega arith in
          N.add-mod-mod a.val (p - a.val) p ∙ ap (λ x. x % p) e ∙ N.mod_self p ∙ sym (N.zero-mod p)

  pub times-comm : (a b : Zp p) → times p some a b ≡ times p some b a
  times-comm a b = ap (of p some) (N.mul_comm a.val b.val)

  pub times-assoc : (a b c : Zp p) → times p some (times p some a b) c ≡ times p some a (times p some b c)
  times-assoc a b c = zp-path _ _ (simp (mul_mod_left, mul_mod_right, N.mul_assoc))

  pub times-one : (a : Zp p) → times p some a (of p some 1) ≡ a
  times-one a = zp-path _ _ (simp (mul_mod_right, N.mul-one) (N.mod-eq_of_lt a.lt))

  pub times-plus : (a b c : Zp p) → times p some a (plus p some b c) ≡ plus p some (times p some a b) (times p some a c)
  times-plus a b c = zp-path _ _ (simp (mul_mod_right, N.mod-add-mod, N.add-mod-mod, N.mul-add))

-- p = (p / a) a + p % a, so a (p - p / a) and p % a are equal modulo p
pub complement : (p a : ℕ) → 0 < a → a * (p - p / a) ≡ p * (a - 1) + p % a
complement p a pos =
    let d : a * (p / a) + p % a ≡ p = N.div-add-mod p a in
    let m : p * 1 ≤ p * a = N.mul-le-mul_left p pos in
    rw (N.mul-sub a p (p / a), N.mul-sub p a 1) (omega arith)

module _ (p : ℕ) (P : Prime p) where
  pub positive : 0 < p
  positive = let two : 2 ≤ p = P.two in omega arith

  -- an inverse y of p % a gives one of a
  step : (a y : ℕ) → 0 < a → a < p → p % a * y % p ≡ 1 → a * ((p - p / a) * y) % p ≡ 1
  step a y pos l h = ap (λ x. x % p) e ∙ N.mul-add-mod_self_left p ((a - 1) * y) (p % a * y) ∙ h
    where
      e : a * ((p - p / a) * y) ≡ p * ((a - 1) * y) + p % a * y
      e = sym (N.mul_assoc a (p - p / a) y) ∙ ap (λ x. x * y) (complement p a pos) ∙ N.add-mul (p * (a - 1)) (p % a) y
          ∙ ap (λ x. x + p % a * y) (N.mul_assoc p (a - 1) y)

  inverse-by : (n a : ℕ) → a ≤ n → 0 < a → a < p → a * inverse_by n p a % p ≡ 1
  unfolding inverse_by
  inverse-by zero a l some lp = absurd (omega arith)
  inverse-by (suc n) zero l some lp = absurd (omega arith)
  inverse-by (suc n) (suc zero) l some lp = N.mod-eq_of_lt P.two
  inverse-by (suc n) (suc (suc b)) l some lp =
      let r : p % suc (suc b) < suc (suc b) = N.mod-lt p some in
      let z : 0 < p % suc (suc b) = N.pos_of_ne-zero (P.only (suc (suc b)) (omega arith) lp) in
      step (suc (suc b)) (inverse_by n p (p % suc (suc b))) some lp (inverse-by n (p % suc (suc b)) (omega arith) z (omega arith))

  pub times-inverse : (a : Zp p) → a ≢ of p positive 0 → times p positive a (inverse p positive a) ≡ of p positive 1
  times-inverse a ne =
      let some : 0 < a.val = N.pos_of_ne-zero (λ z. ne (zp-path _ _ (z ∙ sym (N.zero-mod p)))) in
      zp-path _ _
      (mul_mod_right a.val _ p ∙ inverse-by a.val a.val (omega arith) some a.lt ∙ sym (N.mod-eq_of_lt P.two))

  pub one_not_zero : of p positive 1 ≢ of p positive 0
  one_not_zero e = differ (ap (λ x. x.val) e)
    where
      differ : 1 % p ≡ 0 % p → ⊥
      differ e = omega (arith, N.mod-eq_of_lt P.two, N.zero-mod p)
