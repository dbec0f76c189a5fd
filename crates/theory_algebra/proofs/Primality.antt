-- A number is prime if none of 2, 3, … up to its root divides it: computed by trial division.
use mathlib.Core.Path.{◌≡◌, sym, ◌∙◌, ap, subst}
use mathlib.Core.Bool.{Bool, true, false, not}
use mathlib.Core.HLevel.{⊥_prop}
use Prim.Native.Nat.{ℕ, zero, suc, ◌+◌, ◌*◌, ◌%◌, ◌/◌, ◌≤◌, ◌<◌}
use native.Mathlib.Bridge.{le_prop}
use native.Mathlib.Omega.{arith}
use native.Mathlib.Nat as N
use lib.Dec.{T, eqb, eqb_refl, T_not, lit≤, lit<}
use Rattle.theory_algebra.specs.Prime.{Prime}
use Rattle.theory_algebra.proofs.Cases.{case-le}

-- no number from 2 up to d divides p
abbrev pub NoneBelow : ℕ → ℕ → Type 0
NoneBelow p d = (e : ℕ) → e < d → 2 ≤ e → p % e ≡ 0 → ⊥

-- of p = e (p / e) one factor is below d
pub by-root : (p d : ℕ) → NoneBelow p d → 2 ≤ p → p < d * d → Prime p
by-root p d none two square = record { two = two; only = only }
  where
    only : (e : ℕ) → 2 ≤ e → e < p → p % e ≡ 0 → ⊥
    only e l q z =
        let whole : p ≡ e * (p / e) = omega (arith, N.div-add-mod p e) in
        case-le d e
        (λ h. case-le d (p / e)
        (λ k. omega (arith, N.mul-le-mul h k))
        (λ k. case-le (p / e) 1
        (λ one. omega (arith, N.mul-le-mul_left e one))
        (λ more. none (p / e) k more (ap (λ x. x % (p / e)) whole ∙ N.mul-mod_left e (p / e)))))
        (λ h. none e h l z)

-- none of 2, …, n + 1 divides p
abbrev pub trial : ℕ → ℕ → Bool
trial p zero = true
trial p (suc n) = elim (eqb (p % (n + 2)) 0) [ true ↦ false | false ↦ trial p n ]

trial-sound : (p n : ℕ) → T (trial p n) → NoneBelow p (n + 2)
trial-sound p zero t e q l z = omega arith
trial-sound p (suc n) t e q l z =
    let w = both (eqb (p % (n + 2)) 0) (trial p n) t in
    case-le (n + 2) e
    (λ h.
    let s : e ≡ n + 2 = omega arith in
    let r : p % (n + 2) ≡ 0 = sym (ap (λ x. p % x) s) ∙ z in
    T_not (eqb (p % (n + 2)) 0) w.0 (subst (λ x. T (eqb x 0)) (sym r) (eqb_refl 0)))
    (λ h. trial-sound p n w.1 e h l z)
  where
    both : (b c : Bool) → T (elim b [ true ↦ false | false ↦ c ]) → T (not b) × T c
    both true c t = absurd t
    both false c t = (tt, t)

pub by-trial : (p n : ℕ) → T (trial p n) → 2 ≤ p → p < (n + 2) * (n + 2) → Prime p
by-trial p n t = by-root p (n + 2) (trial-sound p n t)

-- all proofs that p is prime are equal
pub prime-prop : {p : ℕ} (P Q : Prime p) → P ≡ Q
prime-prop P Q = λ i. record {
  two = le_prop P.two Q.two i;
  only = λ d l q z. ⊥_prop (P.only d l q z) (Q.only d l q z) i;
}

pub prime-2 : Prime 2
prime-2 = by-trial 2 0 tt (lit≤ tt) (lit< tt)

pub prime-7 : Prime 7
prime-7 = by-trial 7 1 tt (lit≤ tt) (lit< tt)

pub prime-929 : Prime 929
prime-929 = by-trial 929 29 tt (lit≤ tt) (lit< tt)

pub prime-65521 : Prime 65521
prime-65521 = by-trial 65521 254 tt (lit≤ tt) (lit< tt)
