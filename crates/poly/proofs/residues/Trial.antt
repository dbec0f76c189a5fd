-- The search for a divisor of p, which after 2 and 3 tries the numbers 6k - 1 and 6k + 1 only.
use mathlib.Core.Path.{◌≡◌, sym, ap, ◌∙◌}
use Prim.Native.Nat.{ℕ, ◌+◌, ◌*◌, ◌/◌, ◌%◌, ◌≤◌}
use native.Mathlib.Nat.{zero-mod, mod-mod_of_dvd, dvd_of_mod-eq-zero, div-add-mod'}
use native.Mathlib.Decide.{dec_le}
use native.Mathlib.Omega.{arith}
use Rattle.theory_algebra.proofs.Primality.{NoneBelow}

-- where the search stands that has come to d
pub record Trying (p d : ℕ) : Type 0 where
  pub none : NoneBelow p d
  pub from : 5 ≤ d
  pub place : d % 6 ≡ 5

-- what divides a divisor divides p
through : (p e f : ℕ) → e % f ≡ 0 → p % e ≡ 0 → p % f ≡ 0
through p e f h z = sym (mod-mod_of_dvd f p (dvd_of_mod-eq-zero f h)) ∙ ap (λ (x : ℕ). x % f) z ∙ zero-mod f

-- of the numbers from d to d + 5 all but d and d + 2 are multiples of 2 or of 3
pub trying-turn : (p d : ℕ) → Trying p d → (p / d * d ≡ p → ⊥) → (p % (d + 2) ≡ 0 → ⊥) → Trying p (d + 6)
trying-turn p d t first second = record { none = none; from = omega arith; place = omega arith }
  where
    none : NoneBelow p (d + 6)
    none e h l z = elim (dec_le d e) [
      | no before ↦ t.none e (omega arith) l z
      | yes from ↦
          (let odd : e % 2 ≡ 0 → ⊥ = λ even. t.none 2 (omega arith) (omega arith) (through p e 2 even z) in
          let other : e % 3 ≡ 0 → ⊥ = λ three. t.none 3 (omega arith) (omega arith) (through p e 3 three z) in
          elim (dec_le e d) [
            | yes at ↦ (let same : e ≡ d = omega arith in first (omega (arith, div-add-mod' p d, rw same at z)))
            | no past ↦ (let same : e ≡ d + 2 = omega arith in second (rw same at z))
          ])
    ]
