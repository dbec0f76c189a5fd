-- W9 to W12: the numbers that calls return.
use mathlib.Core.Path.{◌≡◌, refl, sym, subst, ◌∙◌}
use mathlib.Core.Logic.{◌≢◌, ◌⊎◌, inl, inr}
use mathlib.Core.List.{List, [], ◌∷◌}
use mathlib.Core.Option.{get}
use Prim.Native.Nat.{ℕ, ◌≤◌}
use native.Mathlib.Omega.{arith}
use Rattle.theory_algebra.specs.Modulus.{Accepted}
use Rattle.matrix_promises.specs.Answering.{Rule, Told}
use Rattle.matrix_promises.specs.Refused.{InShape, InDegree, reduction_sizes, step_sizes, determinant_sizes}
use Rattle.matrix_promises.specs.Refused.{number_rules, square_rule, length_rule, coefficient_rule}
use Rattle.examples.specs.Example.{Kind, Reduction, SingleStep, Determinant, table_of, Returns, DoesNotReturn, Sized}
use Rattle.examples.specs.WExamples.{w9, w10, w11, w12}
use Rattle.examples.proofs.Opened.{decisions}
use Rattle.examples.proofs.Decisions.{accepted}

-- each rule has another number than k, or what it wants holds
abbrev Never : ℕ → List Rule → Type 0
Never k [] = k ≢ 0
Never k ((j, right, at) ∷ rules) = ((j ≢ k) ⊎ right) × Never k rules

-- so the table does not say k
never-told : (k : ℕ) (rules : List Rule) → Never k rules → (number place : ℕ) → Told rules number place → number ≢ k
never-told k [] some number place told e = some (sym e ∙ told.0)
never-told k (rule ∷ rules) (inl differ, rest) number place (inl x) e = differ (sym x.1 ∙ e)
never-told k (rule ∷ rules) (inr right, rest) number place (inl x) e = x.0 right
never-told k (rule ∷ rules) (either, rest) number place (inr x) e = never-told k rules rest number place x.1 e

-- the rows of a service after those of the numbers
abbrev further : Kind → (p n m d : ℕ) (given a : List ℕ) → List Rule
further Reduction p n m d given a = length_rule given (reduction_sizes n m d) ∷ coefficient_rule p a ∷ []
further SingleStep p n m d given a = length_rule given (step_sizes n m d) ∷ coefficient_rule p a ∷ []
further Determinant p n m d given a = square_rule n m ∷ length_rule given (determinant_sizes n m d) ∷ coefficient_rule p a ∷ []

-- their numbers are above 3
later : (service : Kind) (p n m d : ℕ) (given a : List ℕ) (k : ℕ) → 1 ≤ k → k ≤ 3 → Never k (further service p n m d given a)
later Reduction p n m d given a k some few = (inl (λ e. omega (arith, e)), (inl (λ e. omega (arith, e)), (λ e. omega (arith, e))))
later SingleStep p n m d given a k some few = (inl (λ e. omega (arith, e)), (inl (λ e. omega (arith, e)), (λ e. omega (arith, e))))
later Determinant p n m d given a k some few =
    (inl (λ e. omega (arith, e)), (inl (λ e. omega (arith, e)), (inl (λ e. omega (arith, e)), (λ e. omega (arith, e)))))

module _ (service : Kind) (p n m d : ℕ) (given a : List ℕ) where
  abbrev rows : List Rule
  rows = number_rules p n m d (further service p n m d given a)

  -- its table has them all
  whole : table_of service p n m d given a ≡ rows
  whole = go service
    where
      go : (s : Kind) → table_of s p n m d given a ≡ number_rules p n m d (further s p n m d given a)
      go Reduction = refl
      go SingleStep = refl
      go Determinant = refl

  returns : (number place : ℕ) → Told rows number place → Returns service p n m d given a number place
  returns number place told = subst (λ (table : List Rule). Told table number place) (sym whole) told

  does_not : (k : ℕ) → Never k rows → DoesNotReturn service p n m d given a k
  does_not k never number place told =
      never-told k rows never number place (subst (λ (table : List Rule). Told table number place) whole told)

  -- where the buffers have their lengths, the coefficients decide
  coefficients-say : Accepted p → InShape n m → InDegree d → Sized service n m d given → (number place : ℕ)
      → Told (coefficient_rule p a ∷ []) number place → Returns service p n m d given a number place
  coefficients-say modulus shape degree sized number place told = returns number place
      (inr (modulus, inr (shape, inr (degree, go service sized))))
    where
      go : (s : Kind) → Sized s n m d given → Told (further s p n m d given a) number place
      go Reduction right = inr (right, told)
      go SingleStep right = inr (right, told)
      go Determinant (square, right) = inr (square, inr (right, told))

largest-accepted : Accepted 65521
unfolding accepted decisions
largest-accepted = get (accepted 65521) tt

pub w9-holds : w9
w9-holds service n m d given a = (
  returns service 9 n m d given a 1 0 (inl ((λ x. x.prime.only 3 (omega arith) (omega arith) refl), refl, refl)),
  returns service 1 n m d given a 1 0 (inl ((λ x. omega (arith, x.prime.two)), refl, refl)),
  does_not service 65521 n m d given a 1 (
    inr largest-accepted,
    (
      inl (λ e. omega (arith, e)),
      (
        inl (λ e. omega (arith, e)),
        later service 65521 n m d given a 1 (omega arith) (omega arith),
      ),
    ),
  ),
)

pub w10-holds : w10
w10-holds service p m d given a = (
  (λ modulus. returns service p 9 m d given a 2 0 (inr (modulus, inl ((λ shape. omega (arith, shape.rows_most)), refl, refl)))),
  (λ some few. does_not service p 8 m d given a 2 (
    inl (λ e. omega (arith, e)),
    (
      inr (record { rows = omega arith; rows_most = omega arith; columns = some; columns_most = few }),
      (inl (λ e. omega (arith, e)), later service p 8 m d given a 2 (omega arith) (omega arith)),
    ),
  )),
)

pub w11-holds : w11
w11-holds service p n m given a = (
  (λ modulus shape. returns service p n m 64 given a 3 0 (inr (modulus, inr (shape, inl ((λ degree. omega (arith, degree)), refl, refl))))),
  does_not service p n m 63 given a 3 (
    inl (λ e. omega (arith, e)),
    (
      inl (λ e. omega (arith, e)),
      (
        inr (omega arith),
        later service p n m 63 given a 3 (omega arith) (omega arith),
      ),
    ),
  ),
)

seven-accepted : Accepted 7
unfolding accepted decisions
seven-accepted = get (accepted 7) tt

pub w12-holds : w12
w12-holds service n m d given a shape degree sized = (
  (λ inside seven before. coefficients-say service 7 n m d given a seven-accepted shape degree sized 6 3 (inl (
    (λ residues. omega (arith, residues.below 3 inside, seven)),
    refl,
    record { within = omega arith; here = λ _. omega (arith, seven); before = λ i l high. omega (arith, before i l, high) },
  ))),
  (λ few. coefficients-say service 7 n m d given a seven-accepted shape degree sized 0 0
      (inr (record { below = λ i l. omega (arith, few i l) }, (refl, refl)))),
)
