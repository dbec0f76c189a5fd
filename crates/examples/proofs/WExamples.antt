-- The definitions give the values of paper 01's examples. Where an example has all its numbers, what the definitions give is worked out,
-- and where that is what the example says, the example is proved.
use mathlib.Core.Path.{◌≡◌, refl, ap₂, subst}
use mathlib.Core.List.{List, [], ◌∷◌}
use mathlib.Core.Option.{Option, none, some, map, bind, get}
use Prim.Native.Nat.{ℕ, ◌+◌, ◌*◌}
use native.Mathlib.Decide.{ℕ_discrete}
use lib.ListN.{length}
use Rattle.matrix_promises.specs.Determinant.{IsDeterminant}
use Rattle.examples.specs.Answers.{Answers}
use Rattle.examples.specs.Example.{Name, named, Example, answers, determinant, Every, Gives}
use Rattle.examples.specs.WExamples.{w1, w2, w3, w4, w6, w8, w_examples, All}
use Rattle.examples.proofs.Opened.{decisions, arithmetic, buffers, first_kind, second_kind}
use Rattle.examples.proofs.Listing.{listing, written}
use Rattle.examples.proofs.Decisions.{both, where-yes, in-range, coefficients}
use Rattle.examples.proofs.Computed.{Taken, computed, expanded, is-determinant}
use Rattle.examples.proofs.Open.{w5-holds, w7-holds}
use Rattle.examples.proofs.Refusals.{w9-holds, w10-holds, w11-holds, w12-holds}

-- the lists are the same
unfoldable same : (l l' : List ℕ) → Option (l ≡ l')
same [] [] = some refl
same [] (y ∷ l') = none
same (x ∷ l) [] = none
same (x ∷ l) (y ∷ l') = map (λ e. ap₂ ◌∷◌ e.0 e.1) (both (where-yes (ℕ_discrete x y)) (same l l'))

-- a matrix is not refused
unfoldable taken : (p n m d : ℕ) (a : List ℕ) → Option (Taken p n m d a)
taken p n m d a = map (λ x. record { numbers = x.0; residues = x.1.0; size = x.1.1 })
    (both (in-range p n m d) (both (coefficients p a) (where-yes (ℕ_discrete (length a) (n * (m * (d + 1)))))))

-- the answers have all the values
unfoldable all_named : {p n m d : ℕ} {a : List ℕ} (x : Answers p n m d a) (values : List (Name × List ℕ))
    → Option (Every (λ (v : Name × List ℕ). named x v.0 ≡ v.1) values)
all_named x [] = some tt
all_named x (v ∷ values) = both (same (named x v.0) v.1) (all_named x values)

-- the law: an example is proved, or what is worked out differs from it
unfoldable given : (e : Example) → Option (Gives e)
unfolding both where-yes same in-range coefficients taken all_named bind
given (answers p n m d a values) = bind (taken p n m d a) (λ x. map (λ y. (computed x, y)) (all_named (computed x) values))
given (determinant p n d a l) =
    bind (taken p n n d a) (λ x. map (λ e. subst (IsDeterminant p n d a) e (is-determinant x)) (same (expanded x) l))

unfoldable all-given : (l : List Example) → Option (Every Gives l)
unfolding given
all-given [] = some tt
all-given (e ∷ l) = both (given e) (all-given l)

-- "Prove W1 to W12 as one statement over one list of the definitions."
pub w-examples-given : All w_examples
unfolding all-given computed written listing decisions arithmetic buffers first_kind second_kind
w-examples-given = (
  get (all-given w1) tt,
  (
    get (all-given w2) tt,
    (
      get (all-given w3) tt,
      (
        get (all-given w4) tt,
        (
          w5-holds,
          (get (all-given w6) tt, (w7-holds, (get (all-given w8) tt, (w9-holds, (w10-holds, (w11-holds, (w12-holds, tt))))))),
        ),
      ),
    ),
  ),
)
