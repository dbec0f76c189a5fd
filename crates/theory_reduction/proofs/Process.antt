-- The laws of a step repeated until none applies.
use mathlib.Core.Path.{◌≡◌, refl, ap, subst}
use mathlib.Core.Logic.{◌⊎◌, inl, inr}
use Prim.Native.Nat.{ℕ, zero, suc, ◌+◌, ◌≤◌, ◌<◌}
use native.Mathlib.Omega.{arith}
use Rattle.theory_reduction.specs.Process.{Process, Iterates, halt, more, Once, none, one}

module _ {X : Type 0} (P : Process X) where
  pub iterates-halt : {c : ℕ} {x y : X} → Iterates P c x y → P.Halt y
  iterates-halt (halt h) = h
  iterates-halt (more p r) = iterates-halt r

  -- what every step keeps
  pub iterates-keep : (I : X → Type 0) → ((x : X) (p : P.Next x) → I x → I (P.apply x p)) → {c : ℕ} {x y : X} → Iterates P c x y → I x → I y
  iterates-keep I f (halt h) i = i
  iterates-keep I f (more {x = x} p r) i = iterates-keep I f r (f x p i)

  -- from x the end is reached
  abbrev pub Ends : X → Type 0
  Ends x = (c : ℕ) × (y : X) × Iterates P c x y

  unfoldable pub ends : (x : X) → ((p : P.Next x) → Ends (P.apply x p)) → P.Next x ⊎ P.Halt x → Ends x
  ends x rest (inl p) = let (c, y, r) = rest p in (suc c, y, more p r)
  ends x rest (inr h) = (0, x, halt h)

  -- where a measure falls at every step
  module _ (I : X → Type 0) (keep : (x : X) (p : P.Next x) → I x → I (P.apply x p))
      (measure : X → ℕ) (fall : (x : X) (p : P.Next x) → I x → measure (P.apply x p) < measure x) where
    -- the end is reached, if it can be found out whether a step applies
    module _ (find : (x : X) → P.Next x ⊎ P.Halt x) where
      unfoldable pub within : (s : ℕ) (x : X) → I x → measure x ≤ s → Ends x
      within zero x i l = ends x (λ p. absurd (omega (arith, fall x p i))) (find x)
      within (suc s) x i l = ends x (λ p. within s (P.apply x p) (keep x p i) (omega (arith, fall x p i))) (find x)

      unfoldable pub iterate : (x : X) → I x → Ends x
      iterate x i = within (measure x) x i (omega arith)

    -- and the measure bounds the count
    pub iterates-count : {c : ℕ} {x y : X} → Iterates P c x y → I x → c + measure y ≤ measure x
    iterates-count (halt h) i = omega arith
    iterates-count (more {x = x} p r) i = omega (arith, fall x p i, iterates-count r (keep x p i))

  -- where no step applies at an end, and all steps that apply lead to one state
  module _ (exclusive : (x : X) → P.Next x → ¬ (P.Halt x)) (determined : (x : X) (p q : P.Next x) → P.apply x p ≡ P.apply x q) where
    -- count and end are determined
    pub iterates-unique : {c d : ℕ} {x y z : X} → Iterates P c x y → Iterates P d x z → (c ≡ d) × (y ≡ z)
    iterates-unique (halt h) (halt g) = (refl, refl)
    iterates-unique (halt h) (more {x = x} q s) = absurd (exclusive x q h)
    iterates-unique (more {x = x} p r) (halt g) = absurd (exclusive x p g)
    iterates-unique (more {x = x} p r) (more {c = d} {y = z} q s) =
        let (e, f) = iterates-unique r (subst (λ y. Iterates P d y z) (determined x q p) s) in
        (ap suc e, f)

    pub once-unique : {c d : ℕ} {x y z : X} → Once P c x y → Once P d x z → (c ≡ d) × (y ≡ z)
    once-unique (none h) (none g) = (refl, refl)
    once-unique (none h) (one {x = x} q) = absurd (exclusive x q h)
    once-unique (one {x = x} p) (none g) = absurd (exclusive x p g)
    once-unique (one {x = x} p) (one q) = (refl, determined x p q)
