-- A step that is repeated until none applies, over any states.
use Rattle.std.specs.Prelude.{ℕ, suc}

-- what makes a step apply at a state, what makes a state an end, and what a step that applies leads to
pub record Process (X : Type 0) : Type 1 where
  pub Next : X → Type 0
  pub Halt : X → Type 0
  pub apply : (x : X) → Next x → X

module _ {X : Type 0} (P : Process X) where
  -- c steps lead from x to y, where none applies. Each may be any that applies, which is harmless: of the processes here it is proved
  -- that none applies at an end and that all that apply lead to one state, so that count and end are determined (`iterates-unique`).
  pub data Iterates : ℕ → X → X → Type 0 where
    halt : {x : X} → P.Halt x → Iterates 0 x x
    more : {c : ℕ} {x y : X} (p : P.Next x) → Iterates c (P.apply x p) y → Iterates (suc c) x y

  -- one step leads from x to y, or none where x is an end; c counts it
  pub data Once : ℕ → X → X → Type 0 where
    none : {x : X} → P.Halt x → Once 0 x x
    one : {x : X} (p : P.Next x) → Once 1 x (P.apply x p)
