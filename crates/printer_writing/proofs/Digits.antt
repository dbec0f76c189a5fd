-- The digits of a number that is written.
use Prim.Native.Nat.{ℕ, ◌/◌, ◌%◌, ◌≤◌, ◌<◌}
use mathlib.Core.Path.{◌≡◌, sym, ap, subst, ◌∙◌}
use mathlib.Core.List.{List, [], ◌∷◌, ◌++◌}
use Rattle.printer_format.specs.Number.{digit, decimal}
use Rattle.printer_format.proofs.Number.{decimal-one, decimal-more}
use Rattle.printer_writing.specs.Wrote.{Wrote, Room}
use Rattle.printer_writing.proofs.Writing.{wrote_then, first-room, next-room, wrote_as}

module _ (v : ℕ) (small : v < 10) {b : ℕ} (e : b ≡ digit v) where
  is_one : b ∷ [] ≡ decimal v
  is_one = ap (λ (x : ℕ). x ∷ []) e ∙ sym (decimal-one v small)

  pub one-room : {l : List ℕ} {a : ℕ} → Room l a (decimal v) → Room l a (b ∷ [])
  one-room {l} {a} room = subst (Room l a) (sym is_one) room

  pub one-digit : {l : List ℕ} {a r : ℕ} {l' : List ℕ} → Wrote l a (b ∷ []) r l' → Wrote l a (decimal v) r l'
  one-digit p = wrote_as is_one p

module _ (v : ℕ) (large : 10 ≤ v) {l : List ℕ} {a : ℕ} where
  pub tenth-room : Room l a (decimal v) → Room l a (decimal (v / 10))
  tenth-room room = first-room (decimal (v / 10)) (digit (v % 10) ∷ []) (subst (Room l a) (decimal-more v large) room)

  module _ {i : ℕ} {l' : List ℕ} (front : Wrote l a (decimal (v / 10)) i l') {b : ℕ} (e : b ≡ digit (v % 10)) where
    is-more : decimal (v / 10) ++ (b ∷ []) ≡ decimal v
    is-more = ap (λ (x : ℕ). decimal (v / 10) ++ (x ∷ [])) e ∙ sym (decimal-more v large)

    pub last-room : Room l a (decimal v) → Room l' i (b ∷ [])
    last-room room = next-room (decimal (v / 10)) (b ∷ []) (subst (Room l a) (sym is-more) room) front

    pub last-digit : {r : ℕ} {l'' : List ℕ} → Wrote l' i (b ∷ []) r l'' → Wrote l a (decimal v) r l''
    last-digit p = wrote_as is-more (wrote_then front p)
