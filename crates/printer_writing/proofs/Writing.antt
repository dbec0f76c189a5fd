-- The laws of writing: one text after another.
use Prim.Native.Nat.{ℕ, suc, ◌+◌}
use mathlib.Core.Path.{◌≡◌, refl, sym, ap, subst, ◌∙◌}
use mathlib.Core.List.{List, [], ◌∷◌, ◌++◌, append_assoc, append-nil}
use native.Mathlib.Nat.{add-zero}
use native.Mathlib.Omega.{arith}
use lib.ListN.{length, set, length-append}
use lib.Seq.{sets, length-sets}
use Rattle.printer_writing.specs.Wrote.{written, Wrote, Room}

-- the bytes of u and then those of w
sets-append : (l : List ℕ) (a : ℕ) (u w : List ℕ) → sets (sets l a u) (a + length u) w ≡ sets l a (u ++ w)
sets-append l a [] w = ap (λ (i : ℕ). sets l i w) (add-zero a)
sets-append l a (x ∷ u) w =
    let e : a + suc (length u) ≡ suc a + length u = omega arith in
    ap (λ (i : ℕ). sets (sets (set l a x) (suc a) u) i w) e ∙ sets-append (set l a x) (suc a) u w

module _ {l : List ℕ} {a : ℕ} where
  pub wrote-length : {w : List ℕ} {r : ℕ} {l' : List ℕ} → Wrote l a w r l' → length l' ≡ length l
  unfolding written
  wrote-length {w} p = rw p.now (length-sets l a w)

  pub wrote-byte : (b : ℕ) → Wrote l a (b ∷ []) (a + 1) (set l a b)
  unfolding written
  wrote-byte b = record { now = refl; next = refl }

  pub wrote_none : Wrote l a [] a l
  unfolding written
  wrote_none = record { now = refl; next = sym (add-zero a) }

  pub wrote_then : {u : List ℕ} {i : ℕ} {l' w : List ℕ} {j : ℕ} {l'' : List ℕ} → Wrote l a u i l' → Wrote l' i w j l'' → Wrote l a (u ++ w) j l''
  unfolding written
  wrote_then {u} {w = w} p q = record {
    now = q.now ∙ rw (p.now, p.next) (sets-append l a u w);
    next = q.next ∙ rw p.next (simp length-append (omega arith));
  }

  -- what is written determines the index after it and what is held then, in all that `put_refusal` and `put_answer` promise
  pub wrote-unique : {w : List ℕ} {r₁ r₂ : ℕ} {l₁ l₂ : List ℕ} → Wrote l a w r₁ l₁ → Wrote l a w r₂ l₂ → (r₁ ≡ r₂) × (l₁ ≡ l₂)
  wrote-unique p q = (p.next ∙ sym q.next, p.now ∙ sym q.now)

  -- room for one text after another is room for the first, and for the other after it
  module _ (u w : List ℕ) (room : Room l a (u ++ w)) where
    pub first-room : Room l a u
    first-room = record { fits = omega (arith, room.fits, length-append u w) }

    pub next-room : {i : ℕ} {l' : List ℕ} → Wrote l a u i l' → Room l' i w
    next-room p = record { fits = omega (arith, room.fits, p.next, wrote-length p, length-append u w) }

  -- another name for what was written
  pub wrote_as : {u w : List ℕ} {r : ℕ} {l' : List ℕ} → u ≡ w → Wrote l a u r l' → Wrote l a w r l'
  wrote_as {r = r} {l'} e p = subst (λ (x : List ℕ). Wrote l a x r l') e p

-- of a text that is to be written into l₀ from index a on there is left `rest`, from index i of l on
pub record Begun (l₀ : List ℕ) (a : ℕ) (text rest l : List ℕ) (i : ℕ) : Type 0 where
  pub done : List ℕ
  pub splits : text ≡ done ++ rest
  pub wrote : Wrote l₀ a done i l

module _ {l₀ : List ℕ} {a : ℕ} {text : List ℕ} where
  pub begun-start : Begun l₀ a text text l₀ a
  begun-start = record { done = []; splits = refl; wrote = wrote_none }

  module _ {rest l : List ℕ} {i : ℕ} (r : Begun l₀ a text rest l i) where
    pub begun_more : (w : List ℕ) {rest' : List ℕ} {l' : List ℕ} {j : ℕ} → rest ≡ w ++ rest' → Wrote l i w j l' → Begun l₀ a text rest' l' j
    begun_more w {rest'} e p = record {
      done = r.done ++ w;
      splits = r.splits ∙ rw e (sym (append_assoc r.done w rest'));
      wrote = wrote_then r.wrote p;
    }

    -- there is room for what is left
    pub begun-room : Room l₀ a text → Room l i rest
    begun-room room = next-room r.done rest (subst (Room l₀ a) r.splits room) r.wrote

  pub begun-end : {rest l : List ℕ} {i : ℕ} → Begun l₀ a text rest l i → rest ≡ [] → Wrote l₀ a text i l
  begun-end r e = wrote_as (sym (r.splits ∙ rw e (append-nil r.done))) r.wrote
