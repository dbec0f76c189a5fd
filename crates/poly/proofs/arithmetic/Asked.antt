-- How a caller meets what the functions ask: residues that fill the places, and room for every term.
use mathlib.Core.Path.{ap, ◌∙◌}
use mathlib.Core.List.{List}
use Prim.Native.Nat.{ℕ, ◌+◌, ◌*◌, ◌%◌, ◌≤◌, ◌<◌}
use native.Mathlib.Nat.{mod-lt, zero-mod}
use native.Mathlib.Omega.{arith}
use lib.ListN.{length}
use Rattle.theory_lists.specs.Change.{imap}
use Rattle.theory_lists.proofs.Change.{get_or-past, length-imap, get_or-imap}
use Rattle.theory_lists.specs.Coefficients.{Coefficients}
use Rattle.poly.specs.arithmetic.Operations.{shifted, plus_multiple, MultipleAsked, ProductAsked, scaled_by}
use Rattle.poly.proofs.arithmetic.Places.{product-past}

-- what is a remainder at every place is made of residues
remainders : (p : ℕ) (g : ℕ → ℕ → ℕ) (l : List ℕ) → 0 < p → Coefficients p (imap (λ i x. g i x % p) l)
remainders p g l some = record { below = λ i h. rw (get_or-imap _ l i (rw length-imap at h)) (mod-lt _ some) }

pub scaled-coefficients : (p c : ℕ) (l : List ℕ) → 0 < p → Coefficients p (scaled_by p c l)
unfolding scaled_by
scaled-coefficients p c l = remainders p (λ i x. c * x) l

pub sum-coefficients : (p c e : ℕ) (a b : List ℕ) → 0 < p → Coefficients p (plus_multiple p c e b a)
unfolding plus_multiple
sum-coefficients p c e a b = remainders p (λ i x. x + c * shifted e b i) a

-- a target with room for a whole source
pub with-room : (p c e : ℕ) (a b : List ℕ) → c < p → Coefficients p a → Coefficients p b
    → e + length b ≤ length a → MultipleAsked p c e a b
with-room p c e a b factor ca cb room = record {
  factor = factor;
  target = ca;
  source = cb;
  room = λ i h. get_or-past b i (omega arith);
}

-- room for every term of a product
pub product-room : (p : ℕ) (a b out : List ℕ) → length a + length b ≤ length out + 1 → length a ≤ 4294967296
    → ProductAsked p a b out
product-room p a b out room short = record {
  room = λ k h. ap (λ (x : ℕ). x % p) (product-past a b k (omega arith)) ∙ zero-mod p;
  short = short;
}
