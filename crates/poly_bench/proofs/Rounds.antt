-- Rounds of one operation, one after the other.
use mathlib.Core.Path.{◌≡◌, refl, sym, ap, ◌∙◌}
use mathlib.Core.List.{List}
use Prim.Native.Nat.{ℕ, zero, suc, ◌+◌, ◌<◌}
use native.Mathlib.Numerals.{add-one}
use Rattle.theory_lists.proofs.Change.{length-imap}
use Rattle.poly.specs.arithmetic.Operations.{plus_multiple, MultipleAsked, product_of, ProductAsked}
use Rattle.poly.proofs.arithmetic.Asked.{sum-coefficients}
use Rattle.poly_bench.specs.Rounds.{repeated}

pub repeated-none : (g : List ℕ → List ℕ) (l : List ℕ) → repeated 0 g l ≡ l
unfolding repeated
repeated-none g l = refl

pub repeated-more : (n : ℕ) (g : List ℕ → List ℕ) (l k k' : List ℕ) → k ≡ repeated n g l → k' ≡ g k → k' ≡ repeated (n + 1) g l
unfolding repeated
repeated-more n g l k k' e h = h ∙ ap g e ∙ sym (ap (λ (m : ℕ). repeated m g l) (add-one n))

-- what is asked of the first round holds at each
pub sum-again : (p c e : ℕ) (a b : List ℕ) → 0 < p → MultipleAsked p c e a b → (n : ℕ) → MultipleAsked p c e (repeated n (plus_multiple p c e b) a) b
unfolding repeated plus_multiple
sum-again p c e a b some pre zero = pre
sum-again p c e a b some pre (suc n) =
    let before = sum-again p c e a b some pre n in record {
      factor = pre.factor;
      target = sum-coefficients p c e _ b some;
      source = pre.source;
      room = λ i h. before.room i (rw length-imap at h);
    }

pub product-again : (p : ℕ) (a b out : List ℕ) → ProductAsked p a b out → (n : ℕ) → ProductAsked p a b (repeated n (product_of p a b) out)
unfolding repeated product_of
product-again p a b out pre zero = pre
product-again p a b out pre (suc n) =
    let before = product-again p a b out pre n in
    record { room = λ k h. before.room k (rw length-imap at h); short = pre.short }
