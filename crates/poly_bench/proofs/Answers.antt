-- The two answers of each timed function.
use mathlib.Core.Path.{◌≡◌, refl}
use mathlib.Core.Bool.{true, false}
use mathlib.Core.List.{List}
use Prim.Native.Nat.{ℕ, ◌+◌, ◌≤◌}
use lib.ListN.{length}
use Rattle.theory_algebra.specs.Modulus.{Accepted}
use Rattle.poly.specs.arithmetic.Operations.{product_of}
use Rattle.theory_algebra.proofs.Flag.{true-false, says-yes, says-no}
use Rattle.poly_bench.specs.Rounds.{repeated, Summed, Added, Multiplied}

pub add-refused : (c e p rounds : ℕ) (a b : List ℕ) → (Accepted p × (e + length b ≤ length a) → ⊥) → Added c e p rounds a b a b false
add-refused c e p rounds a b h = record { taken = says-no h; done = λ t. absurd (h ((says-no h).0 t)); refused = λ _. (refl, refl) }

pub add_done : (c e p rounds : ℕ) (a b : List ℕ) {a' b' : List ℕ} → Accepted p → e + length b ≤ length a → Summed c e p rounds a b a' b'
    → Added c e p rounds a b a' b' true
add_done c e p rounds a b t room s = record { taken = says-yes (t, room); done = λ _. s; refused = λ e. absurd (true-false e) }

pub product-refused : (p rounds : ℕ) (a b out : List ℕ)
    → (Accepted p × (length a ≤ 65536) × (length b ≤ 65536) × (length a + length b ≤ length out + 1) → ⊥) → Multiplied p rounds a b out out false
product-refused p rounds a b out h = record { taken = says-no h; done = λ t. absurd (h ((says-no h).0 t)); refused = λ _. refl }

pub product-done : (p rounds : ℕ) (a b out : List ℕ) {out' : List ℕ}
    → Accepted p × (length a ≤ 65536) × (length b ≤ 65536) × (length a + length b ≤ length out + 1)
    → out' ≡ repeated rounds (product_of p a b) out → Multiplied p rounds a b out out' true
product-done p rounds a b out t s = record { taken = says-yes t; done = λ _. s; refused = λ e. absurd (true-false e) }
