-- Each function answers in one way and leaves one content of its buffers for each input, refused inputs too.
use mathlib.Core.Path.{◌≡◌, refl, sym, ◌∙◌}
use mathlib.Core.Bool.{Bool, true, false}
use mathlib.Core.List.{List}
use Prim.Native.Nat.{ℕ}
use Rattle.theory_algebra.proofs.Flag.{flag-unique}
use Rattle.poly_bench.specs.Rounds.{Added, Multiplied}

pub add-unique : (c e p rounds : ℕ) (a b a₁ b₁ a₂ b₂ : List ℕ) (r s : Bool)
    → Added c e p rounds a b a₁ b₁ r → Added c e p rounds a b a₂ b₂ s
    → (r ≡ s) × ((a₁ ≡ a₂) × (b₁ ≡ b₂))
add-unique c e p rounds a b a₁ b₁ a₂ b₂ r s f g = let same = flag-unique r s f.taken g.taken in (same, by_cases r f (rw same g))
  where
    by_cases : (r : Bool) → Added c e p rounds a b a₁ b₁ r → Added c e p rounds a b a₂ b₂ r → (a₁ ≡ a₂) × (b₁ ≡ b₂)
    by_cases true f g = ((f.done refl).sum ∙ sym (g.done refl).sum, (f.done refl).source ∙ sym (g.done refl).source)
    by_cases false f g = ((f.refused refl).0 ∙ sym (g.refused refl).0, (f.refused refl).1 ∙ sym (g.refused refl).1)

pub product-unique : (p rounds : ℕ) (a b out out₁ out₂ : List ℕ) (r s : Bool)
    → Multiplied p rounds a b out out₁ r → Multiplied p rounds a b out out₂ s
    → (r ≡ s) × (out₁ ≡ out₂)
product-unique p rounds a b out out₁ out₂ r s f g = let same = flag-unique r s f.taken g.taken in (same, by_cases r f (rw same g))
  where
    by_cases : (r : Bool) → Multiplied p rounds a b out out₁ r → Multiplied p rounds a b out out₂ r → out₁ ≡ out₂
    by_cases true f g = f.done refl ∙ sym (g.done refl)
    by_cases false f g = f.refused refl ∙ sym (g.refused refl)
