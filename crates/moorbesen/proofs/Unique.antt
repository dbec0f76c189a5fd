-- A call has one reply only, and one content of each buffer at exit.
use mathlib.Core.Path.{◌≡◌, sym, ◌∙◌}
use mathlib.Core.List.{List}
use Prim.Native.Nat.{ℕ}
use Rattle.matrix_promises.specs.Services.{WholeCall, ShortCall}
use Rattle.matrix_promises.proofs.Demands.{demand-1}
use Rattle.moorbesen.specs.declared.Reply.{Reply}
use Rattle.moorbesen.specs.declared.PopovReply.{PopovReply}
use Rattle.moorbesen.specs.declared.DeterminantReply.{DeterminantReply}
use Rattle.moorbesen.specs.Reply.{Replied, StepReplied, PopovReplied, DeterminantReplied}

-- of the reduction
pub replied-unique : {call : WholeCall} {r₁ u₁ v₁ r₂ u₂ v₂ : List ℕ} (x y : Reply) → Replied call r₁ u₁ v₁ x → Replied call r₂ u₂ v₂ y
    → ◌≡◌ {A = Reply × List ℕ × List ℕ × List ℕ} (x, r₁, u₁, v₁) (y, r₂, u₂, v₂)
replied-unique {call} x y f g =
    let (numbers, places, same) = demand-1.0.one call _ _ _ _ _ _ f g in
    λ i. (record { number = numbers i; place = places i; rank = (same i).rank; count = (same i).count; rows = (same i).rows }, (same i).r, (same i).u, (same i).v)

-- of the single step
pub step-replied-unique : {call : ShortCall} {r₁ r₂ : List ℕ} (x y : Reply) → StepReplied call r₁ x → StepReplied call r₂ y
    → ◌≡◌ {A = Reply × List ℕ} (x, r₁) (y, r₂)
step-replied-unique {call} x y (f, x-rank, x-rows) (g, y-rank, y-rows) =
    let (numbers, places, same) = demand-1.1.one call _ _ _ _ _ _ f g in
    let ranks = x-rank ∙ sym y-rank in
    let rows = x-rows ∙ sym y-rows in
    λ i. (record { number = numbers i; place = places i; rank = ranks i; count = (same i).count; rows = rows i }, (same i).r)

-- of the Popov form
pub popov-replied-unique : {call : WholeCall} {r₁ u₁ v₁ r₂ u₂ v₂ : List ℕ} (x y : PopovReply) → PopovReplied call r₁ u₁ v₁ x → PopovReplied call r₂ u₂ v₂ y
    → ◌≡◌ {A = PopovReply × List ℕ × List ℕ × List ℕ} (x, r₁, u₁, v₁) (y, r₂, u₂, v₂)
popov-replied-unique {call} x y f g =
    let (numbers, places, same) = demand-1.2.one call _ _ _ _ _ _ f g in
    λ i. (record { number = numbers i; place = places i; rank = (same i).rank; first = (same i).first; second = (same i).second }, (same i).r, (same i).u, (same i).v)

-- of the determinant
pub determinant-replied-unique : {call : ShortCall} {r₁ r₂ : List ℕ} (x y : DeterminantReply) → DeterminantReplied call r₁ x → DeterminantReplied call r₂ y
    → ◌≡◌ {A = DeterminantReply × List ℕ} (x, r₁) (y, r₂)
determinant-replied-unique {call} x y f g =
    let (numbers, places, same) = demand-1.3.one call _ _ _ _ _ _ f g in
    λ i. (record { number = numbers i; place = places i }, same i)
