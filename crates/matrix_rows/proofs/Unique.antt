-- Each function leaves one content of the buffer for each entry: "equality of any two answers that satisfy the promise is itself proved".
use mathlib.Core.Path.{◌≡◌}
use mathlib.Core.List.{List}
use Prim.Native.Nat.{ℕ}
use Rattle.matrix_buffers.specs.Added.{RowAdded, ColumnAdded}
use Rattle.matrix_buffers.specs.Exchanged.{RowsExchanged, ColumnsExchanged}
use Rattle.matrix_buffers.specs.Scaled.{RowScaled, ColumnScaled}
use Rattle.matrix_buffers.specs.Diagonal.{Diagonal}
use Rattle.matrix_buffers.proofs.Unique.{written-unique, exchanged-unique, diagonal-unique}

module _ (b b₁ b₂ : List ℕ) where
  pub add-row-unique : (p m w c e l k : ℕ) → RowAdded p m w c e l k b b₁ → RowAdded p m w c e l k b b₂ → b₁ ≡ b₂
  add-row-unique p m w c e l k = written-unique

  pub add-column-unique : (p n w c e x y : ℕ) → ColumnAdded p n w c e x y b b₁ → ColumnAdded p n w c e x y b b₂ → b₁ ≡ b₂
  add-column-unique p n w c e x y = written-unique

  pub exchange-rows-unique : (m w i j : ℕ) → RowsExchanged m w i j b b₁ → RowsExchanged m w i j b b₂ → b₁ ≡ b₂
  exchange-rows-unique m w i j = exchanged-unique

  pub exchange-columns-unique : (n w x y : ℕ) → ColumnsExchanged n w x y b b₁ → ColumnsExchanged n w x y b b₂ → b₁ ≡ b₂
  exchange-columns-unique n w x y = exchanged-unique

  pub scale-row-unique : (p m w c i : ℕ) → RowScaled p m w c i b b₁ → RowScaled p m w c i b b₂ → b₁ ≡ b₂
  scale-row-unique p m w c i = written-unique

  pub scale-column-unique : (p n w c x : ℕ) → ColumnScaled p n w c x b b₁ → ColumnScaled p n w c x b b₂ → b₁ ≡ b₂
  scale-column-unique p n w c x = written-unique

pub write-identity-unique : (n w : ℕ) (b₁ b₂ : List ℕ) → Diagonal n w b₁ → Diagonal n w b₂ → b₁ ≡ b₂
write-identity-unique n w b₁ b₂ = diagonal-unique
