-- Commutative rings with one.
use Rattle.std.specs.Prelude.{◌≡◌}

-- a commutative ring on the type F: its operations and its laws
pub record CommRing (F : Type 0) : Type 0 where
  pub add : F → F → F
  pub mul : F → F → F
  pub neg : F → F
  pub 𝟘 : F
  pub 𝟙 : F
  pub add_comm : (a b : F) → add a b ≡ add b a
  pub add_assoc : (a b c : F) → add (add a b) c ≡ add a (add b c)
  pub add-zero : (a : F) → add a 𝟘 ≡ a
  pub add-neg : (a : F) → add a (neg a) ≡ 𝟘
  pub mul_comm : (a b : F) → mul a b ≡ mul b a
  pub mul_assoc : (a b c : F) → mul (mul a b) c ≡ mul a (mul b c)
  pub mul-one : (a : F) → mul a 𝟙 ≡ a
  pub mul-add : (a b c : F) → mul a (add b c) ≡ add (mul a b) (mul a c)
