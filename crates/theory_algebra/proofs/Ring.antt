-- The laws of a commutative ring, and the rule set `ring`: `simp ring` proves the identities that hold in every one.
use mathlib.Core.Path.{◌≡◌, refl, sym, ◌∙◌, ap, ap₂}
use mathlib.Core.Bool.{Bool, true}
use Rattle.theory_algebra.specs.Ring.{CommRing}

module _ {F : Type 0} (R : CommRing F) where
  infixl 65 ◌⊕◌ ◌⊖◌
  infixl 70 ◌⊛◌
  open R use {add as ◌⊕◌, mul as ◌⊛◌, neg, 𝟘, 𝟙}

  -- the laws of the record, by names that a rule set takes
  pub add_comm : (a b : F) → a ⊕ b ≡ b ⊕ a
  add_comm = R.add_comm

  pub add_assoc : (a b c : F) → a ⊕ b ⊕ c ≡ a ⊕ (b ⊕ c)
  add_assoc = R.add_assoc

  pub add-zero : (a : F) → a ⊕ 𝟘 ≡ a
  add-zero = R.add-zero

  pub add-neg : (a : F) → a ⊕ neg a ≡ 𝟘
  add-neg = R.add-neg

  pub mul_comm : (a b : F) → a ⊛ b ≡ b ⊛ a
  mul_comm = R.mul_comm

  pub mul_assoc : (a b c : F) → a ⊛ b ⊛ c ≡ a ⊛ (b ⊛ c)
  mul_assoc = R.mul_assoc

  pub mul-one : (a : F) → a ⊛ 𝟙 ≡ a
  mul-one = R.mul-one

  pub mul-add : (a b c : F) → a ⊛ (b ⊕ c) ≡ a ⊛ b ⊕ a ⊛ c
  mul-add = R.mul-add

  -- the same from the other side
  pub zero-add : (a : F) → 𝟘 ⊕ a ≡ a
  zero-add a = add_comm 𝟘 a ∙ add-zero a

  pub neg-add : (a : F) → neg a ⊕ a ≡ 𝟘
  neg-add a = add_comm (neg a) a ∙ add-neg a

  pub one-mul : (a : F) → 𝟙 ⊛ a ≡ a
  one-mul a = mul_comm 𝟙 a ∙ mul-one a

  pub add-mul : (a b c : F) → (a ⊕ b) ⊛ c ≡ a ⊛ c ⊕ b ⊛ c
  add-mul a b c = mul_comm (a ⊕ b) c ∙ mul-add c a b ∙ ap₂ ◌⊕◌ (mul_comm c a) (mul_comm c b)

  pub add_left_comm : (a b c : F) → a ⊕ (b ⊕ c) ≡ b ⊕ (a ⊕ c)
  add_left_comm a b c = rw (← add_assoc a b c, ← add_assoc b a c, add_comm a b)

  pub mul_left_comm : (a b c : F) → a ⊛ (b ⊛ c) ≡ b ⊛ (a ⊛ c)
  mul_left_comm a b c = rw (← mul_assoc a b c, ← mul_assoc b a c, mul_comm a b)

  -- zero and negatives
  pub add-cancel : (a b c : F) → a ⊕ c ≡ b ⊕ c → a ≡ b
  add-cancel a b c h = simp (add_assoc, add-neg, add-zero) at (ap (λ x. x ⊕ neg c) h)

  pub neg_unique : (a b : F) → a ⊕ b ≡ 𝟘 → b ≡ neg a
  neg_unique a b h = add-cancel b (neg a) a (add_comm b a ∙ h ∙ sym (neg-add a))

  pub mul-zero : (a : F) → a ⊛ 𝟘 ≡ 𝟘
  mul-zero a = add-cancel (a ⊛ 𝟘) 𝟘 (a ⊛ 𝟘) (simp (← mul-add, add-zero, zero-add))

  pub zero-mul : (a : F) → 𝟘 ⊛ a ≡ 𝟘
  zero-mul a = mul_comm 𝟘 a ∙ mul-zero a

  pub mul-neg : (a b : F) → a ⊛ neg b ≡ neg (a ⊛ b)
  mul-neg a b = neg_unique (a ⊛ b) (a ⊛ neg b) (simp (← mul-add, add-neg, mul-zero))

  pub neg-mul : (a b : F) → neg a ⊛ b ≡ neg (a ⊛ b)
  neg-mul a b = mul_comm (neg a) b ∙ mul-neg b a ∙ ap neg (mul_comm b a)

  pub neg-neg : (a : F) → neg (neg a) ≡ a
  neg-neg a = sym (neg_unique (neg a) a (neg-add a))

  pub neg-zero : neg 𝟘 ≡ 𝟘
  neg-zero = sym (neg_unique 𝟘 𝟘 (add-zero 𝟘))

  pub neg_sum : (a b : F) → neg (a ⊕ b) ≡ neg a ⊕ neg b
  neg_sum a b = sym (neg_unique (a ⊕ b) (neg a ⊕ neg b) (rw (add_left_comm (a ⊕ b) (neg a) (neg b)) (simp (add_assoc, add-neg, add-zero, neg-add))))

  -- Differences. `simp ring` writes every negative as a difference and takes the differences outside,
  -- so that a side of an equation becomes p ⊖ a ⊖ b ⊖ …, with sums and products alone in p, a, b, …
  unfoldable pub ◌⊖◌ : F → F → F
  ◌⊖◌ a b = a ⊕ neg b

  pub neg-minus : (a : F) → neg a ≡ 𝟘 ⊖ a
  unfolding ◌⊖◌
  neg-minus a = sym (zero-add (neg a))

  pub minus-zero : (x : F) → x ⊖ 𝟘 ≡ x
  unfolding ◌⊖◌
  minus-zero x = ap (λ y. x ⊕ y) neg-zero ∙ add-zero x

  pub add-minus : (b x a : F) → b ⊕ (x ⊖ a) ≡ b ⊕ x ⊖ a
  unfolding ◌⊖◌
  add-minus b x a = simp add_assoc

  pub minus-add : (x a b : F) → x ⊖ a ⊕ b ≡ x ⊕ b ⊖ a
  unfolding ◌⊖◌
  minus-add x a b = simp (add_assoc, add_comm (neg a) b)

  pub mul-minus : (c x a : F) → c ⊛ (x ⊖ a) ≡ c ⊛ x ⊖ c ⊛ a
  unfolding ◌⊖◌
  mul-minus c x a = simp (mul-add, mul-neg)

  pub minus-mul : (x a c : F) → (x ⊖ a) ⊛ c ≡ x ⊛ c ⊖ a ⊛ c
  unfolding ◌⊖◌
  minus-mul x a c = simp (add-mul, neg-mul)

  pub minus-sum : (x a b : F) → x ⊖ (a ⊕ b) ≡ x ⊖ a ⊖ b
  unfolding ◌⊖◌
  minus-sum x a b = ap (λ y. x ⊕ y) (neg_sum a b) ∙ simp add_assoc

  pub minus_minus : (x y a : F) → x ⊖ (y ⊖ a) ≡ x ⊕ a ⊖ y
  unfolding ◌⊖◌
  minus_minus x y a = minus-sum x y (neg a) ∙ ap (λ z. x ⊖ y ⊕ z) (neg-neg a) ∙ minus-add x y a

  pub minus-comm : (x a b : F) → x ⊖ a ⊖ b ≡ x ⊖ b ⊖ a
  unfolding ◌⊖◌
  minus-comm x a b = simp (add_assoc, add_comm (neg a) (neg b))

  -- A term of p that is taken away is dropped: `without x a` is x ⊖ a on its way to the term a of x.
  unfoldable pub without : F → F → F
  without x a = x ⊖ a

  pub without_all : (a : F) → without a a ≡ 𝟘
  unfolding without ◌⊖◌
  without_all a = add-neg a

  pub without-first : (a x : F) → without (a ⊕ x) a ≡ x
  unfolding without ◌⊖◌
  without-first a x = simp (add_comm a x, add_assoc, add-neg, add-zero)

  pub without-later : (b x a : F) → without (b ⊕ x) a ≡ b ⊕ without x a
  unfolding without
  without-later b x a = sym (add-minus b x a)

  pub without-minus : (x b a : F) → without (x ⊖ b) a ≡ without x a ⊖ b
  unfolding without
  without-minus x b a = minus-comm x b a

  -- `shows x a` is true whatever x and a are, but its rules prove it only where a is a term of x.
  -- So `drop-term`, which could be used everywhere, is used there alone.
  unfoldable pub shows : F → F → Bool
  shows x a = true

  pub shows-all : (a : F) → shows a a ≡ true
  unfolding shows
  shows-all a = refl

  pub shows_first : (a x : F) → shows (a ⊕ x) a ≡ true
  unfolding shows
  shows_first a x = refl

  pub shows_later : (b x a : F) → shows (b ⊕ x) a ≡ shows x a
  unfolding shows
  shows_later b x a = refl

  pub shows-minus : (x b a : F) → shows (x ⊖ b) a ≡ shows x a
  unfolding shows
  shows-minus x b a = refl

  pub drop-term : (x a : F) → shows x a ≡ true → x ⊖ a ≡ without x a
  unfolding without
  drop-term x a h = refl

-- products are multiplied out
pub ruleset expanded = (add-mul, mul-add, add-zero, zero-add, mul-zero, zero-mul, mul-one, one-mul)

-- terms and factors are put in one order
pub ruleset sorted = (add_assoc, add_comm, add_left_comm, mul_assoc, mul_comm, mul_left_comm)

-- differences are taken outside
pub ruleset parted = (neg-minus, minus-zero, add-minus, minus-add, mul-minus, minus-mul, minus-sum, minus_minus, minus-comm)

-- what is added and taken away is dropped; `-first` is tried before `-later`
pub ruleset dropped = (without_all, without-first, without-later, without-minus, shows-all, shows_first, shows_later, shows-minus, drop-term)

pub ruleset ring = (expanded, sorted, parted, dropped)
