-- A product with a sign, by the places in use, and as the product of the polynomials that the lists hold.
use mathlib.Core.Path.{◌≡◌, sym, ap, ap₂, ◌∙◌, fun_ext}
use mathlib.Core.List.{List, ◌++◌}
use Prim.Native.Nat.{ℕ, suc, ◌-◌, ◌*◌, ◌%◌, ◌≤◌, ◌<◌}
use native.Mathlib.Nat.{mod-eq_of_lt}
use native.Mathlib.Omega.{arith}
use lib.ListN.{length, get_or, take}
use lib.Seq.{ext_get_or, get_or-take, length-take-le, take_at}
use Rattle.theory_algebra.specs.Field.{Field}
use Rattle.theory_algebra.specs.Polynomial.{Below}
use Rattle.theory_algebra.specs.Prime.{Prime}
use Rattle.theory_algebra.specs.Residue.{Zp}
use Rattle.theory_algebra.proofs.Cases.{case-le}
use Rattle.theory_rings.specs.PrimeField.{zp_field}
use Rattle.theory_rings.proofs.PrimeField.{field-neg, field-zero, field-one}
use Rattle.theory_algebra.proofs.Ring.{one-mul, neg-mul}
use Rattle.theory_rings.specs.Series.{series}
use Rattle.theory_rings.proofs.Series.{neg-at, const-mul-at}
use Rattle.theory_lists.proofs.Change.{length-imap, get_or-imap, get_or-past}
use Rattle.theory_lists.proofs.Total.{total-same}
use Rattle.poly.specs.Polynomial.{used_places}
use Rattle.poly.specs.arithmetic.Operations.{product_at, product_of, ProductAsked, scaled_by}
use Rattle.poly.specs.Holds.{Holds}
use Rattle.poly.proofs.Ending.{ends-height}
use Rattle.poly.proofs.arithmetic.Holds.{holds-product, holds-scaled, product-number}
use Rattle.matrix_determinant.specs.SignedProduct.{signed_product, signed, MultiplyAsked}
use Rattle.matrix_determinant.specs.declared.product.Sign.{Sign}
use Rattle.matrix_determinant.specs.declared.product.Sign.TheVariants.{Plus, Minus}

-- the places in use are all of the polynomial
used-at : (l : List ℕ) (n : ℕ) → n ≡ used_places l → (i : ℕ) → get_or (take n l) i 0 ≡ get_or l i 0
used-at l n used i = case-le n i
    (λ past. get_or-past (take n l) i (omega (arith, length-take-le n l (omega (arith, (ends-height l).within))))
    ∙ sym ((ends-height l).zeros i (omega arith)))
    (λ before. get_or-take n l i 0 before)

-- what the places of a and of b that are in use have as their product
module _ {x y p : ℕ} {a b : List ℕ} (x-used : x ≡ used_places a) (y-used : y ≡ used_places b)
    (asked : MultiplyAsked p a b) (room : List ℕ) (room-size : length room ≡ 512) where
  used-product : (k : ℕ) → product_at (take x a) (take y b) k ≡ product_at a b k
  unfolding product_at
  used-product k = total-same (suc k) _ _ (λ i _. ap₂ ◌*◌ (used-at a x x-used i) (used-at b y y-used (k - i)))

  front : length (take (length a) room) ≡ length a
  front = length-take-le (length a) room (omega (arith, asked.places_most))

  pub used-asked : ProductAsked p (take x a) (take y b) (take (length a) room)
  used-asked = record {
    room = λ k past. ap (λ (z : ℕ). z % p) (used-product k) ∙ asked.product.room k (omega (arith, front));
    short = omega (arith, length-take-le x a (omega (arith, (ends-height a).within)), (ends-height a).within, asked.places_most);
  }

  -- it is made in front of the room
  module _ {new : List ℕ} (rest : List ℕ) (new_is : new ≡ product_of p (take x a) (take y b) (take (length a) room)) where
    new-size : length new ≡ length a
    unfolding product_of
    new-size = ap length new_is ∙ length-imap _ (take (length a) room) ∙ front

    pub made-whole : take (length a) (new ++ rest) ≡ product_of p a b a
    unfolding product_of
    made-whole =
        take_at new rest (length a) new-size ∙ new_is ∙ ext_get_or 0 _ _ (sym (ap length new_is) ∙ new-size ∙ sym (length-imap _ a)) (λ k lk.
        let inside : k < length a = omega (arith, ap length new_is, new-size) in
        get_or-imap _ (take (length a) room) k (omega (arith, front)) ∙ ap (λ (z : ℕ). z % p) (used-product k) ∙ sym (get_or-imap _ a k inside))

module _ (p : ℕ) (P : Prime p) {a b : List ℕ} {f g : ℕ → Zp p} (a-holds : Holds p a f) (b-holds : Holds p b g) where
  abbrev K : Field (Zp p)
  K = zp_field p P

  abbrev product : ℕ → Zp p
  product = (series K.ring).mul f g

  -- room for the product, by its degree
  pub multiply-asked : Below K.ring ((series K.ring).mul f g) (length a) → length a ≤ 512
      → MultiplyAsked p a b
  multiply-asked below short = record {
    product = record {
      room = λ k past. sym (product-number p P a b f g a-holds b-holds k) ∙ ap (λ (x : Zp p). x.val) (below k past) ∙ field-zero p P;
      short = omega arith;
    };
    places_most = short;
  }

  module _ (pre : ProductAsked p a b a) where
    -- c times the product, where c is the residue u
    scaled : (c : Zp p) (h : ℕ → Zp p) (u : ℕ) → c.val ≡ u → ((k : ℕ) → K.ring.mul c (product k) ≡ h k)
        → Holds p (scaled_by p u (product_of p a b a)) h
    scaled c h u is same = rw (← is, ← fun_ext (λ k. const-mul-at K.ring c product k ∙ same k))
        (holds-scaled p P c (product_of p a b a) product (holds-product p P a b a f g a-holds b-holds pre))

    minus_one : (K.ring.neg K.ring.𝟙).val ≡ p - 1
    minus_one = field-neg p P K.ring.𝟙 ∙ rw (field-one p P) (mod-eq_of_lt (omega (arith, P.two)))

    -- what becomes of it
    pub holds-signed : (sign : Sign)
        → Holds p (signed_product p sign a b) (signed (series K.ring) sign ((series K.ring).mul f g))
    unfolding signed_product
    holds-signed Minus = scaled (K.ring.neg K.ring.𝟙) _ _ minus_one
        (λ k. neg-mul K.ring K.ring.𝟙 (product k) ∙ ap K.ring.neg (one-mul K.ring (product k))
        ∙ sym (neg-at K.ring product k))
    holds-signed Plus = scaled K.ring.𝟙 _ _ (field-one p P) (λ k. one-mul K.ring (product k))
