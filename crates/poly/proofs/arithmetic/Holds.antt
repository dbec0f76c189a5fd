-- Each function of this crate as the operation of polynomials over Z/p: what the lists hold before and after.
use mathlib.Core.Path.{◌≡◌, refl, sym, ap, ap₂, ◌∙◌}
use mathlib.Core.List.{List}
use Prim.Native.Nat.{ℕ, zero, suc, ◌+◌, ◌*◌, ◌-◌, ◌%◌, ◌≤◌, ◌<◌}
use native.Mathlib.Nat as N
use native.Mathlib.Decide.{dec_le}
use native.Mathlib.Omega.{arith}
use lib.ListN.{length, get_or}
use borrow.Author.Tests.{le-leb, lt-leb}
use Rattle.theory_algebra.specs.Field.{Field}
use Rattle.theory_algebra.specs.Prime.{Prime}
use Rattle.theory_algebra.specs.Residue.{Zp}
use Rattle.theory_algebra.specs.Series.{mono, const}
use Rattle.theory_algebra.specs.Sum.{sum}
use Rattle.theory_rings.specs.PrimeField.{zp_field}
use Rattle.theory_rings.proofs.PrimeField.{field-add, field-mul, field-zero}
use Rattle.theory_rings.specs.Series.{series}
use Rattle.theory_rings.proofs.Series.{add_at, mul_at, zero-at, mono-mul-low, mono-mul-high, const-mul-at}
use Rattle.theory_algebra.proofs.Sum.{sum-nil, sum-suc}
use Rattle.theory_lists.specs.Total.{total}
use Rattle.theory_lists.proofs.Change.{get_or-imap-every}
use Rattle.poly.specs.Holds.{Holds}
use Rattle.poly.specs.arithmetic.Operations.{shifted, plus_multiple, MultipleAsked, product_at, product_of, ProductAsked, scaled_by, zeros}

module _ (p : ℕ) (P : Prime p) where
  abbrev K : Field (Zp p)
  K = zp_field p P

  -- c·x^e times b added to a, where nothing falls outside
  pub holds-multiple : (e : ℕ) (c : Zp p) (a b : List ℕ) (f g : ℕ → Zp p) → Holds p a f → Holds p b g
      → MultipleAsked p c.val e a b
      → Holds p (plus_multiple p c.val e b a) ((series K.ring).add f ((series K.ring).mul (mono K.ring c e) g))
  unfolding plus_multiple
  holds-multiple e c a b f g hf hg pre = record { at = λ k. at k ∙ sym (sum_number k) }
    where
      -- what x^e times b has at k
      source : (k : ℕ) → ((series K.ring).mul (mono K.ring c e) g k).val ≡ c.val * shifted e b k % p
      source k = elim (dec_le e k) [
        | yes from ↦
            simp (le-leb e k from)
            (ap (λ (x : Zp p). x.val) (mono-mul-high K.ring c e g k from) ∙ field-mul p P c _ ∙ ap (λ (x : ℕ). c.val * x % p) (sym (hg.at (k - e))))
        | no below ↦
            (let low : k < e = omega arith in
            simp (lt-leb e k low, N.mul-zero, N.zero-mod) (ap (λ (x : Zp p). x.val) (mono-mul-low K.ring c e g k low) ∙ field-zero p P))
      ]

      sum_number : (k : ℕ) → ((series K.ring).add f ((series K.ring).mul (mono K.ring c e) g) k).val ≡ (get_or a k 0 + c.val * shifted e b k) % p
      sum_number k =
          ap (λ (x : Zp p). x.val) (add_at K.ring f _ k)
          ∙ field-add p P (f k) _
          ∙ ap₂ (λ (x y : ℕ). (x + y) % p) (sym (hf.at k)) (source k)
          ∙ N.add-mod-mod (get_or a k 0) (c.val * shifted e b k) p

      -- past the places of a there is nothing on either side
      none : (k : ℕ) → length a ≤ k → shifted e b k ≡ 0
      none k past = elim (dec_le e k) [
        | yes from ↦ simp (le-leb e k from) (pre.room (k - e) (omega arith))
        | no below ↦ (let low : k < e = omega arith in simp (lt-leb e k low))
      ]

      at : (k : ℕ) → get_or (plus_multiple p c.val e b a) k 0 ≡ (get_or a k 0 + c.val * shifted e b k) % p
      at k = get_or-imap-every _ a k (λ past. rw (none k past) (simp (N.mul-zero, N.zero-mod)))

  -- a sum of numbers is the sum of their residues
  total-number : (n : ℕ) (t : ℕ → ℕ) (s : ℕ → Zp p) → ((i : ℕ) → (s i).val ≡ t i % p) → (sum K.ring n s).val ≡ total n t % p
  unfolding total
  total-number zero t s h = ap (λ (x : Zp p). x.val) (sum-nil K.ring s) ∙ field-zero p P ∙ sym (N.zero-mod p)
  total-number (suc n) t s h =
      ap (λ (x : Zp p). x.val) (sum-suc K.ring n s)
      ∙ field-add p P _ (s n)
      ∙ ap₂ (λ (x y : ℕ). (x + y) % p) (total-number n t s h) (h n)
      ∙ simp (N.mod-add-mod, N.add-mod-mod)

  -- the coefficient of a times b at degree k
  pub product-number : (a b : List ℕ) (f g : ℕ → Zp p) → Holds p a f → Holds p b g → (k : ℕ) → ((series K.ring).mul f g k).val ≡ product_at a b k % p
  unfolding product_at
  product-number a b f g hf hg k =
      ap (λ (x : Zp p). x.val) (mul_at K.ring f g k)
      ∙ total-number (suc k) (λ i. get_or a i 0 * get_or b (k - i) 0) (λ i. K.ring.mul (f i) (g (k - i)))
      (λ i. field-mul p P (f i) (g (k - i)) ∙ ap₂ (λ (x y : ℕ). x * y % p) (sym (hf.at i)) (sym (hg.at (k - i))))

  -- a times b, where nothing falls outside
  pub holds-product : (a b out : List ℕ) (f g : ℕ → Zp p) → Holds p a f → Holds p b g → ProductAsked p a b out
      → Holds p (product_of p a b out) ((series K.ring).mul f g)
  unfolding product_of
  holds-product a b out f g hf hg pre =
      record { at = λ k. get_or-imap-every _ out k (pre.room k) ∙ sym (product-number a b f g hf hg k) }

  -- c times a
  pub holds-scaled : (c : Zp p) (a : List ℕ) (f : ℕ → Zp p) → Holds p a f → Holds p (scaled_by p c.val a) ((series K.ring).mul (const K.ring c) f)
  unfolding scaled_by
  holds-scaled c a f hf = record {
    at = λ k. at k
        ∙ sym (ap (λ (x : Zp p). x.val) (const-mul-at K.ring c f k) ∙ field-mul p P c (f k) ∙ ap (λ (x : ℕ). c.val * x % p) (sym (hf.at k)));
  }
    where
      at : (k : ℕ) → get_or (scaled_by p c.val a) k 0 ≡ c.val * get_or a k 0 % p
      at k = get_or-imap-every _ a k (λ _. simp (N.mul-zero, N.zero-mod))

  -- zeros hold the zero polynomial
  pub holds-zeros : (a : List ℕ) → Holds p (zeros a) (series K.ring).𝟘
  unfolding zeros
  holds-zeros a = record { at = λ k. get_or-imap-every _ a k (λ _. refl) ∙ sym (ap (λ (x : Zp p). x.val) (zero-at K.ring k) ∙ field-zero p P) }
