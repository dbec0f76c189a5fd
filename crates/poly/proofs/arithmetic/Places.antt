-- What the loops over the places of polynomials come to: the sum at one place of a product, and a sum over a part.
use mathlib.Core.Path.{◌≡◌, refl, sym, ap, ap₂, ◌∙◌}
use mathlib.Core.List.{List, [], ◌∷◌, ◌++◌}
use Prim.Native.Nat.{ℕ, suc, ◌+◌, ◌*◌, ◌-◌, ◌%◌, ◌≤◌, ◌<◌}
use native.Mathlib.Nat.{zero-mul, mul-zero, add-zero, mod-eq_of_lt, add-sub_cancel_left}
use native.Mathlib.Numerals.{add-one}
use native.Mathlib.Decide.{dec_le}
use native.Mathlib.Omega.{arith}
use lib.ListN.{length, get_or, replicate, take, drop}
use lib.Seq.{ext_get_or, get_or-take}
use borrow.Author.Tests.{le-leb, lt-leb}
use Rattle.theory_lists.specs.Change.{imap}
use Rattle.theory_lists.specs.Part.{part, on_part}
use Rattle.theory_lists.specs.Total.{total}
use Rattle.theory_lists.proofs.Change.{length-imap, get_or-imap, get_or-past}
use Rattle.theory_lists.proofs.Part.{length_part, get_or-part, length-on_part, on_part-low, on_part-in, on_part-high}
use Rattle.theory_lists.proofs.Last.{last-is}
use Rattle.theory_lists.proofs.Total.{total-suc, total-more}
use Rattle.poly.proofs.Ending.{ends-height}
use Rattle.poly.specs.Polynomial.{used_places}
use Rattle.poly.specs.arithmetic.Operations.{shifted, plus_times, plus_multiple, MultipleAsked, product_at, zeros}

-- zeros as the list that is written
pub zeros-replicate : (l : List ℕ) → zeros l ≡ replicate (length l) 0
unfolding zeros imap
zeros-replicate [] = refl
zeros-replicate (x ∷ l) = ap (λ (t : List ℕ). 0 ∷ t) (zeros-replicate l)

-- a product's coefficient at k
module _ (a b : List ℕ) (k : ℕ) where
  abbrev term : ℕ → ℕ
  term i = get_or a i 0 * get_or b (k - i) 0

  -- where the loop stands that sums its terms, having come to i
  pub record Summing (i sum : ℕ) : Type 0 where
    pub from : k + 1 - length b ≤ i
    pub to : i ≤ k + 1
    pub is : sum ≡ total i term
    pub small : sum ≤ i * 4294836225

  -- the terms before the first that both have are zero
  pub summing_start : (i : ℕ) → i ≡ k + 1 - length b → Summing i 0
  unfolding total
  summing_start i i-is = record {
    from = omega arith;
    to = omega arith;
    is = sym (total-more 0 i term (omega arith) (λ j _ h. ap (λ (x : ℕ). get_or a j 0 * x) (get_or-past b (k - j) (omega arith)) ∙ mul-zero (get_or a j 0)));
    small = omega arith;
  }

  pub summing-turn : (i sum x : ℕ) → Summing i sum → i < k + 1 → (x ≡ get_or a i 0 * get_or b (k - i) 0) × (x ≤ 4294836225) → Summing (i + 1) (sum + x)
  summing-turn i sum x s h v = record {
    from = omega (arith, s.from);
    to = omega arith;
    is = rw add-one (ap₂ (λ (m n : ℕ). m + n) s.is v.0 ∙ sym (total-suc i term));
    small = omega (arith, s.small, v.1);
  }

  -- and so are those after the last
  pub summing-end : (i sum : ℕ) → Summing i sum → k + 1 - (k + 1 - length a) ≤ i → sum ≡ product_at a b k
  unfolding product_at
  summing-end i sum s h =
      s.is
      ∙ sym (total-more i (suc k) term (omega (arith, s.to))
      (λ j l m. ap (λ (x : ℕ). x * get_or b (k - j) 0) (get_or-past a j (omega arith)) ∙ zero-mul (get_or b (k - j) 0)))

  -- where all places of a and of b are spent there is no term
  pub product-past : length a + length b ≤ k + 1 → product_at a b k ≡ 0
  unfolding product_at total
  product-past h = total-more 0 (suc k) term (omega arith) (λ i _ l. elim (dec_le (length a) i) [
    | yes past ↦ ap (λ (x : ℕ). x * get_or b (k - i) 0) (get_or-past a i past) ∙ zero-mul (get_or b (k - i) 0)
    | no in-a ↦ ap (λ (x : ℕ). get_or a i 0 * x) (get_or-past b (k - i) (omega arith)) ∙ mul-zero (get_or a i 0)
  ])

-- the sum over a part is the sum over the whole: below the part nothing is added, and above it b has no terms
module _ (p c e : ℕ) (a b : List ℕ) (pre : MultipleAsked p c e a b) where
  abbrev rule : ℕ → ℕ → ℕ
  rule i x = (x + c * shifted e b i) % p

  -- a place to which nothing is added
  idle : (i : ℕ) → i < length a → shifted e b i ≡ 0 → get_or a i 0 ≡ rule i (get_or a i 0)
  idle i h z =
      sym (ap (λ (y : ℕ). (get_or a i 0 + c * y) % p) z
      ∙ ap (λ (y : ℕ). (get_or a i 0 + y) % p) (mul-zero c)
      ∙ ap (λ (y : ℕ). y % p) (add-zero (get_or a i 0))
      ∙ mod-eq_of_lt (pre.target.below i h))

  shifted-high : (i : ℕ) → e ≤ i → shifted e b i ≡ get_or b (i - e) 0
  shifted-high i h = simp (le-leb e i h)

  -- x^e times b has no term below e, and none from the height of b on
  outside : (i : ℕ) → (e ≤ i → e + used_places b ≤ i) → shifted e b i ≡ 0
  outside i h = elim (dec_le e i) [
    | yes from ↦ (let past = h from in shifted-high i from ∙ (ends-height b).zeros (i - e) (omega arith))
    | no below ↦ (let low : i < e = omega arith in simp (lt-leb e i low))
  ]

  -- a list with the rule's value at every place
  pub by-places : (l : List ℕ) → length l ≡ length a → ((i : ℕ) → i < length a → get_or l i 0 ≡ (get_or a i 0 + c * shifted e b i) % p) → l ≡ plus_multiple p c e b a
  unfolding plus_multiple
  by-places l same at = ext_get_or 0 l _ (same ∙ sym (length-imap _ a)) (λ i h. at i (omega arith) ∙ sym (get_or-imap _ a i (omega arith)))

  pub nothing-added : used_places b ≡ 0 → a ≡ plus_multiple p c e b a
  nothing-added none = by-places a refl (λ i h. idle i h (outside i (λ from. omega arith)))

  -- n places, up to the last of b that is not zero: a has them all
  module _ (n : ℕ) (n-is : n ≡ used_places b) (some : 0 < n) where
    add : List ℕ → List ℕ
    add = imap (plus_times p c (take n b))

    pub fits : e + n ≤ length a
    fits = elim (dec_le (e + n) (length a)) [
      | yes in-a ↦ in-a
      | no past ↦ absurd ((last-is (length b) (λ i. get_or b i 0)).top (omega arith) (pre.room (used_places b - 1) (omega arith)))
    ]

    keeps : length (add (part e n a)) ≡ n
    unfolding add
    keeps = length-imap _ (part e n a) ∙ length_part e n a fits

    place : (i : ℕ) → i < length a → get_or (on_part e n add a) i 0 ≡ rule i (get_or a i 0)
    unfolding add
    place i h = elim (dec_le e i) [
      | no low ↦ on_part-low e n a fits add keeps i (omega arith) ∙ idle i h (outside i (λ from. omega arith))
      | yes from ↦ elim (dec_le (e + n) i) [
        | yes past ↦ on_part-high e n a fits add keeps i past ∙ idle i h (outside i (λ from. omega arith))
        | no before ↦
            (let here : i ≡ e + (i - e) = omega arith in
            let inside : i - e < n = omega arith in
            ap (λ (j : ℕ). get_or (on_part e n add a) j 0) here
            ∙ on_part-in e n a fits add keeps (i - e) inside
            ∙ get_or-imap _ (part e n a) (i - e) (omega (arith, length_part e n a fits))
            ∙ ap₂ (λ (x y : ℕ). (x + c * y) % p)
            (get_or-part e n a fits (i - e) inside ∙ ap (λ (j : ℕ). get_or a j 0) (sym here))
            (get_or-take n b (i - e) 0 inside ∙ sym (shifted-high i from)))
      ]
    ]

    -- what is there when the part that is lent comes back
    pub part-back : (new : List ℕ) → new ≡ imap (plus_times p c (take n b)) (take (e + n - e) (drop e a))
        → take e a ++ (new ++ drop (e + n - e) (drop e a)) ≡ plus_multiple p c e b a
    unfolding add on_part
    part-back new new_is = rw (new_is, add-sub_cancel_left e n) (by-places _ (length-on_part e n a fits add keeps) place)
