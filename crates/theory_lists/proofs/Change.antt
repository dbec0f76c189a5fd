-- The laws of a change by a rule, and of a loop that makes one.
use mathlib.Core.Path.{◌≡◌, refl, sym, ap, ap₂, ◌∙◌}
use mathlib.Core.List.{List, [], ◌∷◌}
use Prim.Native.Nat.{ℕ, zero, suc, ◌+◌, ◌≤◌, ◌<◌}
use native.Mathlib.Nat.{le_of_suc-le-suc, not-suc-le-zero}
use native.Mathlib.Decide.{dec_le}
use native.Mathlib.Numerals.{add-one}
use native.Mathlib.Omega.{arith}
use lib.ListN.{length, get_or, set, length-set}
use lib.Seq.{ext_get_or}
use Rattle.theory_lists.specs.Change.{imap, upto}

pub length-imap : (f : ℕ → ℕ → ℕ) (l : List ℕ) → length (imap f l) ≡ length l
unfolding imap
length-imap f [] = refl
length-imap f (x ∷ l) = ap suc (length-imap (λ i. f (suc i)) l)

pub get_or-imap : (f : ℕ → ℕ → ℕ) (l : List ℕ) (i : ℕ) → i < length l → get_or (imap f l) i 0 ≡ f i (get_or l i 0)
unfolding imap
get_or-imap f [] i h = absurd (not-suc-le-zero h)
get_or-imap f (x ∷ l) zero h = refl
get_or-imap f (x ∷ l) (suc i) h = get_or-imap (λ i. f (suc i)) l i (le_of_suc-le-suc h)

pub get_or-past : (l : List ℕ) (i : ℕ) → length l ≤ i → get_or l i 0 ≡ 0
get_or-past [] i h = refl
get_or-past (x ∷ l) zero h = absurd (not-suc-le-zero h)
get_or-past (x ∷ l) (suc i) h = get_or-past l i (le_of_suc-le-suc h)

-- at every index, where past the list the rule makes 0 of 0
pub get_or-imap-every : (f : ℕ → ℕ → ℕ) (l : List ℕ) (i : ℕ) → (length l ≤ i → f i 0 ≡ 0) → get_or (imap f l) i 0 ≡ f i (get_or l i 0)
get_or-imap-every f l i h = elim (dec_le (length l) i) [
  | yes past ↦ get_or-past (imap f l) i (rw length-imap past) ∙ sym (h past) ∙ ap (f i) (sym (get_or-past l i past))
  | no before ↦ get_or-imap f l i (omega arith)
]

-- a list whose every element is that of another
pub imap-copy : (from to : List ℕ) → length from ≡ length to → imap (λ i x. get_or from i 0) to ≡ from
imap-copy from to same =
    ext_get_or 0 _ from (length-imap _ to ∙ sym same) (λ i h. get_or-imap _ to i (rw length-imap at h))

upto_all : (n : ℕ) (f : ℕ → ℕ → ℕ) (l : List ℕ) → length l ≤ n → upto n f l ≡ imap f l
unfolding imap upto
upto_all zero f [] h = refl
upto_all zero f (x ∷ l) h = absurd (not-suc-le-zero h)
upto_all (suc n) f [] h = refl
upto_all (suc n) f (x ∷ l) h = ap (λ (t : List ℕ). f 0 x ∷ t) (upto_all n (λ i. f (suc i)) l (le_of_suc-le-suc h))

upto-later : (n : ℕ) (f : ℕ → ℕ → ℕ) (l : List ℕ) (j : ℕ) → n ≤ j → get_or (upto n f l) j 0 ≡ get_or l j 0
unfolding upto
upto-later zero f l j h = refl
upto-later (suc n) f [] j h = refl
upto-later (suc n) f (x ∷ l) zero h = absurd (not-suc-le-zero h)
upto-later (suc n) f (x ∷ l) (suc j) h = upto-later n (λ i. f (suc i)) l j (le_of_suc-le-suc h)

upto-more : (n : ℕ) (f : ℕ → ℕ → ℕ) (l : List ℕ) → n < length l → set (upto n f l) n (f n (get_or l n 0)) ≡ upto (suc n) f l
unfolding upto
upto-more n f [] h = absurd (not-suc-le-zero h)
upto-more zero f (x ∷ l) h = refl
upto-more (suc n) f (x ∷ l) h = ap (λ (t : List ℕ). f 0 x ∷ t) (upto-more n (λ i. f (suc i)) l (le_of_suc-le-suc h))

-- where a loop stands that changes l₀ by the rule f, one element after the other: it has come to i, and the list is now l
pub record Changing (f : ℕ → ℕ → ℕ) (l₀ l : List ℕ) (i : ℕ) : Type 0 where
  pub to : i ≤ length l₀
  pub same : length l ≡ length l₀
  pub now : l ≡ upto i f l₀

pub changing-start : (f : ℕ → ℕ → ℕ) (l : List ℕ) → Changing f l l 0
unfolding upto
changing-start f l = record { to = omega arith; same = refl; now = refl }

module _ (f : ℕ → ℕ → ℕ) (l₀ l : List ℕ) (i : ℕ) (c : Changing f l₀ l i) where
  -- what the loop reads next is as it was
  pub changing-next : get_or l i 0 ≡ get_or l₀ i 0
  changing-next = ap (λ (t : List ℕ). get_or t i 0) c.now ∙ upto-later i f l₀ i (omega arith)

  pub changing-turn : (v : ℕ) → i < length l₀ → v ≡ f i (get_or l i 0) → Changing f l₀ (set l i v) (i + 1)
  changing-turn v h v-is = record {
    to = omega arith;
    same = length-set l i v ∙ c.same;
    now = ap₂ (λ (t : List ℕ) (x : ℕ). set t i x) c.now (v-is ∙ ap (f i) changing-next) ∙ upto-more i f l₀ h ∙ ap (λ (n : ℕ). upto n f l₀) (sym (add-one i));
  }

  pub changing-end : length l₀ ≤ i → l ≡ imap f l₀
  changing-end h = c.now ∙ upto_all i f l₀ h
