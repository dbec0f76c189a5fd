-- The digits that a text begins with, and what they stand for.
use Prim.Native.Nat.{ℕ, ◌+◌, ◌*◌, ◌-◌, ◌^◌, ◌≤◌, ◌<◌}
use mathlib.Core.Path.{◌≡◌, refl, sym, ap, ◌∙◌}
use mathlib.Core.Bool.{cond, and-eq-true_iff}
use mathlib.Core.List.{List, [], ◌∷◌}
use native.Mathlib.Nat.{pow-suc}
use native.Mathlib.Numerals.{add-one}
use native.Mathlib.Omega.{arith}
use borrow.Author.Tests.{leb-true}
use lib.Dec.{leb}
use lib.ListN.{length, get_or, drop, length-take, drop_of_length-le}
use lib.Seq.{drop-cons, length-take-le, get_or-take}
use Rattle.std.specs.List.{take_while, prefix_len, AllPass}
use Rattle.std.proofs.lemmas.List.Sums.{take_while-cons, prefix_len_passes, prefix_len-le-length}
use Rattle.printer_format.specs.Number.{digit, is_digit, digits_of, value_from, value_of}

-- they are the bytes from the front on that are digits
pub digits_taken : (s : List ℕ) → digits_of s ≡ take_while is_digit s
unfolding digits_of
digits_taken [] = refl
digits_taken (b ∷ s) = ap (λ l. cond (is_digit b) (b ∷ l) []) (digits_taken s) ∙ sym (take_while-cons is_digit b s)

pub digits_length : (s : List ℕ) → length (digits_of s) ≡ prefix_len is_digit s
digits_length s = rw digits_taken (length-take-le (prefix_len is_digit s) s (prefix_len-le-length is_digit s))

pub digits_pass : (s : List ℕ) → AllPass is_digit (take_while is_digit s)
digits_pass s k d h =
    let within : k < prefix_len is_digit s = omega (arith, h, length-take (prefix_len is_digit s) s) in
    ap is_digit (get_or-take (prefix_len is_digit s) s k d within) ∙ prefix_len_passes is_digit s k d within

-- a loop that works out what digits stand for has v after b of them
pub record Valuing (w : List ℕ) (v b : ℕ) : Type 0 where
  pub same : value_of w ≡ value_from v (drop b w)
  pub low : v < 10 ^ b

module _ (w : List ℕ) (v b : ℕ) (r : Valuing w v b) where
  pub valuing_end : length w ≤ b → v ≡ value_of w
  unfolding value_from
  valuing_end h = sym (r.same ∙ rw (drop_of_length-le w h))

  pub valuing_turn : AllPass is_digit w → b < length w → Valuing w (v * 10 + (get_or w b 0 - digit 0)) (b + 1)
  unfolding value_from
  valuing_turn digits h =
      let tests = (and-eq-true_iff (leb (digit 0) (get_or w b 0)) (leb (get_or w b 0) (digit 9))).0 (digits b 0 h) in
      let nine : get_or w b 0 ≤ digit 9 = leb-true _ (digit 9) tests.1 in
      record {
        same = r.same ∙ rw (drop-cons w b 0 h, add-one);
        low = rw (add-one, pow-suc) (omega (arith, r.low, nine));
      }
