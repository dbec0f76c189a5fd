-- The refusal tables: what they want, and that each allows one answer.
use mathlib.Core.Path.{◌≡◌, refl, sym, ap, ◌∙◌}
use mathlib.Core.Logic.{◌⊎◌, inl, inr}
use mathlib.Core.List.{List, [], ◌∷◌, ◌++◌}
use Prim.Native.Nat.{ℕ, ◌<◌}
use native.Mathlib.Omega.{arith}
use lib.ListN.{get_or}
use Rattle.theory_algebra.specs.Prime.{Prime}
use Rattle.theory_algebra.proofs.Cases.{case-le}
use Rattle.theory_lists.specs.Coefficients.{Coefficients}
use Rattle.matrix_promises.specs.Answering.{Rule, Told, Answering}
use Rattle.matrix_promises.specs.Refused.{Zero, FirstWrong, FirstHigh, Numbers, determinant_sizes}
use Rattle.matrix_promises.specs.Refused.{number_rules, square_rule, length_rule, coefficient_rule, matrix_table, determinant_table}

-- ## A table in two parts

-- what the first part refuses, the whole refuses
pub told-first : (rules further : List Rule) (k i : ℕ) → 0 < k → Told rules k i → Told (rules ++ further) k i
told-first [] further k i some none = absurd (omega (arith, none.0))
told-first (rule ∷ rules) further k i some (inl f) = inl f
told-first (rule ∷ rules) further k i some (inr g) = inr (g.0, told-first rules further k i some g.1)

-- the number is 0, so no rule applies
pub past : {A P S : Type 0} {number k : ℕ} → number ≡ 0 → 0 < k → ((¬ A) × (number ≡ k) × P) ⊎ (A × S) → A × S
past none some (inl f) = absurd (omega (arith, f.1))
past none some (inr g) = g

-- no rule has the number 0
abbrev pub Numbered : List Rule → Type 0
Numbered [] = Unit
Numbered ((k, right, at) ∷ rules) = (0 < k) × Numbered rules

-- where the first part refuses nothing, the second decides
pub told-then : (rules further : List Rule) (place k i : ℕ) → Numbered rules → Told rules 0 place → Told further k i
    → Told (rules ++ further) k i
told-then [] further place k i some none h = h
told-then (rule ∷ rules) further place k i some told h =
    let (right, after) = past refl some.0 told in inr (right, told-then rules further place k i some.1 after h)

-- ## What the tables want

-- the numbers of a call to which its rules say nothing
pub in-range : {p n m d : ℕ} (further : List Rule) {number place : ℕ} → number ≡ 0 → Told (number_rules p n m d further) number place
    → Numbers p n m d × Told further number place
in-range further none told =
    let (modulus, after-modulus) = past none (omega arith) told in
    let (shape, after-shape) = past none (omega arith) after-modulus in
    let (degree, after-degree) = past none (omega arith) after-shape in
    (record { modulus = modulus; shape = shape; degree = degree }, after-degree)

-- where they are in range, what follows decides
pub past-numbers : {p n m d : ℕ} (further : List Rule) {k i : ℕ} → Numbers p n m d → Told further k i
    → Told (number_rules p n m d further) k i
past-numbers further numbers h = inr (numbers.modulus, inr (numbers.shape, inr (numbers.degree, h)))

-- all that the table of a service wants
pub record InOrder (p n m d : ℕ) (given wanted a : List ℕ) : Type 0 where
  pub numbers : Numbers p n m d
  pub lengths : given ≡ wanted
  pub residues : Coefficients p a

-- so every buffer has its length
pub sized : {p n m d : ℕ} {given wanted a : List ℕ} → InOrder p n m d given wanted a → (k : ℕ) → get_or given k 0 ≡ get_or wanted k 0
sized x k = ap (λ (l : List ℕ). get_or l k 0) x.lengths

-- the number is 0, so all that it wants holds
pub in_order : {p n m d : ℕ} {given wanted a : List ℕ} {number place : ℕ} → number ≡ 0
    → Told (matrix_table p n m d given wanted a) number place → InOrder p n m d given wanted a
in_order {p} {given = given} {wanted} {a} none told =
    let (numbers, after-numbers) = in-range (length_rule given wanted ∷ coefficient_rule p a ∷ []) none told in
    let (lengths, after-lengths) = past none (omega arith) after-numbers in
    let (residues, _) = past none (omega arith) after-lengths in
    record { numbers = numbers; lengths = lengths; residues = residues }

-- the table of the determinant wants a square matrix too
pub determinant-in-order : {p n m d : ℕ} {given a : List ℕ} {number place : ℕ} → number ≡ 0
    → Told (determinant_table p n m d given a) number place → (n ≡ m) × InOrder p n m d given (determinant_sizes n m d) a
determinant-in-order {p} {n} {m} {d} {given} {a} none told =
    let further = length_rule given (determinant_sizes n m d) ∷ coefficient_rule p a ∷ [] in
    let (numbers, after-numbers) = in-range (square_rule n m ∷ further) none told in
    let (square, after-square) = past none (omega arith) after-numbers in
    (square, in_order none (past-numbers further numbers after-square))

-- ## A table allows one answer

-- P holds of one number at most
abbrev pub One : (ℕ → Type 0) → Type 0
One P = (i j : ℕ) → P i → P j → i ≡ j

-- so it does if it never holds of two numbers, one less than the other
one : (P : ℕ → Type 0) → ((i j : ℕ) → P i → P j → ¬ (i < j)) → One P
one P never i j f g =
    case-le i j (λ le. case-le j i (λ ge. omega arith) (λ lt. absurd (never i j f g lt))) (λ lt. absurd (never j i g f lt))

-- only one place is 0
pub zero_one : One Zero
zero_one i j f g = f ∙ sym g

-- only one buffer is the first of a wrong length
wrong-one : (given wanted : List ℕ) → One (FirstWrong given wanted)
wrong-one given wanted = one _ (λ i j f g lt. f.wrong (g.before f.at (omega (arith, f.counted, g.counted))))

-- only one coefficient is the first that is not below p
pub high_one : (p : ℕ) (a : List ℕ) → One (FirstHigh p a)
high_one p a = one _ (λ i j f g lt. g.before i lt (f.here (omega (arith, g.within))))

-- a table allows one number and one place
abbrev pub Decides : List Rule → Type 0
Decides table = (k i l j : ℕ) → Told table k i → Told table l j → (k ≡ l) × (i ≡ j)

-- each of its rules allows one place
abbrev pub Places : List Rule → Type 0
Places [] = Unit
Places ((k, right, at) ∷ rules) = One at × Places rules

-- the first follows from the second
pub decides : (rules : List Rule) → Places rules → Decides rules
decides [] ones k i l j f g = (f.0 ∙ sym g.0, f.1 ∙ sym g.1)
decides (rule ∷ rules) ones k i l j (inl f) (inl g) = (f.1 ∙ sym g.1, ones.0 i j f.2 g.2)
decides (rule ∷ rules) ones k i l j (inl f) (inr g) = absurd (f.0 g.0)
decides (rule ∷ rules) ones k i l j (inr f) (inl g) = absurd (g.0 f.0)
decides (rule ∷ rules) ones k i l j (inr f) (inr g) = decides rules ones.1 k i l j f.1 g.1

module _ {p n m d : ℕ} where
  -- the rules of the numbers, before others
  pub with-numbers : (further : List Rule) → Places further → Decides (number_rules p n m d further)
  with-numbers further places = decides (number_rules p n m d further) (zero_one, (zero_one, (zero_one, places)))

  -- the table of a service whose result is a matrix
  pub matrix-decided : {given wanted a : List ℕ} → Decides (matrix_table p n m d given wanted a)
  matrix-decided {given} {wanted} {a} =
      with-numbers (length_rule given wanted ∷ coefficient_rule p a ∷ []) (wrong-one given wanted, (high_one p a, tt))

  -- the table of the determinant
  pub determinant-decided : {given a : List ℕ} → Decides (determinant_table p n m d given a)
  determinant-decided {given} {a} = with-numbers
      (square_rule n m ∷ length_rule given (determinant_sizes n m d) ∷ coefficient_rule p a ∷ [])
      (zero_one, (wrong-one given (determinant_sizes n m d), (high_one p a, tt)))

-- two answers by a table that begins so are equal in all that is returned and in the buffers, if this is true of what is done
pub answering-unique : {p n m d : ℕ} {further : List Rule} {k i l j : ℕ} {Outcome : Type 0} {x y kept : Outcome} {Done Done' : Type 0}
    → Decides (number_rules p n m d further) → (Prime p → Done → Done' → x ≡ y) → Answering (number_rules p n m d further) k i x kept Done
    → Answering (number_rules p n m d further) l j y kept Done' → ◌≡◌ {A = ℕ × ℕ × Outcome} (k, i, x) (l, j, y)
answering-unique {further = further} {k} decided done-same f g =
    let (numbers, places) = decided _ _ _ _ f.told g.told in
    let same = case-le k 0
    (λ le. let none : k ≡ 0 = omega arith in
    done-same (in-range further none f.told).0.modulus.prime (f.done none) (g.done (sym numbers ∙ none)))
    (λ some. f.refused some ∙ sym (g.refused (omega arith))) in
    λ i. (numbers i, places i, same i)
