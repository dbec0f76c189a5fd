-- W5 and W7, for every p that is taken: no number of theirs depends on it.
use mathlib.Core.Path.{◌≡◌, refl, sym, ap, subst, ◌∙◌}
use mathlib.Core.Logic.{◌≢◌}
use mathlib.Core.List.{List, [], ◌∷◌}
use Prim.Native.Nat.{ℕ, zero, suc, ◌+◌, ◌-◌, ◌*◌, ◌/◌, ◌%◌, ◌^◌, ◌≤◌, ◌<◌}
use native.Mathlib.Omega.{arith}
use lib.ListN.{length, get_or, length-append, get_or-append}
use lib.Seq.{get_or-append-add}
use Rattle.theory_algebra.specs.Prime.{Prime}
use Rattle.theory_rings.specs.PrimeField.{zp_field}
use Rattle.theory_rings.specs.Series.{series}
use Rattle.theory_algebra.proofs.Cases.{case-le}
use Rattle.theory_lists.proofs.Grid.{within}
use Rattle.theory_lists.proofs.Last.{last-unique}
use Rattle.theory_lists.proofs.Part.{get_or-part}
use Rattle.theory_reduction.specs.Pivot.{value, index}
use Rattle.theory_reduction.specs.Process.{halt}
use Rattle.theory_reduction.specs.Step.{begin}
use Rattle.theory_determinant.specs.Determinant.{det}
use Rattle.theory_determinant.proofs.Expansion.{det-one}
use Rattle.theory_algebra.specs.Modulus.{Accepted}
use Rattle.theory_lists.specs.Coefficients.{Coefficients}
use Rattle.matrix_buffers.specs.Diagonal.{Diagonal}
use Rattle.theory_lists.specs.Place.{spot}
use Rattle.matrix_promises.specs.Held.{Held, matrix_of}
use Rattle.matrix_buffers.proofs.Diagonal.{held-identity}
use Rattle.matrix_promises.proofs.Held.{held-matrix_of, held-matrix-same}
use Rattle.matrix_promises.specs.Layout.{by_rows}
use Rattle.matrix_pivots.specs.Pivot.{value_of, row_of}
use Rattle.matrix_refusals.proofs.Answering.{answer-done}
use Rattle.matrix_promises.specs.Reduced.{ReducedBy}
use Rattle.matrix_promises.specs.RowList.{ListedBy}
use Rattle.theory_lists.specs.Last.{last_nonzero}
use Rattle.theory_lists.specs.Total.{total}
use Rattle.theory_reduction.specs.Rank.{sign}
use Rattle.matrix_steps.proofs.Value.{value-held}
use Rattle.examples.specs.Answers.{Answers}
use Rattle.examples.specs.Example.{Every, Gives}
use Rattle.examples.specs.WExamples.{padded, cells, linear, w5, w7}
use Rattle.examples.proofs.Computed.{Taken, told-to, computed}

-- the identity of one row, in one place
unit-diagonal : Diagonal 1 1 (1 ∷ [])
unit-diagonal = record { size = refl; one = λ i l. let e : i ≡ 0 = omega arith in rw e refl; others = rest }
  where
    rest : (x : ℕ) → ((i : ℕ) → i < 1 → x ≢ spot 1 1 i i 0) → get_or {A = ℕ} (1 ∷ []) x 0 ≡ 0
    rest zero other = absurd (other 0 (omega arith) refl)
    rest (suc zero) other = refl
    rest (suc (suc x)) other = refl

module _ {p : ℕ} (modulus : Accepted p) where
  -- the matrix of W5 is not refused
  zero-taken : Taken p 1 1 0 (0 ∷ [])
  zero-taken = record {
    numbers = record {
      modulus = modulus;
      shape = record { rows = omega arith; rows_most = omega arith; columns = omega arith; columns_most = omega arith };
      degree = omega arith;
    };
    residues = record { below = λ i l. let e : i ≡ 0 = omega arith in rw e (omega (arith, modulus.prime.two)) };
    size = refl;
  }

  -- its only row is zero
  zero-value : (P : Prime p) (some : 0 < p) → value (zp_field p P) 1 1 (matrix_of (by_rows 1 1 1) p some (0 ∷ []) 0) ≡ 0
  unfolding value_of last_nonzero
  zero-value P some =
      value-held p P 1 1 1 (held-matrix_of (by_rows 1 1 1) p some (0 ∷ []) refl zero-taken.residues) (omega arith) 0 (omega arith)

  -- so no step applies
  zero-reduced : (P : Prime p) (some : 0 < p) → ReducedBy p P some 1 1 1 (0 ∷ []) (0 ∷ []) (1 ∷ []) (1 ∷ []) 0 0
  unfolding total
  zero-reduced P some = record {
    t = begin (zp_field p P).ring (matrix_of (by_rows 1 1 1) p some (0 ∷ []));
    runs = halt (λ i j less inside. absurd (omega arith));
    holding = record {
      R = held-matrix_of (by_rows 1 1 1) p some (0 ∷ []) refl zero-taken.residues;
      U = held-identity p P 1 1 (omega arith) unit-diagonal;
      V' = held-identity p P 1 1 (omega arith) unit-diagonal;
    };
    rank_is = ap (λ (v : ℕ). 0 + sign v) (sym (zero-value P some));
  }

  -- and no row is listed
  zero-listed : (P : Prime p) (some : 0 < p) → ListedBy p P some 1 1 1 (0 ∷ []) 0
  unfolding total
  zero-listed P some = record {
    count = 0;
    t = begin (zp_field p P).ring (matrix_of (by_rows 1 1 1) p some (0 ∷ []));
    runs = halt (λ i j less inside. absurd (omega arith));
    rows_are = ap (λ (v : ℕ). 0 + sign v * 2 ^ 0) (sym (zero-value P some));
  }

  zero-answers : Answers p 1 1 0 (0 ∷ [])
  zero-answers =
      let form = computed zero-taken in
      record {
        weak = record { rank = 0; count = 0; rows = 0; r = 0 ∷ []; u = 1 ∷ []; v = 1 ∷ [] };
        reduced = λ r u v right. answer-done (told-to zero-taken right) (record { by = zero-reduced }, record { by = zero-listed });
        popov = form.popov;
        formed = form.formed;
      }

pub w5-holds : (p : ℕ) → Accepted p → Every Gives (w5 p)
unfolding zero-answers
w5-holds p modulus = ((zero-answers modulus, (refl, (refl, (refl, (refl, tt))))), (record { by = zero_held }, tt))
  where
    zero_held : (P : Prime p) (some : 0 < p)
        → Held (by_rows 1 1 1) p (0 ∷ []) (λ _ _. det (series (zp_field p P).ring) 1 (matrix_of (by_rows 1 1 1) p some (0 ∷ [])))
    zero_held P some =
        let A = matrix_of (by_rows 1 1 1) p some (0 ∷ []) in
        let entry = sym (det-one (series (zp_field p P).ring) A) in
        held-matrix-same (by_rows 1 1 1) p (λ i j li lj. let e : i ≡ 0 = omega arith in let f : j ≡ 0 = omega arith in rw (e, f) entry)
        (held-matrix_of (by_rows 1 1 1) p some (0 ∷ []) refl (zero-taken modulus).residues)

-- ## The row (x, x), each entry in w places

abbrev x : List ℕ
x = linear 1

padded-length : (w : ℕ) (f : List ℕ) → length (padded w f) ≡ w
padded-length zero f = refl
padded-length (suc w) [] = ap suc (padded-length w [])
padded-length (suc w) (c ∷ f) = ap suc (padded-length w f)

padded-at : (w : ℕ) (f : List ℕ) (t : ℕ) → t < w → get_or (padded w f) t 0 ≡ get_or f t 0
padded-at zero f t l = absurd (omega arith)
padded-at (suc w) [] zero l = refl
padded-at (suc w) [] (suc t) l = padded-at w [] t (omega arith)
padded-at (suc w) (c ∷ f) zero l = refl
padded-at (suc w) (c ∷ f) (suc t) l = padded-at w f t (omega arith)

-- x has the coefficient 1 of degree 1, and no other
x-small : (t : ℕ) → get_or x t 0 < 2
x-small zero = omega arith
x-small (suc zero) = omega arith
x-small (suc (suc t)) = omega arith

x-zero : (t : ℕ) → 2 ≤ t → get_or x t 0 ≡ 0
x-zero zero l = absurd (omega arith)
x-zero (suc zero) l = absurd (omega arith)
x-zero (suc (suc t)) l = refl

module _ (w : ℕ) where
  abbrev xs : List ℕ
  xs = cells w (x ∷ x ∷ [])

  xs-length : length xs ≡ 2 * w
  xs-length = simp (length-append, padded-length) (omega arith)

  -- the coefficient of degree t in both columns
  xs-at : (j t : ℕ) → j < 2 → t < w → get_or xs (j * w + t) 0 ≡ get_or x t 0
  xs-at zero t _ l =
      let e : zero * w + t ≡ t = omega arith in
      rw e (get_or-append (padded w x) _ 0 t (omega (arith, padded-length w x)) ∙ padded-at w x t l)
  xs-at (suc zero) t _ l =
      let e : suc zero * w + t ≡ length (padded w x) + t = omega (arith, padded-length w x) in
      rw e (get_or-append-add (padded w x) _ t 0 ∙ get_or-append (padded w x) [] 0 t (omega (arith, padded-length w x))
      ∙ padded-at w x t l)
  xs-at (suc (suc j)) t few l = absurd (omega arith)

  -- the last coefficient that is not zero, by degree and then by column, is that of x in the second column
  xs-value : 2 ≤ w → value_of 2 w (row_of 2 w xs 0) ≡ 4
  unfolding value_of
  xs-value two = last-unique (w * 2) _ 4 (record {
    within = omega arith;
    zeros = λ i past inside. at i inside ∙ x-zero (i / 2) (omega arith);
    top = λ some zero. omega (arith, at 3 (omega arith), zero);
  })
    where
      at : (i : ℕ) → i < w * 2 → get_or (row_of 2 w xs 0) (i % 2 * w + i / 2) 0 ≡ get_or x (i / 2) 0
      at i inside =
          let column : i % 2 < 2 = omega arith in
          let degree : i / 2 < w = omega arith in
          get_or-part (0 * (2 * w)) (2 * w) xs (omega (arith, xs-length)) _ (within (i % 2) (i / 2) 2 w column degree)
          ∙ ap (λ (k : ℕ). get_or xs k 0) (omega arith) ∙ xs-at (i % 2) (i / 2) column degree

  xs-residues : {p : ℕ} → 2 ≤ p → Coefficients p xs
  xs-residues {p} two = record {
    below = λ i inside. case-le w i
        (λ later. let e : i ≡ 1 * w + (i - w) = omega arith in
        subst (λ (k : ℕ). k < p) (sym (ap (λ (k : ℕ). get_or xs k 0) e ∙ xs-at 1 (i - w) (omega arith) (omega (arith, xs-length))))
        (omega (arith, x-small (i - w))))
        (λ sooner. let e : i ≡ 0 * w + i = omega arith in
        subst (λ (k : ℕ). k < p) (sym (ap (λ (k : ℕ). get_or xs k 0) e ∙ xs-at 0 i (omega arith) sooner)) (omega (arith, x-small i)));
  }

pub w7-holds : (p d : ℕ) → Accepted p → 1 ≤ d → w7 p d
unfolding index
w7-holds p d modulus some-degree = record {
  size = refl;
  index_is = λ P some i l.
      let e : i ≡ 0 = omega arith in
      let row = held-matrix_of (by_rows 1 2 (d + 1)) p some (xs (d + 1)) (omega (arith, xs-length (d + 1))) (xs-residues (d + 1) P.two) in
      rw e (sym (ap (index 2) (value-held p P 1 2 (d + 1) row (omega arith) 0 (omega arith) ∙ xs-value (d + 1) (omega arith))));
}
