-- From what the parts promise to the answer that is written.
use mathlib.Core.Path.{◌≡◌, refl, sym, ap, subst, subst⁻¹, ◌∙◌}
use mathlib.Core.Logic.{inr}
use mathlib.Core.List.{List, [], ◌∷◌}
use Prim.Native.Nat.{ℕ, ◌+◌, ◌*◌, ◌≤◌, ◌<◌}
use native.Mathlib.Nat.{mul_assoc, mul-le-mul}
use native.Mathlib.Omega.{arith}
use lib.ListN.{length, take}
use lib.Seq.{length-take-le}
use Rattle.theory_lists.specs.Coefficients.{Coefficients}
use Rattle.matrix_promises.proofs.Held.{held-coefficients}
use Rattle.matrix_promises.specs.Layout.{by_rows}
use Rattle.matrix_buffers.proofs.Bounds.{matrix-few}
use Rattle.matrix_promises.specs.Refused.{Numbers, reduction_sizes, determinant_sizes, square_rule, length_rule, coefficient_rule}
use Rattle.matrix_refusals.proofs.Answering.{refusal-number}
use Rattle.matrix_promises.proofs.Tables.{past-numbers}
use Rattle.matrix_refusals.proofs.checks.Verdicts.{in_bounds}
use Rattle.matrix_promises.proofs.Tables.{matrix-decided, determinant-decided}
use Rattle.matrix_promises.specs.Reduced.{AloneBy}
use Rattle.matrix_promises.specs.Determinant.{IsDeterminant}
use Rattle.matrix_promises.specs.Service.{Promise}
use Rattle.matrix_promises.specs.Services.{determinant}
use Rattle.matrix_promises.proofs.Alone.{alone}
use Rattle.matrix.specs.Reduction.{Answered}
use Rattle.matrix.specs.declared.reduction.Reduction.{Reduction}
use Rattle.matrix_refusals.specs.declared.Refusal.{Refusal}
use Rattle.std.specs.Prelude.{Result, Ok, Err, MatchResult}
use Rattle.printer_format.specs.File.{head_lines, numbers_of, head_modulus, head_rows, head_columns, head_degree, body_lines}
use Rattle.printer_format.specs.Answer.{refusal_text, output_room}
use Rattle.printer_format.proofs.Room.{Writable, Answerable}
use Rattle.printer_files.specs.Input.{FileRead, input_number, input_place}
use Rattle.printer_files.specs.declared.InputError.{InputError}
use Rattle.printer_files.specs.declared.InputError.TheVariants.{TooLong, Format, Refused}
use Rattle.printer_files.proofs.Accepted.{accepted}
use Rattle.printer_writing.specs.Wrote.{written, Wrote}
use Rattle.std.proofs.lemmas.List.Edits.{sets-eq}
use Rattle.printer_library.specs.Printed.{MatrixAnswer, Printed, Output}
use Rattle.printer_library.specs.Asked.{MatrixTaken, ResultAsked}

-- a text that is written to the front of the output, and fits
pub output : {Is : List ℕ → Type 0} {out text : List ℕ} {size : ℕ} {out' : List ℕ} → Is text → length text ≤ output_room
    → length out ≡ output_room → Wrote out 0 text size out' → Output Is out size out'
unfolding written
output {out = out} {text} is fits room wrote = record {
  text = text;
  is = is;
  all = omega (arith, wrote.next);
  wrote = wrote.now ∙ rw wrote.next (sets-eq text out 0 (omega (arith, fits, room)));
  fits = omega (arith, wrote.next, fits);
}

-- and one that is also something else
pub output-as : {Is Is' : List ℕ → Type 0} {out : List ℕ} {size : ℕ} {out' : List ℕ} → ((w : List ℕ) → Is w → Is' w)
    → Output Is out size out' → Output Is' out size out'
output-as too x = record { text = x.text; is = too x.text x.is; all = x.all; wrote = x.wrote; fits = x.fits }

module _ {p n m d : ℕ} {a : List ℕ} (asked : MatrixTaken p n m d a) where
  pub determined : {det det' : List ℕ} {number place : ℕ} → length det ≡ n * d + 1
      → Promise determinant (record { p = p; n = n; m = m; d = d; a = a; r = det }) number place det' → n ≡ m → IsDeterminant p n d a det'
  determined {det} size promised square = promised.done (determinant-decided _ _ _ _ promised.told (past-numbers
      (square_rule n m ∷ length_rule (length a ∷ length det ∷ []) (determinant_sizes n m d) ∷ coefficient_rule p a ∷ []) asked.numbers
      (inr (square, inr ((λ i. asked.size i ∷ size i ∷ []), inr (asked.residues, (refl, refl))))))).0

  -- the reduction refuses nothing, and r is the result
  pub reduced-to : {r u v r' u' v' : List ℕ} → length r ≡ n * (m * (d + 1)) → length u ≡ n * (n * (n * (d + 1))) → length v ≡ n * (n * (d + 1))
      → (x : Result Reduction Refusal) → Answered (record { p = p; n = n; m = m; d = d; a = a; r = r; u = u; v = v }) r' u' v' x
      → MatchResult x (λ s. ResultAsked p n m d a r' s.rank s.count) (λ _. ⊥)
  reduced-to r_size u_size v_size (Ok s) answered = record { matrix = asked; reduced = alone (answered.done refl).0 }
  reduced-to {r} {u} {v} r_size u_size v_size (Err y) answered =
      let given = length a ∷ length r ∷ length u ∷ length v ∷ [] in
      let fine = past-numbers (length_rule given (reduction_sizes n m d) ∷ coefficient_rule p a ∷ []) asked.numbers
      (inr ((λ i. asked.size i ∷ r_size i ∷ u_size i ∷ v_size i ∷ []), inr (asked.residues, (refl, refl)))) in
      let none = (matrix-decided _ _ _ _ answered.told fine).0 in
      omega (arith, none, refusal-number y)

-- a determinant has at most 505 places
pub determinant-few : {p n m d : ℕ} → Numbers p n m d → n * d + 1 ≤ 505
determinant-few {n = n} {d = d} numbers =
    let most : n * d ≤ 8 * 63 = mul-le-mul numbers.shape.rows_most numbers.degree in omega arith

-- numbers below p have at most five digits
writable : {p : ℕ} {l : List ℕ} → p ≤ 65521 → Coefficients p l → Writable l
writable most residues = record { small = λ i h. omega (arith, residues.below i h, most) }

module _ {p n m d : ℕ} {a r det : List ℕ} {rank count : ℕ} (asked : ResultAsked p n m d a r rank count) (places : length det ≡ n * d + 1)
    (determined : n ≡ m → IsDeterminant p n d a det) where
  some : 0 < p
  some = omega (arith, asked.matrix.numbers.modulus.prime.two)

  -- what was promised of the result
  ended : AloneBy p asked.matrix.numbers.modulus.prime some n m (d + 1) a r rank count
  ended = asked.reduced.by asked.matrix.numbers.modulus.prime some

  result-size : length r ≡ n * (m * (d + 1))
  result-size = ended.held.size

  pub result-answerable : rank < 18446744073709551616 → count < 18446744073709551616 → Answerable rank count n m d r det
  result-answerable rank_fits count_fits =
      let numbers = asked.matrix.numbers in
      record {
        rank_fits = rank_fits;
        steps-fits = count_fits;
        rows = numbers.shape.rows_most;
        columns = numbers.shape.columns_most;
        degree = numbers.degree;
        result-size = omega (arith, result-size, mul_assoc n m (d + 1));
        result-small = writable numbers.modulus.most (held-coefficients (by_rows n m (d + 1)) p ended.held);
        determinant-size = omega (arith, places, determinant-few numbers);
        determinant-small = λ square. writable numbers.modulus.most
            (held-coefficients (by_rows 1 1 (n * d + 1)) p ((determined square).by numbers.modulus.prime some));
      }

-- a refusal has a number
some-number : (e : InputError) → 0 < input_number (Err e)
some-number TooLong = omega arith
some-number (Format line) = omega arith
some-number (Refused x) = refusal-number x

-- a text that is refused
pub printed-refused : (s : List ℕ) {room w : List ℕ} (e : InputError) → FileRead s room (Err e)
    → w ≡ refusal_text (input_number (Err e)) (input_place (Err e)) → Printed s w
printed-refused s e found is = record {
  number = input_number (Err e);
  place = input_place (Err e);
  told = found.told;
  refused = λ _. is;
  done = λ none. absurd (omega (arith, some-number e, none));
}

-- a text that is read as a matrix
module _ (s : List ℕ) {room : List ℕ} (head : _) (found : FileRead s room (Ok head)) where
  -- the matrix that was read is that of the text
  same : ◌≡◌ {A = ℕ × ℕ × ℕ × ℕ × List ℕ} (head.p, head.n, head.m, head.d, take (head.n * (head.m * (head.d + 1))) room)
      (head_modulus (head_lines s), head_rows (head_lines s), head_columns (head_lines s), head_degree (head_lines s), numbers_of (body_lines (head_lines s)))
  same =
      let held = found.held in
      let cells = ap (λ (k : ℕ). take k room) (sym (mul_assoc head.n head.m (head.d + 1)))
      ∙ ap (λ (t : ℕ × ℕ × ℕ). take (t.0 * t.1 * (t.2 + 1)) room) (λ i. (held.rows i, held.columns i, held.degree i))
      ∙ held.coefficients in
      λ i. (held.modulus i, held.rows i, held.columns i, held.degree i, cells i)

  pub printed-matrix : {w : List ℕ} → MatrixAnswer head.p head.n head.m head.d (take (head.n * (head.m * (head.d + 1))) room) w → Printed s w
  printed-matrix {w} answer = record {
    number = 0;
    place = 0;
    told = found.told;
    refused = λ some. absurd (omega arith);
    done = λ none. subst (λ (t : ℕ × ℕ × ℕ × ℕ × List ℕ). MatrixAnswer t.0 t.1 t.2 t.3 t.4 w) same answer;
  }

  pub matrix-asked : length room ≡ 4096 → MatrixTaken head.p head.n head.m head.d (take (head.n * (head.m * (head.d + 1))) room)
  matrix-asked size =
      let fine = accepted s found.told in
      let numbers = subst⁻¹ (λ (t : ℕ × ℕ × ℕ × ℕ × List ℕ). Numbers t.0 t.1 t.2 t.3) same fine.numbers in
      record {
        numbers = numbers;
        size = length-take-le _ room (omega (arith, matrix-few (in_bounds numbers), size));
        residues = subst⁻¹ (λ (t : ℕ × ℕ × ℕ × ℕ × List ℕ). Coefficients t.0 t.4) same fine.residues;
      }
