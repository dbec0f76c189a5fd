-- A text has one answer only.
use mathlib.Core.Path.{◌≡◌, refl, sym, ap, subst, ◌∙◌}
use mathlib.Core.Bool.{Bool, true, false, cond}
use mathlib.Core.List.{List, [], ◌++◌}
use Prim.Native.Nat.{ℕ}
use native.Mathlib.Omega.{arith}
use lib.ListN.{length, drop}
use lib.Dec.{eqb}
use borrow.Author.Tests.{eqb-true}
use Rattle.theory_algebra.specs.Prime.{Prime}
use Rattle.theory_algebra.proofs.Cases.{case-le}
use Rattle.matrix_promises.specs.Answering.{Told}
use Rattle.matrix_promises.proofs.Unique.{alone-unique, determinant-unique}
use Rattle.printer_format.specs.Line.{bytes, line}
use Rattle.printer_format.specs.Answer.{refusal_text, counts_text, result_text, determinant_text}
use Rattle.printer_files.specs.Table.{printer_table}
use Rattle.printer_files.proofs.Unique.{printer-unique}
use Rattle.printer_files.proofs.Accepted.{accepted}
use Rattle.printer_library.specs.Printed.{MatrixAnswer, Printed, Output}

-- the line of the determinant is one, also where there is none
determinant-same : (n m : ℕ) {det det' : List ℕ} → (n ≡ m → det ≡ det') → determinant_text n m det ≡ determinant_text n m det'
determinant-same n m {det} {det'} same = go (eqb n m) (λ square. same (eqb-true n m square))
  where
    go : (b : Bool) → (b ≡ true → det ≡ det') → cond b (line (bytes "det=") det) [] ≡ cond b (line (bytes "det=") det') []
    go true found = ap (λ (l : List ℕ). line (bytes "det=") l) (found refl)
    go false found = refl

matrix-unique : {p n m d : ℕ} {a w w' : List ℕ} → Prime p → MatrixAnswer p n m d a w → MatrixAnswer p n m d a w' → w ≡ w'
matrix-unique {n = n} {m} {d} P x y =
    let (ranks, counts, results) = alone-unique P x.reduced y.reduced in
    let dets = determinant-same n m (λ square. determinant-unique P (x.determinant square) (y.determinant square)) in
    x.is ∙ (λ i. counts_text (ranks i) (counts i) ++ (result_text n m d (results i) ++ dets i)) ∙ sym y.is

pub printed-unique : (s w w' : List ℕ) → Printed s w → Printed s w' → w ≡ w'
printed-unique s w w' x y =
    let (numbers, places) = printer-unique s _ _ _ _ x.told y.told in
    case-le x.number 0
    (λ none. let zero : x.number ≡ 0 = omega arith in
    matrix-unique (accepted s (subst (λ (k : ℕ). Told (printer_table s) k x.place) zero x.told)).numbers.modulus.prime
    (x.done zero) (y.done (sym numbers ∙ zero)))
    (λ some. x.refused some ∙ (λ i. refusal_text (numbers i) (places i)) ∙ sym (y.refused (omega (arith, numbers))))

-- so two outputs that the promise allows are equal in length and content
pub output-unique : (s out : List ℕ) (k l : ℕ) (out₁ out₂ : List ℕ) → Output (Printed s) out k out₁ → Output (Printed s) out l out₂
    → (k ≡ l) × (out₁ ≡ out₂)
output-unique s out k l out₁ out₂ x y =
    let texts : x.text ≡ y.text = printed-unique s x.text y.text x.is y.is in
    let sizes : k ≡ l = x.all ∙ ap length texts ∙ sym y.all in
    (sizes, x.wrote ∙ (λ i. texts i ++ drop (sizes i) out) ∙ sym y.wrote)
