-- The example of paper 01's printer.
use mathlib.Core.Path.{◌≡◌, refl, sym, ap, ◌∙◌}
use mathlib.Core.Logic.{inr}
use mathlib.Core.List.{[], ◌∷◌, ◌++◌}
use mathlib.Core.Option.{get}
use native.Mathlib.Omega.{arith}
use lib.ListN.{length, get_or, drop, replicate}
use borrow.Author.Tests.{leb-true}
use Rattle.theory_lists.specs.Coefficients.{Coefficients}
use Rattle.matrix_promises.specs.Refused.{Numbers}
use Rattle.matrix_promises.proofs.Tables.{past-numbers}
use Rattle.matrix_promises.specs.Reduced.{IsReducedAlone}
use Rattle.matrix_promises.proofs.Alone.{alone}
use Rattle.printer_format.specs.Number.{decimal_by, decimal, digits_of, value_from, is_number, number}
use Rattle.printer_format.specs.Line.{row, lines, starts_with, numbers, read_line, read_lines}
use Rattle.printer_format.specs.File.{head_lines, body_lines}
use Rattle.printer_format.specs.Answer.{answer_text}
use Rattle.printer_files.specs.Table.{cells_table}
use Rattle.printer_library.specs.Printed.{Printed}
use Rattle.printer_library.proofs.Unique.{printed-unique}
use Rattle.examples.specs.Answers.{Answers}
use Rattle.examples.specs.WExamples.{a1}
use Rattle.examples.specs.Printer.{text_in, text_out, Prints}
use Rattle.examples.proofs.Opened.{decisions}
use Rattle.examples.proofs.Decisions.{in-range, coefficients}
use Rattle.examples.proofs.WExamples.{w-examples-given}

-- the answers to W1's matrix
answers1 : Answers 7 2 2 2 a1
answers1 = w-examples-given.0.0.0

numbers1 : Numbers 7 2 2 2
unfolding in-range decisions
numbers1 = get (in-range 7 2 2 2) tt

residues1 : Coefficients 7 a1
unfolding coefficients decisions
residues1 = get (coefficients 7 a1) tt

reduced1 : IsReducedAlone 7 2 2 3 a1 answers1.weak.r answers1.weak.rank answers1.weak.count
reduced1 = alone ((answers1.reduced (replicate 12 0) (replicate 24 0) (replicate 12 0) refl).done refl).0

-- they are written so: "`rank=` is the rank; `steps=` is the count; the `r` lines are R"
written1 : text_out ≡ answer_text answers1.weak.rank answers1.weak.count 2 2 2 answers1.weak.r (1 ∷ 0 ∷ 0 ∷ 0 ∷ 0 ∷ [])
unfolding answers1 lines row decimal decimal_by
written1 =
    let (rank, (steps, (result, _))) = w-examples-given.0.0.1 in
    λ i. answer_text (get_or (sym rank i) 0 0) (get_or (sym steps i) 0 0) 2 2 2 (sym result i) (1 ∷ 0 ∷ 0 ∷ 0 ∷ 0 ∷ [])

-- the text that is printed is an answer to the text that is read
answered : Printed text_in text_out
unfolding read_lines read_line numbers starts_with number is_number value_from digits_of
answered = let cells = cells_table 7 (body_lines (head_lines text_in)) in record {
  number = 0;
  place = 0;
  told = inr (leb-true _ _ refl, inr (tt, past-numbers cells numbers1 (inr (tt, inr (residues1, (refl, refl))))));
  refused = λ some. absurd (omega arith);
  done = λ none. record {
    r = answers1.weak.r;
    rank = answers1.weak.rank;
    count = answers1.weak.count;
    reduced = reduced1;
    det = 1 ∷ 0 ∷ 0 ∷ 0 ∷ 0 ∷ [];
    determinant = λ square. w-examples-given.0.1.0;
    is = written1;
  };
}

-- so it is the one
pub paper-printed : Prints text_in text_out
paper-printed out size out' room output =
    let same : output.text ≡ text_out = printed-unique text_in _ _ output.is answered in
    let all : size ≡ length text_out = output.all ∙ ap length same in
    (all, output.wrote ∙ (λ i. same i ++ drop (all i) out))
