use mathlib.Core.Path.{ap₂, ◌∙◌}
use Rattle.printer_format.specs.Answer.{refusal_text}
use Rattle.printer_library.proofs.Answers.{output-as, printed-refused, printed-matrix, matrix-asked}
use Rattle.printer_library.proofs.print.Goals as goal

pub answer_matrix-requires : goal.answer_matrix-requires
answer_matrix-requires c = matrix-asked c.args.text.now c.in-Ok.numbers c.in-Ok.ensures c.read_file.auto.room

pub returns-in-Err : goal.returns-in-Err
returns-in-Err c = output-as
    (λ w is. printed-refused c.args.text.now c.in-Err.error c.in-Err.ensures (is ∙ ap₂ refusal_text c.number.ensures c.place.ensures))
    c.answer_refusal.ensures

pub returns-in-Ok : goal.returns-in-Ok
returns-in-Ok c = output-as (λ w answer. printed-matrix c.args.text.now c.in-Ok.numbers c.in-Ok.ensures answer) c.answer_matrix.ensures
