use Rattle.std.proofs.Common.{refl, ◌≡◌, ◌+◌, ◌*◌, length, ◌∙◌, arith, length-take-le}
use Rattle.printer_format.proofs.Room.{Answerable, answer-length}
use Rattle.matrix_promises.specs.Determinant.{IsDeterminant}
use Rattle.printer_library.proofs.Answers.{determinant-few, determined, result-answerable, output}
use Rattle.printer_library.proofs.answer_reduced.Goals as goal
use Rattle.printer_library.proofs.answer_reduced.Goals.{After-determinant}

-- the places of the determinant
places : (c : After-determinant) → length c.determinant.new.r ≡ c.args.numbers.n * c.args.numbers.d + 1
places c = c.determinant.auto.r ∙ length-take-le _ _ (determinant-few c.requires.matrix.numbers)

found : (c : After-determinant) → c.args.numbers.n ≡ c.args.numbers.m
    → IsDeterminant c.args.numbers.p c.args.numbers.n c.args.numbers.d c.args.a.now c.determinant.new.r
found c = determined c.requires.matrix (length-take-le _ _ (determinant-few c.requires.matrix.numbers)) c.determinant.ensures

answerable : (c : After-determinant)
    → Answerable c.args.found.rank c.args.found.count c.args.numbers.n c.args.numbers.m c.args.numbers.d c.args.r.now c.determinant.new.r
answerable c = result-answerable c.requires (places c) (found c) (omega arith) (omega arith)

pub put_answer-requires : goal.put_answer-requires
put_answer-requires c =
    let written = answerable (goal.at.put_answer-requires c).After-determinant in
    record {
      matrix = record {
        rows = written.rows;
        some_columns = c.requires.matrix.numbers.shape.columns;
        columns = written.columns;
        degree = written.degree;
        places = written.result-size;
      };
      room = record { fits = omega (arith, answer-length _ _ _ _ _ _ _ written) };
    }

pub returns : goal.returns
returns c =
    let after = (goal.at.returns c).After-determinant in
    output (record {
      r = _;
      rank = _;
      count = _;
      reduced = c.requires.reduced;
      det = c.determinant.new.r;
      determinant = found after;
      is = refl;
    }) (answer-length _ _ _ _ _ _ _ (answerable after)) (omega arith) c.put_answer.ensures
