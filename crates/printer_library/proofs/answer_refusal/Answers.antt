use mathlib.Core.Path.{refl}
use native.Mathlib.Omega.{arith}
use Rattle.printer_format.proofs.Room.{refusal-length}
use Rattle.printer_library.proofs.Answers.{output}
use Rattle.printer_library.proofs.answer_refusal.Goals as goal

pub put_refusal-requires : goal.put_refusal-requires
put_refusal-requires c = record { fits = omega (arith, refusal-length c.args.number c.args.place (omega arith) (omega arith)) }

pub returns : goal.returns
returns c = output refl (refusal-length c.args.number c.args.place (omega arith) (omega arith)) (omega arith) c.put_refusal.ensures
