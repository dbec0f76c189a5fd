use Rattle.std.proofs.Common.{◌≡◌, take, subst}
use Rattle.std.proofs.Math.Seq.{take-append_seam}
use Rattle.std.proofs.lemmas.Result.{on_ok_weaker}
use Rattle.std.specs.Io.KnownBytes.{Appends}
use Rattle.printer.proofs.answer.Goals as goal

pub returns : goal.returns
returns g c =
    let printed = c.print-used.ensures in
    let front : take c.print-used.result c.print-used.new.out ≡ printed.text =
    rw (printed.wrote, printed.all) (take-append_seam printed.text _) in
    on_ok_weaker c.write_all.result (λ given. record {
      text = _;
      answer = printed.text;
      taken = c.read_full-size.ensures.bytes;
      printed = printed.is;
      given = subst (Appends _ _) front given;
    }) c.write_all.ensures.bytes
