use borrow.Author.Rules.{rules}
use Rattle.printer_writing.proofs.Writing.{wrote_then}
use Rattle.printer_writing.proofs.put_refusal.Goals as goal

pub returns : goal.returns
returns c = search (rules, wrote_then)
