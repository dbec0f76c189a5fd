-- What is promised of the reduction of R alone: that of a service whose calls are refused as those of the single step.
use Rattle.std.specs.Prelude.{List, ℕ, ◌+◌, Result}
use Rattle.std.specs.Result.{result_unwrap_or}
use Rattle.matrix_refusals.specs.Number.{answer_number, answer_place}
use Rattle.matrix_refusals.specs.declared.Refusal.{Refusal}
use Rattle.matrix_reduction.specs.declared.Reached.{Reached}
use Rattle.matrix_promises.specs.Refused.{step_sizes, matrix_table}
use Rattle.matrix_promises.specs.Service.{Service, Promise}
use Rattle.matrix_promises.specs.Services.{ShortCall, short_lengths}
use Rattle.matrix_promises.specs.Reduced.{IsReducedAlone}
use Rattle.matrix_bench.specs.declared.AloneReply.{AloneReply}

-- what it returns, and what the result holds at exit
pub record AloneOutcome : Type 0 where
  pub rank : ℕ
  pub count : ℕ
  pub r : List ℕ

-- the reduction with "input and result only": neither U nor V is kept
abbrev pub alone : Service
alone = record {
  Call = ShortCall;
  Outcome = AloneOutcome;
  table = λ c. matrix_table c.p c.n c.m c.d (short_lengths c) (step_sizes c.n c.m c.d) c.a;
  kept = λ c. record { rank = 0; count = 0; r = c.r };
  Done = λ c x. IsReducedAlone c.p c.n c.m (c.d + 1) c.a x.r x.rank x.count;
}

-- the reply that tells an answer has its numbers: "Rank and counts in a refusal are 0"
abbrev pub reply_of : Result Reached Refusal → AloneReply
reply_of x =
    let s = result_unwrap_or x (record { rank = 0; count = 0 }) in
    record { number = answer_number x; place = answer_place x; rank = s.rank; count = s.count }

-- the promise, of a reply and of what the result holds at exit
abbrev pub AloneReplied : (call : ShortCall) (r : List ℕ) → AloneReply → Type 0
AloneReplied call r x = Promise alone call x.number x.place (record { rank = x.rank; count = x.count; r = r })
