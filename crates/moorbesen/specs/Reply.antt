-- What a reply says to a program in C.
use Rattle.std.specs.Prelude.{◌≡◌, List, ℕ, ⊤, Result}
use Rattle.std.specs.Result.{result_unwrap_or}
use Rattle.matrix_promises.specs.Service.{Promise}
use Rattle.matrix_promises.specs.Services.{WholeCall, ShortCall, reduction, single_step, popov_form, determinant}
use Rattle.matrix_refusals.specs.Number.{answer_number, answer_place}
use Rattle.matrix_refusals.specs.declared.Refusal.{Refusal}
use Rattle.matrix.specs.declared.reduction.Reduction.{Reduction}
use Rattle.matrix.specs.declared.popov_form.PopovCounts.{PopovCounts}
use Rattle.moorbesen.specs.declared.Reply.{Reply}
use Rattle.moorbesen.specs.declared.PopovReply.{PopovReply}
use Rattle.moorbesen.specs.declared.DeterminantReply.{DeterminantReply}

-- the reply that tells an answer of the reduction has its numbers: "Rank and counts in a refusal are 0, the row list is empty"
abbrev pub reply_of : Result Reduction Refusal → Reply
reply_of x =
    let s = result_unwrap_or x (record { rank = 0; count = 0; rows = 0 }) in
    record { number = answer_number x; place = answer_place x; rank = s.rank; count = s.count; rows = s.rows }

-- that of the single step, which has neither rank nor list of rows
abbrev pub step_reply_of : Result ℕ Refusal → Reply
step_reply_of x = record { number = answer_number x; place = answer_place x; rank = 0; count = result_unwrap_or x 0; rows = 0 }

-- that of the Popov form
abbrev pub popov_reply_of : Result PopovCounts Refusal → PopovReply
popov_reply_of x =
    let s = result_unwrap_or x (record { rank = 0; first = 0; second = 0 }) in
    record { number = answer_number x; place = answer_place x; rank = s.rank; first = s.first; second = s.second }

-- and that of the determinant
abbrev pub determinant_reply_of : Result ⊤ Refusal → DeterminantReply
determinant_reply_of x = record { number = answer_number x; place = answer_place x }

-- the promise of the reduction, of a reply and of what result, U and V hold at exit
abbrev pub Replied : (call : WholeCall) (r u v : List ℕ) → Reply → Type 0
Replied call r u v x =
    Promise reduction call x.number x.place (record { rank = x.rank; count = x.count; rows = x.rows; r = r; u = u; v = v })

-- that of the single step
abbrev pub StepReplied : (call : ShortCall) (r : List ℕ) → Reply → Type 0
StepReplied call r x = Promise single_step call x.number x.place (record { count = x.count; r = r }) × (x.rank ≡ 0) × (x.rows ≡ 0)

-- that of the Popov form
abbrev pub PopovReplied : (call : WholeCall) (r u v : List ℕ) → PopovReply → Type 0
PopovReplied call r u v x =
    Promise popov_form call x.number x.place (record { rank = x.rank; first = x.first; second = x.second; r = r; u = u; v = v })

-- and that of the determinant
abbrev pub DeterminantReplied : (call : ShortCall) (r : List ℕ) → DeterminantReply → Type 0
DeterminantReplied call r x = Promise determinant call x.number x.place r
