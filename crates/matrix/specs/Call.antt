-- The calls of the services, by their numbers and by what the buffers hold at entry: a is the input, and r, u and v are result, U and V.
use Rattle.std.specs.Prelude.{List, ℕ}
use Rattle.matrix_promises.specs.Services.{WholeCall, ShortCall}
use Rattle.matrix_refusals.specs.declared.Numbers.{Numbers}

-- of the reduction and of the Popov form
abbrev pub whole_call : Numbers → (a r u v : List ℕ) → WholeCall
whole_call numbers a r u v = record { p = numbers.p; n = numbers.n; m = numbers.m; d = numbers.d; a = a; r = r; u = u; v = v }

-- of the single step and of the determinant: "input and result only"
abbrev pub short_call : Numbers → (a r : List ℕ) → ShortCall
short_call numbers a r = record { p = numbers.p; n = numbers.n; m = numbers.m; d = numbers.d; a = a; r = r }
