-- What is promised of R, U and V holds of R alone.
use mathlib.Core.List.{List}
use Prim.Native.Nat.{ℕ}
use Rattle.matrix_promises.specs.Reduced.{IsReduction, IsReducedAlone}

pub alone : {p n m w rank count : ℕ} {a r u v : List ℕ} → IsReduction p n m w a r u v rank count → IsReducedAlone p n m w a r rank count
alone done = record {
  by = λ P some. let x = done.by P some in record { t = x.t; runs = x.runs; held = x.holding.R; rank_is = x.rank_is };
}
