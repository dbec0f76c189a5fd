-- A call has one reply only, and one content of the result at exit.
use mathlib.Core.Path.{◌≡◌}
use mathlib.Core.List.{List}
use Prim.Native.Nat.{ℕ}
use Rattle.theory_algebra.specs.Prime.{Prime}
use Rattle.matrix_promises.specs.Services.{ShortCall}
use Rattle.matrix_promises.proofs.Tables.{matrix-decided, answering-unique}
use Rattle.matrix_promises.proofs.Unique.{alone-unique}
use Rattle.matrix_bench.specs.declared.AloneReply.{AloneReply}
use Rattle.matrix_bench.specs.Alone.{AloneOutcome, alone, AloneReplied}

-- what a call that is done leaves is determined
alone-same : (c : ShortCall) (x y : AloneOutcome) → Prime c.p → alone.Done c x → alone.Done c y → x ≡ y
alone-same c x y P f g =
    let (ranks, counts, results) = alone-unique P f g in λ i. record { rank = ranks i; count = counts i; r = results i }

pub alone-replied-unique : {call : ShortCall} {r₁ r₂ : List ℕ} (x y : AloneReply) → AloneReplied call r₁ x → AloneReplied call r₂ y
    → ◌≡◌ {A = AloneReply × List ℕ} (x, r₁) (y, r₂)
alone-replied-unique {call} x y f g =
    let same = answering-unique matrix-decided (alone-same call _ _) f g in
    λ i. (record { number = (same i).0; place = (same i).1; rank = (same i).2.rank; count = (same i).2.count }, (same i).2.r)
