-- Two matrices are left-equivalent exactly where the reduced bases that they are transformed to are equal.
use mathlib.Core.Logic.{◌↔◌}
use Prim.Native.Nat.{ℕ}
use Rattle.theory_algebra.specs.Field.{Field}
use Rattle.theory_algebra.specs.Matrix.{Same}
use Rattle.theory_lattice.specs.Term.{TermOrder}
use Rattle.theory_lattice.specs.RowOrder.{RowOrder}
use Rattle.theory_lattice.specs.Row.{Row}
use Rattle.theory_lattice.specs.PolynomialMatrix.{Transformed, LeftEquivalent}
use Rattle.theory_lattice.specs.ReducedBasis.{ReducedBasis}
use Rattle.theory_lattice.proofs.LeftEquivalent.{equivalent-transformed, equivalent-same, equivalent-sym, equivalent-trans}
use Rattle.theory_lattice.proofs.Unique.{basis-unique}

pub equivalent-iff : {F : Type 0} (K : Field F) {m : ℕ} {T : TermOrder m} {O : RowOrder} {n : ℕ} {A P U V' B Q X Y : ℕ → Row F}
    → Transformed K.ring n m A P U V' → Transformed K.ring n m B Q X Y
    → ReducedBasis K.ring T O n P → ReducedBasis K.ring T O n Q
    → Same n m P Q ↔ LeftEquivalent K.ring n m A B
equivalent-iff K a b p q =
    let a-to-p = equivalent-transformed a in
    let b-to-q = equivalent-transformed b in (
      (λ e. equivalent-trans a-to-p (equivalent-trans (equivalent-same e) (equivalent-sym b-to-q))),
      λ e. basis-unique K p q (equivalent-trans (equivalent-sym a-to-p) (equivalent-trans e b-to-q)),
    )
