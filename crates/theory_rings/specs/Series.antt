-- The power series over a commutative ring are a commutative ring again.
use Rattle.std.specs.Prelude.{ℕ}
use Rattle.theory_algebra.specs.Ring.{CommRing}
use Rattle.theory_algebra.specs.Series.{◌+ₛ◌, ◌*ₛ◌, const}
use Rattle.theory_algebra.proofs.Series as Laws

-- the ring of series: its operations, and the laws that they are proved to have
unfoldable pub series : {F : Type 0} → CommRing F → CommRing (ℕ → F)
series R = record {
  add = ◌+ₛ◌ R;
  mul = ◌*ₛ◌ R;
  neg = λ f k. R.neg (f k);
  𝟘 = λ k. R.𝟘;
  𝟙 = const R R.𝟙;
  add_comm = Laws.plus_comm R;
  add_assoc = Laws.plus_assoc R;
  add-zero = Laws.plus-zero R;
  add-neg = Laws.plus-opposite R;
  mul_comm = Laws.times-comm R;
  mul_assoc = Laws.times-assoc R;
  mul-one = Laws.times-one R;
  mul-add = Laws.times-plus R;
}
