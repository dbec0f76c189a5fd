-- The residues modulo a prime are a field.
use Rattle.std.specs.Prelude.{ℕ}
use Rattle.theory_algebra.specs.Field.{Field}
use Rattle.theory_algebra.specs.Prime.{Prime}
use Rattle.theory_algebra.specs.Residue.{Zp, of, plus, times, opposite, inverse}
use Rattle.theory_algebra.proofs.Residue as Laws

-- the field Z/p: its operations, and the laws that they are proved to have
unfoldable pub zp_field : (p : ℕ) → Prime p → Field (Zp p)
zp_field p P = record {
  ring = let some = Laws.positive p P in record {
    add = plus p some;
    mul = times p some;
    neg = opposite p some;
    𝟘 = of p some 0;
    𝟙 = of p some 1;
    add_comm = Laws.plus_comm p some;
    add_assoc = Laws.plus_assoc p some;
    add-zero = Laws.plus-zero p some;
    add-neg = Laws.plus-opposite p some;
    mul_comm = Laws.times-comm p some;
    mul_assoc = Laws.times-assoc p some;
    mul-one = Laws.times-one p some;
    mul-add = Laws.times-plus p some;
  };
  dec = Laws.zp-dec;
  inv = inverse p (Laws.positive p P);
  nontrivial = Laws.one_not_zero p P;
  mul-inv = Laws.times-inverse p P;
}
