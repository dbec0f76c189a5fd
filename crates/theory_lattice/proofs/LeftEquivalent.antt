-- Left-equivalence is an equivalence relation, and transformed matrices are left-equivalent.
use Prim.Native.Nat.{ℕ}
use Rattle.theory_algebra.specs.Ring.{CommRing}
use Rattle.theory_algebra.specs.Matrix.{Same, product, identity}
use Rattle.theory_rings.specs.Series.{series}
use Rattle.theory_algebra.proofs.Matrix.{same_refl, same-sym, same-trans, product-same, identity-product}
use Rattle.theory_lattice.specs.Row.{Row}
use Rattle.theory_lattice.specs.PolynomialMatrix.{Transformed, LeftEquivalent}
use Rattle.theory_lattice.proofs.PolynomialMatrix.{chain, cancel_left, inverse-sym, inverse-identity, inverse-product}

module _ {F : Type 0} {R : CommRing F} {n m : ℕ} where
  pub equivalent-transformed : {A B U V' : ℕ → Row F} → Transformed R n m A B U V' → LeftEquivalent R n m A B
  equivalent-transformed {U = U} {V' = V'} t = record { W = U; W' = V'; inverse = t.inverse; carries = t.forth }

  pub equivalent-same : {A B : ℕ → Row F} → Same n m A B → LeftEquivalent R n m A B
  equivalent-same {A} {B} h = record {
    W = identity (series R);
    W' = identity (series R);
    inverse = inverse-identity R n;
    carries = same-trans n m _ A B (identity-product (series R) n m A) h;
  }

  -- W' B = W' (W A) = A
  pub equivalent-sym : {A B : ℕ → Row F} → LeftEquivalent R n m A B → LeftEquivalent R n m B A
  equivalent-sym {A} {B} e = record {
    W = e.W';
    W' = e.W;
    inverse = inverse-sym R n e.W e.W' e.inverse;
    carries = same-trans n m _ _ A
        (product-same (series R) n n m e.W' e.W' B _ (same_refl n n e.W') (same-sym n m _ B e.carries))
        (cancel_left R n m e.W' e.W A e.inverse.right_left);
  }

  pub equivalent-trans : {A B C : ℕ → Row F} → LeftEquivalent R n m A B → LeftEquivalent R n m B C → LeftEquivalent R n m A C
  equivalent-trans {A} {B} {C} e f = record {
    W = product (series R) n f.W e.W;
    W' = product (series R) n e.W' f.W';
    inverse = inverse-product R n f.W f.W' e.W e.W' f.inverse e.inverse;
    carries = chain R n m f.W e.W A B C e.carries f.carries;
  }
