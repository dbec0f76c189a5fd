-- The moduli that are accepted are in range.
use Prim.Native.Nat.{ℕ}
use Rattle.theory_algebra.specs.Modulus.{Accepted, InRange}

-- a modulus that was accepted may be made ready
pub in-range : {p : ℕ} → Accepted p → InRange p
in-range a = record { two = a.prime.two; most = a.most }
