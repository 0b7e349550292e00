-- Tests of two parts.
use Rattle.std.proofs.Common.{◌≡◌, Bool, true, false, ◌&&◌, not, IsTrue, refl}

pub both_true : (a b : Bool) → IsTrue a → IsTrue b → IsTrue (a && b)
both_true true b p q = q
both_true false b p q = p

pub first_true : (a b : Bool) → IsTrue (a && b) → IsTrue a
first_true true b p = refl
first_true false b p = p

pub second_true : (a b : Bool) → IsTrue (a && b) → IsTrue b
second_true true b p = p
second_true false b p = absurd (cc)

pub not_true : (a : Bool) → a ≡ false → IsTrue (not a)
not_true true e = absurd (cc)
not_true false e = refl
