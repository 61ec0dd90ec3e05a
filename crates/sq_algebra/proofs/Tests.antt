-- What tests of two parts and answers of a comparison say.
use Rattle.std.proofs.Common.{◌≡◌, Bool, true, false, ◌&&◌, T, refl, subst, sym, Ordering, Less, Equal, Greater, is_lt, is_eq}

pub both : (a b : Bool) → T a → T b → T (a && b)
both true b p q = q
both false b p q = p

pub first : (a b : Bool) → T (a && b) → T a
first true b p = tt
first false b p = p

pub second : (a b : Bool) → T (a && b) → T b
second true b p = p
second false b p = absurd p

pub T_from : (b : Bool) → b ≡ true → T b
T_from b e = subst T (sym e) tt

pub from_T : (b : Bool) → T b → b ≡ true
from_T true p = refl
from_T false p = absurd p

pub less : (r : Ordering) → T (is_lt r) → r ≡ Less
less Less p = refl
less Equal p = absurd p
less Greater p = absurd p

pub equal : (r : Ordering) → is_eq r ≡ true → r ≡ Equal
equal Less p = cc
equal Equal p = refl
equal Greater p = cc
