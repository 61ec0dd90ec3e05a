-- Values inside and outside BIGINT, and what is made of values one after the other.
use Rattle.std.proofs.Common.{◌≡◌, ℕ, ◌^◌, ℤ, pos, negsuc, List, [], ◌∷◌, length, Bool, true, false, not, refl, ap, ◌∙◌, arith}
use Rattle.std.proofs.lemmas.Int.{ints}
use Rattle.std.proofs.lemmas.Bool.{ltb-true, lt-ltb}
use Rattle.std.specs.Prelude.{Option, unwrap_or, nat_lt, FitsSigned}
use Rattle.std.specs.Int.{w64}
use Rattle.sq_expr.specs.declared.expr.Expr.{Expr}
use Rattle.sq_expr.specs.declared.expr.Func.{Func}
use Rattle.sq_expr.specs.declared.expr.Func.TheVariants.{CountAll, Count, Sum, Min, Max}
use Rattle.sq_expr.specs.Items.{IsStorable, HasCause}
use Rattle.sq_expr.specs.declared.value.ItemFault.{ItemFault}
use Rattle.sq_expr.specs.declared.value.ItemFault.TheVariants as item
use Rattle.sq_value.specs.declared.value.Value.{Value}
use Rattle.sq_value.specs.declared.value.Value.TheVariants.{Null, Int, Text}
use Rattle.sq_typed.specs.Queries.{is_outside}
use Rattle.sq_expr.specs.Meaning.{sum_of}
use Rattle.sq_typed.specs.Blocks.{arguments, call_value, sum_or_null}
use Rattle.sq_expr.specs.Extremes.{greatest_or_null, least_or_null}
use Rattle.sq_typed.specs.From.{Row}
use Rattle.sq_lists.specs.Stops.{stop_of}
use Rattle.sq_lists.specs.Values.{extreme, of_arguments}
use Rattle.sq_lists.specs.declared.stop.Stop.TheVariants.{Range}

fits_inside : (n : ℤ) → FitsSigned w64 n → is_outside (Int n) ≡ false
fits_inside (pos n) h = ap not (lt-ltb n (2 ^ 63) (omega (arith, ints, h.sfits)))
fits_inside (negsuc n) h = ap not (lt-ltb n (2 ^ 63) (omega (arith, ints, h.sfits)))

-- what may be stored is not outside
pub storable_inside : (x : Value) → IsStorable x → is_outside x ≡ false
storable_inside Null h = refl
storable_inside (Int n) h = fits_inside n h
storable_inside (Text t) h = refl

outside_pos : (n : ℕ) (b : Bool) → nat_lt n (2 ^ 63) ≡ b → ¬ FitsSigned w64 (pos n) → not b ≡ true
outside_pos n false e h = refl
outside_pos n true e h = absurd (h (record { sfits = omega (arith, ints, ltb-true n (2 ^ 63) e) }))

outside_neg : (n : ℕ) (b : Bool) → nat_lt n (2 ^ 63) ≡ b → ¬ FitsSigned w64 (negsuc n) → not b ≡ true
outside_neg n false e h = refl
outside_neg n true e h = absurd (h (record { sfits = omega (arith, ints, ltb-true n (2 ^ 63) e) }))

unfit_outside : (n : ℤ) → ¬ FitsSigned w64 n → is_outside (Int n) ≡ true
unfit_outside (pos n) h = outside_pos n (nat_lt n (2 ^ 63)) refl h
unfit_outside (negsuc n) h = outside_neg n (nat_lt n (2 ^ 63)) refl h

-- an item that is refused for range is outside
pub refused_outside : (fault : ItemFault) (x : Value) → stop_of fault ≡ Range → HasCause fault x → is_outside x ≡ true
refused_outside (item.Value n) x e h = ap is_outside h.0 ∙ unfit_outside n h.1
refused_outside item.Memory x e h = absurd (cc e)

-- the chosen of some values are the least and the greatest
pub least_chosen : (xs : List Value) → unwrap_or (extreme false xs) Null ≡ least_or_null xs
least_chosen [] = refl
least_chosen (x ∷ xs) = refl

pub greatest_chosen : (xs : List Value) → unwrap_or (extreme true xs) Null ≡ greatest_or_null xs
greatest_chosen [] = refl
greatest_chosen (x ∷ xs) = refl

-- a sum of some values, and of none
pub sum_of_none : (xs : List Value) → length xs ≡ 0 → sum_or_null xs ≡ Null
sum_of_none [] e = refl
sum_of_none (x ∷ xs) e = absurd (omega (arith, e))

pub sum_of_some : (xs : List Value) → (length xs ≡ 0 → ⊥) → sum_or_null xs ≡ sum_of xs
sum_of_some [] e = absurd (e refl)
sum_of_some (x ∷ xs) e = refl

pub call_by_arguments : (f : Func) (arg : Option Expr) (rows : List Row) → call_value f arg rows ≡ of_arguments f (length rows) (arguments arg rows)
call_by_arguments CountAll arg rows = refl
call_by_arguments Count arg rows = refl
call_by_arguments Sum arg rows = refl
call_by_arguments Min arg rows = refl
call_by_arguments Max arg rows = refl
