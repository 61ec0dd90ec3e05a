-- Tables as small as those of the sample.
--     IsUpTo n x        a value is NULL or a number from 0 up to n
--     AreUpTo n rows    each value of some rows is
--     AreSmall d e      rows of d and of e: so few, with numbers up to 2^31
use Rattle.std.specs.Prelude.{ℕ, ◌≤◌, ◌^◌, List, length, pos, negsuc, ⊤}
use Rattle.std.specs.List.{AllByRecursion}
use Rattle.sq_value.specs.declared.value.Value.{Value}
use Rattle.sq_value.specs.declared.value.Value.TheVariants.{Null, Int, Text}
use Rattle.sq_typed.specs.From.{Row}

abbrev pub IsUpTo : ℕ → Value → Type 0
IsUpTo n Null = ⊤
IsUpTo n (Int (pos k)) = k ≤ n
IsUpTo n (Int (negsuc k)) = ⊥
IsUpTo n (Text t) = ⊥

abbrev pub AreUpTo : ℕ → List Row → Type 0
AreUpTo n rows = AllByRecursion (λ row. AllByRecursion (IsUpTo n) row) rows

pub record AreSmall (d e : List Row) : Type 0 where
  pub few_d : length d ≤ 1010
  pub few_e : length e ≤ 100001
  pub small_d : AreUpTo (2 ^ 31) d
  pub small_e : AreUpTo (2 ^ 31) e
