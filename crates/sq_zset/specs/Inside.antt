-- What a Z-set of the program holds.
use Rattle.std.specs.Prelude.{◌≡◌, List, IsTrue, ℤ, None}
use Rattle.sq_value.specs.declared.value.Value.{Value}
use Rattle.sq_value.specs.Order.{row_cmp}
use Rattle.sq_algebra.specs.ZSet.{is_canonical}
use Rattle.sq_zset.specs.Range.{first_outside_in}

-- the rows ascend, no weight is 0, and all weights lie in the range
pub record IsSound (es : List (List Value × ℤ)) : Type 0 where
  pub canonical : IsTrue (is_canonical row_cmp es)
  pub in_range : first_outside_in es ≡ None
