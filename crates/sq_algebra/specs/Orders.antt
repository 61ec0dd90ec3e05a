-- What the laws ask of the orders of keys. That an order is total is a law of `Ord`; here it is said that it tells any two keys apart.
--     Order K        a comparison of two keys
--     IsOrder R      R answers Equal only at identical keys
--     TwoOrders Q R, ThreeOrders Q R S, FourOrders Q R S U      each of the orders does so
use Rattle.std.specs.FinMap.{IsAntisymmetric}
use Rattle.std.specs.declared.cmp.Ordering.{Ordering}

abbrev pub Order : Type 0 → Type 0
Order K = K → K → Ordering

-- R answers Equal only at identical keys
abbrev pub IsOrder : {K : Type 0} → Order K → Type 0
IsOrder R = IsAntisymmetric R

pub record TwoOrders {J K : Type 0} (Q : Order J) (R : Order K) : Type 0 where
  pub first : IsOrder Q
  pub second : IsOrder R

pub record ThreeOrders {J K L : Type 0} (Q : Order J) (R : Order K) (S : Order L) : Type 0 where
  pub first : IsOrder Q
  pub second : IsOrder R
  pub third : IsOrder S

pub record FourOrders {J K L M : Type 0} (Q : Order J) (R : Order K) (S : Order L) (U : Order M) : Type 0 where
  pub first : IsOrder Q
  pub second : IsOrder R
  pub third : IsOrder S
  pub fourth : IsOrder U
