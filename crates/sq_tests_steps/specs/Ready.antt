-- Old rows and changes of both sides of a join, as the tests have them: rows of one BIGINT, and small sides before and after.
use Rattle.std.specs.Prelude.{[], ◌∷◌}
use Rattle.std.specs.List.{All}
use Rattle.sq_algebra.specs.ZSet.{entries}
use Rattle.sq_expr.specs.Kinds.{AreOfKinds}
use Rattle.sq_expr.specs.declared.expr.Kind.TheVariants.{Bigint}
use Rattle.sq_join.specs.Stepping.{IsSmall, Rows}

abbrev pub AreBigints : Rows → Type 0
AreBigints z = All (λ e. AreOfKinds e.0 (Bigint ∷ [])) (entries z)

pub record IsReady (y dy new_y z dz new_z : Rows) : Type 0 where
  pub left : AreBigints y
  pub left_change : AreBigints dy
  pub right : AreBigints z
  pub right_change : AreBigints dz
  pub left_new : AreBigints new_y
  pub right_new : AreBigints new_z
  pub left_before : IsSmall y
  pub left_after : IsSmall new_y
  pub right_before : IsSmall z
  pub right_after : IsSmall new_z
