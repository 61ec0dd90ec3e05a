use Rattle.std.proofs.Common.{◌≡◌, ◌++◌, take}
use Rattle.std.specs.Prelude.{bytes_eq, position}
use Rattle.sq_scope.specs.NamesIndex.{spot_at, spots_of}
use Rattle.sq_scope.proofs.index.add_columns.Given as goal
use Rattle.sq_typed.specs.Scopes.{Text}

abbrev pub invariant-loop-i : goal.invariant-loop-i
invariant-loop-i l = (q : Text) → spots_of l.places q ≡ spots_of l.initial.places q ++ spot_at l.source l.begin (position (λ c. bytes_eq q c.name) (take l.i l.columns))
