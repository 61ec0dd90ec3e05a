use Rattle.std.proofs.Common.{◌≡◌, take}
use Rattle.std.specs.List.{list_any}
use Rattle.sq_scope.specs.Scoped.{ons_from}
use Rattle.sq_check.specs.TypesTests.{on_fails}
use Rattle.sq_check.proofs.type_tests.any_join_fails.Given as goal

-- whether a join so far fails
abbrev pub invariant-loop-i : goal.invariant-loop-i
invariant-loop-i l = l.found ≡ list_any (on_fails l.test) (ons_from 0 l.scope (take l.i l.sources))
