-- Which references of a block are at fault.
use Rattle.std.specs.Prelude.{Bool}
use Rattle.sq_ast.specs.declared.expr.ColRef.{ColRef}
use Rattle.sq_scope.specs.declared.references.ColumnFault.{ColumnFault}
use Rattle.sq_scope.specs.declared.references.ColumnFault.TheVariants.{Unknown, Ambiguous}
use Rattle.sq_typed.specs.Faults.{finds_nothing, finds_several}
use Rattle.sq_typed.specs.Scopes.{Scope}

-- whether a reference has the fault among these sources
abbrev pub is_at_fault : ColumnFault → Scope → ColRef → Bool
is_at_fault Unknown scope r = finds_nothing (scope, r)
is_at_fault Ambiguous scope r = finds_several (scope, r)
