use Rattle.std.proofs.Common.{◌≡◌, ◌++◌, map, take}
use Rattle.sq_scope.proofs.NamesScopes.{LaidSoFar}
use Rattle.sq_scope.proofs.layout.laid_out.Given as goal

abbrev pub invariant-loop-column : goal.invariant-loop-column
invariant-loop-column l = l.kinds.items ≡ l.initial.kinds.items ++ map (λ c. c.kind) (take l.column-index l.column-items)

abbrev pub invariant-loop-source : goal.invariant-loop-source
invariant-loop-source l = LaidSoFar l.kinds.items l.begins.items l.source-index l.sources
