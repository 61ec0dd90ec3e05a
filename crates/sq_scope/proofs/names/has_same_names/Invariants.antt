use Rattle.std.proofs.Common.{◌≡◌, map, take}
use Rattle.sq_scope.specs.NamesFaults.{source_name}
use Rattle.sq_scope.proofs.names.has_same_names.Given as goal

abbrev pub invariant-loop-joined : goal.invariant-loop-joined
invariant-loop-joined l = map (λ n. n.now) l.names.items ≡ map source_name (take l.joined-index l.sources)
