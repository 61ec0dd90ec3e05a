use Rattle.std.proofs.Common.{◌<◌, ◌+◌, ◌^◌, [], get_or, map, length, ap, subst, arith}
use Rattle.sq_typed.specs.Scopes.{Scope}
use Rattle.sq_scope.proofs.NamesScopes.{end_fits}
use Rattle.sq_scope.proofs.scope.Scope.begin.Goals as goal

pub returns-clause-few : goal.returns-clause-few
returns-clause-few c =
    let within : c.args.place < length c.self.inside.sources.items = omega (arith, ap length c.self.view_is) in
    subst (λ (ss : Scope). c.index.result.now + length (get_or (map (λ s. s.columns) ss) c.args.place []) < 2 ^ 32) c.self.view_is
    (end_fits c.self.inside.sources.items c.self.inside.layout c.args.place c.index.result.now c.self.invariant.0 within c.index.ensures)
