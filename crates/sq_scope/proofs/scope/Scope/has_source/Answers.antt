use Rattle.std.proofs.Common.{length, not, ap, ◌∙◌}
use Rattle.std.specs.Prelude.{nat_lt}
use Rattle.sq_scope.proofs.NamesPlaces.{is_there, not_empty}
use Rattle.sq_scope.proofs.scope.Scope.has_source.Goals as goal

pub returns : goal.returns
returns c =
    ap not c.is_empty.ensures ∙ (not_empty (length c.named.result.now) ∙
    (ap (λ l. nat_lt 0 (length l)) c.named.ensures ∙ is_there c.args.name.now 0 c.args.self.now))
