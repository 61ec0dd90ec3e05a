use Rattle.std.proofs.Common.{◌==◌, ap, ◌∙◌}
use Rattle.std.specs.Prelude.{is_none}
use Rattle.sq_scope.proofs.TypesLists.{none_at}
use Rattle.sq_scope.proofs.keys.Keys.lacks.Goals as goal

pub returns-in-Some : goal.returns-in-Some
returns-in-Some c = ap is_none c.in-Some.ensures ∙ none_at (λ k. k == c.args.number) c.args.self.now.numbers

pub returns-in-None : goal.returns-in-None
returns-in-None c = ap is_none c.in-None.ensures ∙ none_at (λ k. k == c.args.number) c.args.self.now.numbers
