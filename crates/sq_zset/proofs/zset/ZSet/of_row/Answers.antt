use Rattle.std.proofs.Common.{◌∙◌, ◌++◌, [], ◌∷◌, pos, ap}
use Rattle.sq_zset.proofs.Counting.{one_held}
use Rattle.sq_zset.proofs.zset.ZSet.of_row.Goals as goal

pub returns-clause-ok : goal.returns-clause-ok
returns-clause-ok c = (one_held c.args.row c.push.new.self.items (c.in_ok-push.ensures.items ∙ ap (λ es. es ++ (c.args.row, pos 1) ∷ []) c.in_ok-entries.ensures.items)).value

pub returns-clause-in_range : goal.returns-clause-in_range
returns-clause-in_range c = (one_held c.args.row c.push.new.self.items (c.in_ok-push.ensures.items ∙ ap (λ es. es ++ (c.args.row, pos 1) ∷ []) c.in_ok-entries.ensures.items)).in_range
