use Rattle.std.proofs.Common.{length, ap, sym, ◌∙◌}
use Rattle.sq_zset.specs.Range.{first_outside_in}
use Rattle.sq_zset.proofs.Entries.{entries_shown}
use Rattle.sq_zset.proofs.zset.ZSet.len.Goals as goal

pub returns-clause-len : goal.returns-clause-len
returns-clause-len c = c.len.ensures ∙ c.self.inside.entries.ok.0 ∙ ap length (sym (entries_shown c.self.inside.entries.items c.args.self.now c.self.invariant c.self.view_is))

pub returns-clause-in_range : goal.returns-clause-in_range
returns-clause-in_range c = ap first_outside_in (entries_shown c.self.inside.entries.items c.args.self.now c.self.invariant c.self.view_is) ∙ c.self.invariant.in_range
