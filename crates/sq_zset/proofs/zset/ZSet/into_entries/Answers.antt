use Rattle.std.proofs.Common.{◌∙◌, ap, sym}
use Rattle.sq_zset.specs.Range.{first_outside_in}
use Rattle.sq_zset.proofs.Entries.{entries_shown}
use Rattle.sq_zset.proofs.zset.ZSet.into_entries.Goals as goal

pub returns-clause-entries : goal.returns-clause-entries
returns-clause-entries c = sym (entries_shown c.self.inside.entries.items c.args.self c.self.invariant c.self.view_is)

pub returns-clause-in_range : goal.returns-clause-in_range
returns-clause-in_range c = ap first_outside_in (entries_shown c.self.inside.entries.items c.args.self c.self.invariant c.self.view_is) ∙ c.self.invariant.in_range
