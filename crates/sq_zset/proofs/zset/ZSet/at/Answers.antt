use Rattle.sq_zset.proofs.Entries.{place_low, entry_at}
use Rattle.sq_zset.proofs.zset.ZSet.at.Goals as goal

pub index-entry-requires : goal.index-entry-requires
index-entry-requires c =
    place_low c.self.inside.entries.items c.args.self.now c.self.inside.entries.len c.args.i c.self.invariant c.self.view_is c.self.inside.entries.ok.0 c.requires

pub returns-clause-entry : goal.returns-clause-entry
returns-clause-entry c =
    (entry_at c.self.inside.entries.items c.args.self.now c.self.inside.entries.len c.args.i c.index-entry.result.now c.self.invariant c.self.view_is c.self.inside.entries.ok.0 c.requires c.index-entry.ensures).entry

pub returns-clause-ascending : goal.returns-clause-ascending
returns-clause-ascending c =
    (entry_at c.self.inside.entries.items c.args.self.now c.self.inside.entries.len c.args.i c.index-entry.result.now c.self.invariant c.self.view_is c.self.inside.entries.ok.0 c.requires c.index-entry.ensures).ascending

pub returns-clause-in_range : goal.returns-clause-in_range
returns-clause-in_range c =
    (entry_at c.self.inside.entries.items c.args.self.now c.self.inside.entries.len c.args.i c.index-entry.result.now c.self.invariant c.self.view_is c.self.inside.entries.ok.0 c.requires c.index-entry.ensures).in_range
