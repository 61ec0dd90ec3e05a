use Rattle.sq_zset.proofs.Entries.{holds_entries}
use Rattle.sq_zset.proofs.Copying.{copy_shown, copy_in_range}
use Rattle.sq_zset.proofs.zset.ZSetGroup.clone_group.Goals as goal

pub invariant_of-result : goal.invariant_of-result
invariant_of-result c =
    (holds_entries c.in_ok-entries.entries.items c.args.self.now
    (copy_shown c.self.inside.entries.items c.deref.result.now c.in_ok-entries.entries.items c.args.self.now c.self.invariant c.self.view_is c.deref.ensures.value c.in_ok-entries.ensures)
    (copy_in_range c.self.inside.entries.items c.deref.result.now c.in_ok-entries.entries.items c.self.invariant c.deref.ensures.value c.in_ok-entries.ensures)).sound

pub returns-clause-ok : goal.returns-clause-ok
returns-clause-ok c =
    (holds_entries c.in_ok-entries.entries.items c.args.self.now
    (copy_shown c.self.inside.entries.items c.deref.result.now c.in_ok-entries.entries.items c.args.self.now c.self.invariant c.self.view_is c.deref.ensures.value c.in_ok-entries.ensures)
    (copy_in_range c.self.inside.entries.items c.deref.result.now c.in_ok-entries.entries.items c.self.invariant c.deref.ensures.value c.in_ok-entries.ensures)).value

pub returns-clause-in_range : goal.returns-clause-in_range
returns-clause-in_range c =
    (holds_entries c.in_ok-entries.entries.items c.args.self.now
    (copy_shown c.self.inside.entries.items c.deref.result.now c.in_ok-entries.entries.items c.args.self.now c.self.invariant c.self.view_is c.deref.ensures.value c.in_ok-entries.ensures)
    (copy_in_range c.self.inside.entries.items c.deref.result.now c.in_ok-entries.entries.items c.self.invariant c.deref.ensures.value c.in_ok-entries.ensures)).in_range
