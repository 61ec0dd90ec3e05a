use Rattle.std.proofs.Common.{rules, ◌≡◌, ◌∙◌, ◌&&◌, not, true, ap, sym}
use Rattle.sq_algebra.specs.ZSet.{entries}
use Rattle.sq_zset.specs.Range.{first_outside}
use Rattle.sq_ops.specs.Aggregates.{group_row}
use Rattle.sq_ops.specs.Wholes.{has_no_values}
use Rattle.sq_zset.specs.GroupLaws.{no_rows_are_in_range}
use Rattle.sq_ops.proofs.Grouping.{none_tested, nothing_shown}
use Rattle.sq_ops.proofs.aggregate.AggSpecWhole.part.Goals as goal

pub returns-then-is_nothing-clause-ok : goal.returns-then-is_nothing-clause-ok
returns-then-is_nothing-clause-ok c =
    let nothing : has_no_values (entries c.args.z.now) && not (c.args.self.now.global && has_no_values c.args.key.now) ≡ true = search rules in
    c.empty.ensures ∙ sym (nothing_shown _ (group_row c.args.self.now.calls c.args.key.now c.args.z.now) nothing)

pub returns-then-is_nothing-clause-in_range : goal.returns-then-is_nothing-clause-in_range
returns-then-is_nothing-clause-in_range c = ap first_outside c.empty.ensures ∙ no_rows_are_in_range

pub returns-then-is_nothing-clause-all_sums : goal.returns-then-is_nothing-clause-all_sums
returns-then-is_nothing-clause-all_sums c =
    let nothing : has_no_values (entries c.args.z.now) && not (c.args.self.now.global && has_no_values c.args.key.now) ≡ true = search rules in
    none_tested c.args.self.now.calls c.args.z.now _ nothing
