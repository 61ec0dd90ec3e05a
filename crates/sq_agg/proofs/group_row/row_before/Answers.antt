use Rattle.sq_agg.proofs.GroupRows.{before_told, one_look}
use Rattle.sq_agg.proofs.group_row.row_before.Goals as goal

pub returns-in_err-row-clause-count : goal.returns-in_err-row-clause-count
returns-in_err-row-clause-count g c = one_look c.empty-unchanged.result c.args.steps.now.count c.least_of.new.steps.count c.empty-unchanged.ensures c.least_of.ensures.count

pub returns-clause-ok : goal.returns-clause-ok
returns-clause-ok g c r shows = before_told c.args.shown.now c.args.key.now c.empty-unchanged.result r c.in_ok-row.row c.empty-unchanged.ensures shows c.in_ok-row.ensures.ok

pub returns-clause-count : goal.returns-clause-count
returns-clause-count g c = one_look c.empty-unchanged.result c.args.steps.now.count c.least_of.new.steps.count c.empty-unchanged.ensures c.least_of.ensures.count
