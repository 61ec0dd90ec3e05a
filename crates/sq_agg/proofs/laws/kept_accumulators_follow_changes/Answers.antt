use Rattle.std.proofs.Common.{◌∙◌, [], ap, sym}
use Rattle.sq_algebra.specs.ZSet.{plus}
use Rattle.sq_zset.proofs.RowKeys.{at_key-plus}
use Rattle.sq_ops.specs.Aggregates.{group_of, rows_of_group}
use Rattle.sq_agg.specs.Accumulators.{accumulated}
use Rattle.sq_agg.proofs.Adding.{accumulated-IsAdditive}
use Rattle.sq_agg.proofs.laws.kept_accumulators_follow_changes.Goals as goal

pub returns : goal.returns
returns _ spec parts z d c holds =
    ap (λ acc. plus acc (accumulated spec.calls (rows_of_group spec d c))) (holds.held c [])
    ∙ sym (ap (accumulated spec.calls) (at_key-plus (group_of spec) c z d) ∙ (accumulated-IsAdditive spec.calls).of_plus (rows_of_group spec z c) (rows_of_group spec d c))
