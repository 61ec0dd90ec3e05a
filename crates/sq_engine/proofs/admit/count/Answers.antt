use Rattle.std.proofs.Common.{to_z, of_z, w64, ◌∙◌, arith}
use Rattle.sq_zset.proofs.Entries.{kept}
use Rattle.sq_engine.proofs.Counting.{on_ok, table_counted}
use Rattle.sq_engine.proofs.admit.count.Goals as goal

pub returns-clause-more : goal.returns-clause-more
returns-clause-more c =
    let told = kept c.step_of.result (let small = c.step_of.ensures.small in omega arith) ∙ c.step_of.ensures.told in
    on_ok c.count_more.result _ _
    (λ more t row _. table_counted c.args.counts.now.items c.args.update.now c.index_mut.result.now c.count_more.new.counts (to_z w64 (of_z w64 c.step_of.result)) c.requires.inside c.index_mut.ensures.value told more t row)
    c.count_more.ensures
