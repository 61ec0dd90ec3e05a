use Rattle.std.proofs.Common.{◌∙◌, ap, pos, rules, sym, to_z-of_z}
use Rattle.sq_ops.specs.Aggregates.{count_in}
use Rattle.sq_ops.specs.Measures.{weighted}
use Rattle.sq_ops.proofs.Measuring.{total_of_row}
use Rattle.sq_agg.specs.Accumulators.{call_count, call_sum}
use Rattle.sq_agg.proofs.Tallying.{row_count_within, row_sum_within}
use Rattle.sq_agg.proofs.tally.tally_of_row.Goals as goal

pub returns-in-CountAll-clause-tally : goal.returns-in-CountAll-clause-tally
returns-in-CountAll-clause-tally c =
    ap (λ n. record { count = n; sum = pos 0 }) (to_z-of_z c.ranges.weight ∙ sym (total_of_row c.args.row.now c.args.weight))
    ∙ ap (λ f. record { count = call_count f c.args.call.now.arg (weighted c.args.row.now c.args.weight); sum = call_sum f c.args.call.now.arg (weighted c.args.row.now c.args.weight) }) (sym c.in-CountAll.is)

pub returns-in-Sum-clause-within : goal.returns-in-Sum-clause-within
returns-in-Sum-clause-within c = record {
  count = row_count_within c.args.call.now.arg c.args.row.now c.args.weight c.count_of_row.result c.requires
      (c.count_of_row.ensures ∙ ap (λ n. count_in c.args.call.now.arg (weighted c.args.row.now n)) (to_z-of_z c.ranges.weight));
  sum = row_sum_within c.sum_of_row.result c.sum_of_row.ensures.bound;
}

pub returns-in-Count : goal.returns-in-Count
returns-in-Count c = record {
  tally = search rules;
  within = record {
    count = row_count_within c.args.call.now.arg c.args.row.now c.args.weight c.count_of_row-in-Count.result c.requires
        (c.count_of_row-in-Count.ensures ∙ ap (λ n. count_in c.args.call.now.arg (weighted c.args.row.now n)) (to_z-of_z c.ranges.weight));
    sum = search rules;
  };
}
