use Rattle.std.proofs.Common.{rules, ◌≡◌, ◌≤◌, List, length, take, take_all, ◌++◌, ◌∙◌, ap, ap₂, sym}
use Rattle.sq_algebra.specs.Groups.{integers}
use Rattle.sq_algebra.specs.ZSet.{entries}
use Rattle.sq_trace.proofs.HalfLemmas.{ok_more}
use Rattle.sq_trace.specs.Runs.{at}
use Rattle.sq_zset.proofs.Entries.{kept}
use Rattle.sq_tests_steps.specs.Kept.{entry_under, kept_under}
use Rattle.sq_tests_steps.proofs.Keeping.{holds_kept, kept_more, rows_distinct, rows_in_range}
use Rattle.sq_tests_steps.proofs.traces.left_trace.Goals as goal

pub loop-i-preserved : goal.loop-i-preserved
loop-i-preserved g c =
    let row = c.at-weight.result.0.now in
    c.in_ok-push_entry.ensures
    ∙ ap (λ w. c.loop-i.kept.items ++ entry_under c.in_ok-key.key row w) (kept c.at-weight.result.1 c.at-weight.ensures.in_range)
    ∙ ap₂ (λ xs o. xs ++ entry_under o row c.at-weight.result.1) c.loop-i.invariant c.in_ok-key.ensures
    ∙ sym (kept_more (g.B.Bilinear.left_keys c.args.op.now) (entries c.args.z.now) c.loop-i.i row c.at-weight.result.1 c.at-weight.ensures.entry)

pub trace_of-requires-clause-distinct : goal.trace_of-requires-clause-distinct
trace_of-requires-clause-distinct g c =
    let past : length (entries c.args.z.now) ≤ c.loop-i.i = search rules in
    rows_distinct (g.B.Bilinear.left_keys c.args.op.now) c.args.z.now c.loop-i.kept.items (c.loop-i.invariant ∙ ap (kept_under (g.B.Bilinear.left_keys c.args.op.now)) (take_all c.loop-i.i (entries c.args.z.now) past))

pub trace_of-requires-clause-in_range : goal.trace_of-requires-clause-in_range
trace_of-requires-clause-in_range g c =
    let past : length (entries c.args.z.now) ≤ c.loop-i.i = search rules in
    rows_in_range (g.B.Bilinear.left_keys c.args.op.now) c.args.z.now c.loop-i.kept.items c.len-i-end.ensures.in_range
    (c.loop-i.invariant ∙ ap (kept_under (g.B.Bilinear.left_keys c.args.op.now)) (take_all c.loop-i.i (entries c.args.z.now) past))

pub returns : goal.returns
returns g c =
    let past : length (entries c.args.z.now) ≤ c.loop-i.i = search rules in
    ok_more c.trace_of.result
    (λ trace held. holds_kept (g.B.Bilinear.left_keys c.args.op.now) c.args.z.now trace (λ p. held p
    ∙ ap (at integers p) (c.loop-i.invariant ∙ ap (kept_under (g.B.Bilinear.left_keys c.args.op.now)) (take_all c.loop-i.i (entries c.args.z.now) past))))
    c.trace_of.ensures
