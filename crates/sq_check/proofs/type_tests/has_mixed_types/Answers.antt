use Rattle.std.proofs.Common.{ap, ◌∙◌}
use Rattle.std.specs.List.{list_any}
use Rattle.sq_typed.specs.Faults.{sums_text}
use Rattle.sq_check.proofs.TypesTests.{mixed_is}
use Rattle.sq_check.proofs.type_tests.has_mixed_types.Goals as goal

pub returns : goal.returns
returns c = mixed_is c.args.scope.now c.args.block.now c.in_ok-frame.frame c.kinds.result.now c.in_ok-in_exprs.in_exprs c.in_ok-in_conds.in_conds c.any_sums_text-in_sums.result c.in_ok-frame.ensures c.in_ok-in_exprs.ensures c.in_ok-in_conds.ensures c.kinds.ensures (c.any_sums_text-in_sums.ensures ∙ ap (list_any (λ call. sums_text c.kinds.result.now call.func call.arg)) c.as_slice.ensures)
