use Rattle.std.proofs.Common.{sym, ◌∙◌, ap, rules, arith}
use Rattle.std.specs.List.{list_any}
use Rattle.std.proofs.lemmas.List.{take_all}
use Rattle.sq_typed.specs.Numbered.{is_same_call}
use Rattle.sq_scope.proofs.TypesLists.{position_here, position_nowhere}
use Rattle.sq_scope.proofs.calls.call_place.Goals as goal

pub returns-then-is_same_call : goal.returns-then-is_same_call
returns-then-is_same_call c = record { place = sym (position_here (is_same_call c.args.call.now) c.args.calls.now c.loop-i.i c.index-calls-i.result c.loop-i.invariant (search rules) (sym c.is_same_call.ensures ∙ c.if-is_same_call.true) c.index-calls-i.is); few = omega arith }

pub returns : goal.returns
returns c = record { place = sym (position_nowhere (is_same_call c.args.call.now) c.args.calls.now (ap (list_any (is_same_call c.args.call.now)) (sym (take_all c.loop-i.i c.args.calls.now (omega arith))) ∙ c.loop-i.invariant)); few = omega arith }
