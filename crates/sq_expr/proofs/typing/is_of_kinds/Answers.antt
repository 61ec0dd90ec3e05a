use Rattle.std.proofs.Common.{rules, get_or}
use Rattle.std.proofs.lemmas.Option.{slice_get-get_or}
use Rattle.sq_expr.specs.declared.expr.Kind.TheVariants.{Integer}
use Rattle.sq_expr.proofs.Typed.{other_length, kinds_more, kinds_stop}
use Rattle.sq_expr.proofs.typing.is_of_kinds.Goals as goal

pub returns-then-len-kinds : goal.returns-then-len-kinds
returns-then-len-kinds c = other_length c.args.row.now c.args.kinds.now (search rules)

pub returns-then-not-is_of_kind : goal.returns-then-not-is_of_kind
returns-then-not-is_of_kind c = kinds_stop c.args.row.now c.args.kinds.now c.loop-i.i c.at.result.now (get_or c.args.kinds.now c.loop-i.i Integer) c.at.ensures (slice_get-get_or c.args.kinds.now c.loop-i.i Integer c.loop-i-test.true) (λ h. absurd (cc (c.is_of_kind.ensures.1 h, c.if-not-is_of_kind.true))) c.loop-i.invariant

pub loop-i-preserved : goal.loop-i-preserved
loop-i-preserved c = kinds_more c.args.row.now c.args.kinds.now c.loop-i.i c.at.result.now (get_or c.args.kinds.now c.loop-i.i Integer) c.at.ensures (slice_get-get_or c.args.kinds.now c.loop-i.i Integer c.loop-i-test.true) (c.is_of_kind.ensures.0 c.if-not-is_of_kind.false) c.loop-i.invariant
