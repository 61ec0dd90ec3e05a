use Rattle.std.proofs.Common.{◌≡◌, take}
use Rattle.std.specs.List.{list_all}
use Rattle.sq_expr.specs.Typing.{is_typed_cond}
use Rattle.sq_expr.proofs.typing.+typed.Given as goal

-- whether the conditions so far have a type
abbrev pub invariant-are_typed-loop-cond : goal.invariant-are_typed-loop-cond
invariant-are_typed-loop-cond l = l.typed ≡ list_all (is_typed_cond l.kinds) (take l.cond-index l.cond-items)
