use Rattle.std.proofs.Common.{◌≡◌, take}
use Rattle.std.specs.List.{list_all}
use Rattle.sq_expr.specs.Typing.{is_numeric, sort_of}
use Rattle.sq_expr.proofs.typing.+expr_sort.Given as goal

-- whether the terms so far are numbers
abbrev pub invariant-loop-term : goal.invariant-loop-term
invariant-loop-term l = l.numbers ≡ list_all (λ t. is_numeric (sort_of l.kinds t.expr)) (take l.term-index l.term-items)

-- whether the factors so far are numbers
abbrev pub invariant-loop-factor : goal.invariant-loop-factor
invariant-loop-factor l = l.numbers ≡ list_all (λ e. is_numeric (sort_of l.kinds e)) (take l.factor-index l.factor-items)
