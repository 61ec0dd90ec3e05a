-- The tests of types and of bounds that the expressions and conditions of a block have to pass.
use Rattle.std.specs.Prelude.{Bool, not, ◌||◌, List, is_none, option_to_list}
use Rattle.std.specs.List.{list_any}
use Rattle.sq_ast.specs.declared.cond.CondTree.{CondTree}
use Rattle.sq_ast.specs.declared.query.BlockTree.{BlockTree, out-BlockTree}
use Rattle.sq_expr.specs.Bounds.{parts, cond_parts}
use Rattle.sq_expr.specs.Typing.{sort_of, is_typed_cond}
use Rattle.sq_expr.specs.declared.cond.Cond.{Cond}
use Rattle.sq_expr.specs.declared.expr.Expr.{Expr}
use Rattle.sq_expr.specs.declared.expr.Kind.{Kind}
use Rattle.sq_typed.specs.declared.query.BlockCall.{BlockCall}
use Rattle.sq_typed.specs.Faults.{is_too_wide}
use Rattle.sq_typed.specs.Numbered.{row_cond}
use Rattle.sq_typed.specs.Scopes.{Scope, kinds_in}
use Rattle.sq_typed.specs.Selected.{Chosen, written_out}
use Rattle.sq_scope.specs.Scoped.{ons_from}
use Rattle.sq_check.specs.TypesFrames.{frame_item, frame_kinds}
use Rattle.sq_scope.specs.TypesGroups.{over_group_cond}
use Rattle.sq_check.specs.declared.frame.Frame.{Frame}
use Rattle.sq_check.specs.declared.type_tests.Test.{Test}
use Rattle.sq_check.specs.declared.type_tests.Test.TheVariants.{Types, Bounds}

-- whether an expression over columns of some kinds fails a test, and whether a condition does
abbrev pub fails : Test → List Kind → Expr → Bool
fails Types kinds e = is_none (sort_of kinds e)
fails Bounds kinds e = list_any (is_too_wide kinds) (parts e)

abbrev pub cond_fails : Test → List Kind → Cond → Bool
cond_fails Types kinds c = not (is_typed_cond kinds c)
cond_fails Bounds kinds c = list_any (is_too_wide kinds) (cond_parts c)

abbrev pub item_fails : Test → Frame → Chosen → Bool
item_fails test f i = fails test (frame_kinds f) (frame_item f i)

abbrev pub call_fails : Test → List Kind → BlockCall → Bool
call_fails test kinds c = list_any (fails test kinds) (option_to_list c.arg)

-- a condition over the columns of these sources
abbrev pub on_fails : Test → Scope × CondTree → Bool
on_fails test on = cond_fails test (kinds_in on.0) (row_cond on.0 on.1)

-- a condition over the group row
abbrev pub having_fails : Test → Frame → CondTree → Bool
having_fails test f c = cond_fails test f.group_kinds (over_group_cond f.row f.groups.keys.numbers f.groups.calls c)

abbrev pub exprs_fail : Test → Frame → Scope → BlockTree → Bool
exprs_fail test f scope b = list_any (λ i. list_any (item_fails test f) (written_out scope i)) (out-BlockTree b).items || list_any (call_fails test (kinds_in f.row)) f.groups.calls

abbrev pub conds_fail : Test → Frame → Scope → BlockTree → Bool
conds_fail test f scope b =
    list_any (λ c. on_fails test (f.row, c)) (option_to_list (out-BlockTree b).filter)
    || list_any (on_fails test) (ons_from 0 scope (out-BlockTree b).sources)
    || list_any (having_fails test f) (option_to_list (out-BlockTree b).having)
