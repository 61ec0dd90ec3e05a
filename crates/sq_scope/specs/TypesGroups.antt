-- The columns and calls of a group row.
use Rattle.std.specs.Prelude.{ℕ, ◌+◌, ◌==◌, if◌then◌else◌, List, [], ◌∷◌, ◌++◌, map, fold, length, position, get_or, unwrap_or}
use Rattle.std.specs.List.{filter_map, list_any}
use Rattle.sq_ast.specs.declared.cond.CondTree.{CondTree}
use Rattle.sq_ast.specs.declared.expr.ExprTree.{ExprTree}
use Rattle.sq_ast.specs.declared.expr.TermTree.{TermTree}
use Rattle.sq_expr.specs.declared.cond.Cond.{Cond}
use Rattle.sq_expr.specs.declared.expr.Expr.{Expr}
use Rattle.sq_expr.specs.declared.expr.Expr.TheVariants as expr
use Rattle.sq_expr.specs.declared.expr.Kind.{Kind}
use Rattle.sq_expr.specs.declared.expr.Kind.TheVariants.{Bigint}
use Rattle.sq_expr.specs.declared.expr.Term.{Term, roll-Term}
use Rattle.sq_typed.specs.declared.query.BlockCall.{BlockCall}
use Rattle.sq_typed.specs.Leaves.{CallTree, Leaf, call_at}
use Rattle.sq_typed.specs.Numbered.{replaced, replaced_cond, typed_call, is_same_call, call_kind}
use Rattle.sq_typed.specs.Scopes.{Scope, number_of}

-- some calls, and a further one where it is none of them
abbrev pub keep_call : List BlockCall → BlockCall → List BlockCall
keep_call kept c = kept ++ (if list_any (is_same_call c) kept then [] else c ∷ [])

-- some calls, and those further ones that stand in leaves
abbrev pub with_calls : Scope → List BlockCall → List Leaf → List BlockCall
with_calls scope kept ls = fold keep_call kept (map (typed_call scope) (filter_map call_at ls))

-- the places of a column and of a call in the row of these columns and calls
abbrev pub place_of_key : List ℕ → ℕ → ℕ
place_of_key numbers n = unwrap_or (position (λ k. k == n) numbers) 0

abbrev pub place_of_call : Scope → List ℕ → List BlockCall → CallTree → ℕ
place_of_call scope numbers calls c = length numbers + unwrap_or (position (is_same_call (typed_call scope c)) calls) 0

-- an expression over that row, a term and a condition
abbrev pub over_group : Scope → List ℕ → List BlockCall → ExprTree → Expr
over_group scope numbers calls e = replaced (λ r. expr.Column (place_of_key numbers (number_of scope r))) (λ c. expr.Column (place_of_call scope numbers calls c)) e

abbrev pub over_group_term : Scope → List ℕ → List BlockCall → TermTree → Term
over_group_term scope numbers calls t = roll-Term (record { minus = t.minus; expr = over_group scope numbers calls t.expr })

abbrev pub over_group_cond : Scope → List ℕ → List BlockCall → CondTree → Cond
over_group_cond scope numbers calls c = replaced_cond (over_group scope numbers calls) c

-- the kinds of that row, over columns of some kinds
abbrev pub key_kinds : List Kind → List ℕ → List Kind
key_kinds kinds numbers = map (λ n. get_or kinds n Bigint) numbers

abbrev pub call_kinds : List Kind → List BlockCall → List Kind
call_kinds kinds calls = map (λ c. call_kind kinds c.func c.arg) calls
