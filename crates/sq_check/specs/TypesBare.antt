-- Columns outside calls that are none of GROUP BY.
use Rattle.std.specs.Prelude.{ℕ, ◌==◌, Bool, not, List, option_to_list}
use Rattle.std.specs.List.{list_any}
use Rattle.sq_ast.specs.declared.expr.ExprTree.{ExprTree}
use Rattle.sq_typed.specs.Leaves.{Leaf, leaves, column_at}
use Rattle.sq_typed.specs.Scopes.{Scope, number_of}
use Rattle.sq_typed.specs.Selected.{Chosen, Starred, Written}

-- whether a column is none of these
abbrev pub is_bare : List ℕ → ℕ → Bool
is_bare numbers n = not (list_any (λ k. k == n) numbers)

abbrev pub bare_leaf : Scope → List ℕ → Leaf → Bool
bare_leaf scope numbers leaf = list_any (λ r. is_bare numbers (number_of scope r)) (option_to_list (column_at leaf))

abbrev pub bare_expr : Scope → List ℕ → ExprTree → Bool
bare_expr scope numbers e = list_any (bare_leaf scope numbers) (leaves e)

abbrev pub bare_item : Scope → List ℕ → Chosen → Bool
bare_item scope numbers (Starred n c) = is_bare numbers n
bare_item scope numbers (Written e alias) = bare_expr scope numbers e
