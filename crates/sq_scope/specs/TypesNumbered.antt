-- Parts of typed expressions.
use Rattle.sq_ast.specs.declared.expr.TermTree.{TermTree}
use Rattle.sq_expr.specs.declared.expr.Term.{Term, roll-Term}
use Rattle.sq_typed.specs.Numbered.{row_expr}
use Rattle.sq_typed.specs.Scopes.{Scope}

-- a term over the columns in scope
abbrev pub row_term : Scope → TermTree → Term
row_term scope t = roll-Term (record { minus = t.minus; expr = row_expr scope t.expr })
