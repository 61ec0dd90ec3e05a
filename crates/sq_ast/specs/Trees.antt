-- The trees that are made of several parts. A chain of one member is that member, and a longer one is the list of
-- its members.
use Rattle.std.specs.Prelude.{Bool, false, List, [], ◌∷◌, Option}
use Rattle.sq_ast.specs.declared.expr.ExprTree.{ExprTree}
use Rattle.sq_ast.specs.declared.expr.ExprTree.TheVariants as expr
use Rattle.sq_ast.specs.declared.expr.TermTree.{TermTree, roll-TermTree}
use Rattle.sq_ast.specs.declared.cond.CondTree.{CondTree}
use Rattle.sq_ast.specs.declared.cond.CondTree.TheVariants as cond
use Rattle.sq_ast.specs.declared.query.SetOp.{SetOp}
use Rattle.sq_ast.specs.declared.query.QueryTree.{QueryTree}
use Rattle.sq_ast.specs.declared.query.QueryTree.TheVariants as query
use Rattle.sq_ast.specs.declared.query.StepTree.{StepTree, roll-StepTree}
use Rattle.sq_ast.specs.declared.query.BlockTree.{roll-BlockTree}
use Rattle.sq_ast.specs.declared.query.ItemTree.{ItemTree}
use Rattle.sq_ast.specs.declared.query.JoinTree.{JoinTree}
use Rattle.sq_ast.specs.declared.query.SourceTree.{SourceTree}
use Rattle.sq_ast.specs.declared.query.JoinedTree.{JoinedTree, roll-JoinedTree}
use Rattle.sq_ast.specs.declared.expr.ColRef.{ColRef}

abbrev pub term : Bool → ExprTree → TermTree
term minus e = roll-TermTree (record { minus = minus; expr = e })

abbrev pub step : SetOp → QueryTree → StepTree
step op q = roll-StepTree (record { op = op; query = q })

abbrev pub joined : JoinTree → SourceTree → JoinedTree
joined how from = roll-JoinedTree (record { join = how; source = from })

abbrev pub block_of : Bool → List ItemTree → List JoinedTree → Option CondTree → List ColRef → Option CondTree → QueryTree
block_of distinct items sources filter group having =
    query.Block (roll-BlockTree (record { distinct = distinct; items = items; sources = sources; filter = filter; group = group; having = having }))

unfoldable pub sum_of : ExprTree → List TermTree → ExprTree
sum_of first [] = first
sum_of first (second ∷ more) = expr.Sum (term false first ∷ second ∷ more)

unfoldable pub product_of : ExprTree → List ExprTree → ExprTree
product_of first [] = first
product_of first (second ∷ more) = expr.Product (first ∷ second ∷ more)

unfoldable pub any_of : CondTree → List CondTree → CondTree
any_of first [] = first
any_of first (second ∷ more) = cond.Any (first ∷ second ∷ more)

unfoldable pub all_of : CondTree → List CondTree → CondTree
all_of first [] = first
all_of first (second ∷ more) = cond.All (first ∷ second ∷ more)

unfoldable pub chain_of : QueryTree → List StepTree → QueryTree
chain_of first [] = first
chain_of first (second ∷ more) = query.Chain first (second ∷ more)

unfoldable pub intersect_of : QueryTree → List QueryTree → QueryTree
intersect_of first [] = first
intersect_of first (second ∷ more) = query.Intersect (first ∷ second ∷ more)
