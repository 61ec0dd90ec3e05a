-- Parts of a query that the reader's functions take one at a time.
use Rattle.std.specs.Prelude.{Bool, true, false}
use Rattle.sq_ast.specs.declared.cond.CondTree.{CondTree}
use Rattle.sq_ast.specs.declared.query.JoinTree.{JoinTree}
use Rattle.sq_ast.specs.declared.query.JoinTree.TheVariants as join
use Rattle.sq_ast.specs.declared.query.SourceTree.{SourceTree}
use Rattle.sq_ast.specs.declared.query.SourceTree.TheVariants as source
use Rattle.sq_ast.specs.Parser.{Parser, ◌>>=◌, ◌<$>◌}
use Rattle.sq_ast.specs.Reading as r

-- a table or a view, with or without another name
abbrev pub relation : Parser SourceTree
relation = do
  name ← r.name
  source.Relation name <$> r.maybe_alias

-- the join that a condition makes, LEFT or not
abbrev pub how : Bool → CondTree → JoinTree
how true c = join.Left c
how false c = join.Inner c
