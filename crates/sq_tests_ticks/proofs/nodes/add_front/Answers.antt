use Rattle.std.proofs.Common.{◌≡◌, Some, rules}
use Rattle.sq_expr.specs.Fits.{Suits}
use Rattle.sq_expr.specs.Typing.{sort_of}
use Rattle.sq_expr.specs.declared.expr.Expr.TheVariants.{Column}
use Rattle.sq_expr.specs.declared.typing.Sort.TheVariants.{Numeric}
use Rattle.sq_tests_ticks.specs.Making.{triples}
use Rattle.sq_tests_ticks.proofs.Standing.{project_next}
use Rattle.sq_tests_ticks.proofs.nodes.add_front.Goals as goal

pub push-requires-clause-next : goal.push-requires-clause-next
push-requires-clause-next c =
    let first : Suits triples (Column c.args.column) = search rules in
    let second : Suits triples (Column 2) = search rules in
    let one : sort_of triples (Column c.args.column) ≡ Some Numeric = search rules in
    let two : sort_of triples (Column 2) ≡ Some Numeric = search rules in
    rw c.in_ok-items.ensures (project_next c.args.view c.requires.view c.args.parts.now.items triples c.args.input (Column c.args.column) (Column 2) c.args.place c.requires.input first second one two)
