use Rattle.std.proofs.Common.{◌≡◌, Some, rules}
use Rattle.sq_expr.specs.Fits.{Suits}
use Rattle.sq_expr.specs.Typing.{sort_of}
use Rattle.sq_expr.specs.declared.typing.Sort.TheVariants.{Numeric}
use Rattle.sq_tests_ticks.specs.Making.{pairs}
use Rattle.sq_tests_ticks.proofs.Standing.{project_next}
use Rattle.sq_tests_ticks.proofs.nodes.add_project.Goals as goal

pub push-requires-clause-next : goal.push-requires-clause-next
push-requires-clause-next c =
    let first : Suits pairs c.args.first = search rules in
    let second : Suits pairs c.args.second = search rules in
    let one : sort_of pairs c.args.first ≡ Some Numeric = search rules in
    let two : sort_of pairs c.args.second ≡ Some Numeric = search rules in
    rw c.in_ok-items.ensures (project_next c.args.view c.requires.view c.args.parts.now.items pairs c.args.input c.args.first c.args.second c.args.place c.requires.input first second one two)
