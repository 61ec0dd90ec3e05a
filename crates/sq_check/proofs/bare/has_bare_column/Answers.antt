use Rattle.std.proofs.Common.{map, ap, ◌∙◌, rules}
use Rattle.std.specs.List.{list_any}
use Rattle.sq_typed.specs.Selected.{written_out}
use Rattle.sq_check.specs.TypesBare.{bare_item}
use Rattle.sq_typed.specs.Scopes.{number_of}
use Rattle.sq_check.proofs.TypesBare.{not_grouped, bare_is}
use Rattle.sq_check.proofs.bare.has_bare_column.Goals as goal

pub returns-then-not-is_grouped : goal.returns-then-not-is_grouped
returns-then-not-is_grouped c = not_grouped c.args.scope.now c.args.block.now c.is_grouped.result c.is_grouped.ensures (search rules)

pub returns : goal.returns
returns c = bare_is c.args.scope.now c.of-row.result c.args.block.now c.is_grouped.result c.in_ok-in_items.in_items c.having_is_bare-in_having.result c.in_ok-keys.keys.numbers c.of-row.ensures c.is_grouped.ensures (search rules) (c.in_ok-keys.ensures ∙ ap (map (number_of c.of-row.result)) c.as_slice.ensures) (c.in_ok-in_items.ensures ∙ ap (list_any (λ i. list_any (bare_item c.of-row.result c.in_ok-keys.keys.numbers) (written_out c.args.scope.now i))) c.as_slice-2.ensures) c.having_is_bare-in_having.ensures
