use Rattle.std.proofs.Common.{◌≤◌, length, ap, arith, sym, subst, ◌∙◌}
use Rattle.std.specs.Prelude.{bytes_eq}
use Rattle.std.specs.List.{flat_map}
use Rattle.std.proofs.lemmas.List.{take_all}
use Rattle.sq_scope.specs.TypesItems.{starred_at}
use Rattle.sq_scope.proofs.TypesStars.{is_inside, of_name}
use Rattle.sq_typed.specs.Scopes.{columns_in}
use Rattle.sq_check.proofs.TypesColumnLemmas.{some_columns}
use Rattle.sq_check.proofs.columns.named_count.Goals as goal

pub column_count-more-requires : goal.column_count-more-requires
column_count-more-requires c = is_inside c.args.scope.now c.args.name.now c.named-place-items.result.now c.loop-place.place-index c.named-place-items.ensures (omega arith)

pub returns-clause-count : goal.returns-clause-count
returns-clause-count c =
    c.loop-place.invariant.counted
    ∙ ap length (ap (flat_map (starred_at c.args.scope.now)) (take_all c.loop-place.place-index c.named-place-items.result.now (omega arith) ∙ c.named-place-items.ensures)
    ∙ of_name c.args.scope.now c.args.name.now)

pub returns-clause-few : goal.returns-clause-few
returns-clause-few c =
    subst (λ n. n ≤ length (columns_in c.args.scope.now)) (sym (returns-clause-count c)) (some_columns (bytes_eq c.args.name.now) 0 c.args.scope.now)
