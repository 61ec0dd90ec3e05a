use Rattle.std.proofs.Common.{◌≡◌, ◌≤◌, ◌<◌, ◌++◌, length, take, get_or, sym, ap, subst, ◌∙◌, arith}
use Rattle.std.specs.Prelude.{bytes_eq, position}
use Rattle.std.specs.List.{AllByRecursion}
use Rattle.sq_catalog.specs.declared.relation.Column.{Column}
use Rattle.sq_scope.specs.NamesIndex.{spot_at}
use Rattle.sq_scope.specs.declared.index.Place.{Place}
use Rattle.sq_scope.proofs.NamesBuilt.{spots_more, fresh}
use Rattle.sq_scope.proofs.NamesScopes.{begin_is, columns_fit}
use Rattle.sq_typed.specs.Scopes.{columns_in}
use Rattle.sq_scope.proofs.index.placed.Goals as goal

pub add_columns-requires-clause-few : goal.add_columns-requires-clause-few
add_columns-requires-clause-few c =
    let within : c.loop-i.i < length c.args.sources.now = omega arith in
    columns_fit c.args.sources.now c.args.layout.now c.loop-i.i c.index-begin.result.now c.index-sources-i.result c.columns.result.now c.requires within c.index-begin.ensures c.columns.ensures c.index-sources-i.is

pub add_columns-requires-clause-behind : goal.add_columns-requires-clause-behind
add_columns-requires-clause-behind c = λ q.
    let early : c.loop-i.i ≤ length c.args.sources.now = omega arith in
    subst (AllByRecursion (λ (p : Place). p.source < c.loop-i.i)) (sym (c.loop-i.invariant q)) (fresh c.args.sources.now c.loop-i.i q early)

pub loop-i-preserved : goal.loop-i-preserved
loop-i-preserved c = λ q.
    let within : c.loop-i.i < length c.args.sources.now = omega arith in
    let begin : c.index-begin.result.now ≡ length (columns_in (take c.loop-i.i c.args.sources.now)) = begin_is c.args.sources.now c.args.layout.now c.loop-i.i c.index-begin.result.now c.requires within c.index-begin.ensures in
    let columns : c.columns.result.now ≡ (get_or c.args.sources.now c.loop-i.i c.index-sources-i.result).columns = c.columns.ensures ∙ ap (λ s. s.columns) c.index-sources-i.is in
    c.in_ok-add_columns.ensures q ∙ ((λ j. c.loop-i.invariant q j ++ spot_at c.loop-i.i (begin j) (position (λ (x : Column). bytes_eq q x.name) (columns j))) ∙ sym (spots_more c.args.sources.now c.loop-i.i c.index-sources-i.result q within))
