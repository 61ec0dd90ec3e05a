-- The typed block of a frame.
use Rattle.std.proofs.Common.{◌≡◌, ◌<◌, ℕ, ◌+◌, List, ◌++◌, map, length, get_or, take, ap, sym, ◌∙◌}
use Rattle.std.specs.Prelude.{if◌then◌else◌, Option, Some, None, option_map}
use Rattle.std.specs.List.{flat_map}
use Rattle.std.proofs.lemmas.List.{map-append}
use Rattle.sq_ast.specs.declared.query.BlockTree.{BlockTree, out-BlockTree}
use Rattle.sq_ast.specs.declared.query.ItemTree.{ItemTree}
use Rattle.sq_expr.specs.declared.cond.Cond.{Cond}
use Rattle.sq_expr.specs.declared.expr.Expr.{Expr}
use Rattle.sq_typed.specs.declared.query.Block.{roll-Block}
use Rattle.sq_typed.specs.declared.query.FromItem.{FromItem}
use Rattle.sq_typed.specs.declared.query.Grouping.{Grouping}
use Rattle.sq_typed.specs.declared.query.Query.TheVariants as query
use Rattle.sq_typed.specs.Numbered.{row_cond}
use Rattle.sq_typed.specs.Scopes.{Scope}
use Rattle.sq_typed.specs.Selected.{Chosen, written_out, chosen, keys, block_calls, is_grouped, grouping}
use Rattle.sq_scope.specs.Scoped.{scoped_by}
use Rattle.sq_check.specs.TypesBlockForms.{block_over, frame_grouping}
use Rattle.sq_check.specs.TypesFrames.{IsFrame, frame_item}
use Rattle.sq_scope.specs.TypesGroups.{over_group_cond}
use Rattle.sq_check.specs.declared.frame.Frame.{Frame}
use Rattle.sq_check.proofs.TypesFrames.{all_items}
use Rattle.sq_scope.proofs.TypesLists.{flat_more}
use Rattle.sq_check.proofs.TypesTests.{over_group-is}

-- what a loop makes of one more item
pub more_items : {A : Type 0} (f : Chosen → A) (scope : Scope) (items : List ItemTree) (i : ℕ) (item : ItemTree) (before after : List A) → i < length items → item ≡ get_or items i item → before ≡ map f (flat_map (written_out scope) (take i items)) → after ≡ before ++ map f (written_out scope item) → after ≡ map f (flat_map (written_out scope) (take (i + 1) items))
more_items f scope items i item before after below is was done =
    done ∙ (ap (λ b. b ++ map f (written_out scope item)) was
    ∙ (sym (map-append f (flat_map (written_out scope) (take i items)) (written_out scope item))
    ∙ ap (map f) (ap (λ j. flat_map (written_out scope) (take i items) ++ written_out scope j) is ∙ sym (flat_more (written_out scope) items i item below))))

grouping-is : (scope : Scope) (b : BlockTree) (f : Frame) → IsFrame (scoped_by scope b) f → frame_grouping f (out-BlockTree b).having ≡ grouping (scoped_by scope b)
grouping-is scope b f is =
    ap (λ g. if g then Some (record { columns = f.groups.keys.numbers; calls = f.groups.calls; having = option_map (over_group_cond f.row f.groups.keys.numbers f.groups.calls) (out-BlockTree b).having }) else None) is.grouped
    ∙ (ap (λ ns. if is_grouped (scoped_by scope b) then Some (record { columns = ns; calls = f.groups.calls; having = option_map (over_group_cond f.row f.groups.keys.numbers f.groups.calls) (out-BlockTree b).having }) else None) is.numbers
    ∙ (ap (λ cs. if is_grouped (scoped_by scope b) then Some (record { columns = keys (scoped_by scope b); calls = cs; having = option_map (over_group_cond f.row f.groups.keys.numbers f.groups.calls) (out-BlockTree b).having }) else None) is.calls
    ∙ ap (λ h. if is_grouped (scoped_by scope b) then Some (record { columns = keys (scoped_by scope b); calls = block_calls (scoped_by scope b); having = option_map h (out-BlockTree b).having }) else None) (λ k c. over_group-is scope b f is c k)))

pub block_is : (scope : Scope) (b : BlockTree) (f : Frame) (sources : List FromItem) (filter : Option Cond) (grouped : Option Grouping) (items : List Expr) → IsFrame (scoped_by scope b) f → filter ≡ option_map (row_cond f.row) (out-BlockTree b).filter → grouped ≡ frame_grouping f (out-BlockTree b).having → items ≡ map (frame_item f) (flat_map (written_out scope) (out-BlockTree b).items) → query.Block (roll-Block (record { distinct = (out-BlockTree b).distinct; sources = sources; filter = filter; grouping = grouped; items = items })) ≡ block_over (scoped_by scope b) b sources
block_is scope b f sources filter grouped items is filtered groups listed =
    ap (λ c. query.Block (roll-Block (record { distinct = (out-BlockTree b).distinct; sources = sources; filter = c; grouping = grouped; items = items }))) (filtered ∙ ap (λ s. option_map (row_cond s) (out-BlockTree b).filter) is.row)
    ∙ (ap (λ g. query.Block (roll-Block (record { distinct = (out-BlockTree b).distinct; sources = sources; filter = option_map (row_cond scope) (out-BlockTree b).filter; grouping = g; items = items }))) (groups ∙ grouping-is scope b f is)
    ∙ ap (λ es. query.Block (roll-Block (record { distinct = (out-BlockTree b).distinct; sources = sources; filter = option_map (row_cond scope) (out-BlockTree b).filter; grouping = grouping (scoped_by scope b); items = es }))) (listed ∙ all_items (scoped_by scope b) f is (chosen (scoped_by scope b))))
