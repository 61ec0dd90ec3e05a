use Rattle.std.proofs.Common.{take, ap, ◌∙◌}
use Rattle.std.specs.List.{flat_map, list_any}
use Rattle.sq_ast.specs.declared.cond.CondTree.{CondTree}
use Rattle.sq_ast.specs.declared.query.BlockTree.{out-BlockTree}
use Rattle.sq_scope.specs.NamesReferences.{is_at_fault}
use Rattle.sq_scope.specs.Scoped.{ons_from}
use Rattle.sq_typed.specs.Faults.{item_exprs}
use Rattle.sq_typed.specs.Leaves.{refs, exprs_in, exprs_of}
use Rattle.sq_typed.specs.Scopes.{Scope}
use Rattle.sq_scope.proofs.NamesReferences.{block_done}
use Rattle.sq_scope.proofs.references.any_in_block.Goals as goal

pub returns : goal.returns
returns c =
    block_done (is_at_fault c.args.fault) c.args.scope.now c.args.block.now c.any_in_items-in_items.result c.any_in_clause-in_filter.result c.any_in_clause-in_having.result c.any_in_group-in_group.result c.any_in_joins-in_joins.result (record {
      items = c.any_in_items-in_items.ensures ∙ ap (λ is. list_any (is_at_fault c.args.fault c.args.scope.now) (flat_map refs (flat_map item_exprs is))) c.as_slice.ensures;
      filter = c.any_in_clause-in_filter.ensures ∙ ap (λ n. list_any (is_at_fault c.args.fault (take n c.args.scope.now)) (flat_map refs (exprs_of (out-BlockTree c.args.block.now).filter))) c.len-all.ensures;
      having = c.any_in_clause-in_having.ensures ∙ ap (λ n. list_any (is_at_fault c.args.fault (take n c.args.scope.now)) (flat_map refs (exprs_of (out-BlockTree c.args.block.now).having))) c.len-all.ensures;
      group = c.any_in_group-in_group.ensures ∙ ap (list_any (is_at_fault c.args.fault c.args.scope.now)) c.as_slice-2.ensures;
      joins = c.any_in_joins-in_joins.ensures ∙ ap (λ js. list_any (λ (on : Scope × CondTree). list_any (is_at_fault c.args.fault on.0) (flat_map refs (exprs_in on.1))) (ons_from 0 c.args.scope.now js)) c.as_slice-3.ensures;
    })
