use Rattle.std.proofs.Common.{rules, of_calls, sym}
use Rattle.std.proofs.lemmas.Fn.{always_returns_same}
use Rattle.sq_value.specs.Order.{row_cmp}
use Rattle.sq_zset.proofs.Entries.{weight_found, weight_absent}
use Rattle.sq_zset.proofs.zset.ZSet.weight_of.Goals as goal

pub returns-in-Ok-clause-weight : goal.returns-in-Ok-clause-weight
returns-in-Ok-clause-weight c =
    (weight_found c.self.inside.entries.items c.deref.result.now c.args.self.now c.args.row.now c.in-Ok.i c.index.result.now c.binary_search_by.result c.self.invariant c.self.view_is c.deref.ensures.value c.in-Ok.is
    c.in-Ok.ensures.bound c.index.ensures
    (c.binary_search_by.ensures.position (λ e. row_cmp e.0 c.args.row.now) (always_returns_same _ _ _ (λ a r f k. search (rules, of_calls))))).weighs

pub returns-in-Ok-clause-in_range : goal.returns-in-Ok-clause-in_range
returns-in-Ok-clause-in_range c =
    (weight_found c.self.inside.entries.items c.deref.result.now c.args.self.now c.args.row.now c.in-Ok.i c.index.result.now c.binary_search_by.result c.self.invariant c.self.view_is c.deref.ensures.value c.in-Ok.is
    c.in-Ok.ensures.bound c.index.ensures
    (c.binary_search_by.ensures.position (λ e. row_cmp e.0 c.args.row.now) (always_returns_same _ _ _ (λ a r f k. search (rules, of_calls))))).in_range

pub returns-in-Err-clause-weight : goal.returns-in-Err-clause-weight
returns-in-Err-clause-weight c =
    sym (weight_absent c.self.inside.entries.items c.deref.result.now c.args.self.now c.args.row.now c.in-Err.field-0 c.binary_search_by.result c.self.invariant c.self.view_is c.deref.ensures.value c.in-Err.is
    (c.binary_search_by.ensures.position (λ e. row_cmp e.0 c.args.row.now) (always_returns_same _ _ _ (λ a r f k. search (rules, of_calls)))))
