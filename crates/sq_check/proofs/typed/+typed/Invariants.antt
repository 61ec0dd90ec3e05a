use Rattle.std.proofs.Common.{◌≡◌, map, fold, take}
use Rattle.sq_typed.proofs.QueryEquations.{resolved_joined}
use Rattle.sq_typed.specs.Resolved.{resolved, widened}
use Rattle.sq_check.specs.QueriesTyped.{HasSources, step_of}
use Rattle.sq_check.proofs.QueriesTypedLemmas.{ColumnsSoFar}
use Rattle.sq_check.proofs.typed.+typed.Given as goal

-- the first operand with so many steps
abbrev pub invariant-typed_chain-loop-step : goal.invariant-typed_chain-loop-step
invariant-typed_chain-loop-step l = record {
  columns : l.columns ≡ fold widened l.fn.first.columns (map (λ s. (resolved l.catalog s.query).columns) (take l.step-index l.step-items));
  steps : l.steps ≡ map (step_of l.catalog) (take l.step-index l.step-items);
  query : l.query ≡ l.fn.first.query;
}

-- so many operands
abbrev pub invariant-typed_members-loop-member : goal.invariant-typed_members-loop-member
invariant-typed_members-loop-member l = record {
  columns : ColumnsSoFar (map (λ q. (resolved l.catalog q).columns) (take l.member-index l.member-items)) l.columns;
  queries : l.queries ≡ map (λ q. (resolved l.catalog q).query) (take l.member-index l.member-items);
}

-- so many sources
abbrev pub invariant-typed_sources-loop-joined : goal.invariant-typed_sources-loop-joined
invariant-typed_sources-loop-joined l = HasSources (map (resolved_joined l.catalog) (take l.joined-index l.joined-items)) l.found.items l.origins
