use Rattle.std.proofs.Common.{◌≡◌, map, take}
use Rattle.sq_scope.specs.TypesGroups.{over_group, over_group_term}
use Rattle.sq_scope.proofs.grouped.+group.Given as goal

-- the terms so far are typed
abbrev pub invariant-group_terms-loop-term : goal.invariant-group_terms-loop-term
invariant-group_terms-loop-term l = l.typed ≡ map (over_group_term l.row l.groups.keys.numbers l.groups.calls) (take l.term-index l.terms)

-- the factors so far are typed
abbrev pub invariant-group_factors-loop-factor : goal.invariant-group_factors-loop-factor
invariant-group_factors-loop-factor l = l.typed ≡ map (over_group l.row l.groups.keys.numbers l.groups.calls) (take l.factor-index l.factors)
