use Rattle.std.proofs.Common.{◌≡◌, take}
use Rattle.std.specs.List.{list_any}
use Rattle.sq_scope.specs.NamesFaults.{has_name_fault, has_source_fault}
use Rattle.sq_typed.specs.Resolved.{resolved}
use Rattle.sq_scope.proofs.names.+queries.Given as goal

abbrev pub invariant-any_in_sources-loop-joined : goal.invariant-any_in_sources-loop-joined
invariant-any_in_sources-loop-joined l = l.any ≡ list_any (λ j. has_source_fault l.fault l.catalog j.source) (take l.joined-index l.joined-items)

abbrev pub invariant-any_in_members-loop-member : goal.invariant-any_in_members-loop-member
invariant-any_in_members-loop-member l = l.any ≡ list_any (λ q. has_name_fault l.fault l.catalog (resolved l.catalog q).parts) (take l.member-index l.member-items)

abbrev pub invariant-any_in_steps-loop-step : goal.invariant-any_in_steps-loop-step
invariant-any_in_steps-loop-step l = l.any ≡ list_any (λ s. has_name_fault l.fault l.catalog (resolved l.catalog s.query).parts) (take l.step-index l.step-items)
