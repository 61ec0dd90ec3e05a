-- All tasks, and those that are missing.
use Rattle.sq_incr.proofs.Ordering.{all_legal, all_whole, first_missing_is, none_from_whole, task_at, whole_from_none}
use Rattle.sq_incr.proofs.laws.tasks_by_node_are_an_order.Goals as goal
use Rattle.std.proofs.Common.{length}

pub returns-clause-missing : goal.returns-clause-missing
returns-clause-missing a = λ c n order. record { none = none_from_whole c n order; whole = whole_from_none c n order; first = first_missing_is c n order }

pub returns-clause-legal : goal.returns-clause-legal
returns-clause-legal a = all_legal

pub returns-clause-whole : goal.returns-clause-whole
returns-clause-whole a = all_whole

pub returns-clause-place : goal.returns-clause-place
returns-clause-place a = λ c n i s low inside. task_at n (length c) i s low inside
