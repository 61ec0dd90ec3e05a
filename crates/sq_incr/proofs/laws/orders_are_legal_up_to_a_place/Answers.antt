-- Legal orders, and the first place where one is not.
use Rattle.sq_incr.proofs.Ordering.{front_legal, illegal_is_not_legal, longer_legal, one_first}
use Rattle.sq_incr.proofs.Standing.{legal_if, passes_if, stands_if}
use Rattle.sq_incr.proofs.laws.orders_are_legal_up_to_a_place.Goals as goal

pub returns-clause-longer : goal.returns-clause-longer
returns-clause-longer a = longer_legal

pub returns-clause-front : goal.returns-clause-front
returns-clause-front a = front_legal

pub returns-clause-legal : goal.returns-clause-legal
returns-clause-legal a = legal_if

pub returns-clause-illegal : goal.returns-clause-illegal
returns-clause-illegal a = illegal_is_not_legal

pub returns-clause-one : goal.returns-clause-one
returns-clause-one a = one_first

pub returns-clause-test : goal.returns-clause-test
returns-clause-test a = λ c n front t. record { passes = passes_if c n front t; stands = stands_if c n front t }
