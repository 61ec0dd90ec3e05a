use Rattle.std.specs.Prelude.{IsTrue}
use Rattle.sq_algebra.proofs.MemberLemmas.{any-append, any-cons, any-from, any-from_list_any, any-joined, any-nil, any-one_more, list_any-from_any}
use Rattle.sq_algebra.proofs.members.some_member.Goals as goal

pub returns-clause-none : goal.returns-clause-none
returns-clause-none g c p = any-nil (λ x. IsTrue (p x))

pub returns-clause-first_or_later : goal.returns-clause-first_or_later
returns-clause-first_or_later g c p x xs = (any-cons (λ x. IsTrue (p x)) x xs, any-one_more (λ x. IsTrue (p x)) x xs)

pub returns-clause-joined : goal.returns-clause-joined
returns-clause-joined g c p xs ys = (any-append (λ x. IsTrue (p x)) xs ys, any-joined (λ x. IsTrue (p x)) xs ys)

pub returns-clause-member : goal.returns-clause-member
returns-clause-member g c p = any-from (λ x. IsTrue (p x))

pub returns-clause-test : goal.returns-clause-test
returns-clause-test g c p xs = (any-from_list_any p xs, list_any-from_any p xs)
