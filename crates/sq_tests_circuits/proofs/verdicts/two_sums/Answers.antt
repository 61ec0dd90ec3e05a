-- The parts are those of the sample.
use Rattle.sq_tests_circuits.proofs.Samples.{two_sums_sample}
use Rattle.sq_tests_circuits.proofs.verdicts.two_sums.Goals as goal

pub of-requires : goal.of-requires
of-requires c =
    rw (c.in_ok-push_inner-4.ensures, c.in_ok-push_inner-3.ensures, c.in_ok-push_inner-2.ensures, c.in_ok-push_inner.ensures, c.in_ok-push_tables.ensures, c.new-parts.ensures.items) two_sums_sample.circuit

pub returns : goal.returns
returns c =
    rw (c.of.ensures, c.in_ok-push_inner-4.ensures, c.in_ok-push_inner-3.ensures, c.in_ok-push_inner-2.ensures, c.in_ok-push_inner.ensures, c.in_ok-push_tables.ensures, c.new-parts.ensures.items) two_sums_sample
