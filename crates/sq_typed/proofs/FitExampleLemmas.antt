-- The examples of queries that fit, computed.
use Rattle.std.proofs.Common.{refl}
use Rattle.sq_typed.specs.FitExamples as e
use Rattle.sq_typed.specs.declared.query.Block.{out-roll-Block}
use Rattle.sq_typed.proofs.FaultLemmas.{rules}
use Rattle.sq_typed.proofs.FitEquations.{kinded_source-is, kinded-Relation, kinded-Query, kinded-Block, kinded-Chain, kinded-Intersect}

pub ruleset fitting = (kinded_source-is, kinded-Relation, kinded-Query, kinded-Block, kinded-Chain, kinded-Intersect)

pub columns_fit : e.columns_fit
columns_fit = simp (rules, fitting, out-roll-Block) refl

pub a_group_fits : e.a_group_fits
a_group_fits = simp (rules, fitting, out-roll-Block) refl

pub a_union_is_wider : e.a_union_is_wider
a_union_is_wider = simp (rules, fitting, out-roll-Block) refl

pub no_such_relation : e.no_such_relation
no_such_relation = simp (fitting, out-roll-Block) refl

pub no_such_column : e.no_such_column
no_such_column = simp (rules, fitting, out-roll-Block) refl

pub no_source : e.no_source
no_source = simp (fitting, out-roll-Block) refl

pub a_later_source : e.a_later_source
a_later_source = simp (rules, fitting, out-roll-Block) refl

pub a_sum_of_texts : e.a_sum_of_texts
a_sum_of_texts = simp (rules, fitting, out-roll-Block) refl

pub numbers_and_texts : e.numbers_and_texts
numbers_and_texts = simp (rules, fitting, out-roll-Block) refl

pub one_column_and_two : e.one_column_and_two
one_column_and_two = simp (rules, fitting, out-roll-Block) refl

pub ruleset fit_examples = (columns_fit, a_group_fits, a_union_is_wider, no_such_relation, no_such_column, no_source, a_later_source, a_sum_of_texts, numbers_and_texts, one_column_and_two)
