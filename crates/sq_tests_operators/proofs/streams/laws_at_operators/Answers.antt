use Rattle.std.proofs.Common.{List, ap, refl, ◌∙◌}
use Rattle.sq_algebra.proofs.GroupLemmas.{interchange}
use Rattle.sq_algebra.specs.Groups.{IsAdditive, z_sets}
use Rattle.sq_algebra.specs.ZSet.{ZSet, plus}
use Rattle.sq_stream.specs.Streams.{delayed, incremental, pointwise_sum}
use Rattle.sq_value.specs.declared.value.Value.{Value}
use Rattle.sq_value.specs.Order.{row_cmp}
use Rattle.sq_zset.specs.GroupLaws.{rows_are_abelian}
use Rattle.sq_tests_operators.proofs.streams.laws_at_operators.Goals as goal

doubling : IsAdditive (z_sets row_cmp) (z_sets row_cmp) (λ (z : ZSet (List Value) row_cmp). plus z z)
doubling = record { of_plus = λ a b. interchange (z_sets row_cmp) rows_are_abelian a b a b }

pub returns-clause-linear : goal.returns-clause-linear
returns-clause-linear c s = c.linear_operators_are_incremental.ensures (λ z. plus z z) doubling (λ t. refl) s

pub returns-clause-chain : goal.returns-clause-chain
returns-clause-chain c s =
    c.chain_rule.ensures s
    ∙ c.linear_operators_are_incremental.ensures (λ z. plus z z) doubling (λ t. refl) (incremental (z_sets row_cmp) (delayed (z_sets row_cmp)) s)

pub returns-clause-sum : goal.returns-clause-sum
returns-clause-sum c s =
    c.sum_rule.ensures s
    ∙ ap (λ t. pointwise_sum (z_sets row_cmp) t (incremental (z_sets row_cmp) (delayed (z_sets row_cmp)) s)) (c.linear_operators_are_incremental.ensures (λ z. plus z z) doubling (λ t. refl) s)
