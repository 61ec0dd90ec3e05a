-- Streams of Z-sets of rows.
--     RowZSet                    a Z-set of rows
--     RowStream                  a Z-set of rows at each time
--     incremental_on_rows q      the incremental version of the operator q on these streams
--     sum_on_rows s t            the sum of two streams, member by member
use Rattle.std.specs.Prelude.{List}
use Rattle.sq_value.specs.declared.value.Value.{Value}
use Rattle.sq_value.specs.Order.{row_cmp}
use Rattle.sq_algebra.specs.Groups.{z_sets}
use Rattle.sq_algebra.specs.ZSet.{ZSet}
use Rattle.sq_stream.specs.Streams.{incremental, pointwise_sum}

abbrev pub RowZSet : Type 0
RowZSet = ZSet (List Value) row_cmp

abbrev pub RowStream : Type 0
RowStream = List RowZSet

abbrev pub incremental_on_rows : (RowStream → RowStream) → RowStream → RowStream
incremental_on_rows q s = incremental (z_sets row_cmp) q s

abbrev pub sum_on_rows : RowStream → RowStream → RowStream
sum_on_rows s t = pointwise_sum (z_sets row_cmp) s t
