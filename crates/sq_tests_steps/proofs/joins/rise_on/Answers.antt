use Rattle.std.proofs.Common.{rules, [], ◌∷◌}
use Rattle.std.specs.Prelude.{IsTrue}
use Rattle.sq_expr.specs.declared.expr.Kind.TheVariants.{Bigint}
use Rattle.sq_tests_steps.proofs.Small.{small_sides}
use Rattle.sq_tests_steps.proofs.joins.rise_on.Goals as goal

pub join_whole-requires : goal.join_whole-requires
join_whole-requires g c =
    let is : IsTrue c.are_ready.result = search rules in
    let ready = c.are_ready.ensures is in
    record {
      fits = record { left = Bigint ∷ []; right = Bigint ∷ []; suitable = c.requires; left_of_kinds = ready.left; right_of_kinds = ready.right };
      bounded = small_sides c.args.left.0.now c.args.right.0.now ready.left_before ready.right_before;
    }

pub join_whole-requires-2-clause-bounded : goal.join_whole-requires-2-clause-bounded
join_whole-requires-2-clause-bounded g c =
    let is : IsTrue c.are_ready.result = search rules in
    let ready = c.are_ready.ensures is in
    small_sides c.in_ok-new_y.new_y c.in_ok-new_z.new_z ready.left_after ready.right_after
