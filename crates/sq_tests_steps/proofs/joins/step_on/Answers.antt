use Rattle.std.proofs.Common.{rules, [], ◌∷◌, subst}
use Rattle.std.specs.Prelude.{IsTrue}
use Rattle.sq_expr.specs.declared.expr.Kind.TheVariants.{Bigint}
use Rattle.sq_join.specs.Stepping.{IsSmall}
use Rattle.sq_tests_steps.specs.Ready.{IsReady}
use Rattle.sq_tests_steps.proofs.joins.step_on.Goals as goal

pub join_step-requires : goal.join_step-requires
join_step-requires g c =
    let is : IsTrue c.are_ready.result = search rules in
    let ready = c.are_ready.ensures is in
    record {
      state = record {
        y = c.args.left.0.now;
        z = c.args.right.0.now;
        left_held = c.in_ok-a.ensures;
        right_held = c.in_ok-b.ensures;
        left_kinds = Bigint ∷ [];
        right_kinds = Bigint ∷ [];
        suitable = c.requires;
        left_fit = ready.left;
        left_change_fits = ready.left_change;
        right_fit = ready.right;
        right_change_fits = ready.right_change;
        left_before = ready.left_before;
        left_after = subst (λ z. IsSmall z) c.in_ok-new_y.ensures.ok ready.left_after;
        right_before = ready.right_before;
        right_after = subst (λ z. IsSmall z) c.in_ok-new_z.ensures.ok ready.right_after;
      };
    }
