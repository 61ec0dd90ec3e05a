use Rattle.std.proofs.Common.{map, ap, ◌∙◌}
use Rattle.sq_typed.specs.Scopes.{number_of}
use Rattle.sq_check.proofs.QueriesSmall.{groups_few}
use Rattle.sq_check.proofs.frame.groups_of.Goals as goal

pub invariant_of-result : goal.invariant_of-result
invariant_of-result c =
    record {
      few = groups_few c.args.row.now c.args.block.now c.in_ok-keys.keys.numbers c.in_ok-calls.calls c.requires
          (c.in_ok-keys.ensures ∙ ap (map (number_of c.args.row.now)) c.as_slice.ensures) c.in_ok-calls.ensures;
    }
