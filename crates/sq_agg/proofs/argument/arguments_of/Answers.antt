use Rattle.std.proofs.Common.{◌≡◌, ◌∙◌, ◌≤◌, ap, length, subst, sym, Err}
use Rattle.sq_algebra.specs.ZSet.{entries}
use Rattle.sq_zset.specs.declared.pair.ZFault.TheVariants.{Weight}
use Rattle.sq_agg.proofs.Arguing.{all_made, all_weigh, as_few, never_outside}
use Rattle.sq_agg.proofs.argument.arguments_of.Goals as goal

pub consolidate-requires : goal.consolidate-requires
consolidate-requires c = all_weigh c.args.column c.args.z.now c.in_ok-pairs.pairs.items c.in_ok-pairs.ensures c.requires.few

pub unreachable-requires : goal.unreachable-requires
unreachable-requires c =
    let failed : c.consolidate.result ≡ Err (Weight c.in-Err-Weight.field-0-0) = c.in-Err-Weight.is ∙ ap Err c.in-Err-Weight.field-0-is in
    never_outside c.args.column c.args.z.now c.in_ok-pairs.pairs.items c.in_ok-pairs.ensures c.requires.few c.in-Err-Weight.field-0-0 (c.consolidate.ensures.outside c.in-Err-Weight.field-0-0 failed)

pub returns-in-Ok : goal.returns-in-Ok
returns-in-Ok c = record {
  ok = c.in-Ok.ensures.ok ∙ all_made c.args.column c.args.z.now c.in_ok-pairs.pairs.items c.in_ok-pairs.ensures;
  few = subst (λ y. length (entries y) ≤ length (entries c.args.z.now)) (sym c.in-Ok.ensures.ok) (as_few c.args.column c.args.z.now c.in_ok-pairs.pairs.items c.in_ok-pairs.ensures);
}
