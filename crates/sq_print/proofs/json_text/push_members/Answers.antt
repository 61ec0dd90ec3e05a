use Rattle.std.proofs.Common.{ap, arith, refl, ◌∙◌, ◌++◌}
use Rattle.std.proofs.lemmas.Option.{slice_get_read}
use Rattle.sq_print.specs.Texts.{with_commas}
use Rattle.sq_print.proofs.CommaLemmas.{member_more, all_members}
use Rattle.sq_print.proofs.json_text.push_members.Goals as goal

pub loop-i-preserved : goal.loop-i-preserved
loop-i-preserved c =
    member_more c.args.columns.now c.args.row.now c.loop-i.i c.index-columns-i.result c.at.result.now c.args.out.now.items c.loop-i.out.items
    c.push_comma.new.out.items c.push_member.new.out.items
    (slice_get_read c.args.columns.now _ c.loop-i.i c.index-columns-i.result refl (omega (arith, c.loop-i-test.true, c.min-i-end.ensures)) c.index-columns-i.is) c.at.ensures c.loop-i.invariant c.in_ok-push_comma.ensures c.in_ok-push_member.ensures

pub returns : goal.returns
returns c =
    c.loop-i.invariant
    ∙ ap (λ ts. c.args.out.now.items ++ with_commas ts) (all_members c.args.columns.now c.args.row.now c.loop-i.i (omega (arith, c.loop-i-test.false, c.min-i-end.ensures, c.len.ensures)))
