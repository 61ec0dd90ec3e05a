use Rattle.std.proofs.Common.{ap, arith, refl, sym, ◌∙◌, ◌++◌}
use Rattle.std.proofs.lemmas.Option.{slice_get_read}
use Rattle.json.specs.Print.{quoted}
use Rattle.sq_catalog.specs.declared.relation.Column.{Column}
use Rattle.sq_print.specs.Texts.{with_commas}
use Rattle.sq_print.proofs.CommaLemmas.{all_names, name_more}
use Rattle.sq_print.proofs.relations.push_names.Goals as goal

pub loop-i-preserved : goal.loop-i-preserved
loop-i-preserved c =
    name_more c.args.columns.now c.loop-i.i c.index-columns-i.result c.args.out.now.items c.loop-i.out.items c.push_comma.new.out.items c.push_quoted.new.out.items
    (slice_get_read c.args.columns.now _ c.loop-i.i c.index-columns-i.result refl (omega (arith, c.loop-i-test.true, c.loop-i.auto.i-end)) c.index-columns-i.is) c.loop-i.invariant c.in_ok-push_comma.ensures
    (c.in_ok-push_quoted.ensures ∙ ap (λ n. c.push_comma.new.out.items ++ quoted n) c.as_str.ensures ∙ ap (λ (x : Column). c.push_comma.new.out.items ++ quoted x.name) (sym c.index-columns-i.is))

pub returns : goal.returns
returns c = c.loop-i.invariant ∙ ap (λ ts. c.args.out.now.items ++ with_commas ts) (all_names c.args.columns.now c.loop-i.i (omega (arith, c.loop-i-test.false, c.loop-i.auto.i-end)))
