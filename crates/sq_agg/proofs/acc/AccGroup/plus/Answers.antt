use Rattle.std.proofs.Common.{◌≡◌, ◌∙◌, ◌+ℤ◌, ap, ap₂, sym, Err}
use Rattle.std.proofs.lemmas.Result.{err_from_is_err_and}
use Rattle.sq_zset.specs.Range.{number_outside}
use Rattle.sq_zset.specs.declared.pair.ZFault.TheVariants.{Weight}
use Rattle.sq_agg.specs.Accumulators.{accumulator}
use Rattle.sq_agg.specs.Tallies.{first_of_tallies, summed}
use Rattle.sq_agg.proofs.Bounding.{none_outside}
use Rattle.sq_agg.proofs.Holding.{kept_bound, plus_rows_outside, plus_shown, plus_tally_outside, rows_bound, rows_inside, rows_kept, rows_told}
use Rattle.sq_agg.proofs.acc.AccGroup.plus.Goals as goal

pub returns-in_err-rows-clause-outside : goal.returns-in_err-rows-clause-outside
returns-in_err-rows-clause-outside c number e =
    let (fault, is, same) = err_from_is_err_and c.from_residual.result c.from_residual.ensures.1 in
    let told : Weight number ≡ Weight (c.self.inside.rows +ℤ c.other.inside.rows) = cc (c.in_err-rows.ensures.fault, is, same, e) in
    plus_rows_outside c.self.inside.rows c.other.inside.rows c.self.inside.tallies.items c.other.inside.tallies.items c.args.self.now c.args.other.now c.self.view_is c.other.view_is
    number (cc told) (rows_told (c.self.inside.rows +ℤ c.other.inside.rows) (c.self.inside.rows +ℤ c.other.inside.rows) c.in_err-rows.ensures.outside)

pub returns-in_err-tallies-clause-outside : goal.returns-in_err-tallies-clause-outside
returns-in_err-tallies-clause-outside c number e =
    let (fault, is, same) = err_from_is_err_and c.from_residual-in_err-tallies.result c.from_residual-in_err-tallies.ensures.1 in
    let failed : c.plus_tallies.result ≡ Err (Weight number) = cc (c.in_err-tallies.was, is, same, e) in
    plus_tally_outside c.self.inside.rows c.other.inside.rows c.self.inside.tallies.items c.other.inside.tallies.items c.args.self.now c.args.other.now c.self.view_is c.other.view_is
    number (rows_inside (c.self.inside.rows +ℤ c.other.inside.rows) (ap (λ n. number_outside n) (sym c.in_ok-rows.ensures.ok) ∙ c.in_ok-rows.ensures.in_range))
    (sym (ap₂ (λ ss ts. first_of_tallies (summed ss ts)) c.deref.ensures.value c.deref-2.ensures.value) ∙ c.plus_tallies.ensures.outside number failed)

pub returns-clause-ok : goal.returns-clause-ok
returns-clause-ok c =
    ap₂ accumulator (rows_kept c.in_ok-rows.rows c.in_ok-rows.ensures.in_range ∙ c.in_ok-rows.ensures.ok) (c.in_ok-tallies.ensures.ok ∙ ap₂ summed c.deref.ensures.value c.deref-2.ensures.value)
    ∙ plus_shown c.self.inside.rows c.other.inside.rows c.self.inside.tallies.items c.other.inside.tallies.items c.args.self.now c.args.other.now c.self.view_is c.other.view_is

pub returns-clause-in_range : goal.returns-clause-in_range
returns-clause-in_range c =
    none_outside _ c.in_ok-tallies.tallies.items (record { rows = kept_bound c.in_ok-rows.rows (rows_bound c.in_ok-rows.rows c.in_ok-rows.ensures.in_range); tallies = c.in_ok-tallies.ensures.within })
