use Rattle.std.proofs.Common.{◌≡◌, ◌∙◌, sym, ap, Err}
use Rattle.std.proofs.lemmas.Result.{err_from_is_err_and}
use Rattle.sq_algebra.specs.ZSet.{from_pairs}
use Rattle.sq_algebra.proofs.Weights.{entries-from_pairs}
use Rattle.sq_value.specs.Order.{row_cmp}
use Rattle.sq_value.specs.OrderLaws.{row_cmp-total}
use Rattle.sq_zset.specs.Pairs.{weighted_rows}
use Rattle.sq_zset.specs.Range.{first_outside_in}
use Rattle.sq_zset.specs.declared.pair.ZFault.TheVariants.{Weight}
use Rattle.sq_zset.proofs.Entries.{holds_entries}
use Rattle.sq_zset.proofs.zset.ZSet.consolidate.Goals as goal

pub returns-in_err-entries-clause-outside : goal.returns-in_err-entries-clause-outside
returns-in_err-entries-clause-outside c sum e =
    let (fault, is, same) = err_from_is_err_and c.from_residual-in_err-entries.result c.from_residual-in_err-entries.ensures.1 in
    let failed : c.weights_of.result ≡ Err (Weight sum) = cc (c.in_err-entries.was, is, same, e) in
    ap first_outside_in (entries-from_pairs row_cmp row_cmp-total (weighted_rows c.args.pairs.items) ∙ sym c.in_ok-sums.ensures) ∙ c.weights_of.ensures.outside sum failed

pub invariant_of-result : goal.invariant_of-result
invariant_of-result c =
    (holds_entries c.in_ok-entries.entries.items (from_pairs row_cmp (weighted_rows c.args.pairs.items))
    (c.in_ok-entries.ensures.ok ∙ c.in_ok-sums.ensures ∙ sym (entries-from_pairs row_cmp row_cmp-total (weighted_rows c.args.pairs.items))) c.in_ok-entries.ensures.in_range).sound

pub returns-clause-ok : goal.returns-clause-ok
returns-clause-ok c =
    (holds_entries c.in_ok-entries.entries.items (from_pairs row_cmp (weighted_rows c.args.pairs.items))
    (c.in_ok-entries.ensures.ok ∙ c.in_ok-sums.ensures ∙ sym (entries-from_pairs row_cmp row_cmp-total (weighted_rows c.args.pairs.items))) c.in_ok-entries.ensures.in_range).value

pub returns-clause-in_range : goal.returns-clause-in_range
returns-clause-in_range c =
    (holds_entries c.in_ok-entries.entries.items (from_pairs row_cmp (weighted_rows c.args.pairs.items))
    (c.in_ok-entries.ensures.ok ∙ c.in_ok-sums.ensures ∙ sym (entries-from_pairs row_cmp row_cmp-total (weighted_rows c.args.pairs.items))) c.in_ok-entries.ensures.in_range).in_range
