use Rattle.std.proofs.Common.{◌≡◌, ◌∙◌, sym, ap, Err}
use Rattle.std.proofs.lemmas.Result.{err_from_is_err_and}
use Rattle.sq_algebra.specs.ZSet.{plus}
use Rattle.sq_zset.specs.Range.{first_outside_in}
use Rattle.sq_zset.specs.declared.pair.ZFault.TheVariants.{Weight}
use Rattle.sq_zset.proofs.Entries.{holds_entries}
use Rattle.sq_zset.proofs.Merging.{sum_shown}
use Rattle.sq_zset.proofs.zset.ZSet.plus.Goals as goal

pub returns-in_err-entries-clause-outside : goal.returns-in_err-entries-clause-outside
returns-in_err-entries-clause-outside c sum e =
    let (fault, is, same) = err_from_is_err_and c.from_residual.result c.from_residual.ensures.1 in
    let failed : c.merge_entries.result ≡ Err (Weight sum) = cc (c.in_err-entries.was, is, same, e) in
    ap first_outside_in (sym (sum_shown c.self.inside.entries.items c.other.inside.entries.items c.deref.result.now c.deref-2.result.now c.args.self.now c.args.other.now c.self.invariant c.self.view_is c.deref.ensures.value c.other.invariant c.other.view_is c.deref-2.ensures.value))
    ∙ c.merge_entries.ensures.outside sum failed

pub invariant_of-result : goal.invariant_of-result
invariant_of-result c =
    (holds_entries c.in_ok-entries.entries.items (plus c.args.self.now c.args.other.now)
    (c.in_ok-entries.ensures.ok ∙ sum_shown c.self.inside.entries.items c.other.inside.entries.items c.deref.result.now c.deref-2.result.now c.args.self.now c.args.other.now c.self.invariant c.self.view_is c.deref.ensures.value c.other.invariant c.other.view_is c.deref-2.ensures.value)
    c.in_ok-entries.ensures.in_range).sound

pub returns-clause-ok : goal.returns-clause-ok
returns-clause-ok c =
    (holds_entries c.in_ok-entries.entries.items (plus c.args.self.now c.args.other.now)
    (c.in_ok-entries.ensures.ok ∙ sum_shown c.self.inside.entries.items c.other.inside.entries.items c.deref.result.now c.deref-2.result.now c.args.self.now c.args.other.now c.self.invariant c.self.view_is c.deref.ensures.value c.other.invariant c.other.view_is c.deref-2.ensures.value)
    c.in_ok-entries.ensures.in_range).value

pub returns-clause-in_range : goal.returns-clause-in_range
returns-clause-in_range c =
    (holds_entries c.in_ok-entries.entries.items (plus c.args.self.now c.args.other.now)
    (c.in_ok-entries.ensures.ok ∙ sum_shown c.self.inside.entries.items c.other.inside.entries.items c.deref.result.now c.deref-2.result.now c.args.self.now c.args.other.now c.self.invariant c.self.view_is c.deref.ensures.value c.other.invariant c.other.view_is c.deref-2.ensures.value)
    c.in_ok-entries.ensures.in_range).in_range
