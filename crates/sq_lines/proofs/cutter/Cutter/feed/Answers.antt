use Rattle.std.proofs.Common.{◌≤◌, [], length, ◌∙◌, refl, sym, ap, subst}
use Rattle.sq_lines.specs.Cutting.{Cutting, most_kept}
use Rattle.sq_lines.proofs.CutLemmas.{all_fed, all_told, begins, few_fed, goes_on, is_short, none_there, nowhere}
use Rattle.sq_lines.proofs.cutter.Cutter.feed.Goals as goal

-- a piece without a line feed
pub invariant_of-self-then-is_none : goal.invariant_of-self-then-is_none
invariant_of-self-then-is_none c = is_short c.push_kept.new.line.items _ c.in_ok-push_kept.ensures.ok

pub returns-then-is_none-clause-lines : goal.returns-then-is_none-clause-lines
returns-then-is_none-clause-lines c =
    let small : length c.args.self.now.begun ≤ most_kept = subst (λ (v : Cutting). length v.begun ≤ most_kept) c.self.view_is c.self.invariant in
    c.new.ensures.items
    ∙ all_told c.args.self.now c.args.piece.now [] c.args.self.now.handed c.args.self.now.begun c.args.piece.now
    (begins c.args.self.now c.args.piece.now [] c.args.self.now.begun c.args.self.now.handed refl refl refl small)
    (sym c.line_end.ensures ∙ none_there c.line_end.result _ c.is_none.ensures c.if-is_none.true)

pub returns-then-is_none-clause-fed : goal.returns-then-is_none-clause-fed
returns-then-is_none-clause-fed c =
    let small : length c.args.self.now.begun ≤ most_kept = subst (λ (v : Cutting). length v.begun ≤ most_kept) c.self.view_is c.self.invariant in
    all_fed c.args.self.now c.args.piece.now [] c.self.inside.handed c.self.inside.begun.items c.args.piece.now c.push_kept.new.line.items
    (begins c.args.self.now c.args.piece.now [] c.self.inside.begun.items c.self.inside.handed refl (ap (λ (v : Cutting). v.handed) c.self.view_is) (ap (λ (v : Cutting). v.begun) c.self.view_is) small)
    (sym c.line_end.ensures ∙ none_there c.line_end.result _ c.is_none.ensures c.if-is_none.true) c.in_ok-push_kept.ensures.ok

pub returns-then-is_none-clause-few : goal.returns-then-is_none-clause-few
returns-then-is_none-clause-few c = few_fed c.args.self.now _ c.args.piece.now (returns-then-is_none-clause-fed c)

-- one with line feeds
pub loop-end-init : goal.loop-end-init
loop-end-init c =
    let small : length c.args.self.now.begun ≤ most_kept = subst (λ (v : Cutting). length v.begun ≤ most_kept) c.self.view_is c.self.invariant in
    begins c.args.self.now c.args.piece.now c.new-lines.result.items c.in_ok-begun.begun.items c.self.inside.handed c.new-lines.ensures.items
    (ap (λ (v : Cutting). v.handed) c.self.view_is) (c.in_ok-begun.ensures.items ∙ c.deref.ensures.value ∙ ap (λ (v : Cutting). v.begun) c.self.view_is) small

pub loop-end-preserved : goal.loop-end-preserved
loop-end-preserved c =
    goes_on c.args.self.now c.args.piece.now c.loop-end.lines.items _ c.loop-end.handed c.loop-end.begun.items c.loop-end.rest.now _ c.push_kept-in-Some.new.line.items _ _ c.in-Some.end
    c.loop-end.invariant (sym c.line_end-in-loop-end.ensures ∙ c.in-Some.is) refl c.in_ok-push_kept-2.ensures.ok c.in_ok-push_line.ensures.lines c.in_ok-push_line.ensures.begun refl

pub invariant_of-self-2 : goal.invariant_of-self-2
invariant_of-self-2 c = is_short c.push_kept-2.new.line.items _ c.in_ok-push_kept-3.ensures.ok

pub returns-clause-lines : goal.returns-clause-lines
returns-clause-lines c =
    all_told c.args.self.now c.args.piece.now _ _ _ _ c.loop-end.invariant (sym c.line_end-in-loop-end.ensures ∙ nowhere c.line_end-in-loop-end.result c.in_default.not-Some)

pub returns-clause-fed : goal.returns-clause-fed
returns-clause-fed c =
    all_fed c.args.self.now c.args.piece.now _ _ _ _ c.push_kept-2.new.line.items c.loop-end.invariant
    (sym c.line_end-in-loop-end.ensures ∙ nowhere c.line_end-in-loop-end.result c.in_default.not-Some) c.in_ok-push_kept-3.ensures.ok

pub returns-clause-few : goal.returns-clause-few
returns-clause-few c = few_fed c.args.self.now _ c.args.piece.now (returns-clause-fed c)
