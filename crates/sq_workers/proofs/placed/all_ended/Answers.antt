use Rattle.std.proofs.Common.{rules, ◌≡◌, ◌<◌, ◌≤◌, All, length, Ok, sym, subst, arith}
use Rattle.std.proofs.lemmas.List.{take_more, take_all}
use Rattle.sq_workers.specs.declared.crew.Yield.{Yield}
use Rattle.sq_workers.proofs.Crews.{all_more}
use Rattle.sq_workers.proofs.placed.all_ended.Goals as goal

pub loop-i-preserved : goal.loop-i-preserved
loop-i-preserved g c =
    let lt : c.loop-i.i < length c.args.yields.now = search rules in
    let y = c.index-yields-i.result in
    let fine : y.ended ≡ Ok tt = search rules in
    let P : Yield _ → Type 0 = λ y. y.ended ≡ Ok tt in (
      omega (arith, lt),
      subst (All P) (sym (take_more c.args.yields.now c.loop-i.i y lt)) (all_more P _ _ c.loop-i.invariant.1 (subst P c.index-yields-i.is fine)),
    )

pub returns : goal.returns
returns g c =
    let i = c.loop-i.invariant in
    let le : length c.args.yields.now ≤ c.loop-i.i = search rules in
    let P : Yield _ → Type 0 = λ y. y.ended ≡ Ok tt in subst (All P) (take_all c.loop-i.i c.args.yields.now le) i.1
