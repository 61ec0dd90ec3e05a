use Rattle.std.proofs.Common.{◌<◌, ℕ, List, [], length, get_or, refl, arith}
use Rattle.std.specs.Borrow.{Bor}
use Rattle.sq_scope.proofs.NamesTexts.{twice, once_more}
use Rattle.sq_scope.proofs.repeating.repeats.Goals as goal

abbrev nothing : Bor (List ℕ)
nothing = record { ref_ptr = (0, 0); now = [] }

pub returns-then-not-branch : goal.returns-then-not-branch
returns-then-not-branch c =
    let within : c.loop-name.name-index < length c.args.names.now = omega arith in
    twice c.args.names.now c.loop-name.name-index nothing (get_or c.args.names.now c.loop-name.name-index nothing) within refl c.loop-name.seen c.loop-name.invariant c.in_ok-insert.field-0 c.in_ok-insert.ensures.added c.if-not-branch.true

pub loop-name-preserved : goal.loop-name-preserved
loop-name-preserved c =
    let within : c.loop-name.name-index < length c.args.names.now = omega arith in
    once_more c.args.names.now c.loop-name.name-index nothing (get_or c.args.names.now c.loop-name.name-index nothing) within refl c.loop-name.seen c.loop-name.invariant c.in_ok-insert.field-0 c.in_ok-insert.ensures.added c.insert.new.self c.if-not-branch.false c.in_ok-insert.ensures.keys
