use Rattle.std.proofs.Common.{option_copied, sym, ◌∙◌}
use Rattle.sq_value.specs.OrderLaws.{row_eq-same}
use Rattle.sq_trace.proofs.Nexts.{next_none, next_other, next_found}
use Rattle.sq_trace.proofs.next.next_in.Goals as goal

pub returns-in_err-entry : goal.returns-in_err-entry
returns-in_err-entry g c =
    rw c.from_residual.ensures (next_none g.P.Group.addition g.met.P.Group.laws g.P.Group.first_outside c.args.side c.args.key.now (option_copied c.args.last) c.args.entries.now c.cut.result c.cut.ensures (sym c.in_err-entry.ensures))

pub returns-then-eq : goal.returns-then-eq
returns-then-eq g c =
    next_found g.P.Group.addition g.met.P.Group.laws g.P.Group.first_outside c.args.side c.args.key.now (option_copied c.args.last) c.args.entries.now c.cut.result c.in_ok-entry.entry.now c.requires c.cut.ensures (sym c.in_ok-entry.ensures) ((row_eq-same c.in_ok-entry.entry.now.key c.args.key.now).0 (sym c.eq.ensures ∙ c.if-eq.true))

pub returns-else-eq : goal.returns-else-eq
returns-else-eq g c =
    next_other g.P.Group.addition g.met.P.Group.laws g.P.Group.first_outside c.args.side c.args.key.now (option_copied c.args.last) c.args.entries.now c.cut.result c.in_ok-entry.entry.now c.requires c.cut.ensures (sym c.in_ok-entry.ensures) (λ same. let is = (row_eq-same c.in_ok-entry.entry.now.key c.args.key.now).1 same in cc (c.eq.ensures, c.if-eq.false, is))
