use Rattle.sq_ticks.specs.Begun.{IsOpen}
use Rattle.std.proofs.Common.{subst, sym, ◌∙◌}
use Rattle.sq_ticks.proofs.TextLemmas.{ends_a_line, goes_on}
use Rattle.sq_ticks.proofs.text.Text.push.Goals as goal

pub returns-then-byte-eq10-clause-so_far : goal.returns-then-byte-eq10-clause-so_far
returns-then-byte-eq10-clause-so_far c =
    subst (IsOpen c.push.new.self.items) (sym (c.len-self.ensures ∙ c.push.new.self.ok.0))
    (ends_a_line c.args.self.now.bytes.items c.push.new.self.items c.args.self.now.line c.args.byte c.requires.so_far (c.requires.other c.if-byte-eq10.true) c.if-byte-eq10.true c.in_ok-push.ensures.items)

pub returns-else-byte-eq10-clause-so_far : goal.returns-else-byte-eq10-clause-so_far
returns-else-byte-eq10-clause-so_far c =
    goes_on c.args.self.now.bytes.items c.push.new.self.items c.args.self.now.line c.args.byte c.requires.so_far c.if-byte-eq10.false c.in_ok-push.ensures.items
