use Rattle.std.proofs.Common.{refl, ap, ◌∙◌}
use Rattle.sq_lines.specs.Lines.{is_true}
use Rattle.sq_lines.proofs.Members.{commit_by_length, no_commit_by_length}
use Rattle.sq_lines.proofs.reading.asks_commit.Goals as goal

pub returns-then-len-eq1 : goal.returns-then-len-eq1
returns-then-len-eq1 c =
    rw (commit_by_length _ _ _ c.len.ensures.len, c.if-len-eq1.true) (c.is_true.ensures ∙ ap is_true c.get.ensures)

pub returns-else-len-eq1 : goal.returns-else-len-eq1
returns-else-len-eq1 c =
    rw (commit_by_length _ _ _ c.len.ensures.len) (no_commit_by_length _ _ _ refl c.if-len-eq1.false)
