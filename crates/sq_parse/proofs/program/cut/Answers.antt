use Rattle.std.proofs.Common.{sym, ◌∙◌}
use Rattle.sq_parse.proofs.Places.{cut_parts, uncut}
use Rattle.sq_parse.proofs.program.cut.Goals as goal

pub returns-in_default-clause-parts : goal.returns-in_default-clause-parts
returns-in_default-clause-parts c = uncut c.args.tokens.now (sym c.semicolon.ensures ∙ c.in_default.is)

pub returns-clause-parts : goal.returns-clause-parts
returns-clause-parts c = cut_parts c.args.tokens.now c.in-Some.at (sym c.semicolon.ensures ∙ c.in-Some.is)
