use Rattle.std.proofs.Common.{◌∙◌, ap₂}
use Rattle.clap.specs.Words.{with_rule}
use Rattle.sq_words.proofs.command.command.Goals as goal

pub returns-clause-shape : goal.returns-clause-shape
returns-clause-shape c =
    let one = c.in_ok-with_mode.ensures.shape c.mode.ensures.local ∙ ap₂ with_rule c.bare.ensures c.mode.ensures.rule in
    let two = c.in_ok-with_workers.ensures.shape c.workers.ensures.local ∙ ap₂ with_rule one c.workers.ensures.rule in
    let three = c.in_ok-with_seed.ensures.shape c.seed.ensures.local ∙ ap₂ with_rule two c.seed.ensures.rule in
    c.in_ok-arg.ensures.shape c.ticks.ensures.local ∙ ap₂ with_rule three c.ticks.ensures.rule
