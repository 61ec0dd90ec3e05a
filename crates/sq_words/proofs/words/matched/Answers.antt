use Rattle.std.proofs.Common.{◌∙◌, ap, inl}
use Rattle.std.proofs.lemmas.Result.{IfOk-weaker}
use Rattle.clap.specs.Faults.{is_simple_and_free}
use Rattle.clap.specs.Words.{is_simple}
use Rattle.clap.proofs.FaultLemmas.{fails_as}
use Rattle.clap.proofs.KindLemmas.{fails_by_from}
use Rattle.sq_words.proofs.Reading.{command_is_free, command_is_simple, same_fault, same_matches}
use Rattle.sq_words.proofs.words.matched.Goals as goal

pub returns-in_err-command-clause-fails : goal.returns-in_err-command-clause-fails
returns-in_err-command-clause-fails c =
    fails_by_from _ c.from_residual.result c.in_err-command.field-0.0 (inl c.in_err-command.ensures.memory) c.from_residual.ensures.0 c.from_residual.ensures.1

pub returns-clause-fails : goal.returns-clause-fails
returns-clause-fails c =
    fails_as c.try_get_matches_from.result _ _ (same_fault _ _ c.args.words.now c.in_ok-command.ensures.shape)
    (c.try_get_matches_from.ensures.kinds (ap is_simple_and_free c.in_ok-command.ensures.shape ∙ command_is_free c.args.names))

pub returns-clause-matches : goal.returns-clause-matches
returns-clause-matches c =
    IfOk-weaker c.try_get_matches_from.result _ _
    (λ m h. (h (ap is_simple c.in_ok-command.ensures.shape ∙ command_is_simple c.args.names)).0 ∙ same_matches _ _ c.args.words.now c.in_ok-command.ensures.shape)
    c.try_get_matches_from.ensures.matches
