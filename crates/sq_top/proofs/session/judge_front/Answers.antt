use Rattle.std.proofs.Common.{◌∙◌}
use Rattle.std.proofs.lemmas.Result.{IfErr-weaker, IfOk-weaker}
use Rattle.sq_ticks.proofs.Judging.{is_program, is_text, text_stop}
use Rattle.sq_top.proofs.session.judge_front.Goals as goal

pub returns-clause-accepted : goal.returns-clause-accepted
returns-clause-accepted c =
    IfOk-weaker c.judge_text.result _ _
    (λ j of_text input has. is_program input c.before_last_line.result.now j.program (is_text input c.before_last_line.result.now has.ended (c.before_last_line.ensures ∙ has.before)) of_text)
    c.judge_text.ensures.accepted

pub returns-clause-refused : goal.returns-clause-refused
returns-clause-refused c =
    IfErr-weaker c.judge_text.result _ _
    (λ stop stops input has. text_stop input c.before_last_line.result.now stop (is_text input c.before_last_line.result.now has.ended (c.before_last_line.ensures ∙ has.before)) stops)
    c.judge_text.ensures.refused
