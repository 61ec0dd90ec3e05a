use Rattle.std.proofs.Common.{rules, ◌≡◌, ◌+◌, ◌++◌, Option, option_to_list, vec_len, ap, ◌∙◌}
use Rattle.sq_workers.proofs.Slots.{filled_on}
use Rattle.sq_workers.proofs.placed.fill.Goals as goal

pub loop-answer-preserved-in-Some : goal.loop-answer-preserved-in-Some
loop-answer-preserved-in-Some g c =
    let left = c.pop.ensures.items ∙ ap (λ (r : Option _). c.pop.new.self.items ++ option_to_list r) c.in-Some.is in
    let more : vec_len c.loop-answer.answers ≡ vec_len c.pop.new.self + 1 = search rules in (
      search rules,
      search rules,
      filled_on c.loop-answer.slots _ c.args.numbers.now c.loop-answer.answers.items c.pop.new.self.items (vec_len c.loop-answer.answers) (vec_len c.pop.new.self) c.len.result c.in-Some.answer
          left (search rules) more (search rules) c.loop-answer.invariant.1 c.loop-answer.invariant.2,
    )

pub loop-answer-preserved : goal.loop-answer-preserved
loop-answer-preserved g c =
    let left = c.pop.ensures.items ∙ ap (λ (r : Option _). c.pop.new.self.items ++ option_to_list r) c.in-Some.is in
    let more : vec_len c.loop-answer.answers ≡ vec_len c.pop.new.self + 1 = search rules in (
      search rules,
      search rules,
      filled_on c.loop-answer.slots _ c.args.numbers.now c.loop-answer.answers.items c.pop.new.self.items (vec_len c.loop-answer.answers) (vec_len c.pop.new.self) c.len.result c.in-Some.answer
          left (search rules) more (search rules) c.loop-answer.invariant.1 c.loop-answer.invariant.2,
    )
