use Rattle.std.proofs.Common.{sym, ap, ◌∙◌, Some}
use Rattle.sq_zset.proofs.Merging.{begins_left, begins_right, begins_both}
use Rattle.sq_zset.proofs.merge.next_row.Goals as goal

pub returns-in-Less : goal.returns-in-Less
returns-in-Less c =
    begins_left c.args.sign c.args.left.now c.args.right.now c.index-left-0.result c.index-left-0-in-Less.result c.from.result c.requires.left_sound c.requires.right_sound
    (sym c.compare_first.ensures ∙ c.in_ok-compare_first.was ∙ ap Some c.in-Less.is) c.from.ensures

pub returns-in-Equal : goal.returns-in-Equal
returns-in-Equal c =
    begins_both c.args.sign c.args.left.now c.args.right.now c.index-left-0-in-Equal.result c.index-left-0-in-Equal-2.result c.index-right-0.result c.from-in-Equal.result c.of.result c.from-in-Equal-2.result
    c.requires.left_sound c.requires.right_sound
    (sym c.compare_first.ensures ∙ c.in_ok-compare_first.was ∙ ap Some c.in-Equal.is) c.from-in-Equal.ensures c.of.ensures c.from-in-Equal-2.ensures

pub returns-in-Greater : goal.returns-in-Greater
returns-in-Greater c =
    begins_right c.args.sign c.args.left.now c.args.right.now c.index-right-0-in-Greater.result c.index-right-0-in-Greater-2.result c.of-in-Greater.result c.from-in-Greater.result c.requires.left_sound c.requires.right_sound
    (sym c.compare_first.ensures ∙ c.in_ok-compare_first.was ∙ ap Some c.in-Greater.is) c.of-in-Greater.ensures c.from-in-Greater.ensures
