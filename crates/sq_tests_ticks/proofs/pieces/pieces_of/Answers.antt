use Rattle.sq_tests_ticks.specs.Ticks.{ready_of}
use Rattle.sq_tests_ticks.proofs.Settling.{answer_is, done_if, ready_is, shape_if}
use Rattle.sq_tests_ticks.proofs.pieces.pieces_of.Goals as goal

pub play-pieces-requires-clause-ready : goal.play-pieces-requires-clause-ready
play-pieces-requires-clause-ready c =
    ready_is _ c.deref.result.now _ c.deref-2.result.now _ c.deref-3.result.now c.deref.ensures.value c.deref-2.ensures.value c.deref-3.ensures.value (ready_of c.requires.live c.requires.step)

pub returns-clause-done : goal.returns-clause-done
returns-clause-done c =
    done_if c.args.order.now c.requires.live c.requires.step c.play-pieces.result
    (answer_is c.args.order.now c.play-pieces.result _ c.deref.result.now _ c.deref-2.result.now _ c.deref-3.result.now c.deref.ensures.value c.deref-2.ensures.value c.deref-3.ensures.value c.play-pieces.ensures.answers)

pub returns-clause-shape : goal.returns-clause-shape
returns-clause-shape c =
    shape_if c.args.order.now c.requires.live c.requires.step c.play-pieces.result
    (answer_is c.args.order.now c.play-pieces.result _ c.deref.result.now _ c.deref-2.result.now _ c.deref-3.result.now c.deref.ensures.value c.deref-2.ensures.value c.deref-3.ensures.value c.play-pieces.ensures.answers)
