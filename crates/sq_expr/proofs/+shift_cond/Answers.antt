use Rattle.std.proofs.Common.{rules}
use Rattle.sq_expr.specs.declared.cond.Cond.{the_lemmas}
use Rattle.sq_expr.proofs.ShiftSteps.{left_room, right_room, null_room, not_room, all_room, any_room, compare_shifted, null_shifted}
use Rattle.sq_expr.proofs.+shift_cond.Goals as goal

pub cond::Cond::shifted-shifted-requires : goal.cond::Cond::shifted-shifted-requires
cond::Cond::shifted-shifted-requires t c = record { room = left_room c.args.by c.args.self.now c.in-Compare.cmp c.in-Compare.left c.in-Compare.right c.in-Compare.is c.requires.room }

pub cond::Cond::shifted-shifted-requires-in-Compare :
    goal.cond::Cond::shifted-shifted-requires-in-Compare
cond::Cond::shifted-shifted-requires-in-Compare t c = record { room = right_room c.args.by c.args.self.now c.in-Compare.cmp c.in-Compare.left c.in-Compare.right c.in-Compare.is c.requires.room }

pub cond::Cond::shifted-shifted-requires-in-Null :
    goal.cond::Cond::shifted-shifted-requires-in-Null
cond::Cond::shifted-shifted-requires-in-Null t c = record { room = null_room c.args.by c.args.self.now c.in-Null.expr c.in-Null.negated c.in-Null.is c.requires.room }

pub cond::Cond::shifted-shifted-requires-in-Not : goal.cond::Cond::shifted-shifted-requires-in-Not
cond::Cond::shifted-shifted-requires-in-Not t c = (search (rules, the_lemmas), not_room c.args.by c.args.self.now c.in-Not.operand c.get.result.now c.in-Not.is c.get.ensures c.requires.room)

pub cond::Cond::shifted-shifted_conds-requires : goal.cond::Cond::shifted-shifted_conds-requires
cond::Cond::shifted-shifted_conds-requires t c = (search (rules, the_lemmas), all_room c.args.by c.args.self.now c.in-All.members c.in-All.is c.requires.room)

pub cond::Cond::shifted-shifted_conds-requires-in-Any :
    goal.cond::Cond::shifted-shifted_conds-requires-in-Any
cond::Cond::shifted-shifted_conds-requires-in-Any t c = (search (rules, the_lemmas), any_room c.args.by c.args.self.now c.in-Any.choices c.in-Any.is c.requires.room)

pub cond::Cond::shifted-returns-in_ok-right-in-Compare :
    goal.cond::Cond::shifted-returns-in_ok-right-in-Compare
cond::Cond::shifted-returns-in_ok-right-in-Compare t c = record { shifted = compare_shifted c.args.by c.args.self.now c.in-Compare.cmp c.in-Compare.left c.in-Compare.right c.in_ok-left-in-Compare.left c.in_ok-right-in-Compare.right c.in-Compare.is c.in_ok-left-in-Compare.ensures.shifted c.in_ok-right-in-Compare.ensures.shifted }

pub cond::Cond::shifted-returns-in_ok-expr-in-Null :
    goal.cond::Cond::shifted-returns-in_ok-expr-in-Null
cond::Cond::shifted-returns-in_ok-expr-in-Null t c = record { shifted = null_shifted c.args.by c.args.self.now c.in-Null.expr c.in_ok-expr-in-Null.expr c.in-Null.negated c.in-Null.is c.in_ok-expr-in-Null.ensures.shifted }
