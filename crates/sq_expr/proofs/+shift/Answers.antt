use Rattle.std.proofs.Common.{rules}
use Rattle.std.proofs.Math.Facts.{Fits-of_lt}
use Rattle.std.specs.Int.{w32}
use Rattle.sq_expr.specs.declared.expr.Expr.{the_lemmas}
use Rattle.sq_expr.proofs.ShiftSteps.{column_room, neg_room, sum_room, product_room, number_shifted, text_shifted}
use Rattle.sq_expr.proofs.+shift.Goals as goal

pub expr::Expr::shifted-overflow_add-result : goal.expr::Expr::shifted-overflow_add-result
expr::Expr::shifted-overflow_add-result t c = Fits-of_lt {w = w32} (column_room c.args.by c.args.self.now c.in-Column.at c.in-Column.is c.requires.room)

pub expr::Expr::shifted-shifted-requires : goal.expr::Expr::shifted-shifted-requires
expr::Expr::shifted-shifted-requires t c = (search (rules, the_lemmas), neg_room c.args.by c.args.self.now c.in-Neg.operand c.get.result.now c.in-Neg.is c.get.ensures c.requires.room)

pub expr::Expr::shifted-shifted_terms-requires : goal.expr::Expr::shifted-shifted_terms-requires
expr::Expr::shifted-shifted_terms-requires t c = (search (rules, the_lemmas), sum_room c.args.by c.args.self.now c.in-Sum.terms c.in-Sum.is c.requires.room)

pub expr::Expr::shifted-shifted_factors-requires :
    goal.expr::Expr::shifted-shifted_factors-requires
expr::Expr::shifted-shifted_factors-requires t c = (search (rules, the_lemmas), product_room c.args.by c.args.self.now c.in-Product.factors c.in-Product.is c.requires.room)

pub expr::Expr::shifted-returns-in_ok-text-in-Text :
    goal.expr::Expr::shifted-returns-in_ok-text-in-Text
expr::Expr::shifted-returns-in_ok-text-in-Text t c = record { shifted = text_shifted c.args.by c.args.self.now c.in-Text.text c.in_ok-text-in-Text.text c.in-Text.is c.in_ok-text-in-Text.ensures.equal }

pub expr::Expr::shifted-returns-in-Number : goal.expr::Expr::shifted-returns-in-Number
expr::Expr::shifted-returns-in-Number t c = record { shifted = number_shifted c.args.by c.args.self.now c.in-Number.number c.in-Number.is }
