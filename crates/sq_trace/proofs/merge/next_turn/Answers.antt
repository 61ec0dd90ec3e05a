use Rattle.std.proofs.Common.{◌≡◌, [], ◌∷◌, ◌∙◌, sym, ap, subst, Some, Err, slice_index_or}
use Rattle.std.proofs.lemmas.Result.{err_from_is_err_and}
use Rattle.sq_zset.specs.declared.pair.ZFault.TheVariants.{Weight}
use Rattle.sq_trace.specs.Inside.{Added, BeginsWith}
use Rattle.sq_trace.proofs.Merging.{begins_left, begins_right, begins_both, stops}
use Rattle.sq_trace.proofs.merge.next_turn.Goals.{in-Less+in_ok-copy_entry-in-Less, in-Equal+in_ok-added-in-Equal, in-Greater+in_ok-copy_entry-in-Greater}
use Rattle.sq_trace.proofs.merge.next_turn.Goals as goal

pub returns-in_err-added-in-Equal-clause-outside : goal.returns-in_err-added-in-Equal-clause-outside
returns-in_err-added-in-Equal-clause-outside g c number e =
    let (fault, is, same) = err_from_is_err_and c.from_residual-in_err-added-in-Equal.result c.from_residual-in_err-added-in-Equal.ensures.1 in
    let was : c.added.result ≡ Err (Weight number) = cc (c.in_err-added-in-Equal.was, is, same, e) in
    let l = c.index-left-0-in-Equal.result in
    let r = c.index-right-0.result in
    stops g.P.Group.addition g.met.P.Group.laws g.P.Group.first_outside c.args.left.now c.args.right.now l r number c.requires.left_run c.requires.right_run
    (sym c.compare_first.ensures ∙ c.in-Some.is ∙ ap Some c.in-Equal.is)
    (subst (λ x. g.P.Group.first_outside (g.P.Group.addition.plus x.payload (slice_index_or c.args.right.now 0 r).payload) ≡ Some number) c.index-left-0-in-Equal.is
    (subst (λ y. g.P.Group.first_outside (g.P.Group.addition.plus l.payload y.payload) ≡ Some number) c.index-right-0.is (c.added.ensures.outside number was)))

pub returns-clause-ok : goal.returns-clause-ok
returns-clause-ok g c = elim c.match-order.branch [
  | in-Less+in_ok-copy_entry-in-Less w ↦ rw w.turn-is (
      subst (λ e. BeginsWith g.P.Group.addition g.P.Group.first_outside c.args.left.now c.args.right.now (e ∷ []) 1 0) (sym (w.in_ok-copy_entry-in-Less.ensures ∙ w.index-left-0.is))
      (begins_left g.P.Group.addition g.met.P.Group.laws g.P.Group.first_outside c.args.left.now c.args.right.now w.index-left-0.result c.requires.left_run c.requires.right_run
      (sym c.compare_first.ensures ∙ c.in-Some.is ∙ ap Some w.in-Less.is)))
  | in-Equal+in_ok-added-in-Equal w ↦ rw w.turn-is (
      begins_both g.P.Group.addition g.met.P.Group.laws g.P.Group.first_outside c.args.left.now c.args.right.now w.index-left-0-in-Equal.result w.index-right-0.result w.in_ok-added-in-Equal.field-0
      c.requires.left_run c.requires.right_run
      (sym c.compare_first.ensures ∙ c.in-Some.is ∙ ap Some w.in-Equal.is)
      (subst (λ x. Added g.P.Group.addition g.P.Group.first_outside x (slice_index_or c.args.right.now 0 w.index-right-0.result) w.in_ok-added-in-Equal.field-0) w.index-left-0-in-Equal.is
      (subst (λ y. Added g.P.Group.addition g.P.Group.first_outside w.index-left-0-in-Equal.result y w.in_ok-added-in-Equal.field-0) w.index-right-0.is w.in_ok-added-in-Equal.ensures.ok)))
  | in-Greater+in_ok-copy_entry-in-Greater w ↦ rw w.turn-is (
      subst (λ e. BeginsWith g.P.Group.addition g.P.Group.first_outside c.args.left.now c.args.right.now (e ∷ []) 0 1) (sym (w.in_ok-copy_entry-in-Greater.ensures ∙ w.index-right-0-in-Greater.is))
      (begins_right g.P.Group.addition g.met.P.Group.laws g.P.Group.first_outside c.args.left.now c.args.right.now w.index-right-0-in-Greater.result c.requires.left_run c.requires.right_run
      (sym c.compare_first.ensures ∙ c.in-Some.is ∙ ap Some w.in-Greater.is)))
]
