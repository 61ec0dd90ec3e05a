-- Set operations, step by step.
use Rattle.std.proofs.Common.{◌≡◌, ℕ, List, [], ◌∷◌, ◌++◌, fold, refl, sym, subst, ap, ap₂, ◌∙◌}
use Rattle.sq_value.specs.Order.{row_cmp}
use Rattle.sq_algebra.specs.Listed.{first_of_each}
use Rattle.sq_algebra.specs.Operators.{distinct, meet}
use Rattle.sq_algebra.specs.ZSet.{minus}
use Rattle.sq_zset.proofs.RowOperators.{distinct-of_list, of_list-among, of_list-without}
use Rattle.sq_zset.proofs.Rows.{of_list-append}
use Rattle.sq_ast.specs.declared.query.SetOp.{SetOp}
use Rattle.sq_ast.specs.declared.query.SetOp.TheVariants.{UnionAll, Union, Except}
use Rattle.std.proofs.Common.{length}
use Rattle.sq_typed.specs.Fit.{Pairwise}
use Rattle.sq_typed.specs.From.{Row, Answer}
use Rattle.sq_typed.specs.Laws.{AreOfWidth}
use Rattle.sq_typed.specs.Queries.{intersect_rows, set_rows}
use Rattle.sq_typed.proofs.AnswerLemmas.{all_first, intersect_rows_width, set_rows_width}
use Rattle.sq_circuit.specs.Nodes.{paired}
use Rattle.sq_bridge.specs.Joins.{same_rows}
use Rattle.sq_bridge.specs.Meaning.{AreMembersOf, AreStepsOf, Holds, IsMemberOf, IsStepOf}
use Rattle.sq_bridge.specs.Nodes.{Node}
use Rattle.sq_bridge.specs.Queries.{both_of, chain_node, set_result, step_node}
use Rattle.sq_bridge.specs.Rows.{listed}
use Rattle.sq_bridge.proofs.LeftJoining.{same_on}

-- ---- one step

module _ (w : ℕ) (rows more : List Row) (hw : AreOfWidth w rows) (hm : AreOfWidth w more) where
  both_is : both_of w (listed rows) (listed more) ≡ meet (listed (first_of_each row_cmp rows)) (distinct (listed more))
  both_is =
      ap₂ (λ y z. paired (same_rows w) y z) (distinct-of_list rows) (distinct-of_list more)
      ∙ same_on w (first_of_each row_cmp rows) (first_of_each row_cmp more) (all_first (λ r. length r ≡ w) rows hw) (all_first (λ r. length r ≡ w) more hm)
      ∙ ap (meet (listed (first_of_each row_cmp rows))) (sym (distinct-of_list more))

  step_is : (op : SetOp) → set_result op w (listed rows) (listed more) ≡ listed (set_rows op rows more)
  step_is UnionAll = sym (of_list-append rows more)
  step_is Union = ap (λ z. distinct z) (sym (of_list-append rows more)) ∙ distinct-of_list (rows ++ more)
  step_is Except = ap₂ minus (distinct-of_list rows) both_is ∙ sym (of_list-without (first_of_each row_cmp rows) more)

  common_is : both_of w (listed rows) (listed more) ≡ listed (intersect_rows rows more)
  common_is = both_is ∙ sym (of_list-among (first_of_each row_cmp rows) more)

pub set_is : (op : SetOp) (w : ℕ) (rows more : List Row) → AreOfWidth w rows → AreOfWidth w more → set_result op w (listed rows) (listed more) ≡ listed (set_rows op rows more)
set_is op w rows more hw hm = step_is w rows more hw hm op

pub intersect_is : (w : ℕ) (rows more : List Row) → AreOfWidth w rows → AreOfWidth w more → both_of w (listed rows) (listed more) ≡ listed (intersect_rows rows more)
intersect_is w rows more hw hm = common_is w rows more hw hm

-- ---- steps one after the other

module _ {M B : Type 0} (g : Node → M → Node) (f : List Row → B → List Row) (Fits : ℕ → M → B → Type 0) (keeps : (n : Node) (m : M) → (g n m).width ≡ n.width)
    (step : (n : Node) (rows : List Row) (m : M) (b : B) → Holds n rows → Fits n.width m b → Holds (g n m) (f rows b)) where
  folded : (n : Node) (rows : List Row) (ms : List M) (bs : List B) → Holds n rows → Pairwise (Fits n.width) ms bs → Holds (fold g n ms) (fold f rows bs)
  folded n rows [] [] h p = h
  folded n rows [] (b ∷ bs) h p = absurd p
  folded n rows (m ∷ ms) [] h p = absurd p
  folded n rows (m ∷ ms) (b ∷ bs) h p = folded (g n m) (f rows b) ms bs (step n rows m b h p.0) (subst (λ w. Pairwise (Fits w) ms bs) (sym (keeps n m)) p.1)

pub chain_step : (n : Node) (rows : List Row) (m : SetOp × Node) (s : SetOp × Answer) → Holds n rows → IsStepOf n.width m s → Holds (step_node (set_result m.0) n m.1) (set_rows s.0 rows s.1.rows)
chain_step n rows m s h is = record {
  are = ap (λ op. set_result op n.width n.rows m.1.rows) is.op
      ∙ ap₂ (λ y z. set_result s.0 n.width y z) h.are is.member.rows
      ∙ set_is s.0 n.width rows s.1.rows h.wide is.member.wide;
  wide = set_rows_width s.0 n.width rows s.1.rows h.wide is.member.wide;
}

pub common_step : (n : Node) (rows : List Row) (m : Node) (a : Answer) → Holds n rows → IsMemberOf n.width m a → Holds (step_node both_of n m) (intersect_rows rows a.rows)
common_step n rows m a h is = record {
  are = ap₂ (λ y z. both_of n.width y z) h.are is.rows ∙ intersect_is n.width rows a.rows h.wide is.wide;
  wide = intersect_rows_width n.width rows a.rows h.wide;
}

pub chain_holds : (n : Node) (rows : List Row) (ms : List (SetOp × Node)) (steps : List (SetOp × Answer)) → Holds n rows → AreStepsOf n.width ms steps → Holds (chain_node n ms) (fold (λ rows s. set_rows s.0 rows s.1.rows) rows steps)
chain_holds n rows ms steps h p = folded (λ n s. step_node (set_result s.0) n s.1) (λ rows s. set_rows s.0 rows s.1.rows) IsStepOf (λ n m. refl) chain_step n rows ms steps h p

pub intersect_holds : (n : Node) (rows : List Row) (ms : List Node) (others : List Answer) → Holds n rows → AreMembersOf n.width ms others → Holds (fold (step_node both_of) n ms) (fold (λ rows a. intersect_rows rows a.rows) rows others)
intersect_holds n rows ms others h p = folded (step_node both_of) (λ rows a. intersect_rows rows a.rows) IsMemberOf (λ n m. refl) common_step n rows ms others h p
