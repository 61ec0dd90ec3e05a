-- An input has at most one program, and none if it has a fault, and at most one fault.
use Rattle.std.proofs.Common.{◌≡◌, ℕ, List, refl, sym, subst, ◌∙◌, arith}
use Rattle.sq_compile.proofs.Once as text
use Rattle.sq_compile.specs.Programs.{IsProgramOf, TextFault}
use Rattle.sq_print.specs.declared.program_fault.ProgramFault.{ProgramFault}
use Rattle.sq_ticks.specs.Programs.{HasFault, IsProgram, IsText, in_text, no_end, no_end_too_long}
use Rattle.sq_typed.specs.Views.{Meant}

pub one_text : (input a b : List ℕ) → IsText input a → IsText input b → a ≡ b
one_text input a b s t = s.before ∙ sym t.before

pub one_program : (input : List ℕ) (p q : Meant) → IsProgram input p → IsProgram input q → p ≡ q
one_program input p q s t = text.one_program t.text p q (subst (λ x. IsProgramOf x p) (one_text input s.text t.text s.is_text t.is_text) s.of_text) t.of_text

pub not_both : (input : List ℕ) (p : Meant) (fault : ProgramFault) → IsProgram input p → HasFault input fault → ⊥
not_both input p fault s (in_text {text = other} is wrong) = text.not_both other p fault (subst (λ x. IsProgramOf x p) (one_text input s.text other s.is_text is) s.of_text) wrong
not_both input p fault s (no_end_too_long without long) = let ended = s.is_text.ended in cc
not_both input p fault s (no_end without short) = let ended = s.is_text.ended in cc

pub one_fault : (input : List ℕ) (a b : ProgramFault) → HasFault input a → HasFault input b → a ≡ b
one_fault input a b (in_text {text = x} is wrong) (in_text {text = y} so bad) = text.one_fault y a b (subst (λ t. TextFault t a) (one_text input x y is so) wrong) bad
one_fault input a b (in_text is wrong) (no_end_too_long without long) = let ended = is.ended in cc
one_fault input a b (in_text is wrong) (no_end without short) = let ended = is.ended in cc
one_fault input a b (no_end_too_long without long) (in_text is wrong) = let ended = is.ended in cc
one_fault input a b (no_end_too_long without long) (no_end_too_long w l) = refl
one_fault input a b (no_end_too_long without long) (no_end w short) = absurd (omega arith)
one_fault input a b (no_end without short) (in_text is wrong) = let ended = is.ended in cc
one_fault input a b (no_end without short) (no_end_too_long w long) = absurd (omega arith)
one_fault input a b (no_end without short) (no_end w s) = refl
