-- A text has at most one program, at most one fault, and never both.
use Rattle.std.proofs.Common.{◌≡◌, ℕ, List, Option, Some, None, refl, sym, ap, ap₂, subst, ◌∙◌, arith}
use Rattle.sq_token.specs.declared.token.Token.{Token}
use Rattle.sq_token.proofs.Outcomes.{list_once, list_or_fault, fault_once}
use Rattle.sq_ast.specs.declared.statement.Statement.{Statement}
use Rattle.sq_ast.specs.Spelling.{Spells, kinds}
use Rattle.sq_ast.specs.Refusal as refusal
use Rattle.sq_ast.proofs.Programs as spelled
use Rattle.sq_typed.specs.Faults.{refused}
use Rattle.sq_typed.specs.Programs.{Typed}
use Rattle.sq_typed.specs.Views.{Meant}
use Rattle.sq_typed.specs.declared.check_kind.CheckKind.{CheckKind}
use Rattle.sq_compile.specs.Programs.{empty_verdict, IsProgramOf, StatementsFault, TokensFault, BytesFault, TextFault, check, range, too_deep, not_grammar, in_statements, not_utf8, lex, in_tokens, too_long, in_bytes}
use Rattle.sq_compile.specs.Relations.{view_name}
use Rattle.sq_print.specs.declared.program_fault.ProgramFault.{ProgramFault}
use Rattle.sq_print.specs.declared.program_fault.ProgramFault.TheVariants as faults

-- ---- one program

pub one_program : (text : List ℕ) (p q : Meant) → IsProgramOf text p → IsProgramOf text q → p ≡ q
one_program text p q s t =
    let tokens : s.tokens ≡ t.tokens = list_once text s.tokens t.tokens s.lexed t.lexed in
    let statements : s.statements ≡ t.statements =
    spelled.one_program (kinds t.tokens) s.statements t.statements (subst (λ x. Spells x s.statements) tokens s.spelled) t.spelled in
    subst (λ x. Typed x p) statements s.typed ∙ sym t.typed

-- ---- no fault beside it

module _ (text : List ℕ) (p : Meant) (s : IsProgramOf text p) where
  fault_of_statements : (statements : List Statement) (fault : ProgramFault) → s.statements ≡ statements → StatementsFault statements fault → ⊥
  fault_of_statements statements fault same (check e) = let none = subst (λ x. refused x ≡ None) same s.without_fault in cc
  fault_of_statements statements fault same (range q none typed e) =
      let means : p ≡ q = subst (λ x. Typed x p) same s.typed ∙ sym typed in
      let fine : empty_verdict q ≡ None = subst (λ x. empty_verdict x ≡ None) means s.in_range in cc

  fault_of_tokens : (tokens : List Token) (fault : ProgramFault) → s.tokens ≡ tokens → TokensFault tokens fault → ⊥
  fault_of_tokens tokens fault same (too_deep r) = spelled.not_both (kinds tokens) s.statements _ (subst (λ x. Spells x s.statements) same s.spelled) r
  fault_of_tokens tokens fault same (not_grammar r) = spelled.not_both (kinds tokens) s.statements _ (subst (λ x. Spells x s.statements) same s.spelled) r
  fault_of_tokens tokens fault same (in_statements statements sp wrong) =
      fault_of_statements statements fault
      (spelled.one_program (kinds tokens) s.statements statements (subst (λ x. Spells x s.statements) same s.spelled) sp) wrong

  fault_of_bytes : (fault : ProgramFault) → BytesFault text fault → ⊥
  fault_of_bytes fault (not_utf8 unlike) = absurd (unlike s.utf8)
  fault_of_bytes fault (lex {fault = found} utf8 first) = list_or_fault text s.tokens found s.lexed first
  fault_of_bytes fault (in_tokens tokens utf8 lexed wrong) = fault_of_tokens tokens fault (list_once text s.tokens tokens s.lexed lexed) wrong

pub not_both : (text : List ℕ) (p : Meant) (fault : ProgramFault) → IsProgramOf text p → TextFault text fault → ⊥
not_both text p fault s (too_long long) = let short = s.short in absurd (omega arith)
not_both text p fault s (in_bytes short wrong) = fault_of_bytes text p s fault wrong

-- ---- one fault

same_statements_fault : (statements : List Statement) (a b : ProgramFault) → StatementsFault statements a → StatementsFault statements b → a ≡ b
same_statements_fault statements a b (check {n = n} {kind = k} e) (check {n = m} {kind = l} f) =
    let same : ◌≡◌ {A = Option (ℕ × CheckKind)} (Some (n, k)) (Some (m, l)) = sym e ∙ f in
    let pairs : ◌≡◌ {A = ℕ × CheckKind} (n, k) (m, l) = cc in
    ap₂ faults.Check (ap (λ x. x.0) pairs) (ap (λ x. x.1) pairs)
same_statements_fault statements a b (check e) (range q none typed f) = let fault = e in cc
same_statements_fault statements a b (range p none typed f) (check e) = let fault = e in cc
same_statements_fault statements a b (range {view = v} p none typed e) (range {view = w} q clear meant f) =
    let same : p ≡ q = typed ∙ sym meant in
    let at : Some v ≡ Some w = sym e ∙ ap empty_verdict same ∙ f in
    let number : v ≡ w = cc in
    ap₂ (λ (m : Meant) n. faults.Range (view_name m.catalog n)) same number

same_tokens_fault : (tokens : List Token) (a b : ProgramFault) → TokensFault tokens a → TokensFault tokens b → a ≡ b
same_tokens_fault tokens a b (too_deep {n = n} r) (too_deep {n = m} s) =
    let same : refusal.TooDeep n ≡ refusal.TooDeep m = spelled.one_refusal (kinds tokens) _ _ r s in cc
same_tokens_fault tokens a b (too_deep {n = n} r) (not_grammar {n = m} s) =
    let same : refusal.TooDeep n ≡ refusal.NotGrammar m = spelled.one_refusal (kinds tokens) _ _ r s in cc
same_tokens_fault tokens a b (not_grammar {n = n} r) (too_deep {n = m} s) =
    let same : refusal.NotGrammar n ≡ refusal.TooDeep m = spelled.one_refusal (kinds tokens) _ _ r s in cc
same_tokens_fault tokens a b (not_grammar {n = n} r) (not_grammar {n = m} s) =
    let same : refusal.NotGrammar n ≡ refusal.NotGrammar m = spelled.one_refusal (kinds tokens) _ _ r s in cc
same_tokens_fault tokens a b (too_deep r) (in_statements list sp wrong) = absurd (spelled.not_both (kinds tokens) list _ sp r)
same_tokens_fault tokens a b (not_grammar r) (in_statements list sp wrong) = absurd (spelled.not_both (kinds tokens) list _ sp r)
same_tokens_fault tokens a b (in_statements list sp wrong) (too_deep r) = absurd (spelled.not_both (kinds tokens) list _ sp r)
same_tokens_fault tokens a b (in_statements list sp wrong) (not_grammar r) = absurd (spelled.not_both (kinds tokens) list _ sp r)
same_tokens_fault tokens a b (in_statements list sp wrong) (in_statements other tp bad) =
    let same : list ≡ other = spelled.one_program (kinds tokens) list other sp tp in
    same_statements_fault other a b (subst (λ x. StatementsFault x a) same wrong) bad

same_bytes_fault : (text : List ℕ) (a b : ProgramFault) → BytesFault text a → BytesFault text b → a ≡ b
same_bytes_fault text a b (not_utf8 unlike) (not_utf8 other) = refl
same_bytes_fault text a b (not_utf8 unlike) (lex utf8 first) = absurd (unlike utf8)
same_bytes_fault text a b (not_utf8 unlike) (in_tokens tokens utf8 lexed wrong) = absurd (unlike utf8)
same_bytes_fault text a b (lex utf8 first) (not_utf8 unlike) = absurd (unlike utf8)
same_bytes_fault text a b (lex {fault = f} utf8 first) (lex {fault = g} clean second) = ap faults.Lex (fault_once text f g first second)
same_bytes_fault text a b (lex {fault = f} utf8 first) (in_tokens tokens clean lexed wrong) = absurd (list_or_fault text tokens f lexed first)
same_bytes_fault text a b (in_tokens tokens utf8 lexed wrong) (not_utf8 unlike) = absurd (unlike utf8)
same_bytes_fault text a b (in_tokens tokens utf8 lexed wrong) (lex {fault = g} clean second) = absurd (list_or_fault text tokens g lexed second)
same_bytes_fault text a b (in_tokens tokens utf8 lexed wrong) (in_tokens others clean read bad) =
    let same : tokens ≡ others = list_once text tokens others lexed read in
    same_tokens_fault others a b (subst (λ x. TokensFault x a) same wrong) bad

pub one_fault : (text : List ℕ) (a b : ProgramFault) → TextFault text a → TextFault text b → a ≡ b
one_fault text a b (too_long long) (too_long l) = refl
one_fault text a b (too_long long) (in_bytes short wrong) = absurd (omega arith)
one_fault text a b (in_bytes short wrong) (too_long long) = absurd (omega arith)
one_fault text a b (in_bytes short wrong) (in_bytes s bad) = same_bytes_fault text a b wrong bad
