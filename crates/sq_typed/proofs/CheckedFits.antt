-- The queries of a checked program fit.
use Rattle.std.proofs.Common.{◌≡◌, ℕ, suc, List, [], ◌∷◌, ◌++◌, fold, map, refl, sym, ap, subst, ◌∙◌}
use Rattle.std.specs.List.{AllByRecursion}
use Rattle.sq_token.specs.declared.token.Token.{Token}
use Rattle.sq_ast.specs.Spelling as by
use Rattle.sq_ast.specs.Spelling.{SpellsFrom, SpellsProgram, kinds}
use Rattle.sq_ast.specs.Words as w
use Rattle.sq_ast.specs.Words.{Tokens}
use Rattle.sq_ast.specs.declared.statement.Statement.{Statement}
use Rattle.sq_typed.specs.Checked.{IsChecked, Spelling}
use Rattle.sq_typed.specs.Faults.{described}
use Rattle.sq_typed.specs.Fit.{ProgramFits}
use Rattle.sq_typed.specs.Programs.{with_body}
use Rattle.sq_typed.specs.Views.{Meant}
use Rattle.sq_typed.specs.Written.{AllWritten, AreWritten}
use Rattle.sq_typed.proofs.FitStatements.{program_fits}
use Rattle.sq_typed.proofs.WrittenLemmas.{spelled_is_written}

-- the statements with numbers in order, which no meaning depends on
abbrev numbered : ℕ → List Statement → List Statement
numbered n [] = []
numbered n (s ∷ ss) = record { number = n; body = s.body } ∷ numbered (suc n) ss

abbrev number_after : ℕ → List Statement → ℕ
number_after n [] = n
number_after n (s ∷ ss) = number_after (suc n) ss

numbered-append : (n : ℕ) (ss more : List Statement) → numbered n (ss ++ more) ≡ numbered n ss ++ numbered (number_after n ss) more
numbered-append n [] more = refl
numbered-append n (s ∷ ss) more = ap (λ rest. record { number = n; body = s.body } ∷ rest) (numbered-append (suc n) ss more)

same_program : (n : ℕ) (ss : List Statement) (p : Meant) → fold (λ p (s : Statement). with_body p s.body) p (numbered n ss) ≡ fold (λ p (s : Statement). with_body p s.body) p ss
same_program n [] p = refl
same_program n (s ∷ ss) p = same_program (suc n) ss (with_body p s.body)

-- the tokens of all statements, with semicolons between them
spelled_from : (n : ℕ) (ss : List Statement) → AllByRecursion Spelling ss → (ts : Tokens) × SpellsFrom n ts (numbered n ss)
spelled_from n [] h = ([], by.last_place by.empty_place)
spelled_from n (s ∷ ss) h =
    let rest = spelled_from (suc n) ss h.1 in
    (h.0.tokens ++ (w.SEMICOLON ∷ rest.0), by.more_places (by.statement h.0.spelled h.0.shallow) rest.1)

abbrev placed : Tokens → List Token
placed ts = map (λ k. record { start = 0; end = 0; kind = k }) ts

placed_kinds : (ts : Tokens) → kinds (placed ts) ≡ ts
placed_kinds [] = refl
placed_kinds (t ∷ ts) = ap (λ us. t ∷ us) (placed_kinds ts)

all_written : (ss : List Statement) → AllByRecursion Spelling ss → AllWritten ss
all_written ss h before after s is =
    let spelled = spelled_from 1 ss h in
    subst (λ catalog. AreWritten (described catalog s.body).parts) (ap (λ (p : Meant). p.catalog) (same_program 1 before (record { catalog = []; queries = [] })))
    (spelled_is_written (placed spelled.0) (numbered 1 ss) (subst (λ ts. SpellsProgram ts (numbered 1 ss)) (sym (placed_kinds spelled.0)) spelled.1)
    (numbered 1 before) (numbered (suc (number_after 1 before)) after) (record { number = number_after 1 before; body = s.body })
    (ap (numbered 1) is ∙ numbered-append 1 before (s ∷ after)))

pub checked_fits : (p : Meant) → IsChecked p → ProgramFits [] p.queries p.catalog
checked_fits p c = subst (λ (p : Meant). ProgramFits [] p.queries p.catalog) (sym c.typed) (program_fits c.statements (all_written c.statements c.spelled) c.without_fault)
