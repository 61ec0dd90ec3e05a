-- Programs that were checked.
--     Spelling s        tokens that spell a statement.       IsChecked p        statements without faults mean this program
use Rattle.std.specs.Prelude.{◌≡◌, ◌<◌, ◌^◌, List, [], None, length, refl}
use Rattle.std.specs.Coded.{Coded, code_by, coded×}
use Rattle.std.specs.List.{AllByRecursion}
use Rattle.sq_ast.specs.Spelling.{SpellsBody, IsShallow}
use Rattle.sq_ast.specs.Words.{Tokens}
use Rattle.sq_ast.specs.declared.statement.Statement.{Statement}
use Rattle.sq_catalog.specs.declared.relation.Relation.{Relation}
use Rattle.sq_typed.specs.Faults.{refused}
use Rattle.sq_typed.specs.Programs.{Typed}
use Rattle.sq_typed.specs.Views.{Meant}
use Rattle.sq_typed.specs.declared.query.Query.{Query}

-- these tokens spell a statement, there are fewer than 2^27, and no front of them has more than 64 parentheses open
pub record Spelling (s : Statement) : Type 0 where
  pub tokens : Tokens
  pub spelled : SpellsBody tokens s.body []
  pub shallow : IsShallow tokens
  pub few : length tokens < 2 ^ 27

-- each of these statements is spelled by some tokens, none of them has a fault, and they mean this program
pub record IsChecked (program : Meant) : Type 0 where
  pub statements : List Statement
  pub spelled : AllByRecursion Spelling statements
  pub without_fault : refused statements ≡ None
  pub typed : Typed statements program

-- a program is stored as the pair of its parts
abbrev pub meant_code : Coded (List Relation) → Coded (List Query) → Coded Meant
meant_code relations queries =
    code_by (List Relation × List Query) (coded× relations queries) (λ p. (p.catalog, p.queries)) (λ p. record { catalog = p.0; queries = p.1 }) (λ _. refl)
