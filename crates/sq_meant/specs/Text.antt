-- The text of the program, and when a text means a program.
--     program_text       the bytes of the text
--     IsTextOf text p    the text is in UTF-8, its tokens spell statements without a fault, and these mean this program
use Rattle.std.specs.Prelude.{◌≡◌, ℕ, List, None}
use Rattle.std.specs.Str.{IsUtf8}
use Rattle.sq_token.specs.Reading.{Tokens}
use Rattle.sq_token.specs.declared.token.Token.{Token}
use Rattle.sq_ast.specs.Spelling.{Spells}
use Rattle.sq_ast.specs.declared.statement.Statement.{Statement}
use Rattle.sq_typed.specs.Faults.{refused}
use Rattle.sq_typed.specs.Programs.{Typed}
use Rattle.sq_typed.specs.Views.{Meant}
use Rattle.sq_meant.specs.declared.program.TheConstants.{PROGRAM}

abbrev pub program_text : List ℕ
program_text = PROGRAM.now

pub record IsTextOf (text : List ℕ) (p : Meant) : Type 0 where
  pub tokens : List Token
  pub statements : List Statement
  pub utf8 : IsUtf8 text
  pub lexed : Tokens text tokens
  pub spelled : Spells tokens statements
  pub without_fault : refused statements ≡ None
  pub typed : Typed statements p
