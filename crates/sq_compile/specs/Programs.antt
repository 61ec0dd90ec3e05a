-- The program of a text, a circuit that stands for it, and the first fault of a text.
use Rattle.std.specs.Prelude.{◌≡◌, ℕ, ◌<◌, ◌≤◌, ◌^◌, List, length, Option, Some, None, ⊤}
use Rattle.std.specs.Str.{IsUtf8}
use Rattle.sq_token.specs.declared.token.Token.{Token}
use Rattle.sq_token.specs.declared.fault.LexFault.{LexFault}
use Rattle.sq_token.specs.declared.fault.LexFault.TheVariants as lexing
use Rattle.sq_token.specs.Reading.{Tokens}
use Rattle.sq_token.specs.Fault.{FirstFault}
use Rattle.sq_ast.specs.declared.statement.Statement.{Statement}
use Rattle.sq_ast.specs.Spelling.{Spells}
use Rattle.sq_ast.specs.Refusal as refusal
use Rattle.sq_parse.specs.declared.fault.ParseFault.{ParseFault}
use Rattle.sq_parse.specs.declared.fault.ParseFault.TheVariants as parse
use Rattle.sq_check.specs.declared.program.CheckFault.{CheckFault}
use Rattle.sq_check.specs.declared.program.CheckFault.TheVariants as checking
use Rattle.sq_circuit.specs.declared.circuit.Part.{Part}
use Rattle.sq_typed.specs.declared.check_kind.CheckKind.{CheckKind}
use Rattle.sq_typed.specs.Faults.{refused}
use Rattle.sq_typed.specs.Programs.{Typed}
use Rattle.sq_typed.specs.Views.{Meant, verdict}
use Rattle.sq_plan.specs.Program.{IsPlanOf}
use Rattle.sq_print.specs.declared.program_fault.ProgramFault.{ProgramFault}
use Rattle.sq_print.specs.declared.program_fault.ProgramFault.TheVariants as faults
use Rattle.sq_compile.specs.Relations.{empty_tables, view_name}
use Rattle.sq_compile.specs.declared.texts.CompileFault.{CompileFault}
use Rattle.sq_compile.specs.declared.texts.CompileFault.TheVariants.{Fault, Memory}

-- the most bytes that a program text may have
abbrev pub longest_text : ℕ
longest_text = 1048576

-- the first view that is out of range over empty tables, if there is one
abbrev pub empty_verdict : Meant → Option ℕ
empty_verdict p = verdict p (empty_tables p.catalog)

-- A text is that of this program: it is not too long, and in UTF-8, its tokens spell statements without a fault, which mean this
-- program, and the program's views are in range over empty tables.
pub record IsProgramOf (text : List ℕ) (p : Meant) : Type 0 where
  pub tokens : List Token
  pub statements : List Statement
  pub short : length text ≤ longest_text
  pub utf8 : IsUtf8 text
  pub lexed : Tokens text tokens
  pub spelled : Spells tokens statements
  pub without_fault : refused statements ≡ None
  pub typed : Typed statements p
  pub in_range : empty_verdict p ≡ None

-- a circuit stands for a program, and has so few nodes that an engine may run it
pub record IsCircuitOf (p : Meant) (c : List Part) : Type 0 where
  pub plan : IsPlanOf p c
  pub nodes : length c < 2 ^ 26

-- ---- faults

-- the first fault of statements that tokens spell
pub data StatementsFault : List Statement → ProgramFault → Type 0 where
  check : {statements : List Statement} {n : ℕ} {kind : CheckKind} → refused statements ≡ Some (n, kind) → StatementsFault statements (faults.Check n kind)
  range : {statements : List Statement} {view : ℕ} (p : Meant) → refused statements ≡ None → Typed statements p → empty_verdict p ≡ Some view
      → StatementsFault statements (faults.Range (view_name p.catalog view))

-- the first fault of a text in UTF-8 with these tokens
pub data TokensFault : List Token → ProgramFault → Type 0 where
  too_deep : {tokens : List Token} {n : ℕ} → refusal.Refuses tokens (refusal.TooDeep n) → TokensFault tokens (faults.Parse (parse.TooDeep n))
  not_grammar : {tokens : List Token} {n : ℕ} → refusal.Refuses tokens (refusal.NotGrammar n) → TokensFault tokens (faults.Parse (parse.NotGrammar n))
  in_statements : {tokens : List Token} {fault : ProgramFault} (statements : List Statement) → Spells tokens statements → StatementsFault statements fault → TokensFault tokens fault

-- the first fault of a text that is not too long: of its bytes, its tokens, its grammar or its statements
pub data BytesFault : List ℕ → ProgramFault → Type 0 where
  not_utf8 : {text : List ℕ} → ¬ (IsUtf8 text) → BytesFault text faults.NotUtf8
  lex : {text : List ℕ} {fault : LexFault} → IsUtf8 text → FirstFault text fault → BytesFault text (faults.Lex fault)
  in_tokens : {text : List ℕ} {fault : ProgramFault} (tokens : List Token) → IsUtf8 text → Tokens text tokens → TokensFault tokens fault → BytesFault text fault

-- the first fault of a text: of its length or of its bytes
pub data TextFault : List ℕ → ProgramFault → Type 0 where
  too_long : {text : List ℕ} → longest_text < length text → TextFault text faults.TextTooLong
  in_bytes : {text : List ℕ} {fault : ProgramFault} → length text ≤ longest_text → BytesFault text fault → TextFault text fault

-- ---- a text is refused at its first fault, or because memory ran out
abbrev pub TextStops : List ℕ → CompileFault → Type 0
TextStops text (Fault fault) = TextFault text fault
TextStops text Memory = ⊤

abbrev pub TokensStop : List Token → CompileFault → Type 0
TokensStop tokens (Fault fault) = TokensFault tokens fault
TokensStop tokens Memory = ⊤

abbrev pub StatementsStop : List Statement → CompileFault → Type 0
StatementsStop statements (Fault fault) = StatementsFault statements fault
StatementsStop statements Memory = ⊤

-- this program is accepted
pub record IsChecked (p accepted : Meant) : Type 0 where
  pub program : accepted ≡ p
  pub in_range : empty_verdict p ≡ None

-- the program is refused for its first view that is out of range, or memory ran out
abbrev pub RangeStop : Meant → CompileFault → Type 0
RangeStop p (Fault fault) = (view : ℕ) × (empty_verdict p ≡ Some view) × (fault ≡ faults.Range (view_name p.catalog view))
RangeStop p Memory = ⊤

-- what a fault of the tokens, of the grammar, or of the statements is to a text
abbrev pub lex_stop : LexFault → CompileFault
lex_stop lexing.Memory = Memory
lex_stop fault = Fault (faults.Lex fault)

abbrev pub parse_stop : ParseFault → CompileFault
parse_stop parse.Memory = Memory
parse_stop fault = Fault (faults.Parse fault)

abbrev pub check_stop : CheckFault → CompileFault
check_stop (checking.Fault n kind) = Fault (faults.Check n kind)
check_stop checking.Memory = Memory
