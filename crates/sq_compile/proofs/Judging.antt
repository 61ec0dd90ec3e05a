-- The judgement of a text, from its statements up to its bytes.
use Rattle.std.proofs.Common.{◌≡◌, ◌↔◌, ℕ, List, Bool, true, false, refl, sym, ap, ◌∙◌, subst, ◌<◌, ◌≤◌, ◌*◌, ◌^◌, length, arith}
use Rattle.std.specs.Prelude.{IsTrue, Some, None}
use Rattle.std.specs.Str.{IsUtf8}
use Rattle.sq_token.specs.declared.token.Token.{Token}
use Rattle.sq_token.specs.declared.fault.LexFault.{LexFault}
use Rattle.sq_token.specs.declared.fault.LexFault.TheVariants as lexing
use Rattle.sq_token.specs.Reading.{Tokens}
use Rattle.sq_token.specs.Fault as lex
use Rattle.sq_parse.specs.declared.fault.ParseFault.{ParseFault}
use Rattle.sq_parse.specs.declared.fault.ParseFault.TheVariants as parsing
use Rattle.sq_parse.specs.Causes as parse
use Rattle.sq_ast.specs.declared.statement.Statement.{Statement}
use Rattle.sq_ast.specs.Spelling.{Spells}
use Rattle.sq_ast.specs.Sources.{program_sources}
use Rattle.sq_check.specs.declared.program.CheckFault.{CheckFault}
use Rattle.sq_check.specs.declared.program.CheckFault.TheVariants as checking
use Rattle.sq_typed.specs.Checked as typed
use Rattle.sq_typed.specs.Faults.{refused}
use Rattle.sq_typed.specs.declared.check_kind.CheckKind.{CheckKind}
use Rattle.sq_typed.specs.Programs.{Typed}
use Rattle.sq_typed.specs.Sources.{sources_in}
use Rattle.sq_typed.specs.Views.{Meant}
use Rattle.sq_circuit.specs.declared.circuit.Part.{Part}
use Rattle.sq_plan.specs.Program.{IsPlanOf}
use Rattle.sq_bridge.proofs.SmallPrograms.{checked_relations_few}
use Rattle.sq_compile.specs.declared.texts.CompileFault.{CompileFault}
use Rattle.sq_compile.specs.declared.texts.CompileFault.TheVariants.{Fault, Memory}
use Rattle.sq_compile.specs.Programs.{longest_text, empty_verdict, BytesFault, IsChecked, IsProgramOf, RangeStop, StatementsFault, StatementsStop, TextFault, TextStops, TokensFault, TokensStop, check_stop, lex_stop, parse_stop}

pub parse_stops : (tokens : List Token) (fault : ParseFault) → parse.HasCause tokens fault → TokensStop tokens (parse_stop fault)
parse_stops tokens (parsing.NotGrammar n) cause = TokensFault.not_grammar cause
parse_stops tokens (parsing.TooDeep n) cause = TokensFault.too_deep cause
parse_stops tokens parsing.Memory cause = tt

pub lex_stops : (text : List ℕ) (fault : LexFault) → length text ≤ longest_text → IsUtf8 text → lex.HasCause text fault → TextStops text (lex_stop fault)
lex_stops text lexing.Memory short utf8 cause = tt
lex_stops text (lexing.BadByte at) short utf8 cause = TextFault.in_bytes short (BytesFault.lex utf8 cause)
lex_stops text (lexing.OpenText at) short utf8 cause = TextFault.in_bytes short (BytesFault.lex utf8 cause)
lex_stops text (lexing.OpenName at) short utf8 cause = TextFault.in_bytes short (BytesFault.lex utf8 cause)
lex_stops text (lexing.OpenComment at) short utf8 cause = TextFault.in_bytes short (BytesFault.lex utf8 cause)
lex_stops text (lexing.LongNumber at) short utf8 cause = TextFault.in_bytes short (BytesFault.lex utf8 cause)

pub tokens_stop : (text : List ℕ) (tokens : List Token) (stop : CompileFault) → length text ≤ longest_text → IsUtf8 text → Tokens text tokens → TokensStop tokens stop → TextStops text stop
tokens_stop text tokens (Fault fault) short utf8 lexed wrong = TextFault.in_bytes short (BytesFault.in_tokens tokens utf8 lexed wrong)
tokens_stop text tokens Memory short utf8 lexed wrong = tt

pub untrue : {P : Type 0} (b : Bool) → IsTrue b ↔ P → b ≡ false → P → ⊥
untrue b same e p = let t : b ≡ true = same.1 p in cc

pub istrue : {P : Type 0} (b : Bool) → IsTrue b ↔ P → b ≡ true → P
istrue b same e = same.0 e

pub statements_stop : (tokens : List Token) (statements : List Statement) (stop : CompileFault) → Spells tokens statements → StatementsStop statements stop → TokensStop tokens stop
statements_stop tokens statements (Fault fault) spelled wrong = TokensFault.in_statements statements spelled wrong
statements_stop tokens statements Memory spelled wrong = tt

-- a refusal by the checker
pub check_stops : (statements : List Statement) (fault : CheckFault) → ((n : ℕ) (kind : CheckKind) → fault ≡ checking.Fault n kind → refused statements ≡ Some (n, kind)) → StatementsStop statements (check_stop fault)
check_stops statements (checking.Fault n kind) cause = StatementsFault.check (cause n kind refl)
check_stops statements checking.Memory cause = tt

-- an accepted program is that of each text with tokens that spell its statements
pub checked_program : (statements : List Statement) (p accepted : Meant) → refused statements ≡ None → Typed statements p → IsChecked p accepted
    → (text : List ℕ) (tokens : List Token) → length text ≤ longest_text → IsUtf8 text → Tokens text tokens → Spells tokens statements → IsProgramOf text accepted
checked_program statements p accepted none means is text tokens short utf8 lexed spelled = record {
  tokens = tokens;
  statements = statements;
  short = short;
  utf8 = utf8;
  lexed = lexed;
  spelled = spelled;
  without_fault = none;
  typed = is.program ∙ means;
  in_range = subst (λ q. empty_verdict q ≡ None) (sym is.program) is.in_range;
}

-- statements that mean a program whose views are out of range
pub range_stops : (statements : List Statement) (p : Meant) (stop : CompileFault) → refused statements ≡ None → Typed statements p → RangeStop p stop → StatementsStop statements stop
range_stops statements p (Fault fault) none typed w = subst (StatementsFault statements) (sym w.2) (StatementsFault.range p none typed w.1)
range_stops statements p Memory none typed w = tt

-- at most so many sources make few nodes
pub few_nodes : (p : Meant) (c : List Part) → typed.IsChecked p → IsPlanOf p c → sources_in p ≤ 2 ^ 20 → length c < 2 ^ 26
few_nodes p c checked plan few = omega (arith, plan.few, checked_relations_few p checked, few)

-- a text that is not too long has few sources
pub few_sources : (tokens : List Token) (statements items : List Statement) → length tokens ≤ longest_text → statements ≡ items
    → 2 * program_sources items ≤ length tokens → program_sources statements ≤ 2 ^ 20
few_sources tokens statements items short same half = let is = ap program_sources same in omega (arith, is, half, short)
