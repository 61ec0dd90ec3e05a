-- Why tokens spell no statements, as a fault says it.
use Rattle.std.specs.Prelude.{◌≡◌, List, [], ◌∷◌, ◌++◌, Option, Some, None, Result, Ok, Err}
use Rattle.sq_token.specs.declared.token.Token.{Token}
use Rattle.sq_ast.specs.declared.statement.Statement.{Statement}
use Rattle.sq_ast.specs.Refusal.{Refusal, TooDeep, NotGrammar, Refuses}
use Rattle.sq_parse.specs.declared.fault.ParseFault.{ParseFault}
use Rattle.sq_parse.specs.declared.fault.ParseFault.TheVariants as faults

-- the fault that names a refusal
abbrev pub fault_of : Refusal → ParseFault
fault_of (TooDeep n) = faults.TooDeep n
fault_of (NotGrammar n) = faults.NotGrammar n

-- a fault is the refusal of the tokens; want of memory has no cause in them
abbrev pub HasCause : List Token → ParseFault → Type 0
HasCause ts faults.Memory = Unit {0}
HasCause ts (faults.TooDeep n) = Refuses ts (TooDeep n)
HasCause ts (faults.NotGrammar n) = Refuses ts (NotGrammar n)

-- a fault is what was read in place of statements, unless memory ran out
abbrev pub Faults : ParseFault → Result (List Statement) Refusal → Type 0
Faults faults.Memory read = Unit {0}
Faults (faults.TooDeep n) read = read ≡ Err (TooDeep n)
Faults (faults.NotGrammar n) read = read ≡ Err (NotGrammar n)

-- the statement of a place, if there is one
abbrev pub listed : Option Statement → List Statement
listed None = []
listed (Some statement) = statement ∷ []

-- the statements that were found, and those read behind them
abbrev pub adds : List Statement → Result (List Statement) Refusal → Result (List Statement) Refusal
adds found (Ok more) = Ok (found ++ more)
adds found (Err why) = Err why
