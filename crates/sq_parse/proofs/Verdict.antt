-- What was read, against what is spelled and what is refused.
use Rattle.std.specs.Prelude.{◌≡◌, ◌≤◌, ◌*◌, ◌⊎◌, List, length, Vec, Result, Ok, Err, MatchResult, IfOk, IfErr, IsErrAnd, refl}
use Rattle.std.proofs.Common.{ap, inl, inr}
use Rattle.std.specs.declared.alloc.Global.{Global}
use Rattle.sq_token.specs.declared.token.Token.{Token}
use Rattle.sq_ast.specs.declared.statement.Statement.{Statement}
use Rattle.sq_ast.specs.Spelling.{kinds, Spells}
use Rattle.sq_ast.specs.Refusal.{Refusal, TooDeep, NotGrammar, Refuses}
use Rattle.sq_ast.specs.Reading as r
use Rattle.sq_ast.specs.Sources.{program_sources}
use Rattle.sq_ast.proofs.Programs.{program_complete, program_sound, program_refused, program_refuses}
use Rattle.sq_ast.proofs.SourceLemmas.{few_sources}
use Rattle.sq_parse.specs.declared.fault.ParseFault.{ParseFault}
use Rattle.sq_parse.specs.declared.fault.ParseFault.TheVariants as faults
use Rattle.sq_parse.specs.Causes.{HasCause, fault_of, Faults}

abbrev Read : List Token → Result (Vec Statement Global) ParseFault → Type 0
Read ts answer = MatchResult answer (λ found. r.program (kinds ts) ≡ Ok found.items) (λ fault. Faults fault (r.program (kinds ts)))

pub spelled : (ts : List Token) (answer : Result (Vec Statement Global) ParseFault) → Read ts answer → IfOk answer (λ found. Spells ts found.items)
spelled ts (Ok found) h = program_sound (kinds ts) found.items h
spelled ts (Err fault) h = tt

pub few : (ts : List Token) (answer : Result (Vec Statement Global) ParseFault) → Read ts answer → IfOk answer (λ found. 2 * program_sources found.items ≤ length ts)
few ts (Ok found) h = few_sources ts found.items (program_sound (kinds ts) found.items h)
few ts (Err fault) h = tt

only_memory : (ts : List Token) (list : List Statement) (fault : ParseFault) → Spells ts list → Faults fault (r.program (kinds ts)) → fault ≡ faults.Memory
only_memory ts list faults.Memory g h = refl
only_memory ts list (faults.TooDeep n) g h = let read = program_complete (kinds ts) list g in cc
only_memory ts list (faults.NotGrammar n) g h = let read = program_complete (kinds ts) list g in cc

pub only_list : (ts : List Token) (answer : Result (Vec Statement Global) ParseFault) (list : List Statement) → Read ts answer → Spells ts list →
    MatchResult answer (λ found. found.items ≡ list) (λ fault. fault ≡ faults.Memory)
only_list ts (Ok found) list h g = let read = program_complete (kinds ts) list g in cc
only_list ts (Err fault) list h g = only_memory ts list fault g h

cause : (ts : List Token) (fault : ParseFault) → Faults fault (r.program (kinds ts)) → HasCause ts fault
cause ts faults.Memory h = tt
cause ts (faults.TooDeep n) h = program_refuses (kinds ts) (TooDeep n) h
cause ts (faults.NotGrammar n) h = program_refuses (kinds ts) (NotGrammar n) h

pub refused : (ts : List Token) (answer : Result (Vec Statement Global) ParseFault) → Read ts answer → IfErr answer (λ fault. HasCause ts fault)
refused ts (Ok found) h = tt
refused ts (Err fault) h = cause ts fault h

first_cause : (ts : List Token) (why : Refusal) (fault : ParseFault) → Refuses ts why → Faults fault (r.program (kinds ts)) → (fault ≡ faults.Memory) ⊎ (fault ≡ fault_of why)
first_cause ts why faults.Memory g h = inl refl
first_cause ts why (faults.TooDeep n) g h =
    let read = program_refused (kinds ts) why g in let same : TooDeep n ≡ why = cc in inr (ap fault_of same)
first_cause ts why (faults.NotGrammar n) g h =
    let read = program_refused (kinds ts) why g in let same : NotGrammar n ≡ why = cc in inr (ap fault_of same)

pub first : (ts : List Token) (answer : Result (Vec Statement Global) ParseFault) (why : Refusal) → Read ts answer → Refuses ts why →
    IsErrAnd answer (λ fault. (fault ≡ faults.Memory) ⊎ (fault ≡ fault_of why))
first ts (Ok found) why h g = let read = program_refused (kinds ts) why g in cc
first ts (Err fault) why h g = first_cause ts why fault g h
