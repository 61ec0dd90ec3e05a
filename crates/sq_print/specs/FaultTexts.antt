-- The line that tells of a program's fault.
use Rattle.std.specs.Prelude.{ℕ, List, [], ◌++◌, codes, decimal}
use Rattle.json.specs.Print.{quoted}
use Rattle.sq_token.specs.declared.fault.LexFault.TheVariants as lex
use Rattle.sq_parse.specs.declared.fault.ParseFault.TheVariants as parse
use Rattle.sq_print.specs.declared.program_fault.ProgramFault.{ProgramFault}
use Rattle.sq_print.specs.declared.program_fault.ProgramFault.TheVariants.{TextTooLong, NoEnd, NotUtf8, Lex, Parse, Check, Range}
use Rattle.sq_typed.specs.declared.check_kind.CheckKind.{CheckKind}
use Rattle.sq_typed.specs.declared.check_kind.CheckKind.TheVariants as check

abbrev pub plain_fault : List ℕ → List ℕ
plain_fault cause = codes "{\"program\":\"" ++ (cause ++ codes "\"}\n")

-- a fault with a number, which stands in this member
abbrev pub numbered_fault : List ℕ → List ℕ → ℕ → List ℕ
numbered_fault cause name number = codes "{\"program\":\"" ++ (cause ++ (codes "\",\"" ++ (name ++ (codes "\":" ++ (decimal number ++ codes "}\n")))))

-- a fault at a place of the text, which is a number of bytes
abbrev pub placed_fault : List ℕ → ℕ → List ℕ
placed_fault cause at = numbered_fault cause (codes "at") at

-- a fault of a statement
abbrev pub statement_fault : List ℕ → ℕ → List ℕ
statement_fault cause number = numbered_fault cause (codes "statement") number

-- what a kind of fault of a statement is called
abbrev pub kind_text : CheckKind → List ℕ
kind_text check.DuplicateName = codes "duplicate name"
kind_text check.UnknownRelation = codes "unknown relation"
kind_text check.UnnamedColumn = codes "unnamed column"
kind_text check.DuplicateColumn = codes "duplicate column"
kind_text check.UnknownColumn = codes "unknown column"
kind_text check.AmbiguousColumn = codes "ambiguous column"
kind_text check.NestedAggregate = codes "nested aggregate"
kind_text check.NotGrouped = codes "not grouped"
kind_text check.ColumnCount = codes "column count"
kind_text check.TypeMismatch = codes "type mismatch"
kind_text check.TooWide = codes "too wide"
kind_text check.Limit = codes "limit"

-- running out of memory is no fault of a program, and has no line here
abbrev pub told_fault : ProgramFault → List ℕ
told_fault TextTooLong = plain_fault (codes "text too long")
told_fault NoEnd = plain_fault (codes "no end line")
told_fault NotUtf8 = plain_fault (codes "not UTF-8")
told_fault (Lex (lex.BadByte at)) = placed_fault (codes "bad byte") at
told_fault (Lex (lex.OpenText at)) = placed_fault (codes "open text") at
told_fault (Lex (lex.OpenName at)) = placed_fault (codes "open name") at
told_fault (Lex (lex.OpenComment at)) = placed_fault (codes "open comment") at
told_fault (Lex (lex.LongNumber at)) = placed_fault (codes "long number") at
told_fault (Lex lex.Memory) = []
told_fault (Parse (parse.NotGrammar number)) = statement_fault (codes "not grammar") number
told_fault (Parse (parse.TooDeep number)) = statement_fault (codes "too deep") number
told_fault (Parse parse.Memory) = []
told_fault (Check number kind) = statement_fault (kind_text kind) number
told_fault (Range view) = codes "{\"program\":\"range\",\"view\":" ++ (quoted view ++ codes "}\n")
