-- The text of the program is read: its tokens, and the statements that they spell.
use Rattle.std.proofs.Common.{◌≡◌, ℕ, ◌≤◌, Bool, true, List, [], length, Option, Some, None, refl, arith}
use Rattle.std.specs.Prelude.{nat_lt}
use Rattle.std.specs.List.{list_all}
use Rattle.std.specs.Str.{IsUtf8}
use Rattle.std.specs.declared.result.Result.TheVariants.{Ok}
use Rattle.std.proofs.lemmas.Bool.{ltb-true}
use Rattle.std.proofs.lemmas.List.Sums.{AllPass-from_list_all}
use Rattle.std.proofs.lemmas.Str.{IsUtf8-from_ascii}
use Rattle.std.proofs.lemmas.Str.Ascii.{IsAscii-from_all}
use Rattle.sq_token.specs.Reading.{Tokens}
use Rattle.sq_token.specs.declared.token.Token.{Token}
use Rattle.sq_ast.specs.Parser as p
use Rattle.sq_ast.specs.Reading as r
use Rattle.sq_ast.specs.Spelling.{Spells, kinds}
use Rattle.sq_ast.specs.Trees as trees
use Rattle.sq_ast.specs.Words as w
use Rattle.sq_ast.proofs.Programs.{program_sound}
use Rattle.sq_meant.specs.Text.{program_text}
use Rattle.sq_meant.proofs.Lexing.{lexed, lexed_tokens}
use Rattle.sq_meant.proofs.Statements.{statements}

-- ---- bytes
pub short : length program_text ≤ 1000
short = let bytes : length program_text ≡ 514 = refl in omega arith

abbrev is_ascii : ℕ → Bool
is_ascii b = nat_lt b 128

pub utf8 : IsUtf8 program_text
utf8 =
    let all : list_all is_ascii program_text ≡ true = refl in
    IsUtf8-from_ascii program_text (IsAscii-from_all program_text (λ i d low. ltb-true _ 128 (AllPass-from_list_all is_ascii program_text all i d low)))

-- ---- tokens
abbrev or_none : Option (List Token) → List Token
or_none None = []
or_none (Some ts) = ts

abbrev pub tokens : List Token
tokens = or_none (lexed 514 0 program_text)

pub tokens_are : Tokens program_text tokens
tokens_are = lexed_tokens 514 program_text tokens refl

-- ---- statements

-- what a reading computes with
rules : Unit {0}
unfolding w.is_reserved w.same_symbol trees.sum_of trees.product_of trees.any_of trees.all_of trees.chain_of trees.intersect_of p.sees p.after p.many_for p.many r.name_of r.function_of r.comparison_of r.type_of r.name r.alias r.maybe_alias r.col_ref r.count_all r.argument r.prim r.sign r.next_factor r.product r.next_term r.sum r.null_test r.after_operand r.nested_cond r.one_test r.neg r.next_and r.conj r.next_or r.disj r.set_op r.select r.star_of r.next_col_ref r.group_by r.computed_item r.select_item r.next_item r.from_item r.next_joined r.block r.operand r.next_operand r.intersection r.next_step r.query_chain r.level r.nullness r.column_def r.next_column_def r.table r.flavour r.view r.create r.statement r.is_shallow_from r.is_shallow r.pieces r.place r.places r.program
rules = tt

read : r.program (kinds tokens) ≡ Ok statements
unfolding rules
read = refl

pub spelled : Spells tokens statements
spelled = program_sound (kinds tokens) statements read
