-- What the words of a command line choose, by the definitions of `clap`.
--     modes                  the names of the modes
--     command names          the command: a mode, which is one of the names, and three options with numbers
--     choice_of rows         what the matches of a parse choose
--     Chooses words choice   `clap` takes the words for this command, and their matches choose this
--     IsRefused words        `clap` has a fault of this command for the words
-- The names of the modes are any list in memory that holds these four texts.
use Rattle.std.specs.Prelude.{◌≡◌, ◌≢◌, ℕ, true, List, [], ◌∷◌, map, codes, Option, Some, None, option_map, if◌then◌else◌}
use Rattle.std.specs.Borrow.{Bor}
use Rattle.std.specs.Str.{bytes_eq}
use Rattle.std.specs.Str.Parse.{digits_value, without_leading_plus}
use Rattle.clap.specs.Words.{App, Row, Rule, Text, fault_of, first_of, matches_of, new_app, new_rule, with_rule}
use Rattle.clap.specs.Simple.{on_top}
use Rattle.clap.specs.ValueTests.{is_unsigned_in}
use Rattle.clap.specs.declared.builder.action.ArgAction.TheVariants.{Set}
use Rattle.clap.specs.declared.builder.value_parser.ValueParser.TheVariants as parser
use Rattle.sq_words.specs.declared.choice.Choice.{Choice}
use Rattle.sq_words.specs.declared.choice.Mode.{Mode}
use Rattle.sq_words.specs.declared.choice.Mode.TheVariants.{Run, Check, Explain, Sample}

-- ---- the command
abbrev pub Names : Type 0
Names = Bor (List (Bor Text))

abbrev pub modes : List Text
modes = codes "run" ∷ codes "check" ∷ codes "explain" ∷ codes "sample" ∷ []

abbrev pub mode_rule : Names → Rule
mode_rule names = record (new_rule (codes "mode")) { action = Some Set; parser = Some (parser.Names names); defaults = codes "run" ∷ []; value_names = 1 }

-- an option of this name, with a number from `least` to `most`
abbrev pub number_rule : Text → ℕ → ℕ → Text → Rule
number_rule name least most standard =
    record (new_rule name) { long = Some name; action = Some Set; parser = Some (parser.Unsigned least most); defaults = standard ∷ []; value_names = 1 }

abbrev pub workers_rule : Rule
workers_rule = number_rule (codes "workers") 1 64 (codes "1")

abbrev pub seed_rule : Rule
seed_rule = number_rule (codes "seed") 0 4294967295 (codes "1")

abbrev pub ticks_rule : Rule
ticks_rule = number_rule (codes "ticks") 1 1000000 (codes "1000")

abbrev pub bare : App
bare = on_top (λ s. record s { no_binary_name = true; disable_help_flag = true; disable_version_flag = true }) (new_app (codes "keltzumba"))

abbrev pub command : Names → App
command names = with_rule (with_rule (with_rule (with_rule bare (mode_rule names)) workers_rule) seed_rule) ticks_rule

-- ---- what matches choose
abbrev pub name_of_mode : Text → Mode
name_of_mode t = if bytes_eq t (codes "check") then Check
    else (if bytes_eq t (codes "explain") then Explain
    else (if bytes_eq t (codes "sample") then Sample else Run))

abbrev pub mode_named : Option Text → Mode
mode_named None = Run
mode_named (Some t) = name_of_mode t

-- the number that a text writes in decimal digits
abbrev pub number_of : Text → ℕ
number_of t = digits_value 10 (without_leading_plus t)

abbrev pub number_told : ℕ → ℕ → ℕ → Text → ℕ
number_told least most other t = if is_unsigned_in least most t then number_of t else other

abbrev pub number_in : ℕ → ℕ → ℕ → Option Text → ℕ
number_in least most other None = other
number_in least most other (Some t) = number_told least most other t

-- the text behind a reference, if there is one
abbrev pub text_in : Option (Bor Text) → Option Text
text_in = option_map (λ s. s.now)

abbrev pub choice_of : List Row → Choice
choice_of rows = record {
  mode = mode_named (first_of (codes "mode") rows);
  workers = number_in 1 64 1 (first_of (codes "workers") rows);
  seed = number_in 0 4294967295 1 (first_of (codes "seed") rows);
  ticks = number_in 1 1000000 1000 (first_of (codes "ticks") rows);
}

-- ---- what the program makes of words
pub record Chooses (words : List Text) (choice : Choice) : Type 0 where
  pub names : Names
  pub of_modes : map (λ name. name.now) names.now ≡ modes
  pub taken : fault_of (command names) words ≡ []
  pub chosen : choice ≡ choice_of (matches_of (command names) words)

pub record IsRefused (words : List Text) : Type 0 where
  pub names : Names
  pub of_modes : map (λ name. name.now) names.now ≡ modes
  pub faulty : fault_of (command names) words ≢ []
