-- What `clap` reads of this command, and what a text says as a number.
use Rattle.std.proofs.Common.{◌≡◌, ℕ, Bool, true, false, refl, List, map, ap₂}
use Rattle.std.proofs.lemmas.List.{map-id}
use Rattle.clap.specs.Values.{IsUnsignedIn}
use Rattle.clap.specs.Words.{App, Text, fault_of, is_simple, matches_of}
use Rattle.clap.specs.Faults.{is_simple_and_free}
use Rattle.clap.specs.ValueTests.{is_unsigned_in}
use Rattle.clap.specs.declared.builder.value_parser.ValueParser.TheVariants as parser
use Rattle.clap.proofs.ValueTestLemmas.{Accepts-accepts, accepts-Accepts}
use Rattle.sq_words.specs.Words.{Names, command, number_of, number_told}

-- the command is one of which clap says the matches and the faults
pub command_is_free : (names : Names) → is_simple_and_free (command names) ≡ true
command_is_free names = refl

pub command_is_simple : (names : Names) → is_simple (command names) ≡ true
command_is_simple names = refl

pub same_fault : (a b : App) (words : List Text) → a ≡ b → fault_of a (map (λ (s : Text). s) words) ≡ fault_of b words
same_fault a b words e = ap₂ fault_of e (map-id words)

pub same_matches : (a b : App) (words : List Text) → a ≡ b → matches_of a (map (λ (s : Text). s) words) ≡ matches_of b words
same_matches a b words e = ap₂ matches_of e (map-id words)

pub told_in : (least most other : ℕ) (t : Text) → IsUnsignedIn least most t → number_told least most other t ≡ number_of t
told_in least most other t h = rw (Accepts-accepts false (parser.Unsigned least most) t h) refl

pub told_out : (least most other : ℕ) (t : Text) → (IsUnsignedIn least most t → ⊥) → number_told least most other t ≡ other
told_out least most other t refuses = go (is_unsigned_in least most t) refl
  where
    go : (b : Bool) → is_unsigned_in least most t ≡ b → number_told least most other t ≡ other
    go true e = absurd (refuses (accepts-Accepts false (parser.Unsigned least most) t e))
    go false e = rw e refl
