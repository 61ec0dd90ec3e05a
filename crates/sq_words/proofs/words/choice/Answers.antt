use Rattle.std.proofs.Common.{◌≡◌, ◌∙◌, ap, codes}
use Rattle.clap.specs.Words.{first_of, found_of, rows_of}
use Rattle.clap.proofs.WalkLemmas.{first_value-rows}
use Rattle.sq_words.specs.Words.{mode_named, number_in}
use Rattle.sq_words.proofs.words.choice.Goals as goal

pub returns : goal.returns
returns c =
    let found = found_of c.args.matches.now in
    let mode_is : c.mode.result ≡ mode_named (first_of (codes "mode") (rows_of found)) = c.mode.ensures ∙ ap mode_named (c.get_str.ensures ∙ first_value-rows found (codes "mode")) in
    let workers_is : c.number.result ≡ number_in 1 64 1 (first_of (codes "workers") (rows_of found)) = c.number.ensures ∙ ap (number_in 1 64 1) (c.get_str-2.ensures ∙ first_value-rows found (codes "workers")) in
    let seed_is : c.number-2.result ≡ number_in 0 4294967295 1 (first_of (codes "seed") (rows_of found)) = c.number-2.ensures ∙ ap (number_in 0 4294967295 1) (c.get_str-3.ensures ∙ first_value-rows found (codes "seed")) in
    let ticks_is : c.number-3.result ≡ number_in 1 1000000 1000 (first_of (codes "ticks") (rows_of found)) = c.number-3.ensures ∙ ap (number_in 1 1000000 1000) (c.get_str-4.ensures ∙ first_value-rows found (codes "ticks")) in
    λ i. record { mode = mode_is i; workers = workers_is i; seed = seed_is i; ticks = ticks_is i }
