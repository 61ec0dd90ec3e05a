use Rattle.std.proofs.Common.{◌++◌, ◌∷◌, [], ℕ, List, Some, None, is_ok, ap, ◌∙◌, rules}
use Rattle.std.specs.String.{string_bytes}
use Rattle.std.proofs.ResultArms.{chosen}
use Rattle.std.proofs.lemmas.Str.Pattern.{split_parts, strip_prefix_char}
use Rattle.sq_token.proofs.Quotes.{quote_goes_on, quote_ends, quote_open}
use Rattle.sq_token.proofs.quoted.quoted.Goals as goal

pub returns-clause-cases : goal.returns-clause-cases
returns-clause-cases c =
    quote_open c.args.quote c.args.text.now (string_bytes c.loop-piece.body) c.loop-piece.rest.now c.loop-piece.invariant.1
    (split_parts c.args.quote c.loop-piece.rest.now None c.in_default.ensures.cases c.requires)

pub returns-in-None-clause-cases : goal.returns-in-None-clause-cases
returns-in-None-clause-cases c =
    let split = split_parts c.args.quote c.loop-piece.rest.now (Some (c.in-Some.piece, c.in-Some.after)) c.in-Some.ensures.cases c.requires in
    let pushed = chosen _ _ _ _ c.push_str.ensures.bytes (ap is_ok c.in_ok-push_str.was) in
    let said = c.in_ok-said-in-None.ensures.equal ∙ c.as_str.ensures.value ∙ pushed in
    rw said (quote_ends c.args.quote c.args.text.now (string_bytes c.loop-piece.body) c.loop-piece.rest.now c.in-Some.piece.now c.in-Some.after.now c.loop-piece.invariant.1 split.0 split.1
    (strip_prefix_char c.args.quote c.in-Some.after.now None c.in-None.ensures.cases c.requires))

pub loop-piece-preserved : goal.loop-piece-preserved
loop-piece-preserved c =
    let split = split_parts c.args.quote c.loop-piece.rest.now (Some (c.in-Some.piece, c.in-Some.after)) c.in-Some.ensures.cases c.requires in
    let pushed = chosen _ _ _ _ c.push_str.ensures.bytes (ap is_ok c.in_ok-push_str.was) in
    let stripped = strip_prefix_char c.args.quote c.in-Some.after.now (Some c.in-Some-strip_prefix.more) c.in-Some-strip_prefix.ensures.cases c.requires in
    let put = chosen _ _ _ _ c.push.ensures.bytes (ap is_ok c.in_ok-push-in-Some-strip_prefix.was) in
    let one = c.push.ensures.ascii c.requires in
    let body = put ∙ ap (λ (q : List ℕ). string_bytes c.push_str.new.self ++ q) one ∙ ap (λ (b : List ℕ). b ++ c.args.quote ∷ []) pushed in
    (search rules, rw body (quote_goes_on c.args.quote c.args.text.now (string_bytes c.loop-piece.body) c.loop-piece.rest.now c.in-Some.piece.now c.in-Some.after.now c.in-Some-strip_prefix.more.now c.loop-piece.invariant.1 split.0 split.1 stripped))
