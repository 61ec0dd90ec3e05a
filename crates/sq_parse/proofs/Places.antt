-- Statements between semicolons, and how deep they are.
use Rattle.std.specs.Prelude.{◌≡◌, ◌≢◌, ℕ, zero, suc, ◌+◌, ◌-◌, ◌≤◌, ◌<◌, Bool, true, false, ◌&&◌, not, cond, if◌then◌else◌, nat_le, List, [], ◌∷◌, ◌++◌, length, take, drop, Some, None, Result, Ok, Err, MatchResult, IsErrAnd, refl}
use Rattle.std.proofs.Common.{sym, ap, subst, ◌∙◌, arith, append_assoc}
use Rattle.std.proofs.lemmas.Bool.{leb-true, le-leb}
use Rattle.std.proofs.lemmas.Grind.{common_steps}
use Rattle.std.specs.List.{prefix_len, position, position_or_len}
use Rattle.std.proofs.lemmas.List.{append-nil, length-drop, take_all}
use Rattle.sq_token.specs.declared.token.Token.{Token}
use Rattle.sq_token.specs.declared.token.TokenKind.{TokenKind}
use Rattle.sq_ast.specs.declared.statement.Statement.{Statement}
use Rattle.sq_ast.specs.Words as w
use Rattle.sq_ast.specs.Words.{Tokens, is_token}
use Rattle.sq_ast.specs.Spelling.{kinds}
use Rattle.sq_ast.specs.Refusal.{Refusal}
use Rattle.sq_ast.specs.Reading as r
use Rattle.sq_ast.specs.Reading.{pieces, onto_first, place, places, both, is_shallow, is_shallow_from}
use Rattle.sq_parse.specs.declared.fault.ParseFault.{ParseFault}
use Rattle.sq_parse.specs.declared.fault.ParseFault.TheVariants as faults
use Rattle.sq_parse.specs.Causes.{Faults, adds}

-- ---- depth

pub shallow_end : (left right : ℕ) (ts : Tokens) → ts ≡ [] → left ≤ 64 + right → is_shallow_from left right ts ≡ true
unfolding is_shallow_from
shallow_end left right [] e h = le-leb left (64 + right) h
shallow_end left right (t ∷ ts) e h = cc

and_false : (a b : Bool) → a ≡ false → (a && b) ≡ false
and_false a b h = rw h refl

above : (left right : ℕ) → 64 + right < left → nat_le left (64 + right) ≡ false
above left right h = at (nat_le left (64 + right)) refl
  where
    at : (b : Bool) → nat_le left (64 + right) ≡ b → b ≡ false
    at false was = refl
    at true was = let within = leb-true left (64 + right) was in absurd (omega arith)

pub shallow_not : (left right : ℕ) (ts : Tokens) → 64 + right < left → is_shallow_from left right ts ≡ false
unfolding is_shallow_from
shallow_not left right [] h = above left right h
shallow_not left right (t ∷ ts) h = and_false (nat_le left (64 + right)) _ (above left right h)

and_true : (a b : Bool) → a ≡ true → (a && b) ≡ b
and_true a b h = rw h refl

shallow_cons : (left right : ℕ) (t : TokenKind) (us : Tokens) → left ≤ 64 + right →
    is_shallow_from left right (t ∷ us) ≡ is_shallow_from (if is_token w.LEFT_PAREN t then suc left else left) (if is_token w.RIGHT_PAREN t then suc right else right) us
unfolding is_shallow_from
shallow_cons left right t us h = and_true (nat_le left (64 + right)) _ (le-leb left (64 + right) h)

pub shallow_on : (left right left_on right_on : ℕ) (t : TokenKind) (ts us : Tokens) (all : Bool) → left ≤ 64 + right → ts ≡ t ∷ us →
    left_on ≡ (if is_token w.LEFT_PAREN t then suc left else left) → right_on ≡ (if is_token w.RIGHT_PAREN t then suc right else right) →
    is_shallow_from left right ts ≡ all → is_shallow_from left_on right_on us ≡ all
shallow_on left right left_on right_on t ts us all h e a b keeps =
    rw (a, b) (sym (shallow_cons left right t us h) ∙ (ap (is_shallow_from left right) (sym e) ∙ keeps))

pub one_more : (n : ℕ) (b : Bool) (m : ℕ) → m ≡ (if b then suc n else n) → m ≤ n + 1
one_more n true m h = omega arith
one_more n false m h = omega arith

pub shallow_from : (ts : Tokens) → is_shallow_from 0 0 ts ≡ is_shallow ts
unfolding is_shallow
shallow_from ts = refl

-- ---- pieces

-- the place of the first semicolon
abbrev pub ends : Token → Bool
ends t = is_token w.SEMICOLON t.kind

pieces_onto : (t : TokenKind) (ts : Tokens) (b : Bool) → is_token w.SEMICOLON t ≡ b → pieces (t ∷ ts) ≡ (if b then [] ∷ pieces ts else onto_first t (pieces ts))
unfolding pieces
pieces_onto t ts b h = ap (λ (c : Bool). if c then [] ∷ pieces ts else onto_first t (pieces ts)) h

cut_by : (t : Token) (ts : List Token) (n : ℕ) (b : Bool) → ends t ≡ b →
    ((m : ℕ) → prefix_len (λ u. not (ends u)) ts ≡ m → m < length ts → pieces (kinds ts) ≡ kinds (take m ts) ∷ pieces (kinds (drop (suc m) ts))) →
    cond (not b) (1 + prefix_len (λ u. not (ends u)) ts) 0 ≡ n → n < length (t ∷ ts) → pieces (kinds (t ∷ ts)) ≡ kinds (take n (t ∷ ts)) ∷ pieces (kinds (drop (suc n) (t ∷ ts)))
cut_by t ts zero true was later e h = pieces_onto t.kind (kinds ts) true was
cut_by t ts (suc n) true was later e h = absurd (omega arith)
cut_by t ts zero false was later e h = absurd (omega arith)
cut_by t ts (suc n) false was later e h = pieces_onto t.kind (kinds ts) false was ∙ ap (onto_first t.kind) (later n (omega arith) (omega arith))

cut_len : (ts : List Token) (n : ℕ) → prefix_len (λ u. not (ends u)) ts ≡ n → n < length ts → pieces (kinds ts) ≡ kinds (take n ts) ∷ pieces (kinds (drop (suc n) ts))
cut_len [] n e h = absurd (omega arith)
cut_len (t ∷ ts) n e h = cut_by t ts n (ends t) refl (cut_len ts) e h

uncut_by : (t : Token) (ts : List Token) (b : Bool) → ends t ≡ b →
    (length ts ≤ prefix_len (λ u. not (ends u)) ts → pieces (kinds ts) ≡ kinds ts ∷ []) →
    length (t ∷ ts) ≤ cond (not b) (1 + prefix_len (λ u. not (ends u)) ts) 0 → pieces (kinds (t ∷ ts)) ≡ kinds (t ∷ ts) ∷ []
uncut_by t ts true was later h = absurd (omega arith)
uncut_by t ts false was later h = pieces_onto t.kind (kinds ts) false was ∙ ap (onto_first t.kind) (later (omega arith))

uncut_len : (ts : List Token) → length ts ≤ prefix_len (λ u. not (ends u)) ts → pieces (kinds ts) ≡ kinds ts ∷ []
unfolding pieces
uncut_len [] h = refl
uncut_len (t ∷ ts) h = uncut_by t ts (ends t) refl (uncut_len ts) h

pub cut_at : (ts : List Token) (n : ℕ) → position ends ts ≡ Some n → (n < length ts) × (pieces (kinds ts) ≡ kinds (take n ts) ∷ pieces (kinds (drop (suc n) ts)))
cut_at ts n e =
    let at : position_or_len ends ts ≡ n = grind (arith, common_steps) in
    let inside : n < length ts = grind (arith, common_steps) in
    (inside, cut_len ts n at inside)

pub cut_parts : (ts : List Token) (n : ℕ) → position ends ts ≡ Some n →
    pieces (kinds ts) ≡ kinds (take n ts) ∷ pieces (kinds (take (length ts - (n + 1)) (drop (n + 1) ts)))
cut_parts ts n e =
    let (inside, cut) = cut_at ts n e in
    let next : suc n ≡ n + 1 = omega arith in
    let all : take (length ts - (n + 1)) (drop (n + 1) ts) ≡ drop (n + 1) ts = take_all _ _ (simp length-drop (omega arith)) in
    cut ∙ ap (λ us. kinds (take n ts) ∷ pieces (kinds us)) (ap (λ k. drop k ts) next ∙ sym all)

pub uncut : (ts : List Token) → position ends ts ≡ None → pieces (kinds ts) ≡ kinds ts ∷ []
uncut ts e =
    let at : length ts ≤ position_or_len ends ts = grind (arith, common_steps) in
    uncut_len ts at

-- ---- places

pub no_tokens : (n : ℕ) (ts : Tokens) → ts ≡ [] → place n ts ≡ Ok []
unfolding place
no_tokens n [] e = refl
no_tokens n (t ∷ ts) e = cc

abbrev read : List Statement → Result (List Statement) Refusal
read found = Ok found

adds_both : (found grown : List Statement) (here later : Result (List Statement) Refusal) → adds found here ≡ Ok grown → adds grown later ≡ adds found (both here later)
adds_both found grown (Err why) later e = cc
adds_both found grown (Ok more) (Err why) e = refl
adds_both found grown (Ok more) (Ok rest) e =
    let same : grown ≡ found ++ more = cc in
    ap (λ (front : List Statement). read (front ++ rest)) same ∙ ap read (append_assoc found more rest)

places_cut : (n : ℕ) (ts piece behind : Tokens) → pieces ts ≡ piece ∷ pieces behind → places n (pieces ts) ≡ both (place n piece) (places (suc n) (pieces behind))
unfolding places
places_cut n ts piece behind e = ap (places n) e

places_last : (n : ℕ) (ts : Tokens) → pieces ts ≡ ts ∷ [] → places n (pieces ts) ≡ both (place n ts) (Ok [])
unfolding places
places_last n ts e = ap (places n) e

-- one place was read, and more follow
pub place_on : (n : ℕ) (found grown : List Statement) (ts piece behind : Tokens) (all : Result (List Statement) Refusal) → pieces ts ≡ piece ∷ pieces behind →
    adds found (places n (pieces ts)) ≡ all → adds found (place n piece) ≡ Ok grown → adds grown (places (suc n) (pieces behind)) ≡ all
place_on n found grown ts piece behind all e keeps here =
    adds_both found grown (place n piece) (places (suc n) (pieces behind)) here ∙ (ap (adds found) (sym (places_cut n ts piece behind e)) ∙ keeps)

-- the last one was read
pub place_last : (n : ℕ) (found grown : List Statement) (ts : Tokens) (all : Result (List Statement) Refusal) → pieces ts ≡ ts ∷ [] →
    adds found (places n (pieces ts)) ≡ all → adds found (place n ts) ≡ Ok grown → all ≡ Ok grown
place_last n found grown ts all e keeps here =
    sym keeps ∙ (ap (adds found) (places_last n ts e) ∙ (sym (adds_both found grown (place n ts) (Ok []) here) ∙ ap read (append-nil grown)))

faults_on : (fault : ParseFault) (found : List Statement) (here later all : Result (List Statement) Refusal) → adds found (both here later) ≡ all → Faults fault here → Faults fault all
faults_on faults.Memory found here later all keeps h = tt
faults_on (faults.TooDeep n) found here later all keeps h = sym keeps ∙ ap (λ o. adds found (both o later)) h
faults_on (faults.NotGrammar n) found here later all keeps h = sym keeps ∙ ap (λ o. adds found (both o later)) h

-- a place was refused
pub place_faults : (fault : ParseFault) (n : ℕ) (found : List Statement) (ts piece behind : Tokens) (all : Result (List Statement) Refusal) → pieces ts ≡ piece ∷ pieces behind →
    adds found (places n (pieces ts)) ≡ all → Faults fault (place n piece) → Faults fault all
place_faults fault n found ts piece behind all e keeps h =
    faults_on fault found (place n piece) (places (suc n) (pieces behind)) all (ap (adds found) (sym (places_cut n ts piece behind e)) ∙ keeps) h

pub last_faults : (fault : ParseFault) (n : ℕ) (found : List Statement) (ts : Tokens) (all : Result (List Statement) Refusal) → pieces ts ≡ ts ∷ [] →
    adds found (places n (pieces ts)) ≡ all → Faults fault (place n ts) → Faults fault all
last_faults fault n found ts all e keeps h = faults_on fault found (place n ts) (Ok []) all (ap (adds found) (sym (places_last n ts e)) ∙ keeps) h

pub places_start : (o : Result (List Statement) Refusal) → adds [] o ≡ o
places_start (Ok xs) = refl
places_start (Err why) = refl

pub program_is : (ts : Tokens) → r.program ts ≡ places 1 (pieces ts)
unfolding r.program
program_is ts = refl

-- what a `?` passes on
pub pass_on : {A : Type 0} (r : Result A ParseFault) (P : A → Type 0) (all : Result (List Statement) Refusal) (fault : ParseFault) (Q : ParseFault → Type 0) →
    IsErrAnd r Q → ((y : ParseFault) → Q y → y ≡ fault) → Faults fault all → MatchResult r P (λ f. Faults f all)
pass_on (Ok a) P all fault Q h same is = absurd h
pass_on (Err y) P all fault Q h same is = subst (λ f. Faults f all) (sym (same y h)) is

pub empty_kinds : (ts : List Token) → length ts ≡ 0 → kinds ts ≡ []
empty_kinds [] h = refl
empty_kinds (t ∷ ts) h = absurd (omega arith)

pub some_kinds : (ts : List Token) → 0 < length ts → kinds ts ≢ []
some_kinds [] h e = absurd (omega arith)
some_kinds (t ∷ ts) h e = cc
