-- A list of tokens spells a list of statements exactly where that list is read from it.
use Rattle.std.specs.Prelude.{◌≡◌, ◌≢◌, ◌↔◌, ℕ, zero, suc, ◌+◌, ◌≤◌, ◌<◌, Bool, true, false, ◌&&◌, cond, if◌then◌else◌, nat_le, List, [], ◌∷◌, ◌++◌, take, Option, Some, None, Result, Ok, Err, ◌⊎◌, refl}
use Rattle.std.specs.List.{AllByRecursion}
use Rattle.std.proofs.Common.{sym, ap, subst, ◌∙◌, arith, inl, inr}
use Rattle.std.proofs.lemmas.Bool.{leb-true, leb-false, le-leb}
use Rattle.std.proofs.lemmas.List.{append-nil}
use Rattle.std.proofs.lemmas.List.Sums.{sum_by-cons}
use Rattle.sq_token.specs.declared.token.TokenKind.{TokenKind}
use Rattle.sq_ast.specs.declared.statement.Statement.{Statement}
use Rattle.sq_ast.specs.declared.statement.Body.{Body}
use Rattle.sq_ast.specs.Words as w
use Rattle.sq_ast.specs.Words.{Tokens, is_token}
use Rattle.sq_ast.specs.Spelling as s
use Rattle.sq_ast.specs.Spelling.{SpellsBody, IsShallow, SpellsPlace, SpellsFrom, SpellsProgram}
use Rattle.sq_ast.specs.Refusal.{Refusal, TooDeep, NotGrammar, IsTooDeep, HasNoSemicolon, RefusesPlace, too_deep, not_grammar, RefusesFrom, last_refused, refused_here, refused_later, RefusesProgram}
use Rattle.sq_ast.specs.Reading as r
use Rattle.sq_ast.specs.Reading.{pieces, onto_first, numbered, place, places, both, is_shallow, is_shallow_from}
use Rattle.sq_ast.proofs.TokenLemmas.{is_same}
use Rattle.sq_ast.proofs.Taken.{NotSemicolon, Taken, kept, took, body_taken}
use Rattle.sq_ast.proofs.Soundness.{statement_sound}
use Rattle.sq_ast.proofs.Completeness.{statement_complete}

-- ---- depth

-- the depth of every front, behind so many parentheses of either kind
abbrev IsShallowBehind : ℕ → ℕ → Tokens → Type 0
IsShallowBehind left right ts = (n : ℕ) → left + w.opened (take n ts) ≤ 64 + (right + w.closed (take n ts))

opened_cons : (t : TokenKind) (ts : Tokens) → w.opened (t ∷ ts) ≡ cond (is_token w.LEFT_PAREN t) 1 0 + w.opened ts
unfolding w.opened
opened_cons t ts = sum_by-cons (λ u. cond (is_token w.LEFT_PAREN u) 1 0) t ts

closed_cons : (t : TokenKind) (ts : Tokens) → w.closed (t ∷ ts) ≡ cond (is_token w.RIGHT_PAREN t) 1 0 + w.closed ts
unfolding w.closed
closed_cons t ts = sum_by-cons (λ u. cond (is_token w.RIGHT_PAREN u) 1 0) t ts

none_opened : w.opened [] ≡ 0
unfolding w.opened
none_opened = refl

none_closed : w.closed [] ≡ 0
unfolding w.closed
none_closed = refl

both_true : (a b : Bool) → (a && b) ≡ true → (a ≡ true) × (b ≡ true)
both_true true b h = (refl, h)
both_true false b h = cc

true_both : (a b : Bool) → a ≡ true → b ≡ true → (a && b) ≡ true
true_both a b h g = rw h g

count_on : (a b : Bool) (left right o c : ℕ) → (if a then suc left else left) + o ≤ 64 + ((if b then suc right else right) + c) → left + (cond a 1 0 + o) ≤ 64 + (right + (cond b 1 0 + c))
count_on true true left right o c h = omega arith
count_on true false left right o c h = omega arith
count_on false true left right o c h = omega arith
count_on false false left right o c h = omega arith

count_back : (a b : Bool) (left right o c : ℕ) → left + (cond a 1 0 + o) ≤ 64 + (right + (cond b 1 0 + c)) → (if a then suc left else left) + o ≤ 64 + ((if b then suc right else right) + c)
count_back true true left right o c h = omega arith
count_back true false left right o c h = omega arith
count_back false true left right o c h = omega arith
count_back false false left right o c h = omega arith

deep_on : (a b : Bool) (left right o c : ℕ) → 64 + ((if b then suc right else right) + c) < (if a then suc left else left) + o → 64 + (right + (cond b 1 0 + c)) < left + (cond a 1 0 + o)
deep_on true true left right o c h = omega arith
deep_on true false left right o c h = omega arith
deep_on false true left right o c h = omega arith
deep_on false false left right o c h = omega arith

empty_front : (left right : ℕ) → left ≤ 64 + right → left + w.opened [] ≤ 64 + (right + w.closed [])
empty_front left right h = rw (none_opened, none_closed) (omega arith)

empty_back : (left right : ℕ) → left + w.opened [] ≤ 64 + (right + w.closed []) → left ≤ 64 + right
empty_back left right h = let a = none_opened in let b = none_closed in omega arith

shallow_fronts : (ts : Tokens) (left right : ℕ) → is_shallow_from left right ts ≡ true → IsShallowBehind left right ts
unfolding is_shallow_from
shallow_fronts [] left right h zero = empty_front left right (leb-true left (64 + right) h)
shallow_fronts [] left right h (suc n) = empty_front left right (leb-true left (64 + right) h)
shallow_fronts (t ∷ ts) left right h zero = empty_front left right (leb-true left (64 + right) (both_true _ _ h).0)
shallow_fronts (t ∷ ts) left right h (suc n) =
    rw (opened_cons t (take n ts), closed_cons t (take n ts))
    (count_on (is_token w.LEFT_PAREN t) (is_token w.RIGHT_PAREN t) left right (w.opened (take n ts)) (w.closed (take n ts)) (shallow_fronts ts _ _ (both_true _ _ h).1 n))

fronts_shallow : (ts : Tokens) (left right : ℕ) → IsShallowBehind left right ts → is_shallow_from left right ts ≡ true
unfolding is_shallow_from
fronts_shallow [] left right h = le-leb left (64 + right) (empty_back left right (h zero))
fronts_shallow (t ∷ ts) left right h =
    true_both _ _ (le-leb left (64 + right) (empty_back left right (h zero)))
    (fronts_shallow ts _ _ (λ n. count_back (is_token w.LEFT_PAREN t) (is_token w.RIGHT_PAREN t) left right (w.opened (take n ts)) (w.closed (take n ts))
    (rw (opened_cons t (take n ts), closed_cons t (take n ts)) at (h (suc n)))))

-- the test of the depth is a test of every front
pub shallow_test : (ts : Tokens) → (is_shallow ts ≡ true) ↔ IsShallow ts
unfolding is_shallow
shallow_test ts = (
  λ h n. let behind_none = shallow_fronts ts 0 0 h n in omega (arith, behind_none),
  λ h. fronts_shallow ts 0 0 (λ n. let front = h n in omega (arith, front)),
)

deeper : (left right : ℕ) (ts : Tokens) → Type 0
deeper left right ts = (n : ℕ) × (64 + (right + w.closed (take n ts)) < left + w.opened (take n ts))

deep_now : (left right : ℕ) (ts : Tokens) → nat_le left (64 + right) ≡ false → 64 + (right + w.closed []) < left + w.opened []
deep_now left right ts h = let above = leb-false left (64 + right) h in rw (none_opened, none_closed) (omega arith)

deep_front_at : (t : TokenKind) (ts : Tokens) (left right : ℕ) (b c : Bool) → nat_le left (64 + right) ≡ b →
    (c ≡ false → deeper (if is_token w.LEFT_PAREN t then suc left else left) (if is_token w.RIGHT_PAREN t then suc right else right) ts) →
    (b && c) ≡ false → deeper left right (t ∷ ts)
unfolding deeper
deep_front_at t ts left right false c was later e = (0, deep_now left right (t ∷ ts) was)
deep_front_at t ts left right true c was later e =
    let (n, deep) = later e in
    (suc n, rw (opened_cons t (take n ts), closed_cons t (take n ts)) (deep_on (is_token w.LEFT_PAREN t) (is_token w.RIGHT_PAREN t) left right (w.opened (take n ts)) (w.closed (take n ts)) deep))

deep_front : (ts : Tokens) (left right : ℕ) → is_shallow_from left right ts ≡ false → deeper left right ts
unfolding is_shallow_from deeper
deep_front [] left right h = (0, deep_now left right [] h)
deep_front (t ∷ ts) left right h = deep_front_at t ts left right (nat_le left (64 + right)) _ refl (deep_front ts _ _) h

pub too_deep_test : (ts : Tokens) → is_shallow ts ≡ false → IsTooDeep ts
unfolding is_shallow deeper
too_deep_test ts h = let (n, deep) = deep_front ts 0 0 h in (n, omega (arith, deep))

not_shallow_at : (ts : Tokens) → IsTooDeep ts → (b : Bool) → is_shallow ts ≡ b → b ≡ false
not_shallow_at ts (n, deep) false was = refl
not_shallow_at ts (n, deep) true was = let shallow = (shallow_test ts).0 was n in absurd (omega (arith, shallow, deep))

pub not_shallow : (ts : Tokens) → IsTooDeep ts → is_shallow ts ≡ false
not_shallow ts deep = not_shallow_at ts deep (is_shallow ts) refl

-- ---- pieces

-- pieces with semicolons between them
pub separated : List Tokens → Tokens
separated [] = []
separated (ts ∷ []) = ts
separated (ts ∷ us ∷ more) = ts ++ (w.SEMICOLON ∷ separated (us ∷ more))

plain_token : (t : TokenKind) → NotSemicolon t → t ≢ w.SEMICOLON
plain_token t h e = subst NotSemicolon e h

pub all_plain : {ts rest : Tokens} → Taken ts rest → HasNoSemicolon rest → HasNoSemicolon ts
all_plain kept h = h
all_plain (took {t} g taken) h = (plain_token t g, all_plain taken h)

not_semicolon_at : (t : TokenKind) → t ≢ w.SEMICOLON → (b : Bool) → is_token w.SEMICOLON t ≡ b → b ≡ false
not_semicolon_at t h false was = refl
not_semicolon_at t h true was = absurd (h (is_same w.SEMICOLON t was))

not_semicolon : (t : TokenKind) → t ≢ w.SEMICOLON → is_token w.SEMICOLON t ≡ false
not_semicolon t h = not_semicolon_at t h (is_token w.SEMICOLON t) refl

is_semicolon : is_token w.SEMICOLON w.SEMICOLON ≡ true
unfolding w.same_symbol
is_semicolon = refl

pub pieces_more : (ts rest : Tokens) → HasNoSemicolon ts → pieces (ts ++ (w.SEMICOLON ∷ rest)) ≡ ts ∷ pieces rest
unfolding pieces
pieces_more [] rest h = ap (λ b. if b then [] ∷ pieces rest else onto_first w.SEMICOLON (pieces rest)) is_semicolon
pieces_more (t ∷ ts) rest h =
    ap (λ b. if b then [] ∷ pieces (ts ++ (w.SEMICOLON ∷ rest)) else onto_first t (pieces (ts ++ (w.SEMICOLON ∷ rest)))) (not_semicolon t h.0)
    ∙ ap (onto_first t) (pieces_more ts rest h.1)

pub pieces_last : (ts : Tokens) → HasNoSemicolon ts → pieces ts ≡ ts ∷ []
unfolding pieces
pieces_last [] h = refl
pieces_last (t ∷ ts) h = ap (λ b. if b then [] ∷ pieces ts else onto_first t (pieces ts)) (not_semicolon t h.0) ∙ ap (onto_first t) (pieces_last ts h.1)

other_token : (t : TokenKind) → is_token w.SEMICOLON t ≡ false → t ≢ w.SEMICOLON
other_token t was e = let here = is_semicolon in let same : is_token w.SEMICOLON t ≡ is_token w.SEMICOLON w.SEMICOLON = ap (λ u. is_token w.SEMICOLON u) e in cc

onto_plain : (t : TokenKind) (ps : List Tokens) → t ≢ w.SEMICOLON → AllByRecursion HasNoSemicolon ps → AllByRecursion HasNoSemicolon (onto_first t ps)
onto_plain t [] h all = ((h, tt), tt)
onto_plain t (ts ∷ more) h all = ((h, all.0), all.1)

pieces_plain_by : (t : TokenKind) (ps : List Tokens) (b : Bool) → is_token w.SEMICOLON t ≡ b → AllByRecursion HasNoSemicolon ps →
    AllByRecursion HasNoSemicolon (if b then [] ∷ ps else onto_first t ps)
pieces_plain_by t ps true was all = (tt, all)
pieces_plain_by t ps false was all = onto_plain t ps (other_token t was) all

-- no piece has a semicolon
pub pieces_plain : (ts : Tokens) → AllByRecursion HasNoSemicolon (pieces ts)
unfolding pieces
pieces_plain [] = (tt, tt)
pieces_plain (t ∷ ts) = pieces_plain_by t (pieces ts) (is_token w.SEMICOLON t) refl (pieces_plain ts)

separated_on : (t : TokenKind) (ps : List Tokens) → separated (onto_first t ps) ≡ t ∷ separated ps
unfolding separated
separated_on t [] = refl
separated_on t (ts ∷ []) = refl
separated_on t (ts ∷ us ∷ more) = refl

separated_empty : (ps : List Tokens) → ps ≢ [] → separated ([] ∷ ps) ≡ w.SEMICOLON ∷ separated ps
unfolding separated
separated_empty [] h = absurd (h refl)
separated_empty (ts ∷ more) h = refl

onto_some : (t : TokenKind) (ps : List Tokens) → onto_first t ps ≢ []
onto_some t [] e = cc
onto_some t (ts ∷ more) e = cc

some_piece_by : (t : TokenKind) (ts : Tokens) (b : Bool) → (if b then [] ∷ pieces ts else onto_first t (pieces ts)) ≢ []
some_piece_by t ts true e = cc
some_piece_by t ts false e = onto_some t (pieces ts) e

some_piece : (ts : Tokens) → pieces ts ≢ []
unfolding pieces
some_piece [] e = cc
some_piece (t ∷ ts) e = some_piece_by t ts (is_token w.SEMICOLON t) e

separated_by : (t : TokenKind) (ts : Tokens) (b : Bool) → is_token w.SEMICOLON t ≡ b → separated (pieces ts) ≡ ts → separated (if b then [] ∷ pieces ts else onto_first t (pieces ts)) ≡ t ∷ ts
separated_by t ts true was h = separated_empty (pieces ts) (some_piece ts) ∙ (ap (λ us. w.SEMICOLON ∷ us) h ∙ ap (λ u. u ∷ ts) (sym (is_same w.SEMICOLON t was)))
separated_by t ts false was h = separated_on t (pieces ts) ∙ ap (λ us. t ∷ us) h

-- the pieces with semicolons between them are the tokens
pub separated_pieces : (ts : Tokens) → separated (pieces ts) ≡ ts
unfolding pieces separated
separated_pieces [] = refl
separated_pieces (t ∷ ts) = separated_by t ts (is_token w.SEMICOLON t) refl (separated_pieces ts)

-- ---- what is spelled is read

body_front : {ts rest : Tokens} {b : Body} → SpellsBody ts b rest → (us : Tokens) × (ts ≡ w.CREATE ∷ us)
body_front (s.table n g gs) = (_, refl)
body_front (s.view f n g) = (_, refl)

place_at : (n : ℕ) (t : TokenKind) (us : Tokens) (b : Bool) (o : Option Body) → is_shallow (t ∷ us) ≡ b → r.statement (t ∷ us) ≡ o →
    place n (t ∷ us) ≡ (if b then numbered n o else Err (TooDeep n))
unfolding place
place_at n t us b o h g =
    ap (λ (c : Bool). if c then numbered n (r.statement (t ∷ us)) else Err (TooDeep n)) h ∙ ap (λ p. if b then numbered n p else Err (TooDeep n)) g

-- a piece that is not empty is read by its depth and its statement
pub place_reads : (n : ℕ) (ts : Tokens) (b : Bool) (o : Option Body) → ts ≢ [] → is_shallow ts ≡ b → r.statement ts ≡ o → place n ts ≡ (if b then numbered n o else Err (TooDeep n))
place_reads n [] b o some h g = absurd (some refl)
place_reads n (t ∷ us) b o some h g = place_at n t us b o h g

empty_reads : (n : ℕ) → place n [] ≡ Ok []
unfolding place
empty_reads n = refl

body_some : {ts rest : Tokens} {b : Body} → SpellsBody ts b rest → ts ≢ []
body_some (s.table n g gs) e = cc
body_some (s.view f n g) e = cc

pub place_complete : {n : ℕ} {ts : Tokens} {found : List Statement} → SpellsPlace n ts found → place n ts ≡ Ok found
place_complete s.empty_place = empty_reads _
place_complete (s.statement {n} {ts} {b} g shallow) = place_reads n ts true (Some b) (body_some g) ((shallow_test ts).1 shallow) (statement_complete ts b g)

place_plain : {n : ℕ} {ts : Tokens} {found : List Statement} → SpellsPlace n ts found → HasNoSemicolon ts
place_plain s.empty_place = tt
place_plain (s.statement g shallow) = all_plain (body_taken g) tt

places_complete : {n : ℕ} {ts : Tokens} {found : List Statement} → SpellsFrom n ts found → places n (pieces ts) ≡ Ok found
unfolding places
places_complete (s.last_place {n} {ts} {found} g) =
    ap (places n) (pieces_last ts (place_plain g)) ∙ (ap (λ o. both o (Ok [])) (place_complete g) ∙ ap (λ xs. Ok xs) (append-nil found))
places_complete (s.more_places {n} {ts} {rest} {found} {more} g gs) =
    ap (places n) (pieces_more ts rest (place_plain g)) ∙ (ap (λ o. both o (places (suc n) (pieces rest))) (place_complete g) ∙ ap (both (Ok found)) (places_complete gs))

pub program_complete : (ts : Tokens) (statements : List Statement) → SpellsProgram ts statements → r.program ts ≡ Ok statements
unfolding r.program
program_complete ts statements g = places_complete g

-- ---- what is read is spelled

numbered_sound : (n : ℕ) (ts : Tokens) (found : List Statement) (o : Option Body) → is_shallow ts ≡ true → r.statement ts ≡ o → numbered n o ≡ Ok found → SpellsPlace n ts found
numbered_sound n ts found None was read e = cc
numbered_sound n ts found (Some b) was read e =
    let same : (record { number = n; body = b } ∷ []) ≡ found = cc in subst (SpellsPlace n ts) same (s.statement (statement_sound ts b read) ((shallow_test ts).0 was))

place_sound_by : (n : ℕ) (ts : Tokens) (found : List Statement) (b : Bool) → ts ≢ [] → is_shallow ts ≡ b → place n ts ≡ Ok found → SpellsPlace n ts found
place_sound_by n ts found false some was e = let read = place_reads n ts false (r.statement ts) some was refl in cc
place_sound_by n ts found true some was e = numbered_sound n ts found (r.statement ts) was refl (sym (place_reads n ts true (r.statement ts) some was refl) ∙ e)

some_tokens : (t : TokenKind) (ts : Tokens) → (t ∷ ts) ≢ []
some_tokens t ts e = cc

pub place_sound : (n : ℕ) (ts : Tokens) (found : List Statement) → place n ts ≡ Ok found → SpellsPlace n ts found
unfolding place
place_sound n [] found e = let same : [] ≡ found = cc in subst (SpellsPlace n []) same s.empty_place
place_sound n (t ∷ ts) found e = place_sound_by n (t ∷ ts) found (is_shallow (t ∷ ts)) (some_tokens t ts) refl e

both_ok : (o more : Result (List Statement) Refusal) (all : List Statement) → both o more ≡ Ok all →
    (found : List Statement) × (rest : List Statement) × (o ≡ Ok found) × (more ≡ Ok rest) × (found ++ rest ≡ all)
both_ok (Ok found) (Ok rest) all e = let same : found ++ rest ≡ all = cc in (found, rest, refl, refl, same)
both_ok (Ok found) (Err why) all e = cc
both_ok (Err why) more all e = cc

places_sound : (ps : List Tokens) (n : ℕ) (ts : Tokens) (all : List Statement) → places n (ts ∷ ps) ≡ Ok all → SpellsFrom n (separated (ts ∷ ps)) all
unfolding places separated
places_sound [] n ts all e =
    let (found, rest, here, later, sum) = both_ok (place n ts) (Ok []) all e in
    let none : [] ≡ rest = cc in
    let same : found ≡ all = sym (append-nil found) ∙ (ap (λ xs. found ++ xs) none ∙ sum) in
    subst (SpellsFrom n ts) same (s.last_place (place_sound n ts found here))
places_sound (us ∷ ps) n ts all e =
    let (found, rest, here, later, sum) = both_ok (place n ts) (places (suc n) (us ∷ ps)) all e in
    subst (SpellsFrom n (ts ++ (w.SEMICOLON ∷ separated (us ∷ ps)))) sum (s.more_places (place_sound n ts found here) (places_sound ps (suc n) us rest later))

some_places : (ps : List Tokens) (n : ℕ) (all : List Statement) → ps ≢ [] → places n ps ≡ Ok all → SpellsFrom n (separated ps) all
some_places [] n all h e = absurd (h refl)
some_places (ts ∷ ps) n all h e = places_sound ps n ts all e

pub program_sound : (ts : Tokens) (statements : List Statement) → r.program ts ≡ Ok statements → SpellsProgram ts statements
unfolding r.program
program_sound ts statements e = subst (λ us. SpellsFrom 1 us statements) (separated_pieces ts) (some_places (pieces ts) 1 statements (some_piece ts) e)

-- ---- what is refused

no_depth : IsTooDeep [] → ⊥
unfolding w.opened w.closed
no_depth (zero, deep) = omega arith
no_depth (suc n, deep) = omega arith

unread : (ts : Tokens) → ((b : Body) → SpellsBody ts b [] → ⊥) → (o : Option Body) → r.statement ts ≡ o → o ≡ None
unread ts none None read = refl
unread ts none (Some b) read = absurd (none b (statement_sound ts b read))

place_refused : {n : ℕ} {ts : Tokens} {why : Refusal} → RefusesPlace n ts why → place n ts ≡ Err why
place_refused (too_deep {n} {ts} deep) = place_reads n ts false (r.statement ts) (λ e. no_depth (subst IsTooDeep e deep)) (not_shallow ts deep) refl
place_refused (not_grammar {n} {ts} some shallow none) = place_reads n ts true None some ((shallow_test ts).1 shallow) (unread ts none (r.statement ts) refl)

refused_complete : {n : ℕ} {ts : Tokens} {why : Refusal} → RefusesFrom n ts why → places n (pieces ts) ≡ Err why
unfolding places
refused_complete (last_refused {n} {ts} h g) = ap (places n) (pieces_last ts h) ∙ ap (λ o. both o (Ok [])) (place_refused g)
refused_complete (refused_here {n} {ts} rest h g) = ap (places n) (pieces_more ts rest h) ∙ ap (λ o. both o (places (suc n) (pieces rest))) (place_refused g)
refused_complete (refused_later {n} {ts} {rest} {found} g gs) =
    ap (places n) (pieces_more ts rest (place_plain g)) ∙ (ap (λ o. both o (places (suc n) (pieces rest))) (place_complete g) ∙ ap (both (Ok found)) (refused_complete gs))

pub program_refused : (ts : Tokens) (why : Refusal) → RefusesProgram ts why → r.program ts ≡ Err why
unfolding r.program
program_refused ts why g = refused_complete g

numbered_refuses : (n : ℕ) (ts : Tokens) (why : Refusal) (o : Option Body) → ts ≢ [] → is_shallow ts ≡ true → r.statement ts ≡ o → numbered n o ≡ Err why → RefusesPlace n ts why
numbered_refuses n ts why None some was read e =
    let same : NotGrammar n ≡ why = cc in
    subst (RefusesPlace n ts) same (not_grammar some ((shallow_test ts).0 was) (λ b g. let here = statement_complete ts b g in cc))
numbered_refuses n ts why (Some b) some was read e = cc

place_refuses_by : (n : ℕ) (ts : Tokens) (why : Refusal) (b : Bool) → ts ≢ [] → is_shallow ts ≡ b → place n ts ≡ Err why → RefusesPlace n ts why
place_refuses_by n ts why false some was e =
    let read = place_reads n ts false (r.statement ts) some was refl in let same : TooDeep n ≡ why = cc in
    subst (RefusesPlace n ts) same (too_deep (too_deep_test ts was))
place_refuses_by n ts why true some was e = numbered_refuses n ts why (r.statement ts) some was refl (sym (place_reads n ts true (r.statement ts) some was refl) ∙ e)

place_refuses : (n : ℕ) (ts : Tokens) (why : Refusal) → place n ts ≡ Err why → RefusesPlace n ts why
unfolding place
place_refuses n [] why e = cc
place_refuses n (t ∷ ts) why e = place_refuses_by n (t ∷ ts) why (is_shallow (t ∷ ts)) (some_tokens t ts) refl e

both_err : (o more : Result (List Statement) Refusal) (why : Refusal) → both o more ≡ Err why → (o ≡ Err why) ⊎ ((found : List Statement) × (o ≡ Ok found) × (more ≡ Err why))
both_err (Ok found) (Ok rest) why e = cc
both_err (Ok found) (Err because) why e = inr (found, refl, e)
both_err (Err because) more why e = inl e

places_refused : (ps : List Tokens) (n : ℕ) (ts : Tokens) (why : Refusal) → AllByRecursion HasNoSemicolon (ts ∷ ps) → places n (ts ∷ ps) ≡ Err why → RefusesFrom n (separated (ts ∷ ps)) why
unfolding places separated
places_refused [] n ts why all e =
    elim (both_err (place n ts) (Ok []) why e) [ inl here ↦ last_refused all.0 (place_refuses n ts why here) | inr later ↦ cc ]
places_refused (us ∷ ps) n ts why all e =
    elim (both_err (place n ts) (places (suc n) (us ∷ ps)) why e) [
      | inl here ↦ refused_here (separated (us ∷ ps)) all.0 (place_refuses n ts why here)
      | inr later ↦ refused_later (place_sound n ts later.0 later.1) (places_refused ps (suc n) us why all.1 later.2)
    ]

some_refused : (ps : List Tokens) (n : ℕ) (why : Refusal) → ps ≢ [] → AllByRecursion HasNoSemicolon ps → places n ps ≡ Err why → RefusesFrom n (separated ps) why
some_refused [] n why h all e = absurd (h refl)
some_refused (ts ∷ ps) n why h all e = places_refused ps n ts why all e

pub program_refuses : (ts : Tokens) (why : Refusal) → r.program ts ≡ Err why → RefusesProgram ts why
unfolding r.program
program_refuses ts why e = subst (λ us. RefusesFrom 1 us why) (separated_pieces ts) (some_refused (pieces ts) 1 why (some_piece ts) (pieces_plain ts) e)

-- ---- the laws

-- a list of tokens spells at most one list of statements
pub one_program : (ts : Tokens) (a b : List Statement) → SpellsProgram ts a → SpellsProgram ts b → a ≡ b
one_program ts a b g h = let left = program_complete ts a g in let right = program_complete ts b h in cc

-- what is refused spells nothing
pub unspelled : (ts : Tokens) (why : Refusal) (statements : List Statement) → r.program ts ≡ Err why → SpellsProgram ts statements → ⊥
unspelled ts why statements e g = let read = program_complete ts statements g in cc

spelled_or_refused_by : (ts : Tokens) (o : Result (List Statement) Refusal) → r.program ts ≡ o → ((statements : List Statement) × SpellsProgram ts statements) ⊎ ((why : Refusal) × RefusesProgram ts why)
spelled_or_refused_by ts (Ok statements) e = inl (statements, program_sound ts statements e)
spelled_or_refused_by ts (Err why) e = inr (why, program_refuses ts why e)

-- a list of tokens spells statements or is refused
pub spelled_or_refused : (ts : Tokens) → ((statements : List Statement) × SpellsProgram ts statements) ⊎ ((why : Refusal) × RefusesProgram ts why)
spelled_or_refused ts = spelled_or_refused_by ts (r.program ts) refl

-- not both
pub not_both : (ts : Tokens) (statements : List Statement) (why : Refusal) → SpellsProgram ts statements → RefusesProgram ts why → ⊥
not_both ts statements why g h = let left = program_complete ts statements g in let right = program_refused ts why h in cc

-- for one cause
pub one_refusal : (ts : Tokens) (a b : Refusal) → RefusesProgram ts a → RefusesProgram ts b → a ≡ b
one_refusal ts a b g h = let left = program_refused ts a g in let right = program_refused ts b h in cc

pub ruleset refusals = (spelled_or_refused, not_both, one_refusal)
