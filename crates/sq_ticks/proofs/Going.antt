-- What stays true from line to line of a run.
use Rattle.std.specs.Prelude.{◌||◌, cond}
use Rattle.std.proofs.Common.{◌≡◌, ℕ, ◌+◌, ◌<◌, ◌≤◌, List, [], ◌∷◌, ◌++◌, length, take, Bool, true, false, Option, Some, None, refl, sym, ap, subst, ◌∙◌, arith, append-nil, append_assoc, length-append}
use Rattle.std.specs.List.{list_all, list_any}
use Rattle.std.specs.Io.KnownBytes.{Appends, Keeps}
use Rattle.std.proofs.lemmas.List.Folds.{list_any-append}
use Rattle.std.proofs.Math.Seq.{take-append_seam, take-append-add}
use Rattle.std.proofs.lemmas.List.{take-append-le}
use Rattle.sq_lines.specs.Lines.{is_blank, is_commit}
use Rattle.sq_lines.specs.declared.line.Line.{Line}
use Rattle.sq_typed.specs.Views.{shown}
use Rattle.sq_typed.specs.Tables.{Tables}
use Rattle.sq_typed.specs.Views.{Meant}
use Rattle.sq_print.specs.declared.refusal.Refusal.TheVariants.{Unfinished}
use Rattle.sq_ticks.proofs.Reports.{still_begins, still_end}
use Rattle.sq_ticks.specs.declared.play.Played.{Played}
use Rattle.sq_ticks.specs.declared.run.Run.{Run}
use Rattle.sq_ticks.specs.declared.run.Stop.{Stop}
use Rattle.sq_ticks.specs.declared.run.Stop.TheVariants.{Memory, Read, TooLong, Write}
use Rattle.sq_ticks.specs.Judgements.{first_text}
use Rattle.sq_ticks.specs.Over.{IsOver}
use Rattle.sq_compile.specs.Relations.{empty_tables}
use Rattle.sq_ticks.specs.Sums.{tables_now}
use Rattle.sq_ticks.specs.Ticks.{Report, refused, outcome, is_refusal, lines_from, reports_from, tables_after, ticks_of}
use Rattle.sq_ticks.specs.Texts.{tick_text}
use Rattle.sq_ticks.specs.Output.{reports, texts_from}
use Rattle.sq_ticks.specs.Runs.{in_front, still, brought, IsAt, IsEnded, IsLeft, Stopped, StoppedWithin}

pub appends_chain : (x y z : Option (List ℕ)) (a b : List ℕ) → Appends x y a → Appends y z b → Appends x z (a ++ b)
appends_chain None y z a b p q = tt
appends_chain (Some x) None z a b p q = absurd p
appends_chain (Some x) (Some y) None a b p q = absurd q
appends_chain (Some x) (Some y) (Some z) a b p q = q ∙ ap (λ t. t ++ b) p ∙ append_assoc x a b

pub appends_keeps : (x y z : Option (List ℕ)) (a : List ℕ) → Appends x y a → Keeps y z → Appends x z a
appends_keeps None y z a p q = tt
appends_keeps (Some x) None z a p q = absurd p
appends_keeps (Some x) (Some y) None a p q = absurd q
appends_keeps (Some x) (Some y) (Some z) a p q = q ∙ p

pub keeps_nothing : (x y : Option (List ℕ)) → Keeps x y → Appends x y []
keeps_nothing None y k = tt
keeps_nothing (Some x) None k = k
keeps_nothing (Some x) (Some y) k = k ∙ sym (append-nil x)

pub in_front_none : (ticks : List (List Line)) → 0 < length ticks → in_front [] ticks ≡ ticks
in_front_none [] some = absurd (omega arith)
in_front_none (tick ∷ ticks) some = refl

take_within : (front text rest : List ℕ) (n : ℕ) → n ≤ length text → take (length front + n) (front ++ (text ++ rest)) ≡ front ++ take n text
take_within front text rest n le = take-append-add front (text ++ rest) n ∙ ap (λ t. front ++ t) (take-append-le n text rest le)

-- some ticks are told, which leave these tables, and others are left
pub record Going (p : Meant) (all : List Report) (taken now : Option (List ℕ)) (before after : ℕ) (lists : Tables) (run : Run) (left : List Report) : Type 0 where
  pub done : List Report
  pub parts : all ≡ done ++ left
  pub told : Appends taken now (texts_from p 0 done)
  pub tables : lists ≡ tables_now (empty_tables p.catalog) done
  pub tick : run.tick ≡ length done
  pub refused : run.refused ≡ list_any (λ r. is_refusal r.1) done
  pub later : before ≤ after

-- the tables that some ticks leave, and then more
pub tables_now-append : (tables : Tables) (xs ys : List Report) → tables_now tables (xs ++ ys) ≡ tables_now (tables_now tables xs) ys
tables_now-append tables [] ys = refl
tables_now-append tables (x ∷ xs) ys = tables_now-append (tables_after tables x.1) xs ys

module _ (p : Meant) where
  -- the texts of some ticks, and then of more
  pub texts_from-append : (n : ℕ) (xs ys : List Report) → texts_from p n (xs ++ ys) ≡ texts_from p n xs ++ texts_from p (n + length xs) ys
  texts_from-append n [] ys = ap (λ k. texts_from p k ys) (omega arith)
  texts_from-append n (x ∷ xs) ys =
      let next : n + 1 + length xs ≡ n + length {A = Report} (x ∷ xs) = omega arith in
      ap (λ t. tick_text p n x.0 x.1 ++ t) (texts_from-append (n + 1) xs ys ∙ ap (λ k. texts_from p (n + 1) xs ++ texts_from p k ys) next)
      ∙ sym (append_assoc (tick_text p n x.0 x.1) (texts_from p (n + 1) xs) (texts_from p (n + length {A = Report} (x ∷ xs)) ys))

  pub told_more : (done more : List Report) (n : ℕ) (taken now next : Option (List ℕ)) → n ≡ length done → Appends taken now (texts_from p 0 done)
      → Appends now next (texts_from p n more) → Appends taken next (texts_from p 0 (done ++ more))
  told_more done more n taken now next e told went =
      subst (Appends taken next) (sym (texts_from-append 0 done more ∙ ap (λ k. texts_from p 0 done ++ texts_from p k more) (omega (arith, e))))
      (appends_chain taken now next (texts_from p 0 done) (texts_from p n more) told went)

  -- want of memory leaves the whole texts of the ticks so far
  pub going_memory : (all : List Report) (taken now : Option (List ℕ)) (before after : ℕ) (lists : Tables) (run : Run) (left : List Report)
      → Going p all taken now before after lists run left → StoppedWithin p taken now before after all Memory
  going_memory all taken now before after lists run left g =
      (length g.done, rw g.parts (rw (take-append_seam g.done left) g.told))

  -- a text that stopped leaves the whole texts of the ticks so far, and a prefix of its own
  pub going_stop : (all : List Report) (taken now next : Option (List ℕ)) (before after last : ℕ) (lists : Tables) (run : Run) (text rest : List Report) (stop : Stop)
      → Going p all taken now before after lists run (text ++ rest) → after ≤ last
      → Stopped now next after last (texts_from p run.tick text) stop → StoppedWithin p taken next before last all stop
  going_stop all taken now next before after last lists run text rest Memory g since kept =
      (length g.done, rw g.parts (rw (take-append_seam g.done (text ++ rest)) (appends_keeps taken now next (texts_from p 0 g.done) g.told kept)))
  going_stop all taken now next before after last lists run text rest Write g since went =
      let n = went.1.0 in
      let whole : texts_from p 0 all ≡ texts_from p 0 g.done ++ (texts_from p run.tick text ++ texts_from p (run.tick + length text) rest) =
      ap (texts_from p 0) g.parts ∙ texts_from-append 0 g.done (text ++ rest)
      ∙ ap (λ k. texts_from p 0 g.done ++ texts_from p k (text ++ rest)) (omega (arith, g.tick))
      ∙ ap (λ t. texts_from p 0 g.done ++ t) (texts_from-append run.tick text rest) in (
        omega (arith, went.0, g.later),
        (
          length (texts_from p 0 g.done) + n,
          omega (arith, went.1.1, ap length whole, length-append (texts_from p 0 g.done) (texts_from p run.tick text ++ texts_from p (run.tick + length text) rest), length-append (texts_from p run.tick text) (texts_from p (run.tick + length text) rest)),
          rw whole (rw (take_within (texts_from p 0 g.done) (texts_from p run.tick text) (texts_from p (run.tick + length text) rest) n went.1.1)
              (appends_chain taken now next (texts_from p 0 g.done) (take n (texts_from p run.tick text)) g.told went.1.2)),
        ),
      )
  going_stop all taken now next before after last lists run text rest Read g since none = absurd none
  going_stop all taken now next before after last lists run text rest TooLong g since none = absurd none

  -- the next line stopped
  pub line_stop : (all : List Report) (taken now next : Option (List ℕ)) (before after last : ℕ) (lists : Tables) (run : Run) (line : Line) (later : List Line) (stop : Stop)
      → Going p all taken now before after lists run (still p lists run.lines.items (line ∷ later)) → after ≤ last
      → Stopped now next after last (texts_from p run.tick (brought p lists run.lines.items line)) stop → StoppedWithin p taken next before last all stop
  line_stop all taken now next before after last lists run line later stop g since stopped =
      let split = still_begins p lists run.lines.items line later in
      going_stop all taken now next before after last lists run (brought p lists run.lines.items line) split.0 stop (subst (Going p all taken now before after lists run) split.1 g) since stopped

  -- the end stopped
  pub end_stop : (all : List Report) (taken now next : Option (List ℕ)) (before after last : ℕ) (lists : Tables) (run : Run) (left : List Report) (stop : Stop)
      → Going p all taken now before after lists run left → after ≤ last
      → Stopped now next after last (texts_from p run.tick left) stop → StoppedWithin p taken next before last all stop
  end_stop all taken now next before after last lists run left stop g since stopped =
      going_stop all taken now next before after last lists run left [] stop (subst (Going p all taken now before after lists run) (sym (append-nil left)) g) since stopped

  -- block 0 stopped
  pub first_stop : (lines : List (List ℕ)) (taken now : Option (List ℕ)) (before after : ℕ) (stop : Stop)
      → Stopped taken now before after (first_text p) stop → StoppedWithin p taken now before after (reports p lines) stop
  first_stop lines taken now before after Memory kept = (0, keeps_nothing taken now kept)
  first_stop lines taken now before after Write went =
      let first = first_text p in
      let rest = texts_from p 1 (reports_from p (empty_tables p.catalog) (ticks_of (lines_from p.catalog 1 lines))) in (
        went.0,
        (
          went.1.0,
          omega (arith, went.1.1, length-append first rest),
          rw (take-append-le went.1.0 first rest went.1.1) went.1.2,
        ),
      )
  first_stop lines taken now before after Read none = absurd none
  first_stop lines taken now before after TooLong none = absurd none

  -- the last ticks are told
  pub going_told : (all : List Report) (taken now next : Option (List ℕ)) (before after : ℕ) (lists : Tables) (run : Run) (left : List Report)
      → Going p all taken now before after lists run left → Appends now next (texts_from p run.tick left) → Appends taken next (texts_from p 0 all)
  going_told all taken now next before after lists run left g told =
      subst (λ t. Appends taken next (texts_from p 0 t)) (sym g.parts) (told_more g.done left run.tick taken now next g.tick g.told told)

  pub going_refused : (all : List Report) (taken now : Option (List ℕ)) (before after : ℕ) (lists : Tables) (run : Run) (left : List Report) (any : Bool)
      → Going p all taken now before after lists run left → any ≡ (run.refused || list_any (λ r. is_refusal r.1) left)
      → any ≡ list_any (λ r. is_refusal r.1) all
  going_refused all taken now before after lists run left any g e =
      e ∙ ap (λ b. b || list_any (λ r. is_refusal r.1) left) g.refused ∙ sym (list_any-append (λ r. is_refusal r.1) g.done left)
      ∙ ap (list_any (λ r. is_refusal r.1)) (sym g.parts)

  -- an unfinished tick leaves the tables
  unfinished_keeps : (lists : Tables) (b : Bool) → tables_now lists (cond b [] ((shown p lists, refused Unfinished) ∷ [])) ≡ lists
  unfinished_keeps lists true = refl
  unfinished_keeps lists false = refl

  -- the engine that is left
  pub going_left : (all : List Report) (taken now : Option (List ℕ)) (before after : ℕ) (lists : Tables) (run : Run) (count : ℕ) (played : Played)
      → Going p all taken now before after lists run (still p lists run.lines.items []) → IsAt p lists run → run.engine.shards ≡ count → IsEnded p lists run played
      → IsLeft p all count played.engine
  going_left all taken now before after lists run count played g stands shards ended =
      let last = still p lists run.lines.items [] in
      let same : lists ≡ tables_now (empty_tables p.catalog) all =
      sym (unfinished_keeps lists (list_all is_blank run.lines.items)) ∙ sym (ap (tables_now lists) (still_end p lists run.lines.items))
      ∙ ap (λ t. tables_now t last) g.tables ∙ sym (tables_now-append (empty_tables p.catalog) g.done last) ∙ ap (tables_now (empty_tables p.catalog)) (sym g.parts) in
      record { over = subst (λ e. IsOver p (tables_now (empty_tables p.catalog) all) e) (sym ended.engine) (subst (λ t. IsOver p t run.engine) same stands.over); shards = ap (λ e. e.shards) ended.engine ∙ shards }

  -- a line brings one tick at most
  pub length-brought : (lists : Tables) (waiting : List Line) (line : Line) → length (brought p lists waiting line) ≤ 1
  length-brought lists waiting line = few (is_commit line) where
    few : (b : Bool) → length {A = Report} (cond b ((shown p lists, outcome p lists waiting) ∷ []) []) ≤ 1
    few true = omega arith
    few false = omega arith
