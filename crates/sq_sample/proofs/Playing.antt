-- An engine that runs the sample, from its start and from tick to tick, and how many rows its views list.
use Rattle.std.proofs.Common.{◌≡◌, ℕ, ℤ, ◌+◌, ◌≤◌, ◌^◌, List, [], ◌∷◌, length, map, None, refl, sym, ap, ap₂, subst, ◌∙◌, Ok, Err, arith}
use Rattle.std.specs.Prelude.{pos}
use Rattle.std.specs.Int.{int_wrap, w128}
use Rattle.std.specs.List.{AllByRecursion}
use Rattle.std.proofs.lemmas.List.{length-map}
use Rattle.std.proofs.lemmas.Int.{fits_signed_from_abs, int_wrap_fits}
use Rattle.sq_algebra.specs.ZSet.{total}
use Rattle.sq_typed.specs.Views.{Meant, views}
use Rattle.sq_typed.specs.declared.update.Update.{Update}
use Rattle.sq_circuit.specs.Circuits.{verdict}
use Rattle.sq_circuit.specs.Nodes.{Rows}
use Rattle.sq_circuit.specs.declared.circuit.Part.{Part}
use Rattle.sq_compile.specs.Programs.{IsCircuitOf, IsProgramOf, TextStops}
use Rattle.sq_compile.specs.declared.texts.CompileFault.{CompileFault}
use Rattle.sq_compile.specs.declared.texts.CompileFault.TheVariants.{Fault}
use Rattle.sq_print.specs.declared.program_fault.ProgramFault.{ProgramFault}
use Rattle.sq_engine.specs.Admitting.{MayAdmit, made}
use Rattle.sq_engine.specs.Engines.{State, begun, fresh, moved, no_tables, views_between, views_over, with_changes}
use Rattle.sq_meant.specs.Program.{program}
use Rattle.sq_meant.specs.Text.{program_text}
use Rattle.sq_sample.specs.Printed.{counts, raised, rows_listed}
use Rattle.sq_sample.specs.Running.{IsAfter, wrapped}
use Rattle.sq_sample.specs.Ticks.{tick}
use Rattle.sq_sample.proofs.Accepting.{no_row_is_absent, ticks_may_be_admitted, ticks_move_on}
use Rattle.sq_sample.proofs.Compiling.{no_fault, only_program}
use Rattle.sq_sample.proofs.Printing.{few_rows, five_changes, five_starts, five_views, start_counts, tick_counts}
use Rattle.sq_sample.proofs.Ranges.{begins_behind, starts_in_range as in_range_at_start, ticks_in_range}

-- ---- the circuit
pub circuit_is : (text : List ℕ) (q : Meant) (c : List Part) → text ≡ program_text → IsProgramOf text q → IsCircuitOf q c → IsCircuitOf program c
circuit_is text q c is meant stands = subst (λ p. IsCircuitOf p c) (only_program q (subst (λ t. IsProgramOf t q) is meant)) stands

pub never_a_fault : (text : List ℕ) (stop : CompileFault) (fault : ProgramFault) → text ≡ program_text → TextStops text stop → stop ≡ Fault fault → ⊥
never_a_fault text stop fault is stops same = no_fault fault (subst (TextStops program_text) same (subst (λ t. TextStops t stop) is stops))

-- ---- numbers that 128 bits hold
kept : (ns : List ℕ) → AllByRecursion (λ n. n ≤ 2 ^ 28) ns → map (int_wrap w128) (map (λ n. pos n) ns) ≡ map (λ n. pos n) ns
kept [] h = refl
kept (n ∷ ns) h = ap₂ (λ (m : ℤ) ms. m ∷ ms) (int_wrap_fits w128 (pos n) (fits_signed_from_abs w128 (pos n) (let few = h.0 in omega (arith, few)))) (kept ns h.1)

counts_kept : (x t : ℕ) → t ≤ 1000001 → map (int_wrap w128) (counts x t) ≡ counts x t
counts_kept x t few = kept (rows_listed x t) (few_rows x t few)

-- ---- the start
from_nothing : (ns : List ℕ) → raised (map (λ n. pos 0) ns) (map (λ n. pos n) ns) ≡ map (λ n. pos n) ns
from_nothing [] = refl
from_nothing (n ∷ ns) = ap₂ (λ (m : ℤ) ms. m ∷ ms) (ap pos (let same : 0 + n ≡ n = omega arith in same)) (from_nothing ns)

abbrev pub nothing : List ℤ
nothing = pos 0 ∷ pos 0 ∷ pos 0 ∷ pos 0 ∷ pos 0 ∷ []

five_nothings : (x t : ℕ) → map (λ n. pos 0) (rows_listed x t) ≡ nothing
unfolding views
five_nothings x t = refl

-- an engine over the circuit that has not started
module _ (c : List Part) (e : State) (stands : IsCircuitOf program c) (new : e ≡ fresh c 1) where
  pub starts_in_range : verdict e.circuit (no_tables e.circuit) ≡ None
  starts_in_range = subst (λ s. verdict s.circuit (no_tables s.circuit) ≡ None) (sym new) (in_range_at_start c stands.plan)

  pub starts_full : (xs zs : List Rows) → xs ≡ zs → zs ≡ views_over e.circuit (no_tables e.circuit) → length xs ≡ 5
  starts_full xs zs same is = ap length (same ∙ is ∙ ap (λ (s : State). views_over s.circuit (no_tables s.circuit)) new) ∙ five_starts c stands.plan (no_tables c)

  pub after_start : (x : ℕ) (s : State) (ns : List ℤ) (xs zs : List Rows) → s ≡ begun e → xs ≡ zs → zs ≡ views_over e.circuit (no_tables e.circuit)
      → ns ≡ wrapped nothing xs → IsAfter x 0 s ns
  after_start x s ns xs zs is same views_are ns_are =
      let views = same ∙ views_are ∙ ap (λ (s : State). views_over s.circuit (no_tables s.circuit)) new in
      subst (λ s. IsAfter x 0 s ns) (sym (is ∙ ap begun new)) record {
        plan = stands.plan;
        started = refl;
        behind = begins_behind c stands.plan 1 x;
        counted = ns_are ∙ ap₂ (λ ms ws. map (int_wrap w128) (raised ms ws)) (sym (five_nothings x 0)) (ap (map total) views ∙ start_counts c x stands.plan)
            ∙ ap (map (int_wrap w128)) (from_nothing (rows_listed x 0)) ∙ counts_kept x 0 (omega arith);
      }

-- ---- the ticks
module _ (x t : ℕ) (s : State) (ns : List ℤ) (few : t ≤ 1000000) (after : IsAfter x t s ns) (us : List Update) (next : us ≡ tick x (t + 1)) where
  pub may_admit_next : MayAdmit s us
  may_admit_next = subst (MayAdmit s) (sym next) (ticks_may_be_admitted s x t few after.behind)

  pub none_is_absent : (line : ℕ) → made s.tables us ≡ Err line → ⊥
  none_is_absent line is = no_row_is_absent s x t line few after.behind (sym (ap (made s.tables) next) ∙ is)

  module _ (delta : List Rows) (goes : made s.tables us ≡ Ok (with_changes s.tables delta)) where
    pub next_in_range : verdict s.circuit (with_changes s.tables delta) ≡ None
    next_in_range = ticks_in_range s x (t + 1) delta (omega (arith, few)) after.plan (ticks_move_on s x t delta few after.behind (sym (ap (made s.tables) next) ∙ goes))

    pub next_full : (ms : List ℤ) (xs zs : List Rows) → ms ≡ ns → xs ≡ zs → zs ≡ views_between s.circuit s.tables (with_changes s.tables delta) → length xs ≡ length ms
    next_full ms xs zs as_before same is = ap length (same ∙ is) ∙ five_changes s.circuit after.plan s.tables (with_changes s.tables delta)
        ∙ sym (ap length (as_before ∙ after.counted) ∙ length-map (rows_listed x t) (λ n. pos n) ∙ five_views x t)

    pub after_next : (new : State) (sums ms : List ℤ) (xs zs : List Rows) → new ≡ moved s delta → ms ≡ ns → xs ≡ zs
        → zs ≡ views_between s.circuit s.tables (with_changes s.tables delta) → sums ≡ wrapped ms xs → IsAfter x (t + 1) new sums
    after_next new sums ms xs zs is as_before same views_are sums_are =
        let on = ticks_move_on s x t delta few after.behind (sym (ap (made s.tables) next) ∙ goes) in
        subst (λ n. IsAfter x (t + 1) n sums) (sym is) record {
          plan = after.plan;
          started = refl;
          behind = on;
          counted = sums_are ∙ ap₂ (λ ms ws. map (int_wrap w128) (raised ms (map total ws))) (as_before ∙ after.counted) (same ∙ views_are)
              ∙ ap (map (int_wrap w128)) (tick_counts s x t delta few after.plan after.behind on) ∙ counts_kept x (t + 1) (omega (arith, few));
        }
