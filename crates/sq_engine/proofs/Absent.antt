-- Updates gone through in order, with the rows that they bring and take counted, until one lacks its row.
use Rattle.std.proofs.Common.{◌≡◌, ℕ, ◌+◌, ◌<◌, ◌≤◌, ◌^◌, Bool, true, false, not, ◌&&◌, List, [], ◌∷◌, ◌++◌, length, get_or, take, drop, take_all, ℤ, pos, ◌+ℤ◌, unsigned_abs, Ok, Err, sym, ap, ap₂, subst, ◌∙◌, arith}
use Rattle.std.specs.Prelude.{int_lt}
use Rattle.std.specs.BTreeMap.{BTreeMap}
use Rattle.std.specs.List.{AllByRecursion}
use Rattle.std.proofs.lemmas.List.Elements.{All-from_recursion}
use Rattle.std.proofs.lemmas.List.{drop_all, drop_more, length-take, take_more}
use Rattle.sq_value.specs.declared.value.Value.{Value}
use Rattle.sq_algebra.specs.ZSet.{weight}
use Rattle.sq_zset.proofs.Rows.{weight-from_pairs, weight-plus}
use Rattle.sq_typed.specs.declared.update.Update.{Update}
use Rattle.sq_circuit.specs.Circuits.{table_at}
use Rattle.sq_circuit.specs.Invariant.{table_count}
use Rattle.sq_circuit.specs.Nodes.{Rows}
use Rattle.sq_circuit.specs.declared.circuit.Part.{Part}
use Rattle.sq_circuit.proofs.Alongside.{each-length}
use Rattle.sq_states.specs.declared.kept.NodeState.{NodeState}
use Rattle.sq_tables.specs.Tables.{table_in, tables_in}
use Rattle.sq_engine.specs.Admitting.{count_at, lacks, made, net, netted, step_at}
use Rattle.sq_engine.specs.Engines.{with_changes}
use Rattle.sq_engine.proofs.Netting.{made_lacks, made_next, net_small, now_by, now_none, table_by, weight_next}

-- the first i updates found their rows, and are counted
pub record IsGoing (tables : List Rows) (us : List Update) (i : ℕ) (counts : List (BTreeMap (List Value) ℤ)) : Type 0 where
  pub many : length counts ≡ length tables
  pub counted : (t : ℕ) (row : List Value) → t < length tables → count_at counts t row ≡ weight row (net t (take i us))
  pub going : made tables us ≡ made (now_by tables (take i us)) (drop i us)

pub begun : (tables : List Rows) (us : List Update) (counts : List (BTreeMap (List Value) ℤ)) → length counts ≡ length tables → ((t : ℕ) (row : List Value) → count_at counts t row ≡ pos 0)
    → IsGoing tables us 0 counts
begun tables us counts many none = record {
  many = many;
  counted = λ t row _. none t row ∙ sym (weight-from_pairs row []);
  going = ap (λ ts. made ts us) (sym (now_none tables));
}

module _ (tables : List Rows) (us : List Update) (i : ℕ) (counts : List (BTreeMap (List Value) ℤ)) (done : IsGoing tables us i counts) where
  -- no row is counted often
  pub few : (t : ℕ) (row : List Value) → t < length tables → length us < 2 ^ 62 → unsigned_abs (count_at counts t row) < 2 ^ 62
  few t row low short =
      subst (λ n. unsigned_abs n < 2 ^ 62) (sym (done.counted t row low))
      (let small = net_small t row (take i us) in let part = length-take i us in omega arith)

  -- if all are gone through, they are made
  pub ended : length us ≤ i → made tables us ≡ Ok (with_changes tables (netted (length tables) us))
  ended past = done.going ∙ ap₂ (λ vs ws. made (now_by tables vs) ws) (take_all i us past) (drop_all i us past)

  module _ (u : Update) (low : i < length us) (is : u ≡ get_or us i u) (inside : u.table < length tables) where
    pub lacks_by : lacks (now_by tables (take i us)) u ≡ (not u.insert && not (int_lt (pos 0) (weight u.row (table_at tables u.table) +ℤ count_at counts u.table u.row)))
    lacks_by =
        ap (λ w. not u.insert && not (int_lt (pos 0) w))
        (ap (weight u.row) (table_by tables (take i us) u.table inside)
        ∙ weight-plus u.row (table_at tables u.table) (net u.table (take i us))
        ∙ ap (λ w. weight u.row (table_at tables u.table) +ℤ w) (sym (done.counted u.table u.row inside)))

    rest : drop i us ≡ u ∷ drop (i + 1) us
    rest = drop_more us i u low ∙ ap (λ v. v ∷ drop (i + 1) us) (sym is)

    front : take (i + 1) us ≡ take i us ++ u ∷ []
    front = take_more us i u low ∙ ap (λ v. take i us ++ v ∷ []) (sym is)

    module _ (b : Bool) (told : b ≡ (not u.insert && not (int_lt (pos 0) (weight u.row (table_at tables u.table) +ℤ count_at counts u.table u.row)))) where
      -- the next update lacks its row
      pub stopped : b ≡ true → made tables us ≡ Err u.line
      stopped absent =
          done.going ∙ ap (made (now_by tables (take i us))) rest
          ∙ made_lacks tables (take i us) (drop (i + 1) us) u (lacks_by ∙ sym told ∙ absent)

      -- it finds its row, and is counted
      pub next : b ≡ false → (counts' : List (BTreeMap (List Value) ℤ)) → length counts' ≡ length counts
          → ((t : ℕ) (row : List Value) → t < length counts → count_at counts' t row ≡ count_at counts t row +ℤ step_at t row u) → IsGoing tables us (i + 1) counts'
      next found counts' many more = record {
        many = many ∙ done.many;
        counted = λ t row inside.
            more t row (subst (λ n. t < n) (sym done.many) inside)
            ∙ ap (λ w. w +ℤ step_at t row u) (done.counted t row inside)
            ∙ sym (ap (λ vs. weight row (net t vs)) front ∙ weight_next t row (take i us) u);
        going =
            done.going ∙ ap (made (now_by tables (take i us))) rest
            ∙ made_next tables (take i us) (drop (i + 1) us) u (lacks_by ∙ sym told ∙ found)
            ∙ ap (λ vs. made (now_by tables vs) (drop (i + 1) us)) (sym front);
      }

-- ---- tables in states
pub tables_there : (c : List Part) (states : List (List NodeState)) → length (tables_in c states) ≡ table_count c
tables_there c states = each-length (table_in states) (table_count c)

module _ (c : List Part) (states : List (List NodeState)) (us : List Update) (each : AllByRecursion (λ u. u.table < table_count c) us) (i : ℕ) (counts : List (BTreeMap (List Value) ℤ)) (done : IsGoing (tables_in c states) us i counts)
    (u : Update) (low : i < length us) (is : u ≡ get_or us i u) where
  pub in_circuit : u.table < table_count c
  in_circuit = subst (λ (v : Update). v.table < table_count c) (sym is) (All-from_recursion (λ (v : Update). v.table < table_count c) us each i u low)

  pub in_states : u.table < length (tables_in c states)
  in_states = subst (λ n. u.table < n) (sym (tables_there c states)) in_circuit

  pub in_counts : u.table < length counts
  in_counts = subst (λ n. u.table < n) (sym done.many) in_states

  pub not_often : length us < 2 ^ 62 → unsigned_abs (count_at counts u.table u.row) < 2 ^ 62
  not_often short = few (tables_in c states) us i counts done u.table u.row in_states short

-- one more step at most
pub one_step : (old before now i : ℕ) → before ≤ old + i → now ≤ before + 1 → now ≤ old + (i + 1)
one_step old before now i so_far step = omega (arith, so_far, step)
