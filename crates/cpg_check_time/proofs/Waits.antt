-- What V1 to V3 say of an item that is waited for: it is active and not done by a time exactly if one of its columns is
-- late.
use Rattle.std.proofs.Common.{ℕ, ◌<◌, ◌≡◌, true, false, not, ◌&&◌, List, length, get_or, take, map, Contains, arith}
use Rattle.std.proofs.Common.{sym, ap, ◌∙◌, inl, inr, lt-ltb, length-take}
use Rattle.std.specs.Prelude.{nat_le, nat_lt}
use Rattle.std.specs.List.{list_any}
use Rattle.std.proofs.lemmas.Bool.{cases_order, and_parts, and_from, not-true, both_ways, false_from_ne_true, leb-false}
use Rattle.std.proofs.lemmas.Bool.{leb-true, ltb-true}
use Rattle.std.proofs.lemmas.List.{get_or-take, get_or_default}
use Rattle.cpg_base.specs.Graph.{Graph, item_at, item_count}
use Rattle.cpg_base.specs.Activity.{item_active}
use Rattle.cpg_base.proofs.Lists.{same_truth, list_any_true, list_any_parts, from_any_false, Contains-map}
use Rattle.cpg_base.proofs.Lists.{Contains-map_parts}
use Rattle.cpg_base.specs.Scenario.{Scenario, IsScenario}
use Rattle.cpg_cube.specs.Cube.{matches}
use Rattle.cpg_table.specs.Table.{NodeTable, columns_of, at}
use Rattle.cpg_cube.specs.declared.column.Column.{Column}
use Rattle.cpg_table.specs.Valid.{is_by}
use Rattle.cpg_table.specs.declared.rule.Rule.{Rule}
use Rattle.cpg_violation.specs.Violation.{AllHold, row_rules}
use Rattle.cpg_violation.proofs.Matching.{at_rule, active_where, match_where}
use Rattle.cpg_violation.proofs.Moments.{in_at, at_parts}

-- given: tables that keep V1 to V3, a scenario, and an item of the graph
module _ (g : Graph) (tables : List NodeTable) (s : Scenario) (lawful : IsScenario g s) (x : ℕ)
    (is_item : x < item_count g)
    (rules : AllHold g tables row_rules) where
  -- columns `c` and `d` at places `i` and `j`, `j` before `i`, don't both match: `c` would break V2
  not_after : (c d : Column) (i j : ℕ) → i < length (columns_of tables x) → j < i →
      get_or (columns_of tables x) i c ≡ c → get_or (columns_of tables x) j d ≡ d →
      matches c.cube s ≡ true →
      matches d.cube s ≡ true → ⊥
  not_after c d i j inside before c_at d_at c_matches d_matches =
      let none = at_rule g tables s lawful x is_item Rule.Single rules.1.0 i c inside
      (ap (λ (c : Column). matches c.cube s) c_at ∙ c_matches) in
      let there : Contains (take i (columns_of tables x)) d =
      (j, omega (arith, length-take i (columns_of tables x)), get_or-take i (columns_of tables x) j d before ∙ d_at) in
      both_ways _ none (list_any_true (λ (q : Column). matches q.cube s)
      (take i (columns_of tables x)) d there d_matches)

  -- columns `c` and `d` of the item that both match are the same: they are at one place
  pub match_once : (c d : Column) → Contains (columns_of tables x) c → Contains (columns_of tables x) d →
      matches c.cube s ≡ true → matches d.cube s ≡ true → c ≡ d
  match_once c d c_in d_in c_matches d_matches = elim (cases_order c_in.0 d_in.0) [
    | inl same ↦ sym c_in.2 ∙ get_or_default (columns_of tables x) c_in.0 c d c_in.1
        ∙ ap (λ i. get_or (columns_of tables x) i d) same ∙ d_in.2
    | inr (inl below) ↦ absurd (not_after d c d_in.0 c_in.0 d_in.1 below d_in.2 c_in.2 d_matches c_matches)
    | inr (inr above) ↦ absurd (not_after c d c_in.0 d_in.0 c_in.1 above c_in.2 d_in.2 c_matches d_matches)
  ]

  -- `done` says when what begins at a time is done. The item is active and not done by `time` exactly if some column
  -- matches and what it begins is done only later.
  pub late_where : (done : ℕ → ℕ) (time : ℕ) →
      (item_active g s.values (item_at g x) && not (is_by time (map done (at tables x s))))
      ≡ list_any (λ d. matches d.cube s && nat_lt time (done d.time))
      (columns_of tables x)
  late_where done time = same_truth _ _
      -- if it is active and not done, it has a column that matches (V3), which isn't done by the time
      (λ active_late.
      let parts = and_parts (item_active g s.values (item_at g x))
      (not (is_by time (map done (at tables x s)))) active_late in
      let matching = match_where g tables s lawful x is_item rules parts.0 in
      let not_by = from_any_false (λ m. nat_le m time) (map done (at tables x s)) (done matching.0.time)
      (not-true _ parts.1)
      (Contains-map done (at tables x s) matching.0.time (in_at tables x s matching.0 matching.1 matching.2)) in
      list_any_true (λ c. matches c.cube s && nat_lt time (done c.time)) (columns_of tables x) matching.0 matching.1
      (and_from _ _ matching.2 (lt-ltb time (done matching.0.time) (leb-false (done matching.0.time) time not_by))))
      -- if a column matches and is done too late, the item is active (V1), and no other column matches (V2) that is
      -- done by the time
      (λ some_late.
      let matching = list_any_parts (λ c. matches c.cube s && nat_lt time (done c.time))
      (columns_of tables x) some_late in
      let parts = and_parts (matches matching.0.cube s) (nat_lt time (done matching.0.time)) matching.2 in
      let none : is_by time (map done (at tables x s)) ≡ false =
      false_from_ne_true (is_by time (map done (at tables x s))) (λ done_by.
      let found_time = list_any_parts (λ n. nat_le n time) (map done (at tables x s)) done_by in
      let mapped = Contains-map_parts done (at tables x s) found_time.0 found_time.1 in
      let other = at_parts tables x s mapped.0 mapped.1 in
      let same : matching.0 ≡ other.0 = match_once matching.0 other.0 matching.1 other.1 parts.0 other.2 in
      let is : done matching.0.time ≡ found_time.0 = ap (λ (c : Column). done c.time) same ∙ ap done other.3
      ∙ mapped.2 in
      let early = leb-true found_time.0 time found_time.2 in
      let late = ltb-true time (done matching.0.time) parts.1 in
      omega arith) in
      and_from _ _ (active_where g tables s lawful x is_item rules matching.0 matching.1 parts.0) (ap not none))
