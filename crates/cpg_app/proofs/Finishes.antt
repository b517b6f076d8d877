-- The greatest end of a whole play of exact tables is the finish of the scenario's run.
use Rattle.std.proofs.Common.{ℕ, ◌≡◌, ◌+◌, ◌∙◌, ◌==◌, List, [], get_or, length, map, flat_map, Contains, Option, Some}
use Rattle.std.proofs.Common.{None, sym, ap, subst, arith, inl, inr, refl, eq-eqb}
use Rattle.std.specs.Prelude.{option_to_list, option_map}
use Rattle.std.proofs.lemmas.Option.{none-some}
use Rattle.std.proofs.lemmas.List.Sorted.{Contains-permutation, IsPermutation-sym}
use Rattle.cpg_base.specs.Numbers.{numbers_below, greatest}
use Rattle.cpg_base.specs.Graph.{Graph, process_count, node_of}
use Rattle.cpg_base.specs.WellFormed.{WellFormed}
use Rattle.cpg_base.specs.Duration.{duration}
use Rattle.cpg_base.specs.Scenario.{IsScenario, fault_of}
use Rattle.cpg_base.proofs.Lists.{Contains-first, Contains-cases, Contains-nil, Contains-map, Contains-map_parts}
use Rattle.cpg_base.proofs.Lists.{Contains-filter, Contains-filter_parts, Contains-flat_map, Contains-flat_map_parts}
use Rattle.cpg_base.proofs.Lists.{Contains-numbers, numbers-Contains, greatest_above, greatest-le}
use Rattle.cpg_table.specs.Table.{NodeTable, at}
use Rattle.cpg_table.specs.Shape.{processes_on}
use Rattle.cpg_run.specs.Run.{Times, IsRun, end_by}
use Rattle.cpg_run.specs.Exact.{HasRunTimes}
use Rattle.cpg_node.specs.Dispatcher.{Ended}
use Rattle.cpg_cluster.specs.Cluster.{World, Cluster}
use Rattle.cpg_cluster.specs.Correct.{ends_asked, ended_in}
use Rattle.cpg_cluster.specs.Whole.{IsWholePlay}
use Rattle.cpg_show.specs.TraceText.{finish_of, end_times}

-- Given tables that have the times of each scenario's run (`exact`), a world whose scenario has the run t (`run`), and
-- the end of a play of the tables in this world (`whole`).
module _ (g : Graph) (formed : WellFormed g) (tables : List NodeTable) (order : List ℕ) (frozen : List (Option ℕ))
    (exact : HasRunTimes g order frozen tables) (w : World)
    (lawful : IsScenario g w.scenario)
    (t : Times) (run : IsRun g order frozen w.scenario t) (c : Cluster) (whole : IsWholePlay g tables w c) where
  -- the tables give a process the start of the run
  starts_of : (p : ℕ) → at tables p w.scenario ≡ option_to_list (get_or t.times p None)
  starts_of p = exact w.scenario t p lawful run

  -- the end of process p if it starts at this time
  abbrev end_at : ℕ → ℕ → ℕ
  end_at p start = start + duration g p (fault_of w.scenario p)

  -- the end of process `p` if it starts at this time, with its report, as a play notes it
  abbrev planned_end : ℕ → ℕ → ℕ × Ended
  planned_end p start = (end_at p start, ended_in g w.scenario p)

  -- if process `p` has a start in `o`, it has the end of this start
  ended_at : (p : ℕ) (o : Option ℕ) (start : ℕ) → Contains (option_to_list o) start →
      option_map (end_at p) o ≡ Some (end_at p start)
  ended_at p None start among = absurd (Contains-nil start among)
  ended_at p (Some first) start among = elim (Contains-cases first [] start among) [
    | inl e ↦ ap (λ s. Some (end_at p s)) e
    | inr k ↦ absurd (Contains-nil start k)
  ]

  -- a value, or a default
  abbrev value_or : ℕ → Option ℕ → ℕ
  value_or d (Some n) = n
  value_or d None = d

  -- if a process `p` with its start in `o` has an end `x`, there is a start that it comes from
  started_at : (p : ℕ) (o : Option ℕ) (x : ℕ) → option_map (end_at p) o ≡ Some x →
      (start : ℕ) × Contains (option_to_list o) start × (end_at p start ≡ x)
  started_at p None x found = absurd (none-some x found)
  started_at p (Some start) x found = (start, Contains-first start [], ap (value_or 0) found)

  -- an `x` in the list of option `o` is its value
  some_of : (o : Option ℕ) (x : ℕ) → Contains (option_to_list o) x → o ≡ Some x
  some_of None x among = absurd (Contains-nil x among)
  some_of (Some y) x among = elim (Contains-cases y [] x among)
      [ inl e ↦ ap Some e | inr m ↦ absurd (Contains-nil x m) ]

  -- the times of all ends of the play
  abbrev times : List ℕ
  times = flat_map (end_times c.ends) (numbers_below (length g.nodes))

  -- An end of the play is one of the run. It is in the list of some node, so the tables ask for it: by a process of
  -- this node and its start, which is that of the run.
  of_play : (x : ℕ) → Contains times x → Contains (flat_map option_to_list t.ends) x
  of_play x among =
      -- the node whose list has it, and the report there
      let at_node = Contains-flat_map_parts (end_times c.ends) (numbers_below (length g.nodes)) x among in
      let node = at_node.0 in
      let is_node = numbers-Contains (length g.nodes) node at_node.1 in
      let told = Contains-map_parts (λ (e : ℕ × Ended). e.0) (get_or c.ends node []) x at_node.2 in
      -- the tables ask for this end: by a process of the node and its start
      let asked = Contains-permutation (get_or c.ends node []) (ends_asked g tables w.scenario node) told.0
      (IsPermutation-sym (ends_asked g tables w.scenario node) (get_or c.ends node []) (whole.ends node is_node).all)
      told.1 in
      let of_process = Contains-flat_map_parts (λ process. map (planned_end process) (at tables process w.scenario))
      (processes_on g node) told.0 asked in
      -- that process, and its start in the run
      let process = of_process.0 in
      let below = numbers-Contains (process_count g) process
      (Contains-filter_parts (λ process. node_of g process == node) (numbers_below (process_count g)) process
      of_process.1).0 in
      let started = Contains-map_parts (planned_end process) (at tables process w.scenario) told.0 of_process.2 in
      let there : Contains (option_to_list (get_or t.times process None)) started.0 =
      subst (λ ss. Contains ss started.0) (starts_of process) started.1 in
      let time : end_at process started.0 ≡ x = ap (λ (e : ℕ × Ended). e.0) started.2 ∙ told.2 in
      let ends : end_by g w.scenario t process ≡ Some x =
      ended_at process (get_or t.times process None) started.0 there ∙ ap Some time in
      -- so the end is among those of the run
      Contains-flat_map option_to_list t.ends (Some x) x
      (subst (Contains t.ends) ends
      (subst (λ (es : List (Option ℕ)). Contains es (end_by g w.scenario t process)) (sym run.ends)
      (Contains-map (end_by g w.scenario t) (numbers_below (process_count g)) process
      (Contains-numbers (process_count g) process below))))
      (Contains-first x [])

  -- An end of the run is one of the play. It comes from the start of a process, which the tables have, so they ask for
  -- this end on the process's node, which has reached all its planned ends.
  of_run : (x : ℕ) → Contains (flat_map option_to_list t.ends) x → Contains times x
  of_run x among =
      -- the process whose end it is
      let one = Contains-flat_map_parts option_to_list t.ends x among in
      let is_end : one.0 ≡ Some x = some_of one.0 x one.2 in
      let of_process = Contains-map_parts (end_by g w.scenario t) (numbers_below (process_count g)) one.0
      (subst (λ (es : List (Option ℕ)). Contains es one.0) run.ends one.1) in
      let process = of_process.0 in
      let below = numbers-Contains (process_count g) process of_process.1 in
      -- its node, and the start that the end comes from
      let node = node_of g process in
      let is_node = formed.nodes process below in
      let started = started_at process (get_or t.times process None) x (of_process.2 ∙ is_end) in
      let there : Contains (at tables process w.scenario) started.0 =
      subst (λ ss. Contains ss started.0) (sym (starts_of process)) started.1 in
      -- the tables ask for this end on the node
      let on : Contains (processes_on g node) process = Contains-filter (λ process. node_of g process == node)
      (numbers_below (process_count g)) process (eq-eqb node node refl) of_process.1 in
      let asked : Contains (ends_asked g tables w.scenario node) (planned_end process started.0) =
      Contains-flat_map (λ process. map (planned_end process) (at tables process w.scenario)) (processes_on g node)
      process
      (planned_end process started.0) on
      (Contains-map (planned_end process) (at tables process w.scenario) started.0 there) in
      -- the node has reached it
      let told = Contains-permutation (ends_asked g tables w.scenario node) (get_or c.ends node [])
      (planned_end process started.0) (whole.ends node is_node).all asked in
      Contains-flat_map (end_times c.ends) (numbers_below (length g.nodes)) node x
      (Contains-numbers (length g.nodes) node is_node)
      (subst (Contains (end_times c.ends node)) started.2
      (Contains-map (λ (e : ℕ × Ended). e.0) (get_or c.ends node []) (planned_end process started.0) told))

  -- The greatest end of the play is the finish of the scenario's run: neither is greater, as they have the same ends.
  pub finish_is : finish_of g c.ends ≡ t.finish
  finish_is =
      let play_least = greatest-le times (greatest (flat_map option_to_list t.ends))
      (λ x m. greatest_above (flat_map option_to_list t.ends) x (of_play x m)) in
      let run_least =
      greatest-le (flat_map option_to_list t.ends) (greatest times) (λ x m. greatest_above times x (of_run x m)) in
      let finish = run.finish in
      omega (arith, play_least, run_least, finish)
