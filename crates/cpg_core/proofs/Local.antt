-- What is built under a compile's order has local knowledge.
use Rattle.std.proofs.Common.{ℕ, ◌+◌, ◌≡◌, ◌<◌, ◌∙◌, List, ◌∷◌, Option, Some, None, option_map, get_or, slice_get}
use Rattle.std.proofs.Common.{option_to_list, refl, sym, ap}
use Rattle.cpg_base.specs.Graph.{Graph, process_count, item_at, home, condition_of}
use Rattle.cpg_base.specs.Bus.{slot_length}
use Rattle.cpg_base.specs.Duration.{duration}
use Rattle.cpg_base.specs.WellFormed.{WellFormed, HasSingleJoins}
use Rattle.cpg_base.specs.Scenario.{Scenario, IsScenario, fault_of, value_in_key}
use Rattle.cpg_order.specs.Urgency.{IsTopological, IsUrgencyOrder, first_order}
use Rattle.cpg_table.specs.Table.{NodeTable}
use Rattle.cpg_run.specs.Alike.{seen, value_of_frame, seen_end, seen_frame, AreAlike}
use Rattle.cpg_run.specs.declared.built.Built.{Built}
use Rattle.cpg_run.specs.Built.{IsBuiltFor}
use Rattle.cpg_run.specs.Exact.{HasRunTimes}
use Rattle.cpg_run.specs.Knowledge.{time_of, end_seen, frame_seen, KnowLocally}
use Rattle.cpg_run.specs.Run.{Times, IsRun}
use Rattle.cpg_run.proofs.Knowledge.{local_tables}
use Rattle.cpg_run.proofs.RunExists.{a_run}
use Rattle.cpg_run.proofs.Runs.{end_is}
use Rattle.cpg_core.specs.Compiled.{IsCompileOrder}
use Rattle.cpg_core.proofs.CompiledLaws.{compile_topological}

-- the first of the list of an option is its value
first_of_option : (o : Option ℕ) → slice_get (option_to_list o) 0 ≡ o
first_of_option None = refl
first_of_option (Some x) = refl

-- given: tables with the times of the runs under an order, and a run
-- `times`: in each scenario the tables have the times of the run. `is`, `run`: t is the run of the scenario s.
module _ (g : Graph) (order : List ℕ) (frozen : List (Option ℕ)) (tables : List NodeTable)
    (times : HasRunTimes g order frozen tables) (s : Scenario) (is : IsScenario g s) (t : Times)
    (run : IsRun g order frozen s t) where
  -- the tables' time of an item in the scenario is the run's
  time_is : (x : ℕ) → time_of tables x s ≡ get_or t.times x None
  time_is x = ap (λ ts. slice_get ts 0) (times s t x is run) ∙ first_of_option (get_or t.times x None)

  -- an end is seen in the run exactly as the tables show it
  pub end_is_seen : (time p : ℕ) → p < process_count g → seen_end g s t time p ≡ end_seen g tables s time p
  end_is_seen time p below = ap (λ o. seen time o (fault_of s p ∷ value_in_key s.values (condition_of g p)))
      (end_is g order frozen s t run p below
      ∙ ap (option_map (λ start. start + duration g p (fault_of s p))) (sym (time_is p)))

  -- a frame is seen in the run exactly as the tables show it
  pub frame_is_seen : (time x : ℕ) → seen_frame g s t time x ≡ frame_seen g tables s time x
  frame_is_seen time x =
      ap (λ o. seen time (option_map (λ start. start + slot_length g (home g x)) o) (value_of_frame s (item_at g x)))
      (sym (time_is x))

-- given: a well-formed graph with single joins, and its orders
-- `urgent`: `urgency` is the urgency order. `top`, `first_top`: it and the first order are topological.
module _ (g : Graph) (well_formed : WellFormed g) (joins : HasSingleJoins g) (urgency : List ℕ)
    (urgent : IsUrgencyOrder g urgency) (top : IsTopological g urgency)
    (first_top : IsTopological g (first_order g urgency)) where
  -- the tables that are built under the compile's order have local knowledge
  pub know_locally : (order : List ℕ) → IsCompileOrder g urgency order → (b : Built) → IsBuiltFor g urgency order b →
      KnowLocally g b.tables.nodes
  know_locally order taken b is node time s u law other_law alike =
      let tables = b.tables.nodes in
      let times = is.exact.times in
      let topological = compile_topological g well_formed urgency top first_top order taken in
      let one = a_run g order b.frozen s topological in
      let other = a_run g order b.frozen u topological in
      let same : AreAlike g node time s one.0 u other.0 = record {
        ends = λ p below on_node. end_is_seen g order b.frozen tables times s law one.0 one.1 time p below
            ∙ alike.ends p below on_node
            ∙ sym (end_is_seen g order b.frozen tables times u other_law other.0 other.1 time p below);
        frames = λ x below is_heard. frame_is_seen g order b.frozen tables times s law one.0 one.1 time x
            ∙ alike.frames x below is_heard
            ∙ sym (frame_is_seen g order b.frozen tables times u other_law other.0 other.1 time x);
      } in
      local_tables g urgency order b.frozen tables node time s u one.0 other.0
      (record { formed = well_formed; joins = joins; urgent = urgent; topological = topological }) times law other_law
      one.1 other.1 same
