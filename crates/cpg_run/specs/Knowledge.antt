-- Local knowledge, in terms of the tables alone: if a node has seen the same of two scenarios by a time, it starts and
-- sends the same at that time.
use Rattle.std.specs.Prelude.{ℕ, ◌+◌, ◌≡◌, ◌<◌, ◌↔◌, List, ◌∷◌, Option, option_map, slice_get, Contains, IsTrue}
use Rattle.cpg_base.specs.Graph.{Graph, process_count, item_count, item_at, node_of, home, is_heard_by, condition_of}
use Rattle.cpg_base.specs.Bus.{slot_length}
use Rattle.cpg_base.specs.Duration.{duration}
use Rattle.cpg_base.specs.Scenario.{Scenario, IsScenario, fault_of, value_in_key}
use Rattle.cpg_table.specs.Table.{NodeTable, at}
use Rattle.cpg_run.specs.Alike.{seen, value_of_frame}

-- the time of an item in a scenario, that of its first column that matches; None if none does
abbrev pub time_of : List NodeTable → ℕ → Scenario → Option ℕ
time_of tables x s = slice_get (at tables x s) 0

-- what a node has seen by a time of the planned end of a process: when it was, the fault count and, if the process has a
-- condition, the value
abbrev pub end_seen : Graph → List NodeTable → Scenario → ℕ → ℕ → List ℕ
end_seen g tables s time p = seen time (option_map (λ start.
    start + duration g p (fault_of s p)) (time_of tables p s)) (fault_of s p ∷ value_in_key s.values (condition_of g p))

-- what a node has seen by a time of a frame: when it arrived and, of a broadcast, the value
abbrev pub frame_seen : Graph → List NodeTable → Scenario → ℕ → ℕ → List ℕ
frame_seen g tables s time x = seen time (option_map (λ start. start + slot_length g (home g x)) (time_of tables x s))
    (value_of_frame s (item_at g x))

-- by a time a node has seen the same of both scenarios
pub record LookAlike (g : Graph) (tables : List NodeTable) (node time : ℕ) (s u : Scenario) : Type 0 where
  -- the same of the end of each of its own processes
  pub ends : (p : ℕ) → p < process_count g → node_of g p ≡ node →
      end_seen g tables s time p ≡ end_seen g tables u time p
  -- the same of each frame that it hears
  pub frames : (x : ℕ) → x < item_count g → IsTrue (is_heard_by g node (item_at g x)) →
      frame_seen g tables s time x ≡ frame_seen g tables u time x

-- if a node has seen the same of two scenarios by a time, the tables ask it to start and send the same at that time
abbrev pub KnowLocally : Graph → List NodeTable → Type 0
KnowLocally g tables =
    (node time : ℕ) (s u : Scenario) → IsScenario g s → IsScenario g u → LookAlike g tables node time s u →
    (x : ℕ) → x < item_count g → home g x ≡ node → Contains (at tables x s) time ↔ Contains (at tables x u) time
