-- Proof of `start_entries`: the entries of the start of a process, each in the least scenario of its cube; narrows for
-- each scenario what the node carries on.
use Rattle.std.proofs.Common.{◌≡◌, ◌++◌, ◌∷◌, [], get_or, take, None, sym, subst, arith}
use Rattle.std.proofs.lemmas.List.{take_all}
use Rattle.cpg_base.specs.Order.{before_on_node}
use Rattle.cpg_run.specs.Carried.{passed}
use Rattle.cpg_list.specs.Made.{passed_by, AreCubesOf}
use Rattle.cpg_run.specs.Found.{columns_of_rows}
use Rattle.cpg_list.specs.Narrowing.{IsEntryAt}
use Rattle.cpg_run.specs.Rows.{IsCubeOf}
use Rattle.cpg_run.proofs.CarriedBefore.{hears_earlier, receives_earlier}
use Rattle.cpg_list.proofs.CodeStarts.{timed_if_active, run_at, scenario_at, carried_start, none_done, all_done}
use Rattle.cpg_list.proofs.CodeStarts.{one_done, flat_map_push, found_more, cube_here}
use Rattle.cpg_run.proofs.EntriesFound.{AreEntriesAmong, none_yet, all_found}
use Rattle.cpg_list.proofs.starts.start_entries.Goals as goal

-- before the first scenario, there are no entries and the cubes are as before
pub loop-at-init : goal.loop-at-init
loop-at-init c =
    let graph = c.args.listed.now.admitted.now.graph in
    let rows = columns_of_rows c.args.rows.now in
    let earlier = before_on_node graph c.args.listed.now.order.now c.args.process in
    record {
      found = subst (AreEntriesAmong graph c.args.listed.now.order.now
          c.args.listed.now.frozen.now rows c.args.process [])
          (sym c.new-entries.ensures.items)
          (none_yet graph c.args.listed.now.order.now c.args.listed.now.frozen.now rows c.args.process);
      carried = none_done graph.faults c.args.listed.now.scenarios.now (passed_by graph rows earlier)
          (passed_by graph rows (earlier ++ c.args.process ∷ [])) c.known.inside.cubes.items
          (subst (AreCubesOf graph.faults c.args.listed.now.scenarios.now (passed_by graph rows earlier))
          (sym c.known.view_is) c.requires.known);
    }

-- the process has a time in the scenario exactly if it is active
pub start_in-requires-clause-active : goal.start_in-requires-clause-active
start_in-requires-clause-active c =
    let graph = c.args.listed.now.admitted.now.graph in
    let run = run_at graph c.args.listed.now.order.now c.args.listed.now.frozen.now c.args.listed.now.scenarios.now
    c.args.listed.now.runs.now c.requires.listed.runs c.loop-at.at
    c.index-scenarios-at.result c.index-runs-at.result c.loop-at-test.true c.index-scenarios-at.is c.index-runs-at.is in
    timed_if_active graph c.args.listed.now.order.now c.args.listed.now.frozen.now c.index-scenarios-at.result
    c.index-runs-at.result run c.args.process (omega (arith, c.requires.process))

-- the rows of the broadcasts that decide the process have the times of the run
pub start_in-requires-clause-heard : goal.start_in-requires-clause-heard
start_in-requires-clause-heard c condition there =
    let graph = c.args.listed.now.admitted.now.graph in
    let scenario = c.index-scenarios-at.result in
    let run = run_at graph c.args.listed.now.order.now c.args.listed.now.frozen.now c.args.listed.now.scenarios.now
    c.args.listed.now.runs.now c.requires.listed.runs c.loop-at.at scenario c.index-runs-at.result
    c.loop-at-test.true c.index-scenarios-at.is c.index-runs-at.is in
    let law = c.requires.listed.scenarios.lawful scenario
    (scenario_at c.args.listed.now.scenarios.now c.loop-at.at scenario c.loop-at-test.true c.index-scenarios-at.is) in
    let hearing = hears_earlier graph c.args.listed.now.order.now c.requires.listed.topological scenario
    c.args.process condition there in
    c.requires.told scenario c.index-runs-at.result law run _ hearing.0 hearing.1

-- the rows of the messages to the process have the times of the run
pub start_in-requires-clause-received : goal.start_in-requires-clause-received
start_in-requires-clause-received c edge there =
    let graph = c.args.listed.now.admitted.now.graph in
    let scenario = c.index-scenarios-at.result in
    let run = run_at graph c.args.listed.now.order.now c.args.listed.now.frozen.now c.args.listed.now.scenarios.now
    c.args.listed.now.runs.now c.requires.listed.runs c.loop-at.at scenario c.index-runs-at.result
    c.loop-at-test.true c.index-scenarios-at.is c.index-runs-at.is in
    let law = c.requires.listed.scenarios.lawful scenario
    (scenario_at c.args.listed.now.scenarios.now c.loop-at.at scenario c.loop-at-test.true c.index-scenarios-at.is) in
    let receiving = receives_earlier graph c.args.listed.now.order.now c.requires.listed.topological
    c.args.process edge there in
    c.requires.told scenario c.index-runs-at.result law run _ receiving.0 receiving.1

-- the entry of the scenario is added, if there is one, and the node's cube is replaced
pub loop-at-preserved : goal.loop-at-preserved
loop-at-preserved c =
    let graph = c.args.listed.now.admitted.now.graph in
    let order = c.args.listed.now.order.now in
    let rows = columns_of_rows c.args.rows.now in
    let process = c.args.process in
    let scenario = c.index-scenarios-at.result in
    let times = c.index-runs-at.result in
    -- what the processes before on the node pass on in the scenario
    let earlier_processes = before_on_node graph order process in
    let earlier = passed_by graph rows earlier_processes scenario in
    let cubes = c.loop-at.known-inside.cubes.items in
    -- the cube of that for this scenario
    let is = cube_here graph.faults c.args.listed.now.scenarios.now (passed_by graph rows earlier_processes)
    (passed_by graph rows (earlier_processes ++ process ∷ [])) c.loop-at.at cubes scenario
    c.index_mut.result.now c.loop-at-test.true
    c.index-scenarios-at.is
    c.loop-at.invariant.carried c.index_mut.ensures.value in
    -- the entry is kept if the scenario is the least of what is carried at the start
    let entry = subst (λ ls. IsEntryAt graph scenario (get_or times.times process None) ls c.in_ok-entry.entry)
    (sym (carried_start graph order rows scenario process c.requires.process))
    (c.in_ok-entry.ensures.entry earlier is) in
    -- the entries with this one, and the cubes with what the process passes on
    record {
      found = found_more graph order c.requires.listed.topological c.args.listed.now.frozen.now rows process
          (omega (arith, c.requires.process)) c.args.listed.now.scenarios.now c.args.listed.now.runs.now
          c.requires.listed.scenarios c.requires.listed.runs c.loop-at.at scenario times
          c.loop-at-test.true c.index-scenarios-at.is c.index-runs-at.is c.loop-at.entries.items
          c.push_entry.new.entries.items c.loop-at.invariant.found c.in_ok-entry.entry entry
          c.in_ok-push_entry.ensures;
      carried = one_done graph.faults c.args.listed.now.scenarios.now (passed_by graph rows earlier_processes)
          (passed_by graph rows (earlier_processes ++ process ∷ [])) c.loop-at.at cubes scenario
          c.start_in.new.cube c.loop-at-test.true
          c.loop-at.invariant.carried
          c.index-scenarios-at.is (subst (λ ls. IsCubeOf graph.faults ls c.start_in.new.cube)
          (flat_map_push (passed graph rows scenario) earlier_processes process)
          (c.in_ok-entry.ensures.carried.by earlier is));
    }

-- the loop has seen all scenarios, so the entries are all of the start
pub returns-clause-entries : goal.returns-clause-entries
returns-clause-entries c =
    let graph = c.args.listed.now.admitted.now.graph in
    let rows = columns_of_rows c.args.rows.now in
    let all : take c.loop-at.at c.args.listed.now.scenarios.now ≡ c.args.listed.now.scenarios.now =
    take_all c.loop-at.at c.args.listed.now.scenarios.now c.loop-at-test.false in
    all_found graph c.args.listed.now.order.now c.args.listed.now.frozen.now rows c.args.process
    c.args.listed.now.scenarios.now c.loop-at.entries.items
    (subst (λ ds. AreEntriesAmong graph c.args.listed.now.order.now c.args.listed.now.frozen.now rows c.args.process ds
    c.loop-at.entries.items) all c.loop-at.invariant.found)
    c.requires.listed.scenarios.all

-- the loop has seen all scenarios, so all cubes have what the process passes on
pub returns-clause-known : goal.returns-clause-known
returns-clause-known c =
    let graph = c.args.listed.now.admitted.now.graph in
    let rows = columns_of_rows c.args.rows.now in
    let earlier = before_on_node graph c.args.listed.now.order.now c.args.process in
    all_done graph.faults c.args.listed.now.scenarios.now (passed_by graph rows earlier) (passed_by graph rows
    (earlier ++ c.args.process ∷ [])) c.loop-at.at c.loop-at.known-inside.cubes.items c.loop-at-test.false
    c.loop-at.invariant.carried
