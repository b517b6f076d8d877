-- Frozen times, greatest finishes and greatest excesses under an order are the same whatever order a graph gives, and
-- if it gives none.
use Rattle.std.proofs.Common.{ℕ, List, Option, IsTrue, sym, ◌∙◌, subst}
use Rattle.cpg_base.specs.Graph.{Graph, item_at}
use Rattle.cpg_base.specs.Scenario.{Scenario, IsScenario}
use Rattle.cpg_run.specs.Run.{Times, IsRun}
use Rattle.cpg_run.specs.Frozen.{WouldHave, IsFrozenTime, AreFrozenTimes}
use Rattle.cpg_run.specs.Finish.{IsWorst, IsExcess}
use Rattle.cpg_core.specs.Measured.{IsMeasured}
use Rattle.cpg_given_laws.proofs.Runs.{other, same_item_active, same_unfrozen, run_of_other}

-- a scenario `s` of a graph is one of the graph that gives an order
pub scenario_of_other : (g : Graph) (given : Option (List ℕ)) (s : Scenario) → IsScenario g s →
    IsScenario (other g given) s
scenario_of_other g given s is = record { values = is.values; faults = is.faults; budget = is.budget }

-- a run of scenario `s`, with times `t`, of a graph that gives an order is one of the graph without it
pub run_back : (g : Graph) (given : Option (List ℕ)) (order : List ℕ) (frozen : List (Option ℕ)) (s : Scenario)
    (t : Times) → IsRun (other g given) order frozen s t →
    IsRun g order frozen s t
run_back g given order frozen s t = run_of_other (other g given) g.order order s t frozen

-- a scenario `s` of a graph that gives an order is one of the graph without it
pub scenario_back : (g : Graph) (given : Option (List ℕ)) (s : Scenario) → IsScenario (other g given) s → IsScenario g s
scenario_back g given = scenario_of_other (other g given) g.order

module _ (g : Graph) (given : Option (List ℕ)) (order : List ℕ) (frozen : List (Option ℕ)) where
  -- a time that an item would have in the graph, it would have with another order given
  would_have : (x time : ℕ) → WouldHave g order frozen x time → WouldHave (other g given) order frozen x time
  would_have x time would = record {
    scenario = would.scenario;
    lawful = scenario_of_other g given would.scenario would.lawful;
    times = would.times;
    run = run_of_other g given order would.scenario would.times frozen would.run;
    active = subst IsTrue (sym (same_item_active g given would.scenario.values (item_at g x))) would.active;
    has = same_unfrozen g given order would.scenario would.times x ∙ would.has;
  }

module _ (g : Graph) (given : Option (List ℕ)) (order : List ℕ) (frozen : List (Option ℕ)) where
  -- a time that an item would have in the graph with another order is one that it would have in the graph
  would_back : (x time : ℕ) → WouldHave (other g given) order frozen x time → WouldHave g order frozen x time
  would_back = would_have (other g given) g.order order frozen

  -- so a frozen time of the graph is one of the graph with another order
  frozen_time : (x : ℕ) → IsFrozenTime g order frozen x → IsFrozenTime (other g given) order frozen x
  frozen_time x is = record {
    reached = λ time is_time. would_have g given order frozen x time (is.reached time is_time);
    greatest = λ time most is_time would. is.greatest time most is_time (would_back x most would);
    none = λ is_time time would. is.none is_time time (would_back x time would);
  }

  -- frozen times under an order are the same whatever order the graph gives
  pub frozen_of_other : AreFrozenTimes g order frozen → AreFrozenTimes (other g given) order frozen
  frozen_of_other are =
      record { count = are.count; each = λ x l f. frozen_time x (are.each x l f); others = are.others }

  -- given an urgency order
  module _ (urgency : List ℕ) where
    -- the greatest finish under an order, in scenario `s` and by process `by`, is the same whatever order the graph
    -- gives
    pub worst_of_other : (worst : ℕ) (s : Scenario) (by : Option ℕ) → IsWorst g urgency order frozen worst s by →
        IsWorst (other g given) urgency order frozen worst s by
    worst_of_other worst s by is = record {
      greatest = λ u t law run. is.greatest u t (scenario_back g given u law) (run_back g given order frozen u t run);
      least = record {
        lawful = scenario_of_other g given s is.least.lawful;
        holds = let its_run = is.least.holds in
            (its_run.0, run_of_other g given order s its_run.0 frozen its_run.1, its_run.2);
        least = λ u law other_run.
            is.least.least u (scenario_back g given u law)
            (other_run.0, run_back g given order frozen u other_run.0 other_run.1, other_run.2);
      };
      by = λ t run. is.by t (run_back g given order frozen s t run);
    }

    -- The greatest excess under an order, in scenario `s` and by process `by`, is the same whatever order the graph
    -- gives. Scenarios and runs are the same.
    pub excess_of_other : (excess : ℕ) (s : Scenario) (by : Option ℕ) → IsExcess g urgency order frozen excess s by →
        IsExcess (other g given) urgency order frozen excess s by
    excess_of_other excess s by is = record {
      greatest = λ u t law run. is.greatest u t (scenario_back g given u law) (run_back g given order frozen u t run);
      least = record {
        lawful = scenario_of_other g given s is.least.lawful;
        holds = let its_run = is.least.holds in
            (its_run.0, run_of_other g given order s its_run.0 frozen its_run.1, its_run.2);
        least = λ u law other_run.
            is.least.least u (scenario_back g given u law)
            (other_run.0, run_back g given order frozen u other_run.0 other_run.1, other_run.2);
      };
      by = λ t run. is.by t (run_back g given order frozen s t run);
    }

-- frozen times of a graph that gives an order are those of the graph without it
pub frozen_back : (g : Graph) (given : Option (List ℕ)) (order : List ℕ) (frozen : List (Option ℕ)) →
    AreFrozenTimes (other g given) order frozen →
    AreFrozenTimes g order frozen
frozen_back g given = frozen_of_other (other g given) g.order

-- the greatest finish of a graph that gives an order, in scenario `s` and by process `by`, is that of the graph without
-- it
pub worst_back : (g : Graph) (given : Option (List ℕ)) (order : List ℕ) (frozen : List (Option ℕ)) (urgency : List ℕ)
    (worst : ℕ) (s : Scenario) (by : Option ℕ) →
    IsWorst (other g given) urgency order frozen worst s by → IsWorst g urgency order frozen worst s by
worst_back g given = worst_of_other (other g given) g.order

-- Both measures under an order are the same whatever order the graph gives.
-- Frozen times, excess and finish are.
pub measured_of_other : (g : Graph) (given : Option (List ℕ)) (urgency order : List ℕ) (excess worst : ℕ) →
    IsMeasured g urgency order excess worst →
    IsMeasured (other g given) urgency order excess worst
measured_of_other g given urgency order excess worst is = record {
  frozen = is.frozen;
  frozen_times = frozen_of_other g given order is.frozen is.frozen_times;
  excess_in = is.excess_in;
  excess_by = is.excess_by;
  is_excess = excess_of_other g given order is.frozen urgency excess is.excess_in is.excess_by is.is_excess;
  worst_in = is.worst_in;
  worst_by = is.worst_by;
  is_worst = worst_of_other g given order is.frozen urgency worst is.worst_in is.worst_by is.is_worst;
}
