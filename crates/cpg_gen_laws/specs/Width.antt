-- In generated graphs nothing is too wide, each for every number and under any order.
use Rattle.std.specs.Prelude.{ℕ, ◌<◌, ◌≤◌, List, length, sum_by}
use Rattle.cpg_base.specs.Numbers.{numbers_below}
use Rattle.cpg_base.specs.Graph.{edge_count, item_count, message_item}
use Rattle.cpg_order.specs.Scenario.{scenarios}
use Rattle.cpg_order.specs.Reach.{Reach, IsReach, reach_of, views, load}
use Rattle.cpg_reach.specs.Wide.{IsNarrow}
use Rattle.cpg_gen.specs.Generated.{generated}

-- a generated graph has at most 7,564 scenarios: 60 processes with at most two faults have 1,891 ways to fail, and two
-- conditions have four outcomes
abbrev pub GeneratedHaveFewScenarios : Type 0
GeneratedHaveFewScenarios = (number : ℕ) → length (scenarios (generated number)) ≤ 7564

-- no list of variables has more than 7,564 views in a generated graph, since each view is a scenario
abbrev pub GeneratedHaveFewViews : Type 0
GeneratedHaveFewViews = (number : ℕ) (reached : List ℕ) → views (generated number) reached ≤ 7564

-- a message has at most four views, since it is frozen and so depends only on values
abbrev pub GeneratedMessagesHaveFewViews : Type 0
GeneratedMessagesHaveFewViews =
    (number : ℕ) (order : List ℕ) (r : Reach) → IsReach (generated number) order r → (e : ℕ) →
    e < edge_count (generated number) → views (generated number) (reach_of r (message_item (generated number) e)) ≤ 4

-- All items together have a load of at most 514,832: 60 processes with one row of 7,564 views, 60 messages with two rows
-- of four views, and two broadcasts with four rows of 7,564 views. That is 453,840 + 480 + 60,512.
abbrev pub GeneratedHaveSmallLoads : Type 0
GeneratedHaveSmallLoads = (number : ℕ) (order : List ℕ) (r : Reach) → IsReach (generated number) order r →
    sum_by (load (generated number) r) (numbers_below (item_count (generated number))) ≤ 514832

-- no item of a generated graph is too wide under any order
abbrev pub GeneratedAreNarrow : Type 0
GeneratedAreNarrow = (number : ℕ) (order : List ℕ) → IsNarrow (generated number) order
