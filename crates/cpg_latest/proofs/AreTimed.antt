-- The latest times with each number of faults keep the rules of a run but for the ends.
use Rattle.std.proofs.Common.{ℕ, ◌≤◌, List, Option}
use Rattle.cpg_base.specs.Graph.{Graph}
use Rattle.cpg_base.specs.Scenario.{Scenario}
use Rattle.cpg_run.specs.Run.{Times}
use Rattle.cpg_latest.specs.Latest.{AreLatest, latest_end}
use Rattle.cpg_latest.specs.Timed.{IsTimed}

-- the latest times with n faults are times that keep the rules of a run but for the ends
pub latest_is_timed : (g : Graph) (order : List ℕ) (frozen : List (Option ℕ)) (s : Scenario) (late : ℕ → Times) →
    AreLatest g order frozen s.values late → (n : ℕ) → n ≤ g.faults →
    IsTimed g order frozen s (late n)
latest_is_timed g order frozen s late are n few =
    record { times = are.times n few; end_of = latest_end g late n; ends = are.ends n few }
