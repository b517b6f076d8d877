-- A graph with other numbers of parts and another fault number.
use Rattle.std.specs.Prelude.{ℕ, ◌≡◌, ◌≤◌, List, All, length, map}
use Rattle.std.specs.List.{zip}
use Rattle.cpg_base.specs.declared.limits.TheConstants.{MOST_PARTS}
use Rattle.cpg_base.specs.declared.process.Process.{Process}
use Rattle.cpg_base.specs.Graph.{Graph, process_count}
use Rattle.cpg_tune.specs.Best.{in_parts}

-- Each process with the number of parts at its place: `pair.0` is the process, `pair.1` its parts. If one list is longer,
-- the rest of it is left out.
abbrev pub in_parts_each : List Process → List ℕ → List Process
in_parts_each ps parts = map (λ pair. in_parts pair.0 pair.1) (zip ps parts)

-- the graph with another fault number, and each process with the number of parts at its place
abbrev pub retuned : Graph → List ℕ → ℕ → Graph
retuned g parts faults = record g { faults = faults; processes = in_parts_each g.processes parts }

-- the list has a number of parts for each process of the graph
pub record ArePartsOf (g : Graph) (parts : List ℕ) : Type 0 where
  -- there is one for each process
  pub one_each : length parts ≡ process_count g
  -- each number is from 1 to 255
  pub divided : All (λ n. 1 ≤ n) parts
  pub few : All (λ n. n ≤ MOST_PARTS) parts
