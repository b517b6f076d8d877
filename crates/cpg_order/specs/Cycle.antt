-- Cycles of edges.
use Rattle.std.specs.Prelude.{ℕ, ◌+◌, ◌-◌, ◌≢◌, ◌<◌, ◌≤◌, Bool, ◌&&◌, ◌==◌, List, length, get_or, AllPairs, IsTrue}
use Rattle.std.specs.List.{list_any}
use Rattle.cpg_base.specs.Graph.{Graph}

-- whether an edge leads from process p to process q
abbrev pub has_edge : Graph → ℕ → ℕ → Bool
has_edge g p q = list_any (λ e. (e.from == p) && (e.to == q)) g.edges

-- A walk is a cycle if it has processes, all different, and each has an edge to the next and the last one to the first.
-- The least comes first, so that each cycle is listed in one way only.
pub record IsCycle (g : Graph) (walk : List ℕ) : Type 0 where
  -- it has processes
  pub some : 0 < length walk
  -- all of them are different
  pub apart : AllPairs (λ p q. p ≢ q) walk
  -- the first process is the least
  pub least : (k : ℕ) → k < length walk → get_or walk 0 0 ≤ get_or walk k 0
  -- an edge leads from each process to the next
  pub next : (k : ℕ) → k + 1 < length walk → IsTrue (has_edge g (get_or walk k 0) (get_or walk (k + 1) 0))
  -- an edge leads from the last process back to the first
  pub back : IsTrue (has_edge g (get_or walk (length walk - 1) 0) (get_or walk 0 0))

-- the graph has a cycle
abbrev pub HasCycle : Graph → Type 0
HasCycle g = (walk : List ℕ) × IsCycle g walk
