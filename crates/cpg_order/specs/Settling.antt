-- How processes are settled one after another: each once the sources of all its inputs are.
use Rattle.std.specs.Prelude.{ℕ, ◌≡◌, ◌≢◌, ◌<◌, ◌≤◌, ◌+◌, ◌-◌, not, List, length, filter, get_or, take, AllPairs}
use Rattle.std.specs.Prelude.{Contains, IsTrue}
use Rattle.cpg_base.specs.Graph.{Graph, process_count, source, inputs}
use Rattle.cpg_order.specs.Reach.{is_in}
use Rattle.cpg_order.specs.Cycle.{has_edge}

-- how many inputs of a process have sources that are not among the settled ones
abbrev pub waits : Graph → List ℕ → ℕ → ℕ
waits g settled p = length (filter (λ e. not (is_in settled (source g e))) (inputs g p))

-- `waiting` says for how many inputs each process waits, and `ready` lists those that wait for none, each once
pub record AreReady (waiting ready : List ℕ) : Type 0 where
  -- no process is listed twice
  pub apart : AllPairs (λ p q. p ≢ q) ready
  -- what is listed waits for no input
  pub free : (p : ℕ) → Contains ready p → (p < length waiting) × (get_or waiting p 0 ≡ 0)
  -- what waits for no input is listed
  pub all : (p : ℕ) → p < length waiting → get_or waiting p 0 ≡ 0 → Contains ready p

-- the sources of a listed process's inputs are listed before it
abbrev pub StandAfterSources : Graph → List ℕ → Type 0
StandAfterSources g ready = (k : ℕ) → k < length ready → (e : ℕ) → Contains (inputs g (get_or ready k 0)) e →
    Contains (take k ready) (source g e)

-- The first `settled` of the ready processes are settled. Each process waits for as many inputs as `waiting` says: those
-- whose sources aren't settled.
pub record AreSettled (g : Graph) (settled : ℕ) (waiting ready : List ℕ) : Type 0 where
  -- there is a count for each process
  pub long : length waiting ≡ process_count g
  -- the ready processes are those that wait for no input
  pub listed : AreReady waiting ready
  -- all that are settled are ready
  pub within : settled ≤ length ready
  -- each process waits for its inputs whose sources aren't among the settled ones
  pub counts : (p : ℕ) → p < process_count g → get_or waiting p 0 ≡ waits g (take settled ready) p
  -- each ready process stands after the sources of its inputs
  pub after : StandAfterSources g ready

-- no process can be settled any more
pub record AreStuck (g : Graph) (waiting : List ℕ) : Type 0 where
  -- there is a count for each process
  pub long : length waiting ≡ process_count g
  -- some process waits
  pub some : (p : ℕ) × (p < process_count g) × (0 < get_or waiting p 0)
  -- each that waits has an input whose source waits too
  pub each : (p : ℕ) → p < process_count g → 0 < get_or waiting p 0 →
      (e : ℕ) × Contains (inputs g p) e × (0 < get_or waiting (source g e) 0)

-- a cycle that is listed against its edges
pub record IsCycleBack (g : Graph) (back : List ℕ) : Type 0 where
  -- it has processes
  pub some : 0 < length back
  -- all of them are different
  pub apart : AllPairs (λ p q. p ≢ q) back
  -- an edge leads to each process from the one behind it in the list
  pub next : (k : ℕ) → k + 1 < length back → IsTrue (has_edge g (get_or back (k + 1) 0) (get_or back k 0))
  -- an edge leads to the last process from the first
  pub last : IsTrue (has_edge g (get_or back 0 0) (get_or back (length back - 1) 0))
