-- Loops of `release_all`: counts each of these edges as a settled input of its target.
use Rattle.std.proofs.Common.{ℕ, List, ◌+◌, ◌≡◌, ◌==◌, ◌++◌, length, take, filter, get_or}
use Rattle.cpg_base.specs.Graph.{target}
use Rattle.cpg_order.specs.Settling.{AreReady}
use Rattle.cpg_order.proofs.settling.release_all.Given as goal

-- the edges so far are counted as settled inputs
abbrev pub invariant-loop-edge : goal.invariant-loop-edge
invariant-loop-edge l = record {
  -- `ready` lists the processes that wait for no input
  ready : AreReady l.waiting.items l.ready.items;
  -- there are as many counts as before
  long : length l.waiting.items ≡ length l.fn.waiting.items;
  -- each process waits for one input less for each edge so far that leads to it
  left : (p : ℕ) →
      get_or l.waiting.items p 0 + length (filter (λ e. target l.problem e == p) (take l.edge-index l.edges))
      ≡ get_or l.fn.waiting.items p 0;
  -- `ready` has what it had, and maybe more
  longer : (more : List ℕ) × (l.ready.items ≡ l.fn.ready.items ++ more);
}
