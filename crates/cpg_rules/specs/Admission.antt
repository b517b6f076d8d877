-- Admitted graphs, each with its urgency order and guards.
use Rattle.std.specs.Prelude.{ℕ, ◌≤◌, List}
use Rattle.cpg_base.specs.Graph.{Graph}
use Rattle.cpg_base.specs.Limits.{IsWithinLimits}
use Rattle.cpg_base.specs.WellFormed.{WellFormed, HasSingleJoins, HasSenderSlots}
use Rattle.cpg_order.specs.Urgency.{IsUrgencyOrder, IsTopological}
use Rattle.cpg_order.specs.Track.{track_count, most_tracks}
use Rattle.cpg_rules.specs.Guards.{Guards, AreGuardsOf}
use Rattle.cpg_rules.specs.Rules.{AllFit}
use Rattle.cpg_rules.specs.Given.{GivesTopological}

-- how `Admitted` of the code is seen
pub record Admission : Type 0 where
  -- the graph
  pub graph : Graph
  -- its urgency order
  pub order : List ℕ
  -- in which outcomes its processes are active and its edges live
  pub guards : Guards

-- The graph keeps all rules, also those on an order that it gives. `order` is its urgency order, and `trees` are the
-- guards of both.
pub record IsAdmitted (g : Graph) (order : List ℕ) (trees : Guards) : Type 0 where
  -- its counts and numbers are within the limits of a file
  pub limits : IsWithinLimits g
  -- every number in it refers to something
  pub well_formed : WellFormed g
  -- the order is the urgency order, and each edge leads forward in it, so the graph has no cycle
  pub urgency : IsUrgencyOrder g order
  pub topological : IsTopological g order
  -- there are few tracks: outcomes in which a condition is true only if its process is active
  pub tracks : track_count g ≤ most_tracks
  -- the guards say in which outcomes each process is active and each edge live
  pub guards : AreGuardsOf g order trees
  -- no outcome gives a join two live inputs
  pub joins : HasSingleJoins g
  -- each node that sends has a slot
  pub slots : HasSenderSlots g
  -- each message fits its sender's slot
  pub sizes : AllFit g
  -- the order that the graph gives, if any, is topological
  pub given : GivesTopological g
