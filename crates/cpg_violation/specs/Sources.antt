-- What makes an item active.
use Rattle.std.specs.Prelude.{◌<◌, Bool, false, List, ⊤}
use Rattle.cpg_base.specs.Graph.{Graph, edge_count, process_count}
use Rattle.cpg_base.specs.Activity.{active, live}
use Rattle.cpg_violation.specs.declared.sources.ItemSource.{ItemSource}

-- whether the source of an item makes it active: its process is active, or its edge is live; an item without a source
-- never is
abbrev pub is_active_by : Graph → List Bool → ItemSource → Bool
is_active_by g values ItemSource.Nothing = false
is_active_by g values (ItemSource.Process p) = active g values p
is_active_by g values (ItemSource.Edge e) = live g values e

-- the process or edge that makes an item active is one of the graph's; `Nothing` names none
abbrev pub IsSourceIn : Graph → ItemSource → Type 0
IsSourceIn g ItemSource.Nothing = ⊤
IsSourceIn g (ItemSource.Process p) = p < process_count g
IsSourceIn g (ItemSource.Edge e) = e < edge_count g
