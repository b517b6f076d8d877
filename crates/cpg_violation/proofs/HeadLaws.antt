-- Heads that are a graph's: what tables lawful under them are for the graph.
use Rattle.std.proofs.Common.{◌≡◌, ◌<◌, ◌∙◌, ℕ, Bool, true, false, cond, length, map, ap, subst, refl}
use Rattle.cpg_base.specs.Graph.{Graph}
use Rattle.cpg_base.specs.Limits.{IsWithinLimits}
use Rattle.cpg_base.specs.declared.process.Process.{Process}
use Rattle.cpg_head.specs.GraphHead.{extra_of, extras_of, head_of, is_plain}
use Rattle.cpg_head.specs.Head.{Head}
use Rattle.cpg_table.specs.Items.{hears_of}
use Rattle.cpg_table.specs.Lawful.{AreTablesOf}
use Rattle.cpg_table.specs.Shape.{heard_by}
use Rattle.cpg_table.specs.Table.{NodeTable}
use Rattle.cpg_table.proofs.GraphItems.{hears_are}
use Rattle.cpg_violation.specs.Heads.{IsHeadFor}
use Rattle.std.specs.List.{list_all}
use Rattle.std.specs.Prelude.{IfSome, List, None, Some}

-- a head `h` that is a graph's is the graph's own head, but that it may have no extras
same_but_extras : (g : Graph) (h : Head) → IsHeadFor g h → record h { extras = extras_of g } ≡ head_of g
same_but_extras g h is_for = rw (is_for.faults, is_for.nodes, is_for.processes.processes, is_for.edges) refl

-- tables that are lawful under head `h`, which is the graph's, are lawful under the graph's own head
pub tables_of_graph : (g : Graph) (h : Head) (tables : List NodeTable) → IsHeadFor g h → AreTablesOf h tables →
    AreTablesOf (head_of g) tables
-- no field of lawful tables depends on the extras, so they can be put together again for a head with the graph's extras
tables_of_graph g h tables is_for are = subst (λ (head : Head). AreTablesOf head tables) (same_but_extras g h is_for)
    (record {
      count = are.count;
      each = λ node inside. let table = are.each node inside in
          record {
            faults = table.faults;
            first_broadcast = table.first_broadcast;
            own = table.own;
            starts = table.starts;
            sends = table.sends;
            hears = table.hears;
            lawful = table.lawful;
          };
      few = are.few;
    })

-- a node hears the same items by head `h` as in the graph
pub hears_of_graph : (g : Graph) (h : Head) → IsHeadFor g h → IsWithinLimits g → (node : ℕ) → node < length g.nodes →
    hears_of h node ≡ heard_by g node
hears_of_graph g h is_for within node inside =
    ap (λ (head : Head). hears_of head node) (same_but_extras g h is_for) ∙ hears_are g within node inside

-- the extras of a graph's own head, if it has them, are those of the processes; plain processes need none
own_extras : (ps : List Process) (plain : Bool) →
    IfSome (cond plain None (Some (map extra_of ps))) (λ extras. extras ≡ map extra_of ps)
own_extras ps true = tt
own_extras ps false = refl

-- the graph's own head is the graph's
pub own_head : (g : Graph) → IsHeadFor g (head_of g)
own_head g = record {
  faults = refl;
  nodes = refl;
  processes = record { processes = refl; extras = own_extras g.processes (list_all is_plain g.processes) };
  edges = refl;
}
