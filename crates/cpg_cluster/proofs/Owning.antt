-- Lawful tables of a graph have what their nodes need of it, so nothing is added when they are played.
use Rattle.std.proofs.Common.{◌≡◌, ℕ, ◌<◌, List, length, sym, arith}
use Rattle.cpg_base.specs.Graph.{Graph}
use Rattle.cpg_base.specs.Limits.{IsWithinLimits}
use Rattle.cpg_head.specs.GraphHead.{head_of}
use Rattle.cpg_table.specs.Table.{NodeTable, table_at}
use Rattle.cpg_table.specs.Lawful.{AreTablesOf}
use Rattle.cpg_table.proofs.GraphTables.{suits_graph}
use Rattle.cpg_cluster.specs.Cluster.{own_table}

-- the table of node `i` with what it needs of the graph is the table itself, since its head is the graph's
pub own_is : (g : Graph) (tables : List NodeTable) → IsWithinLimits g → AreTablesOf (head_of g) tables → (i : ℕ) →
    i < length tables →
    own_table g i (table_at tables i) ≡ table_at tables i
own_is g tables within of i inside =
    let suits = suits_graph g within tables of i (let many : length tables ≡ length g.nodes = of.count in
    omega (arith, inside, many)) in
    λ j. record {
      faults = sym suits.faults j;
      first_broadcast = sym suits.first_broadcast j;
      own = sym suits.own j;
      starts = (table_at tables i).starts;
      sends = (table_at tables i).sends;
      hears =
          (table_at tables i).hears;
    }
