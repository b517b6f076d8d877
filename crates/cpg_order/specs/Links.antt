-- The edges of each process, found once.
use Rattle.std.specs.Prelude.{ℕ, List, map}
use Rattle.cpg_base.specs.Numbers.{numbers_below}
use Rattle.cpg_base.specs.Graph.{Graph, process_count, inputs, outputs}

-- how `Links` of the code is seen
pub record EdgeLists : Type 0 where
  -- how many processes there are
  pub count : ℕ
  -- by process, the edges that lead to it, in numerical order
  pub inputs : List (List ℕ)
  -- by process, the edges that lead away from it, in numerical order
  pub outputs : List (List ℕ)

-- the edge lists of a graph
abbrev pub links_of : Graph → EdgeLists
links_of g = record {
  count = process_count g;
  inputs = map (inputs g) (numbers_below (process_count g));
  outputs = map (outputs g) (numbers_below (process_count g));
}
