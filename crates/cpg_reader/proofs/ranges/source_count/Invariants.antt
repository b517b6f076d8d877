-- Loops of `source_count`, which returns how many different sources the conditional edges have, which is how many
-- conditions there are.
use Rattle.std.proofs.Common.{◌≡◌, [], drop, map}
use Rattle.cpg_reader.specs.Ranges.{different, sources}
use Rattle.cpg_reader.proofs.ranges.source_count.Given as goal

-- the different sources of all edges are the keys so far, and those different ones that the edges left add
abbrev pub invariant-loop-edge : goal.invariant-loop-edge
invariant-loop-edge l =
    different [] (sources l.edges) ≡ different (map (λ k. k.now) l.sources.keys) (sources (drop l.edge-index l.edges))
