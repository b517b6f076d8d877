-- Which value a node of a sieve has.
use Rattle.cpg_violation.specs.declared.sieve.SieveNode.{SieveNode}
use Rattle.cpg_violation.specs.declared.sieve.SieveNode.TheVariants.{Leaf as LeafNode, Cut as CutNode}
use Rattle.cpg_violation.specs.Parted.{Parted, Leaf, Cut}

-- the tree of a node: a leaf with its places, or a cut with the trees of its sides
abbrev pub parted_of : SieveNode → Parted
parted_of (LeafNode places) = Leaf places.items
parted_of (CutNode v most below above) = Cut v most below.value above.value
