-- What the top of a tree shows.
use Rattle.std.specs.Prelude.{◌≡◌}
use Rattle.cpg_rules.specs.declared.tree.GuardTop.{GuardTop}
use Rattle.cpg_rules.specs.declared.tree.GuardTop.TheVariants.{Leaf as LeafTop, Test as TestTop}
use Rattle.cpg_order.specs.Guard.{Guard, Leaf, Test}

-- the top shows the whole tree: a leaf with this activation, or a test of this condition with these two sides
abbrev pub ShowsTop : GuardTop → Guard → Type 0
ShowsTop (LeafTop a) tree = tree ≡ Leaf a
ShowsTop (TestTop c off on) tree = tree ≡ Test c off.now on.now
