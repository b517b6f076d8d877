-- Proof of `found`, which returns where the tree of a guard is. It is made unless `known` has an equal guard, and then
-- kept there if there is room. `TooWide` names `descent.wide()` if a tree on the way has too many leaves.
use Rattle.std.proofs.Common.{sym, subst}
use Rattle.cpg_order.specs.Guard.{Guard}
use Rattle.cpg_expand.specs.Large.{IsLarge}
use Rattle.cpg_expand.proofs.LargeParts.{large_leaf, large_off, large_on, large_part}
use Rattle.cpg_expand.proofs.LargeShown.{handed_on, named_as}
use Rattle.cpg_expand.proofs.PartsKnown.{added_found, added_kept, added_known, kept_still, still_has_value, still_there}
use Rattle.cpg_expand.proofs.descent.+found.Goals as goal

-- the tree of the side for false is still among those kept after that for true is found
pub tree_of-requires : goal.tree_of-requires
tree_of-requires g t c =
    still_there (g.D.Descent.made c.args.descent.now) (g.D.Descent.fits c.args.descent.now) c.found.new.known.items
    c.found-in-Test.new.known.items c.as_slice-kept.result.now
    c.in_ok-yes-in-Test.ensures.kept c.as_slice-kept.ensures.value c.in-Test.no.now c.in_ok-no-in-Test.no
    c.in_ok-no-in-Test.ensures.found

-- the tree of the side for false is still among those kept, so it is made
pub test-requires-clause-no : goal.test-requires-clause-no
test-requires-clause-no g t c =
    let fits = still_has_value (g.D.Descent.made c.args.descent.now) (g.D.Descent.fits c.args.descent.now)
    c.found.new.known.items c.found-in-Test.new.known.items c.as_slice-kept.result.now
    c.in_ok-yes-in-Test.ensures.kept c.as_slice-kept.ensures.value c.in-Test.no.now c.in_ok-no-in-Test.no
    c.in_ok-no-in-Test.ensures.found c.in_ok-yes-in-Test.ensures.known c.tree_of.result.now
    c.tree_of.ensures in
    fits.0

-- the tree of the side for true is among those kept, so it is made
pub test-requires-clause-yes : goal.test-requires-clause-yes
test-requires-clause-yes g t c =
    let fits = still_has_value (g.D.Descent.made c.args.descent.now) (g.D.Descent.fits c.args.descent.now)
    c.found-in-Test.new.known.items c.found-in-Test.new.known.items c.as_slice-kept.result.now
    (λ i g at. at) c.as_slice-kept.ensures.value c.in-Test.yes.now c.in_ok-yes-in-Test.yes
    c.in_ok-yes-in-Test.ensures.found c.in_ok-yes-in-Test.ensures.known c.tree_of-in-Test.result.now
    c.tree_of-in-Test.ensures in
    fits.0

-- the tree of the test is made of those of its sides, so with it all trees that are kept fit their guards
pub returns-in_ok-source-in-Test-clause-known : goal.returns-in_ok-source-in-Test-clause-known
returns-in_ok-source-in-Test-clause-known g t c =
    -- the trees of both sides of the test are made and fit their guards
    let low = still_has_value (g.D.Descent.made c.args.descent.now) (g.D.Descent.fits c.args.descent.now)
    c.found.new.known.items c.found-in-Test.new.known.items c.as_slice-kept.result.now
    c.in_ok-yes-in-Test.ensures.kept c.as_slice-kept.ensures.value c.in-Test.no.now c.in_ok-no-in-Test.no
    c.in_ok-no-in-Test.ensures.found c.in_ok-yes-in-Test.ensures.known c.tree_of.result.now
    c.tree_of.ensures in
    let high = still_has_value (g.D.Descent.made c.args.descent.now) (g.D.Descent.fits c.args.descent.now)
    c.found-in-Test.new.known.items c.found-in-Test.new.known.items c.as_slice-kept.result.now
    (λ i g at. at) c.as_slice-kept.ensures.value c.in-Test.yes.now c.in_ok-yes-in-Test.yes
    c.in_ok-yes-in-Test.ensures.found c.in_ok-yes-in-Test.ensures.known c.tree_of-in-Test.result.now
    c.tree_of-in-Test.ensures in
    -- so the tree that is added fits the guard
    added_known (g.D.Descent.made c.args.descent.now) (g.D.Descent.fits c.args.descent.now)
    c.found-in-Test.new.known.items c.keep-in-Test.new.known.items c.args.guard.now c.in_ok-tree-in-Test.tree
    c.in_ok-source-in-Test.source c.in_ok-yes-in-Test.ensures.known
    c.in_ok-tree-in-Test.ensures.made
    (subst (λ (h : Guard). g.D.Descent.fits c.args.descent.now h c.in_ok-tree-in-Test.tree) (sym c.in-Test.ensures)
    (c.in_ok-tree-in-Test.ensures.fits c.in-Test.no.now c.in-Test.yes.now low.1 high.1)) c.in_ok-source-in-Test.ensures

-- neither side drops a tree that is kept, and neither does the test
pub returns-in_ok-source-in-Test-clause-kept : goal.returns-in_ok-source-in-Test-clause-kept
returns-in_ok-source-in-Test-clause-kept g t c =
    kept_still c.args.known.now.items c.found.new.known.items c.keep-in-Test.new.known.items
    c.in_ok-no-in-Test.ensures.kept
    (kept_still c.found.new.known.items c.found-in-Test.new.known.items c.keep-in-Test.new.known.items
    c.in_ok-yes-in-Test.ensures.kept
    (added_kept (g.D.Descent.made c.args.descent.now) (g.D.Descent.fits c.args.descent.now)
    c.found-in-Test.new.known.items c.keep-in-Test.new.known.items c.args.guard.now c.in_ok-tree-in-Test.tree
    c.in_ok-source-in-Test.source c.in_ok-source-in-Test.ensures))

-- the tree of the test is made of those of its sides, and it is the one that is added
pub returns-in_ok-source-in-Test-clause-found : goal.returns-in_ok-source-in-Test-clause-found
returns-in_ok-source-in-Test-clause-found g t c =
    -- the trees of both sides of the test are made and fit their guards
    let low = still_has_value (g.D.Descent.made c.args.descent.now) (g.D.Descent.fits c.args.descent.now)
    c.found.new.known.items c.found-in-Test.new.known.items c.as_slice-kept.result.now
    c.in_ok-yes-in-Test.ensures.kept c.as_slice-kept.ensures.value c.in-Test.no.now c.in_ok-no-in-Test.no
    c.in_ok-no-in-Test.ensures.found c.in_ok-yes-in-Test.ensures.known c.tree_of.result.now
    c.tree_of.ensures in
    let high = still_has_value (g.D.Descent.made c.args.descent.now) (g.D.Descent.fits c.args.descent.now)
    c.found-in-Test.new.known.items c.found-in-Test.new.known.items c.as_slice-kept.result.now
    (λ i g at. at) c.as_slice-kept.ensures.value c.in-Test.yes.now c.in_ok-yes-in-Test.yes
    c.in_ok-yes-in-Test.ensures.found c.in_ok-yes-in-Test.ensures.known c.tree_of-in-Test.result.now
    c.tree_of-in-Test.ensures in
    -- so the tree that is added is found for the guard
    added_found (g.D.Descent.made c.args.descent.now) (g.D.Descent.fits c.args.descent.now)
    c.found-in-Test.new.known.items c.keep-in-Test.new.known.items c.args.guard.now c.in_ok-tree-in-Test.tree
    c.in_ok-source-in-Test.source
    c.in_ok-tree-in-Test.ensures.made
    (subst (λ (h : Guard). g.D.Descent.fits c.args.descent.now h c.in_ok-tree-in-Test.tree) (sym c.in-Test.ensures)
    (c.in_ok-tree-in-Test.ensures.fits c.in-Test.no.now c.in-Test.yes.now low.1 high.1)) c.in_ok-source-in-Test.ensures

-- the guard is this leaf, so a fault for the leaf is one for it
pub returns-in_err-tree-in-Leaf-clause-fault : goal.returns-in_err-tree-in-Leaf-clause-fault
returns-in_err-tree-in-Leaf-clause-fault g t c =
    handed_on _ c.from_residual.result c.in_err-tree-in-Leaf.field-0.0 c.from_residual.ensures.1
    (large_leaf (g.D.Descent.large c.args.descent.now) (g.D.Descent.fits c.args.descent.now)
    (g.D.Descent.wide c.args.descent.now) c.in_err-tree-in-Leaf.field-0.0 c.args.guard.now c.in-Leaf.activation
    c.in-Leaf.ensures c.in_err-tree-in-Leaf.ensures.fault)

-- the tree of the side for false, or one on its way, is too large, and it is on the way of the test
pub returns-in_err-no-in-Test-clause-fault : goal.returns-in_err-no-in-Test-clause-fault
returns-in_err-no-in-Test-clause-fault g t c =
    handed_on _ c.from_residual-in_err-no-in-Test.result c.in_err-no-in-Test.field-0.0
    c.from_residual-in_err-no-in-Test.ensures.1
    (large_off (g.D.Descent.large c.args.descent.now) (g.D.Descent.fits c.args.descent.now)
    (g.D.Descent.wide c.args.descent.now) c.in_err-no-in-Test.field-0.0 c.args.guard.now c.in-Test.condition
    c.in-Test.no.now c.in-Test.yes.now c.in-Test.ensures c.in_err-no-in-Test.ensures.fault)

-- the tree of the side for true, or one on its way, is too large, and it is on the way of the test
pub returns-in_err-yes-in-Test-clause-fault : goal.returns-in_err-yes-in-Test-clause-fault
returns-in_err-yes-in-Test-clause-fault g t c =
    handed_on _ c.from_residual-in_err-yes-in-Test.result c.in_err-yes-in-Test.field-0.0
    c.from_residual-in_err-yes-in-Test.ensures.1
    (large_on (g.D.Descent.large c.args.descent.now) (g.D.Descent.fits c.args.descent.now)
    (g.D.Descent.wide c.args.descent.now) c.in_err-yes-in-Test.field-0.0 c.args.guard.now c.in-Test.condition
    c.in-Test.no.now c.in-Test.yes.now c.in-Test.ensures c.in_err-yes-in-Test.ensures.fault)

-- the tree of the test itself has too many leaves
pub returns-in_err-few-in-Test-clause-fault : goal.returns-in_err-few-in-Test-clause-fault
returns-in_err-few-in-Test-clause-fault g t c =
    -- the trees of both sides of the test are made and fit their guards
    let low = still_has_value (g.D.Descent.made c.args.descent.now) (g.D.Descent.fits c.args.descent.now)
    c.found.new.known.items c.found-in-Test.new.known.items c.as_slice-kept.result.now
    c.in_ok-yes-in-Test.ensures.kept c.as_slice-kept.ensures.value c.in-Test.no.now c.in_ok-no-in-Test.no
    c.in_ok-no-in-Test.ensures.found c.in_ok-yes-in-Test.ensures.known c.tree_of.result.now
    c.tree_of.ensures in
    let high = still_has_value (g.D.Descent.made c.args.descent.now) (g.D.Descent.fits c.args.descent.now)
    c.found-in-Test.new.known.items c.found-in-Test.new.known.items c.as_slice-kept.result.now
    (λ i g at. at) c.as_slice-kept.ensures.value c.in-Test.yes.now c.in_ok-yes-in-Test.yes
    c.in_ok-yes-in-Test.ensures.found c.in_ok-yes-in-Test.ensures.known c.tree_of-in-Test.result.now
    c.tree_of-in-Test.ensures in
    -- so the tree of the test is one that fits, and has too many leaves
    handed_on _ c.from_residual-in_err-few-in-Test.result c.in_err-few-in-Test.field-0.0
    c.from_residual-in_err-few-in-Test.ensures.1
    (large_part (g.D.Descent.large c.args.descent.now) (g.D.Descent.fits c.args.descent.now)
    (g.D.Descent.wide c.args.descent.now) c.in_err-few-in-Test.field-0.0 c.args.guard.now c.in-Test.condition
    c.in-Test.no.now c.in-Test.yes.now c.in-Test.ensures c.in_ok-tree-in-Test.tree
    (c.in_ok-tree-in-Test.ensures.fits c.in-Test.no.now c.in-Test.yes.now low.1 high.1)
    (named_as (IsLarge c.in_ok-tree-in-Test.tree) c.wide.result (g.D.Descent.wide c.args.descent.now)
    c.in_err-few-in-Test.field-0.0 c.wide.ensures c.in_err-few-in-Test.ensures))

-- the tree of the leaf fits the guard, so with it all trees that are kept fit theirs
pub returns-in_ok-source-in-Leaf-clause-known : goal.returns-in_ok-source-in-Leaf-clause-known
returns-in_ok-source-in-Leaf-clause-known g t c =
    added_known (g.D.Descent.made c.args.descent.now) (g.D.Descent.fits c.args.descent.now) c.args.known.now.items
    c.keep.new.known.items c.args.guard.now c.in_ok-tree-in-Leaf.tree c.in_ok-source-in-Leaf.source c.requires.known
    c.in_ok-tree-in-Leaf.ensures.made
    (subst (λ (h : Guard). g.D.Descent.fits c.args.descent.now h c.in_ok-tree-in-Leaf.tree) (sym c.in-Leaf.ensures)
    c.in_ok-tree-in-Leaf.ensures.fits) c.in_ok-source-in-Leaf.ensures

-- the leaf drops no tree that is kept
pub returns-in_ok-source-in-Leaf-clause-kept : goal.returns-in_ok-source-in-Leaf-clause-kept
returns-in_ok-source-in-Leaf-clause-kept g t c =
    added_kept (g.D.Descent.made c.args.descent.now) (g.D.Descent.fits c.args.descent.now) c.args.known.now.items
    c.keep.new.known.items c.args.guard.now c.in_ok-tree-in-Leaf.tree c.in_ok-source-in-Leaf.source
    c.in_ok-source-in-Leaf.ensures

-- the tree of the leaf fits the guard, and it is the one that is added
pub returns-in_ok-source-in-Leaf-clause-found : goal.returns-in_ok-source-in-Leaf-clause-found
returns-in_ok-source-in-Leaf-clause-found g t c =
    added_found (g.D.Descent.made c.args.descent.now) (g.D.Descent.fits c.args.descent.now) c.args.known.now.items
    c.keep.new.known.items c.args.guard.now c.in_ok-tree-in-Leaf.tree c.in_ok-source-in-Leaf.source
    c.in_ok-tree-in-Leaf.ensures.made
    (subst (λ (h : Guard). g.D.Descent.fits c.args.descent.now h c.in_ok-tree-in-Leaf.tree) (sym c.in-Leaf.ensures)
    c.in_ok-tree-in-Leaf.ensures.fits) c.in_ok-source-in-Leaf.ensures
