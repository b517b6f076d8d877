-- Proof of `Tree::pick`, which returns the tree that has in each scenario the value of the one of two trees that a
-- chooser picks there.
use Rattle.cpg_tree.proofs.Flats.{all_added}
use Rattle.cpg_tree.proofs.Publics.{pick_shown, pick_passes, good_made}
use Rattle.cpg_tree.proofs.tree.Tree.pick.Goals as goal

-- the tree that is made fits the space of all scenarios, so its list is good
pub of-requires : goal.of-requires
of-requires g c =
    -- the trees whose lists the function is given
    let n = c.items.ensures.flat in
    let a = c.items-on.ensures.flat in
    let b = c.items-off.ensures.flat in
    -- the tree that is made, whose list is all that was added
    let r = c.in_ok-pick_items.ensures.made n.0 a.0 b.0 n.1 a.1 b.1 in
    let are = all_added c.in_ok-made.made.items c.pick_items.new.out.items r.0 c.in_ok-made.ensures.items r.1 in
    good_made c.faults-faults.result c.whole-space.result r.0 c.pick_items.new.out.items
    c.whole-space.ensures.is r.2.fit are

-- the facts about the lists become facts about the paths that callers see
pub returns-clause-is : goal.returns-clause-is
returns-clause-is g c =
    -- the trees whose lists the function is given
    let n = c.items.ensures.flat in
    let a = c.items-on.ensures.flat in
    let b = c.items-off.ensures.flat in
    -- the tree that is made, whose list is all that was added
    let r = c.in_ok-pick_items.ensures.made n.0 a.0 b.0 n.1 a.1 b.1 in
    let are = all_added c.in_ok-made.made.items c.pick_items.new.out.items r.0 c.in_ok-made.ensures.items r.1 in
    pick_shown c.args.chooser.now c.args.yes.now c.args.no.now n.0 a.0 b.0 (c.items.ensures.good n.0 n.1)
    (c.items-on.ensures.good a.0 a.1) (c.items-off.ensures.good b.0 b.1)
    (c.items.ensures.paths n.0 n.1) (c.items-on.ensures.paths a.0 a.1) (c.items-off.ensures.paths b.0 b.1)
    c.faults-faults.result c.faults-faults.ensures r.0 c.of.result (c.of.ensures.is r.0 are)
    c.requires.first c.requires.second c.whole-space.result c.whole-space.ensures.is c.whole-space.ensures.lies
    r.2.fit r.2.made

-- each fork of the tree that is made is on a variable of one of the three, so what passes for them passes for it
pub returns-clause-pass : goal.returns-clause-pass
returns-clause-pass g c test =
    -- the trees whose lists the function is given
    let n = c.items.ensures.flat in
    let a = c.items-on.ensures.flat in
    let b = c.items-off.ensures.flat in
    -- the tree that is made, whose list is all that was added
    let r = c.in_ok-pick_items.ensures.made n.0 a.0 b.0 n.1 a.1 b.1 in
    let are = all_added c.in_ok-made.made.items c.pick_items.new.out.items r.0 c.in_ok-made.ensures.items r.1 in
    pick_passes c.args.chooser.now c.args.yes.now c.args.no.now n.0 a.0 b.0 (c.items.ensures.good n.0 n.1)
    (c.items-on.ensures.good a.0 a.1) (c.items-off.ensures.good b.0 b.1)
    (c.items.ensures.paths n.0 n.1) (c.items-on.ensures.paths a.0 a.1)
    (c.items-off.ensures.paths b.0 b.1) c.faults-faults.result c.faults-faults.ensures r.0 c.of.result
    (c.of.ensures.is r.0 are) test (r.2.pass test)
