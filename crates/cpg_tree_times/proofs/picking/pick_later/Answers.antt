-- Proof of `pick_later`: in each scenario the number of one of two trees.
use Rattle.cpg_tree.specs.Later.{time_later}
use Rattle.cpg_tree.specs.Read.{later_by, read_by}
use Rattle.cpg_tree.proofs.Flats.{all_added}
use Rattle.cpg_tree.proofs.Publics.{pick_shown, pick_passes, good_made}
use Rattle.cpg_tree.proofs.Readings.{good_read, later_pass, later_paths}
use Rattle.cpg_tree_times.proofs.picking.pick_later.Goals as goal

-- the tree that is made fits the space of all scenarios, so its list is good
pub of-requires : goal.of-requires
of-requires c =
    -- the trees whose lists the function is given
    let n = c.items.ensures.flat in
    let a = c.items-on.ensures.flat in
    let b = c.items-off.ensures.flat in
    -- the tree that is made, whose list is all that was added
    let r = c.in_ok-pick_read.ensures.made n.0 a.0 b.0 n.1 a.1 b.1 in
    let are = all_added c.new-made.result.items c.pick_read.new.out.items r.0 c.new-made.ensures.items r.1 in
    good_made c.faults-faults.result c.whole-space.result r.0 c.pick_read.new.out.items
    c.whole-space.ensures.is r.2.fit are

-- the facts about the lists become facts about the paths that callers see, with the first tree's times a delay later
pub returns-clause-is : goal.returns-clause-is
returns-clause-is c =
    -- the trees whose lists the function is given
    let n = c.items.ensures.flat in
    let a = c.items-on.ensures.flat in
    let b = c.items-off.ensures.flat in
    -- the tree that is made, whose list is all that was added
    let r = c.in_ok-pick_read.ensures.made n.0 a.0 b.0 n.1 a.1 b.1 in
    let are = all_added c.new-made.result.items c.pick_read.new.out.items r.0 c.new-made.ensures.items r.1 in
    pick_shown c.args.chooser.now (later_by c.args.delay c.args.times.now) c.args.no.now n.0
    (read_by (time_later c.args.delay) a.0) b.0 (c.items.ensures.good n.0 n.1)
    (good_read (time_later c.args.delay) c.args.times.now.faults a.0 (c.items-on.ensures.good a.0 a.1))
    (c.items-off.ensures.good b.0 b.1)
    (c.items.ensures.paths n.0 n.1) (later_paths c.args.delay c.args.times.now a.0 (c.items-on.ensures.paths a.0 a.1))
    (c.items-off.ensures.paths b.0 b.1) c.faults-faults.result
    c.faults-faults.ensures r.0 c.of.result (c.of.ensures.is r.0 are)
    c.requires.first c.requires.second c.whole-space.result c.whole-space.ensures.is c.whole-space.ensures.lies
    r.2.fit r.2.made

-- each fork of the tree that is made is on a variable of one of the three, so what passes for them passes for it
pub returns-clause-pass : goal.returns-clause-pass
returns-clause-pass c test on_self on_times on_no =
    -- the trees whose lists the function is given
    let n = c.items.ensures.flat in
    let a = c.items-on.ensures.flat in
    let b = c.items-off.ensures.flat in
    -- the tree that is made, whose list is all that was added
    let r = c.in_ok-pick_read.ensures.made n.0 a.0 b.0 n.1 a.1 b.1 in
    let are = all_added c.new-made.result.items c.pick_read.new.out.items r.0 c.new-made.ensures.items r.1 in
    pick_passes c.args.chooser.now (later_by c.args.delay c.args.times.now) c.args.no.now n.0
    (read_by (time_later c.args.delay) a.0) b.0 (c.items.ensures.good n.0 n.1)
    (good_read (time_later c.args.delay) c.args.times.now.faults a.0 (c.items-on.ensures.good a.0 a.1))
    (c.items-off.ensures.good b.0 b.1)
    (c.items.ensures.paths n.0 n.1) (later_paths c.args.delay c.args.times.now a.0 (c.items-on.ensures.paths a.0 a.1))
    (c.items-off.ensures.paths b.0 b.1) c.faults-faults.result
    c.faults-faults.ensures r.0 c.of.result (c.of.ensures.is r.0 are) test (r.2.pass test) on_self
    (later_pass c.args.delay c.args.times.now test on_times) on_no
