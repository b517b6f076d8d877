-- Proof of `greater_of`: what a function makes of the greater number of two trees.
use Rattle.std.proofs.Common.{ℕ, max, ◌∙◌, subst}
use Rattle.cpg_tree.specs.Space.{IsWhole}
use Rattle.cpg_tree.proofs.Fits.{fits_whole}
use Rattle.cpg_tree.proofs.Flats.{all_added}
use Rattle.cpg_tree.proofs.Publics.{join_shown, join_passes, good_made}
use Rattle.cpg_tree_times.proofs.greater.greater_of.Goals as goal

-- the tree that is made fits the space of all scenarios, so its list is good
pub of-requires : goal.of-requires
of-requires g c =
    -- the trees whose lists the function is given
    let n = c.items.ensures.flat in
    let m = c.items-others.ensures.flat in
    -- the tree that is made, whose list is all that was added
    let r = c.in_ok-greater_items.ensures.made n.0 m.0 n.1 m.1 in
    let are = all_added c.new-items.result.items c.greater_items.new.out.items r.0 c.new-items.ensures.items r.1 in
    good_made c.faults-faults.result c.whole-space.result r.0 c.greater_items.new.out.items
    c.whole-space.ensures.is r.2.fit are

-- the facts about the lists become facts about the paths that callers see
pub returns-clause-is : goal.returns-clause-is
returns-clause-is g c =
    -- the trees whose lists the function is given
    let n = c.items.ensures.flat in
    let m = c.items-others.ensures.flat in
    -- the tree that is made, whose list is all that was added
    let r = c.in_ok-greater_items.ensures.made n.0 m.0 n.1 m.1 in
    let are = all_added c.new-items.result.items c.greater_items.new.out.items r.0 c.new-items.ensures.items r.1 in
    join_shown c.args.tree.now c.args.other.now n.0 m.0 (c.items.ensures.good n.0 n.1)
    (c.items-others.ensures.good m.0 m.1) (c.items.ensures.paths n.0 n.1) (c.items-others.ensures.paths m.0 m.1)
    c.faults-faults.result c.faults-faults.ensures r.0 c.of.result (c.of.ensures.is r.0 are)
    (λ (x : g.row.T.Denot) (y : g.row.U.Denot) (z : g.row.V.Denot). g.F.Fn.post c.args.made.now (
      max
          (g.R.Reading.number c.args.read.now x) (g.S.Reading.number c.args.other_reading.now y),
      tt,
    ) z) c.requires.same
    c.whole-space.result c.whole-space.ensures.is c.whole-space.ensures.lies r.2.fit r.2.made

-- each fork of the tree that is made is on a variable of one of the two, so what passes for them passes for it
pub returns-clause-pass : goal.returns-clause-pass
returns-clause-pass g c test =
    -- the trees whose lists the function is given
    let n = c.items.ensures.flat in
    let m = c.items-others.ensures.flat in
    -- the tree that is made, whose list is all that was added
    let r = c.in_ok-greater_items.ensures.made n.0 m.0 n.1 m.1 in
    let are = all_added c.new-items.result.items c.greater_items.new.out.items r.0 c.new-items.ensures.items r.1 in
    join_passes c.args.tree.now c.args.other.now n.0 m.0 (c.items.ensures.good n.0 n.1)
    (c.items-others.ensures.good m.0 m.1) (c.items.ensures.paths n.0 n.1) (c.items-others.ensures.paths m.0 m.1)
    c.faults-faults.result c.faults-faults.ensures r.0 c.of.result (c.of.ensures.is r.0 are) test (r.2.pass test)

-- the first tree is good, so it fits the space of all scenarios
pub greater_items-requires-clause-fit : goal.greater_items-requires-clause-fit
greater_items-requires-clause-fit g c n are =
    -- the space of all scenarios, which the tree fits
    let good = c.items.ensures.good n are in
    fits_whole c.args.tree.now.faults good.0 c.whole-space.result good.1
    (subst (λ (k : ℕ). IsWhole k c.whole-space.result) c.faults-faults.ensures c.whole-space.ensures.is) n good.2

-- the second tree is good, so it fits the space of all scenarios
pub greater_items-requires-clause-other_fit : goal.greater_items-requires-clause-other_fit
greater_items-requires-clause-other_fit g c m others =
    -- the space of all scenarios, which the tree fits
    let good = c.items-others.ensures.good m others in
    fits_whole c.args.other.now.faults good.0 c.whole-space.result good.1
    (subst (λ (k : ℕ). IsWhole k c.whole-space.result)
    (c.faults-faults.ensures ∙ c.requires.same) c.whole-space.ensures.is) m good.2
