-- Proof of `greater_of_where`: the greater number of two trees if a chooser is true.
use Rattle.std.proofs.Common.{max, ◌∙◌, drop, take, ap, sym, subst}
use Rattle.cpg_tree.specs.Tree.{TreeState, IsJoinWhere, DoPathsPass}
use Rattle.cpg_tree_times.proofs.BoundLaws.{first_bounds, second_bounds}
use Rattle.cpg_tree.proofs.Flats.{all_added}
use Rattle.cpg_tree.proofs.Publics.{good_made}
use Rattle.cpg_tree_times.proofs.Where.{where_seen, where_pass}
use Rattle.cpg_tree_times.proofs.choosing.greater_of_where.Goals as goal

-- the tree that is made fits the space of all scenarios, so its list is good
pub of-requires : goal.of-requires
of-requires g c =
    -- the trees whose lists the function is given
    let n = c.items.ensures.flat in
    let a = c.items-own_items.ensures.flat in
    let b = c.items-other_items.ensures.flat in
    -- the tree that is made, whose list is all that was added
    let r = c.in_ok-greater_where.ensures.made n.0 a.0 b.0 n.1 a.1 b.1 in
    let are = all_added c.new-items.result.items c.greater_where.new.out.items r.0 c.new-items.ensures.items r.1 in
    good_made c.faults-faults.result c.whole-space.result r.0 c.greater_where.new.out.items
    c.whole-space.ensures.is r.2.fit are

-- the facts about the lists become facts about the paths that callers see
pub returns-clause-is : goal.returns-clause-is
returns-clause-is g c =
    -- the trees whose lists the function is given
    let n = c.items.ensures.flat in
    let a = c.items-own_items.ensures.flat in
    let b = c.items-other_items.ensures.flat in
    -- the tree that is made, whose list is all that was added
    let r = c.in_ok-greater_where.ensures.made n.0 a.0 b.0 n.1 a.1 b.1 in
    let are = all_added c.new-items.result.items c.greater_where.new.out.items r.0 c.new-items.ensures.items r.1 in
    -- z is an answer to x and y if it is what the function makes of the greater of their numbers
    let answers : g.row.T.Denot → g.row.U.Denot → g.row.V.Denot → Type 0 = λ x y z. g.F.Fn.post c.args.made.now
    (max (g.R.Reading.number c.args.read.now x) (g.S.Reading.number c.args.other_reading.now y), tt) z in
    subst (IsJoinWhere answers c.args.none c.args.chooser.now c.args.tree.now c.args.other.now)
    (sym (c.of.ensures.is r.0 are))
    (where_seen n.0 a.0 b.0 r.0 c.args.chooser.now c.args.tree.now c.args.other.now (c.items.ensures.paths n.0 n.1)
    (c.items-own_items.ensures.paths a.0 a.1) (c.items-other_items.ensures.paths b.0 b.1)
    c.faults-faults.result answers c.args.none c.faults-faults.ensures c.requires.first c.requires.second
    (c.items.ensures.good n.0 n.1) (c.items-own_items.ensures.good a.0 a.1)
    (c.items-other_items.ensures.good b.0 b.1) c.whole-space.result c.whole-space.ensures.is c.whole-space.ensures.lies
    r.2.fit r.2.made)

-- each fork of the tree that is made is on a variable of one of the three, so what passes for them passes for it
pub returns-clause-pass : goal.returns-clause-pass
returns-clause-pass g c test first second third =
    -- the trees whose lists the function is given
    let n = c.items.ensures.flat in
    let a = c.items-own_items.ensures.flat in
    let b = c.items-other_items.ensures.flat in
    -- the tree that is made, whose list is all that was added
    let r = c.in_ok-greater_where.ensures.made n.0 a.0 b.0 n.1 a.1 b.1 in
    let are = all_added c.new-items.result.items c.greater_where.new.out.items r.0 c.new-items.ensures.items r.1 in
    subst (λ (x : TreeState g.row.V.Denot). DoPathsPass test x.paths) (sym (c.of.ensures.is r.0 are))
    (where_pass n.0 a.0 b.0 r.0 c.args.chooser.now c.args.tree.now c.args.other.now (c.items.ensures.paths n.0 n.1)
    (c.items-own_items.ensures.paths a.0 a.1) (c.items-other_items.ensures.paths b.0 b.1)
    c.faults-faults.result test (r.2.pass test) first second third)

-- cut at the number of the first tree's forks, the list of spans begins with those of the first tree
pub greater_where-requires-clause-own : goal.greater_where-requires-clause-own
greater_where-requires-clause-own g c =
    let n = c.items-own_items.ensures.flat in
    let m = c.items-other_items.ensures.flat in (
      n.0,
      n.1,
      c.split_at.ensures.front ∙ ap (take c.len-forks.result) c.deref.ensures.value
          ∙ first_bounds (g.R.Reading.number c.args.read.now)
          (g.S.Reading.number c.args.other_reading.now) n.0 m.0 c.in_ok-bounds.bounds.items
          c.push_bounds.new.bounds.items c.push_bounds-2.new.bounds.items c.len-forks.result
          c.in_ok-bounds.ensures.items (c.in_ok-push_bounds.ensures.bounds n.0 n.1)
          (c.in_ok-push_bounds-2.ensures.bounds m.0 m.1) (c.len-forks.ensures ∙ c.push_bounds.new.bounds.ok.0),
    )

-- the rest of the list holds the spans of the second tree
pub greater_where-requires-clause-others : goal.greater_where-requires-clause-others
greater_where-requires-clause-others g c =
    let n = c.items-own_items.ensures.flat in
    let m = c.items-other_items.ensures.flat in (
      m.0,
      m.1,
      c.split_at.ensures.back ∙ ap (drop c.len-forks.result) c.deref.ensures.value
          ∙ second_bounds (g.R.Reading.number c.args.read.now)
          (g.S.Reading.number c.args.other_reading.now) n.0 m.0 c.in_ok-bounds.bounds.items
          c.push_bounds.new.bounds.items c.push_bounds-2.new.bounds.items c.len-forks.result
          c.in_ok-bounds.ensures.items (c.in_ok-push_bounds.ensures.bounds n.0 n.1)
          (c.in_ok-push_bounds-2.ensures.bounds m.0 m.1) (c.len-forks.ensures ∙ c.push_bounds.new.bounds.ok.0),
    )
