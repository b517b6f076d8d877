-- Proof of `greater_by_bounds`, which does what `greater_items` does, by the spans of the forks of both trees.
use Rattle.std.proofs.Common.{ℕ, ◌∙◌, ◌++◌, List, drop, take, ap}
use Rattle.cpg_tree.specs.declared.item.TreeItem.{TreeItem}
use Rattle.cpg_tree.specs.Flat.{flat}
use Rattle.cpg_tree_times.proofs.BoundLaws.{first_bounds, second_bounds}
use Rattle.cpg_tree.proofs.Forks.{of_answer}
use Rattle.cpg_tree_times.proofs.GreaterLaws.{joined_added}
use Rattle.cpg_tree_times.proofs.greater.greater_by_bounds.Goals as goal

-- what `greater_by` makes with one space both asked for and walked is made in that space
pub returns-clause-made : goal.returns-clause-made
returns-clause-made g c =
    -- how leaves are read, and what is made of a number
    let number : g.row.T.Denot → ℕ = g.R.Reading.number c.args.how.now.read.now in
    let other_number : g.row.U.Denot → ℕ = g.S.Reading.number c.args.how.now.other_reading.now in
    let makes : ℕ → g.row.V.Denot → Type 0 = λ k z. g.F.Fn.post c.args.how.now.made.now (k, tt) z in
    of_answer c.greater_by.result _ _ c.greater_by.ensures.made
    (λ u made n m are others.
    let q = joined_added number other_number makes c.args.space.now n m c.reserve.new.self.items
    c.greater_by.new.out.items (made n m are others) in
    (q.0, q.1 ∙ ap (λ (xs : List (TreeItem g.row.V.Denot)). xs ++ flat q.0) c.in_ok-reserve.ensures.items, q.2))

-- cut at the number of the first tree's forks, the list of spans begins with those of the first tree
pub greater_by-requires-clause-own : goal.greater_by-requires-clause-own
greater_by-requires-clause-own g c =
    let n = c.requires.flat in
    let m = c.requires.other_flat in (
      n.0,
      n.1,
      c.split_at.ensures.front ∙ ap (take c.len-forks.result) c.deref.ensures.value
          ∙ first_bounds (g.R.Reading.number c.args.how.now.read.now)
          (g.S.Reading.number c.args.how.now.other_reading.now) n.0 m.0 c.in_ok-bounds.bounds.items
          c.push_bounds.new.bounds.items c.push_bounds-2.new.bounds.items c.len-forks.result
          c.in_ok-bounds.ensures.items (c.in_ok-push_bounds.ensures.bounds n.0 n.1)
          (c.in_ok-push_bounds-2.ensures.bounds m.0 m.1) (c.len-forks.ensures ∙ c.push_bounds.new.bounds.ok.0),
    )

-- the rest of the list holds the spans of the second tree
pub greater_by-requires-clause-others : goal.greater_by-requires-clause-others
greater_by-requires-clause-others g c =
    let n = c.requires.flat in
    let m = c.requires.other_flat in (
      m.0,
      m.1,
      c.split_at.ensures.back ∙ ap (drop c.len-forks.result) c.deref.ensures.value
          ∙ second_bounds (g.R.Reading.number c.args.how.now.read.now)
          (g.S.Reading.number c.args.how.now.other_reading.now) n.0 m.0 c.in_ok-bounds.bounds.items
          c.push_bounds.new.bounds.items c.push_bounds-2.new.bounds.items c.len-forks.result
          c.in_ok-bounds.ensures.items (c.in_ok-push_bounds.ensures.bounds n.0 n.1)
          (c.in_ok-push_bounds-2.ensures.bounds m.0 m.1) (c.len-forks.ensures ∙ c.push_bounds.new.bounds.ok.0),
    )
