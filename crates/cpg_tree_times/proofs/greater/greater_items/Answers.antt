-- Proof of `greater_items`, which adds the tree of what is made of the greater number of two trees, for the scenarios
-- of a space that both trees fit.
use Rattle.std.proofs.Common.{ℕ, ◌∙◌, sym}
use Rattle.cpg_tree.specs.TreeNode.{Leaf}
use Rattle.cpg_tree.proofs.Flats.{flat-same}
use Rattle.cpg_tree.proofs.Forks.{from_true, of_answer}
use Rattle.cpg_tree_times.proofs.GreaterLaws.{first_added, first_whole, second_added, second_whole}
use Rattle.cpg_tree_times.proofs.greater.greater_items.Goals as goal

-- the first tree is one value, so the greater of that and each value of the second is added
pub returns-in-Value-clause-made : goal.returns-in-Value-clause-made
returns-in-Value-clause-made g c =
    -- how leaves are read, and what is made of a number
    let number : g.row.T.Denot → ℕ = g.R.Reading.number c.args.how.now.read.now in
    let other_number : g.row.U.Denot → ℕ = g.S.Reading.number c.args.how.now.other_reading.now in
    let makes : ℕ → g.row.V.Denot → Type 0 = λ k z. g.F.Fn.post c.args.how.now.made.now (k, tt) z in
    of_answer c.at_least_everywhere.result _ _ c.at_least_everywhere.ensures.made
    (λ u made n m are others. first_added number other_number makes c.args.space.now n m c.args.out.now.items
    c.at_least_everywhere.new.out.items c.in-Value.value c.number-number.result
    (flat-same n (Leaf c.in-Value.value) (sym are ∙ c.in-Value.ensures.shows)) c.number-number.ensures
    (c.requires.other_fit m others) (made m others))

-- the second tree is one value, so the greater of that and each value of the first is added
pub returns-in-Value-top_of-clause-made : goal.returns-in-Value-top_of-clause-made
returns-in-Value-top_of-clause-made g c =
    -- how leaves are read, and what is made of a number
    let number : g.row.T.Denot → ℕ = g.R.Reading.number c.args.how.now.read.now in
    let other_number : g.row.U.Denot → ℕ = g.S.Reading.number c.args.how.now.other_reading.now in
    let makes : ℕ → g.row.V.Denot → Type 0 = λ k z. g.F.Fn.post c.args.how.now.made.now (k, tt) z in
    of_answer c.at_least_everywhere-in-Value-top_of.result _ _ c.at_least_everywhere-in-Value-top_of.ensures.made
    (λ u made n m are others. second_added number other_number makes c.args.space.now n m c.args.out.now.items
    c.at_least_everywhere-in-Value-top_of.new.out.items c.in-Value-top_of.value
    c.number-number-in-Value-top_of.result
    (flat-same m (Leaf c.in-Value-top_of.value) (sym others ∙ c.in-Value-top_of.ensures.shows))
    c.number-number-in-Value-top_of.ensures (c.requires.fit n are) (made n are))

-- the first tree is at least the second everywhere, so its own values are added
pub returns-then-is_at_least-clause-made : goal.returns-then-is_at_least-clause-made
returns-then-is_at_least-clause-made g c =
    -- how leaves are read, and what is made of a number
    let number : g.row.T.Denot → ℕ = g.R.Reading.number c.args.how.now.read.now in
    let other_number : g.row.U.Denot → ℕ = g.S.Reading.number c.args.how.now.other_reading.now in
    let makes : ℕ → g.row.V.Denot → Type 0 = λ k z. g.F.Fn.post c.args.how.now.made.now (k, tt) z in
    of_answer c.at_least_everywhere-then-is_at_least.result _ _ c.at_least_everywhere-then-is_at_least.ensures.made
    (λ u made n m are others. first_whole number other_number makes c.args.space.now n m c.args.out.now.items
    c.at_least_everywhere-then-is_at_least.new.out.items
    (from_true c.is_at_least.result c.if-is_at_least.true c.is_at_least.ensures n m are others)
    (c.requires.fit n are) (made n are))

-- the second tree is at least the first everywhere, so its own values are added
pub returns-then-is_at_least-2-clause-made : goal.returns-then-is_at_least-2-clause-made
returns-then-is_at_least-2-clause-made g c =
    -- how leaves are read, and what is made of a number
    let number : g.row.T.Denot → ℕ = g.R.Reading.number c.args.how.now.read.now in
    let other_number : g.row.U.Denot → ℕ = g.S.Reading.number c.args.how.now.other_reading.now in
    let makes : ℕ → g.row.V.Denot → Type 0 = λ k z. g.F.Fn.post c.args.how.now.made.now (k, tt) z in
    of_answer c.at_least_everywhere-then-is_at_least-2.result _ _ c.at_least_everywhere-then-is_at_least-2.ensures.made
    (λ u made n m are others. second_whole number other_number makes c.args.space.now n m c.args.out.now.items
    c.at_least_everywhere-then-is_at_least-2.new.out.items
    (from_true c.is_at_least-2.result c.if-is_at_least-2.true c.is_at_least-2.ensures m n others are)
    (c.requires.other_fit m others) (made m others))
