-- Proof of `greater_where`, which adds the tree of what is made of the greater number of two trees if a chooser is
-- true, and otherwise of the value `none`, for the scenarios of two spaces.
use Rattle.std.proofs.Common.{ℕ, max, ◌∙◌, sym, ap}
use Rattle.cpg_tree_times.specs.Asked.{SpacePair}
use Rattle.cpg_tree.specs.Flat.{flat}
use Rattle.cpg_tree.specs.Space.{above_cut}
use Rattle.cpg_tree.specs.TreeNode.{TreeNode, Leaf}
use Rattle.cpg_tree_times.proofs.BothSpaces.{both_opened, both_reopened}
use Rattle.cpg_tree.proofs.Forks.{from_false, of_answer}
use Rattle.cpg_tree_times.proofs.WhereLaws.{where_both_sides, where_side_above, where_side_below, where_value_off}
use Rattle.cpg_tree_times.proofs.WhereLaws.{where_value_on}
use Rattle.cpg_tree_times.proofs.choosing.+greater_where.Goals as goal

-- the space is closed below the cut, so the answer for the chooser's side above is the answer for the fork
pub returns-then-not-is_open_below-clause-made : goal.returns-then-not-is_open_below-clause-made
returns-then-not-is_open_below-clause-made g t c =
    -- z is an answer to x and y if it is what the function makes of the greater of their numbers
    let answers : g.row.T.Denot → g.row.U.Denot → g.row.V.Denot → Type 0 =
    λ x y z. g.F.Fn.post c.args.how.now.made.now (
      max (g.R.Reading.number c.args.how.now.read.now x) (g.S.Reading.number c.args.how.now.other_reading.now y),
      tt,
    ) z in
    -- what the top shows: the trees of both sides (0, 1), and that the lists are theirs (2, 3) and their fork's (4)
    let shows = c.in-Cut.ensures.shows in
    of_answer c.greater_where.result _ _ c.greater_where.ensures.made
    (λ u made chooser n m are own others. where_side_above answers c.args.none c.args.spaces.now chooser
    c.args.chooser.now are n m c.args.out.now.items c.greater_where.new.out.items
    c.in-Cut.variable c.in-Cut.cut shows.0 shows.1 shows.4
    (from_false c.is_open_below.result c.if-not-is_open_below.true c.is_open_below.ensures.none)
    (made shows.1 n m shows.3 own others))

-- the space is closed above the cut, so the answer for the chooser's side below is the answer for the fork
pub returns-then-not-is_open_above-clause-made : goal.returns-then-not-is_open_above-clause-made
returns-then-not-is_open_above-clause-made g t c =
    -- z is an answer to x and y if it is what the function makes of the greater of their numbers
    let answers : g.row.T.Denot → g.row.U.Denot → g.row.V.Denot → Type 0 =
    λ x y z. g.F.Fn.post c.args.how.now.made.now (
      max (g.R.Reading.number c.args.how.now.read.now x) (g.S.Reading.number c.args.how.now.other_reading.now y),
      tt,
    ) z in
    -- what the top shows: the trees of both sides (0, 1), and that the lists are theirs (2, 3) and their fork's (4)
    let shows = c.in-Cut.ensures.shows in
    of_answer c.greater_where-then-not-is_open_above.result _ _ c.greater_where-then-not-is_open_above.ensures.made
    (λ u made chooser n m are own others.
    where_side_below answers c.args.none c.args.spaces.now chooser c.args.chooser.now are n m c.args.out.now.items
    c.greater_where-then-not-is_open_above.new.out.items c.in-Cut.variable c.in-Cut.cut shows.0 shows.1 shows.4
    (from_false c.is_open_above.result c.if-not-is_open_above.true c.is_open_above.ensures.none)
    (made shows.0 n m shows.2 own others))

-- the chooser is true, so the answer is what `greater_by` makes of the two trees
pub returns-then-is_on-clause-made : goal.returns-then-is_on-clause-made
returns-then-is_on-clause-made g t c =
    -- z is an answer to x and y if it is what the function makes of the greater of their numbers
    let answers : g.row.T.Denot → g.row.U.Denot → g.row.V.Denot → Type 0 =
    λ x y z. g.F.Fn.post c.args.how.now.made.now (
      max (g.R.Reading.number c.args.how.now.read.now x) (g.S.Reading.number c.args.how.now.other_reading.now y),
      tt,
    ) z in
    of_answer c.greater_by.result _ _ c.greater_by.ensures.made
    (λ u made chooser n m are own others. where_value_on answers c.args.none c.args.spaces.now chooser
    c.args.chooser.now are n m c.args.out.now.items c.greater_by.new.out.items
    (c.in-Value.ensures.shows ∙ ap (λ b. flat (Leaf b)) c.if-is_on.true) (made n m own others))

-- the chooser is false, so the one value is added
pub returns-else-is_on-clause-made : goal.returns-else-is_on-clause-made
returns-else-is_on-clause-made g t c =
    -- z is an answer to x and y if it is what the function makes of the greater of their numbers
    let answers : g.row.T.Denot → g.row.U.Denot → g.row.V.Denot → Type 0 =
    λ x y z. g.F.Fn.post c.args.how.now.made.now (
      max (g.R.Reading.number c.args.how.now.read.now x) (g.S.Reading.number c.args.how.now.other_reading.now y),
      tt,
    ) z in
    of_answer c.put.result _ _ c.put.ensures
    (λ u added chooser n m are own others. where_value_off answers c.args.none c.args.spaces.now chooser
    c.args.chooser.now are n m c.args.out.now.items c.put.new.list.items
    (c.in-Value.ensures.shows ∙ ap (λ b. flat (Leaf b)) c.if-is_on.false) added)

-- Both sides are open: the answers for the chooser's two sides are joined by a fork. In between the highs are put
-- back, so that the space above the cut is that of the spaces given.
pub returns-in_ok-greater_where-in-Cut-2-clause-made : goal.returns-in_ok-greater_where-in-Cut-2-clause-made
returns-in_ok-greater_where-in-Cut-2-clause-made g t c =
    -- z is an answer to x and y if it is what the function makes of the greater of their numbers
    let answers : g.row.T.Denot → g.row.U.Denot → g.row.V.Denot → Type 0 =
    λ x y z. g.F.Fn.post c.args.how.now.made.now (
      max (g.R.Reading.number c.args.how.now.read.now x) (g.S.Reading.number c.args.how.now.other_reading.now y),
      tt,
    ) z in
    let spaces : SpacePair = c.args.spaces.now in
    -- what the top shows: the trees of both sides (0, 1), and that the lists are theirs (2, 3) and their fork's (4)
    let shows = c.in-Cut.ensures.shows in
    -- the fork joins what is made of both sides; here are the sides of the chooser
    of_answer c.fork.result _ _ c.fork.ensures.made
    (λ u forks chooser n m are own others. where_both_sides answers c.args.none spaces chooser c.args.chooser.now are n
    m c.args.out.now.items c.fork.new.out.items
    c.in-Cut.variable c.in-Cut.cut shows.0 shows.1 shows.4 c.ask_below-highs.new.self c.ask_above-lows.new.self
    (sym c.is_open_below.ensures.is ∙ c.if-not-is_open_below.false)
    (sym c.is_open_above.ensures.is ∙ c.if-not-is_open_above.false) c.ask_below-highs.ensures.asked
    -- the spaces that are opened again, without those below the cut, are those above it
    (c.ask_above-lows.ensures.asked ∙ ap (λ (q : SpacePair). above_cut q.asked c.in-Cut.variable c.in-Cut.cut)
    (both_opened spaces c.ask_below-highs.new.self c.greater_where-in-Cut.new.spaces c.reopen_above.new.self
    c.in-Cut.variable c.ask_below-highs.result c.ask_below-highs.ensures.back
    c.in_ok-greater_where-in-Cut.ensures.back c.reopen_above.ensures))
    c.ask_below-highs.ensures.lies
    (both_reopened spaces c.ask_below-highs.new.self c.greater_where-in-Cut.new.spaces c.reopen_above.new.self
    c.in-Cut.variable c.ask_below-highs.result c.ask_below-highs.ensures.back
    c.in_ok-greater_where-in-Cut.ensures.back c.reopen_above.ensures c.ask_above-lows.new.self c.in-Cut.cut
    c.ask_above-lows.ensures.lies)
    c.len-start.result c.len-middle.result c.greater_where-in-Cut.new.out.items c.greater_where-in-Cut-2.new.out.items
    -- the lists of both sides stand behind each other, and each is what is made of its side
    (c.len-start.ensures ∙ c.args.out.now.ok.0)
    (c.len-middle.ensures ∙ c.greater_where-in-Cut.new.out.ok.0) forks
    (c.in_ok-greater_where-in-Cut.ensures.made shows.0 n m shows.2 own others)
    (c.in_ok-greater_where-in-Cut-2.ensures.made shows.1 n m shows.3 own others))
