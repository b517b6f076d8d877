-- Proof of `greater_by`, which adds the tree of what is made of the greater number of two trees, for the scenarios of
-- two spaces.
use Rattle.std.proofs.Common.{arith, ℕ, ◌≡◌, ◌<◌, ◌≤◌, ◌∙◌, length, max, ap, sym, subst}
use Rattle.cpg_base.specs.Scenario.{Scenario, number_of}
use Rattle.cpg_tree_times.specs.Asked.{AreBothOpen, IsInner, IsWay, IsInBothSpaces, SpacePair, with_highs, with_lows}
use Rattle.cpg_tree_times.specs.Bounds.{IsBounded}
use Rattle.cpg_tree.specs.Space.{above_cut}
use Rattle.cpg_tree.specs.TreeNode.{TreeNode, Leaf, Fork}
use Rattle.cpg_tree_times.proofs.BoundLaws.{at_least_by}
use Rattle.cpg_tree.proofs.Flats.{flat-same}
use Rattle.cpg_tree_times.proofs.BothSpaces.{both_opened, both_reopened}
use Rattle.cpg_tree.proofs.Forks.{of_answer}
use Rattle.cpg_tree_times.proofs.GreaterLaws.{added_above, added_below, added_fork, leaf_added, other_added, own_added}
use Rattle.cpg_tree_times.proofs.GreaterLaws.{part_bounded, side_bounded}
use Rattle.cpg_tree_times.proofs.greater.+greater_by.Goals as goal

-- by their spans the first tree is at least the second's part everywhere, so its own values are added
pub returns-then-is_at_least-clause-made : goal.returns-then-is_at_least-clause-made
returns-then-is_at_least-clause-made g t c =
    -- how leaves are read, and what is made of a number
    let number : g.row.T.Denot → ℕ = g.R.Reading.number c.args.how.now.read.now in
    let other_number : g.row.U.Denot → ℕ = g.S.Reading.number c.args.how.now.other_reading.now in
    let makes : ℕ → g.row.V.Denot → Type 0 = λ k z. g.F.Fn.post c.args.how.now.made.now (k, tt) z in
    of_answer c.at_least.result _ _ c.at_least.ensures.made
    (λ u made n m are others.
    -- the part of the other tree that the space comes to
    let part = c.bounded_part-other.ensures.part m others in
    own_added number other_number makes c.args.spaces.now n m part.0 part.2 c.args.out.now.items
    c.at_least.new.out.items
    (at_least_by number other_number n part.0 c.span_of-own_span.result c.span_of-other_span.result c.is_at_least.result
    (c.span_of-own_span.ensures n are)
    (c.span_of-other_span.ensures part.0 part.1) c.is_at_least.ensures c.if-is_at_least.true)
    (made n are))

-- by their spans the second tree's part is at least the first everywhere, so its values are added
pub returns-then-is_at_least-2-clause-made : goal.returns-then-is_at_least-2-clause-made
returns-then-is_at_least-2-clause-made g t c =
    -- how leaves are read, and what is made of a number
    let number : g.row.T.Denot → ℕ = g.R.Reading.number c.args.how.now.read.now in
    let other_number : g.row.U.Denot → ℕ = g.S.Reading.number c.args.how.now.other_reading.now in
    let makes : ℕ → g.row.V.Denot → Type 0 = λ k z. g.F.Fn.post c.args.how.now.made.now (k, tt) z in
    of_answer c.at_least-then-is_at_least-2.result _ _ c.at_least-then-is_at_least-2.ensures.made
    (λ u made n m are others.
    -- the part of the other tree that the space comes to
    let part = c.bounded_part-other.ensures.part m others in
    other_added number other_number makes c.args.spaces.now n m part.0 part.2 c.args.out.now.items
    c.at_least-then-is_at_least-2.new.out.items
    (at_least_by other_number number part.0 n c.span_of-other_span.result c.span_of-own_span.result
    c.is_at_least-2.result (c.span_of-other_span.ensures part.0 part.1)
    (c.span_of-own_span.ensures n are) c.is_at_least-2.ensures c.if-is_at_least-2.true)
    (made part.0 part.1))

-- the first tree is one value, so the greater of that and each value of the second's part is added
pub returns-in-Value-clause-made : goal.returns-in-Value-clause-made
returns-in-Value-clause-made g t c =
    -- how leaves are read, and what is made of a number
    let number : g.row.T.Denot → ℕ = g.R.Reading.number c.args.how.now.read.now in
    let other_number : g.row.U.Denot → ℕ = g.S.Reading.number c.args.how.now.other_reading.now in
    let makes : ℕ → g.row.V.Denot → Type 0 = λ k z. g.F.Fn.post c.args.how.now.made.now (k, tt) z in
    of_answer c.at_least-in-Value.result _ _ c.at_least-in-Value.ensures.made
    (λ u made n m are others.
    -- the part of the other tree that the space comes to
    let part = c.bounded_part-other.ensures.part m others in
    leaf_added number other_number makes c.args.spaces.now n m part.0 part.2 c.args.out.now.items
    c.at_least-in-Value.new.out.items c.in-Value.value c.number-number.result
    (flat-same n (Leaf c.in-Value.value) (sym are ∙ c.in-Value.ensures.shows)) c.number-number.ensures
    (made part.0 part.1))

-- all scenarios go above the cut, so the answer for the side above is the answer for the fork
pub returns-in_ok-greater_by-in-Above-clause-made : goal.returns-in_ok-greater_by-in-Above-clause-made
returns-in_ok-greater_by-in-Above-clause-made g t c n m are others =
    -- how leaves are read, and what is made of a number
    let number : g.row.T.Denot → ℕ = g.R.Reading.number c.args.how.now.read.now in
    let other_number : g.row.U.Denot → ℕ = g.S.Reading.number c.args.how.now.other_reading.now in
    let makes : ℕ → g.row.V.Denot → Type 0 = λ k z. g.F.Fn.post c.args.how.now.made.now (k, tt) z in
    let spaces : SpacePair = c.args.spaces.now in
    let inner : SpacePair = c.way.new.self in
    -- what the top shows: the trees of both sides (0, 1), and that the lists are theirs (2, 3) and their fork's (4)
    let shows = c.in-Cut.ensures.shows in
    -- the part of the other tree that the space comes to
    let part = c.bounded_part-other.ensures.part m others in
    -- no scenario is lost, and the spaces can be put back
    let way : IsInner spaces (λ s. c.in-Cut.cut < number_of s c.in-Cut.variable) inner ×
    (with_lows inner c.in-Cut.variable c.in-Above.lows ≡ spaces) =
    subst (IsWay spaces inner c.in-Cut.variable c.in-Cut.cut) c.in-Above.is c.way.ensures in
    added_above (λ (x : g.row.T.Denot) (y : g.row.U.Denot) (z : g.row.V.Denot).
    makes (max (number x) (other_number y)) z) spaces c.in-Cut.variable c.in-Cut.cut shows.0 shows.1 n
    c.args.own.items.now shows.4 are m part.0 part.2 c.args.out.now.items c.greater_by.new.out.items inner way.0
    (c.in_ok-greater_by-in-Above.ensures.made shows.1 part.0 (c.sides.ensures.above ∙ shows.3) part.1)

-- all scenarios go below the cut, so the answer for the side below is the answer for the fork
pub returns-in_ok-greater_by-in-Below-clause-made : goal.returns-in_ok-greater_by-in-Below-clause-made
returns-in_ok-greater_by-in-Below-clause-made g t c n m are others =
    -- how leaves are read, and what is made of a number
    let number : g.row.T.Denot → ℕ = g.R.Reading.number c.args.how.now.read.now in
    let other_number : g.row.U.Denot → ℕ = g.S.Reading.number c.args.how.now.other_reading.now in
    let makes : ℕ → g.row.V.Denot → Type 0 = λ k z. g.F.Fn.post c.args.how.now.made.now (k, tt) z in
    let spaces : SpacePair = c.args.spaces.now in
    let inner : SpacePair = c.way.new.self in
    -- what the top shows: the trees of both sides (0, 1), and that the lists are theirs (2, 3) and their fork's (4)
    let shows = c.in-Cut.ensures.shows in
    -- the part of the other tree that the space comes to
    let part = c.bounded_part-other.ensures.part m others in
    -- no scenario is lost, and the spaces can be put back
    let way : IsInner spaces (λ s. number_of s c.in-Cut.variable ≤ c.in-Cut.cut) inner ×
    (with_highs inner c.in-Cut.variable c.in-Below.highs ≡ spaces) =
    subst (IsWay spaces inner c.in-Cut.variable c.in-Cut.cut) c.in-Below.is c.way.ensures in
    added_below (λ (x : g.row.T.Denot) (y : g.row.U.Denot) (z : g.row.V.Denot).
    makes (max (number x) (other_number y)) z) spaces c.in-Cut.variable c.in-Cut.cut shows.0 shows.1 n
    c.args.own.items.now shows.4 are m part.0 part.2 c.args.out.now.items
    c.greater_by-in-Below.new.out.items inner way.0
    (c.in_ok-greater_by-in-Below.ensures.made shows.0 part.0 (c.sides.ensures.below ∙ shows.2) part.1)

-- The scenarios go both ways: the answers for both sides are joined by a fork. In between the highs are put back, so
-- that the spaces above the cut are those of the spaces given.
pub returns-in_ok-greater_by-in-Both-2-clause-made : goal.returns-in_ok-greater_by-in-Both-2-clause-made
returns-in_ok-greater_by-in-Both-2-clause-made g t c =
    -- how leaves are read, and what is made of a number
    let number : g.row.T.Denot → ℕ = g.R.Reading.number c.args.how.now.read.now in
    let other_number : g.row.U.Denot → ℕ = g.S.Reading.number c.args.how.now.other_reading.now in
    let makes : ℕ → g.row.V.Denot → Type 0 = λ k z. g.F.Fn.post c.args.how.now.made.now (k, tt) z in
    let spaces : SpacePair = c.args.spaces.now in
    let met : SpacePair = c.way.new.self in
    -- what the top shows: the trees of both sides (0, 1), and that the lists are theirs (2, 3) and their fork's (4)
    let shows = c.in-Cut.ensures.shows in
    -- scenarios go both ways at the fork, and the spaces are those given
    let way : AreBothOpen spaces c.in-Cut.variable c.in-Cut.cut × (met ≡ spaces) =
    subst (IsWay spaces met c.in-Cut.variable c.in-Cut.cut) c.in-Both.is c.way.ensures in
    -- the fork joins what is made of both sides of the first tree with the part of the second
    of_answer c.fork.result _ _ c.fork.ensures.made
    (λ u forks n m are others.
    -- the part of the other tree that the space comes to
    let part = c.bounded_part-other.ensures.part m others in
    added_fork (λ (x : g.row.T.Denot) (y : g.row.U.Denot) (z : g.row.V.Denot).
    makes (max (number x) (other_number y)) z) spaces c.in-Cut.variable c.in-Cut.cut shows.0 shows.1 n
    c.args.own.items.now shows.4 are m part.0 part.2 c.args.out.now.items c.fork.new.out.items met
    c.close_above-highs.new.self c.close_below-lows.new.self way.0 way.1
    c.close_above-highs.ensures.asked
    -- the spaces that are opened again, without those below the cut, are those above it
    (c.close_below-lows.ensures.asked ∙ ap (λ (q : SpacePair). above_cut q.asked c.in-Cut.variable c.in-Cut.cut)
    (both_opened met c.close_above-highs.new.self c.greater_by-in-Both.new.spaces c.reopen_above-in-Both.new.self
    c.in-Cut.variable c.close_above-highs.result c.close_above-highs.ensures.back
    c.in_ok-greater_by-in-Both.ensures.back c.reopen_above-in-Both.ensures))
    c.close_above-highs.ensures.lies
    (both_reopened met c.close_above-highs.new.self c.greater_by-in-Both.new.spaces c.reopen_above-in-Both.new.self
    c.in-Cut.variable c.close_above-highs.result c.close_above-highs.ensures.back
    c.in_ok-greater_by-in-Both.ensures.back c.reopen_above-in-Both.ensures c.close_below-lows.new.self c.in-Cut.cut
    c.close_below-lows.ensures.lies)
    c.len-start.result c.len-middle.result c.greater_by-in-Both.new.out.items c.greater_by-in-Both-2.new.out.items
    -- the lists of both sides stand behind each other, and each is what is made of its side
    (c.len-start.ensures ∙ c.args.out.now.ok.0)
    (c.len-middle.ensures ∙ c.greater_by-in-Both.new.out.ok.0) forks
    (c.in_ok-greater_by-in-Both.ensures.made shows.0 part.0 (c.sides.ensures.below ∙ shows.2) part.1)
    (c.in_ok-greater_by-in-Both-2.ensures.made shows.1 part.0 (c.sides.ensures.above ∙ shows.3) part.1))

-- The calls are given as tuples: the measure gets smaller; what `within` says of the spaces, the same for each call; the
-- reading can be called, and its equality is that of values; and both trees have the spans of their forks.

-- the call for the side above: its list is shorter, and it and the second tree's part have the spans of their forks
pub greater_by-requires : goal.greater_by-requires
greater_by-requires g t c κs within =
    -- how leaves are read as numbers
    let number : g.row.T.Denot → ℕ = g.R.Reading.number c.args.how.now.read.now in
    let other_number : g.row.U.Denot → ℕ = g.S.Reading.number c.args.how.now.other_reading.now in
    -- what the top shows: the trees of both sides (0, 1), and that the lists are theirs (2, 3) and their fork's (4)
    let shows = c.in-Cut.ensures.shows in
    let small : length c.sides.result.1.items.now < t =
    omega (arith, c.decreases, ap length c.sides.ensures.above, c.in-Cut.ensures.less.1) in
    -- the side has the spans of its own forks
    let own : IsBounded number c.sides.result.1.items.now c.sides.result.1.bounds.now =
    side_bounded number (Fork c.in-Cut.variable c.in-Cut.cut shows.0 shows.1) shows.1 c.args.own.items.now
    c.sides.result.1.items.now c.args.own.bounds.now
    c.sides.result.1.bounds.now c.requires.own shows.4 (c.sides.ensures.above ∙ shows.3)
    (λ e. (c.sides.ensures.bounds number c.in-Cut.variable c.in-Cut.cut shows.0 shows.1 shows.2 e).1) in
    -- the part of the second tree has the spans of its own forks
    let others : IsBounded other_number c.bounded_part-other.result.items.now c.bounded_part-other.result.bounds.now =
    part_bounded other_number c.args.spaces.now.walked c.args.other.items.now c.bounded_part-other.result.items.now
    c.args.other.bounds.now c.bounded_part-other.result.bounds.now
    c.requires.others c.bounded_part-other.ensures.part in (
      -- the measure, what is known of the functions, and both trees with their spans
      small,
      (
        within.0,
        (
          within.1.0,
          (
            within.1.1.0,
            (
              within.1.1.1.0,
              (
                within.1.1.1.1.0,
                (
                  within.1.1.1.1.1,
                  (
                    c.requires.callable,
                    (c.requires.equal, (own, others)),
                  ),
                ),
              ),
            ),
          ),
        ),
      ),
    )

-- the call for the side below, if all scenarios go there: its list is shorter, and the spans are those of its forks
pub greater_by-requires-in-Below : goal.greater_by-requires-in-Below
greater_by-requires-in-Below g t c κs within =
    -- how leaves are read as numbers
    let number : g.row.T.Denot → ℕ = g.R.Reading.number c.args.how.now.read.now in
    let other_number : g.row.U.Denot → ℕ = g.S.Reading.number c.args.how.now.other_reading.now in
    -- what the top shows: the trees of both sides (0, 1), and that the lists are theirs (2, 3) and their fork's (4)
    let shows = c.in-Cut.ensures.shows in
    let small : length c.sides.result.0.items.now < t =
    omega (arith, c.decreases, ap length c.sides.ensures.below, c.in-Cut.ensures.less.0) in
    -- the side has the spans of its own forks
    let own : IsBounded number c.sides.result.0.items.now c.sides.result.0.bounds.now =
    side_bounded number (Fork c.in-Cut.variable c.in-Cut.cut shows.0 shows.1) shows.0 c.args.own.items.now
    c.sides.result.0.items.now c.args.own.bounds.now
    c.sides.result.0.bounds.now c.requires.own shows.4 (c.sides.ensures.below ∙ shows.2)
    (λ e. (c.sides.ensures.bounds number c.in-Cut.variable c.in-Cut.cut shows.0 shows.1 shows.2 e).0) in
    -- the part of the second tree has the spans of its own forks
    let others : IsBounded other_number c.bounded_part-other.result.items.now c.bounded_part-other.result.bounds.now =
    part_bounded other_number c.args.spaces.now.walked c.args.other.items.now c.bounded_part-other.result.items.now
    c.args.other.bounds.now c.bounded_part-other.result.bounds.now
    c.requires.others c.bounded_part-other.ensures.part in (
      -- the measure, what is known of the functions, and both trees with their spans
      small,
      (
        within.0,
        (
          within.1.0,
          (
            within.1.1.0,
            (
              within.1.1.1.0,
              (
                within.1.1.1.1.0,
                (
                  within.1.1.1.1.1,
                  (
                    c.requires.callable,
                    (c.requires.equal, (own, others)),
                  ),
                ),
              ),
            ),
          ),
        ),
      ),
    )

-- the call for the side below, if scenarios go both ways: its list is shorter, and the spans are those of its forks
pub greater_by-requires-in-Both : goal.greater_by-requires-in-Both
greater_by-requires-in-Both g t c κs within =
    -- how leaves are read as numbers
    let number : g.row.T.Denot → ℕ = g.R.Reading.number c.args.how.now.read.now in
    let other_number : g.row.U.Denot → ℕ = g.S.Reading.number c.args.how.now.other_reading.now in
    -- what the top shows: the trees of both sides (0, 1), and that the lists are theirs (2, 3) and their fork's (4)
    let shows = c.in-Cut.ensures.shows in
    let small : length c.sides.result.0.items.now < t =
    omega (arith, c.decreases, ap length c.sides.ensures.below, c.in-Cut.ensures.less.0) in
    -- the side has the spans of its own forks
    let own : IsBounded number c.sides.result.0.items.now c.sides.result.0.bounds.now =
    side_bounded number (Fork c.in-Cut.variable c.in-Cut.cut shows.0 shows.1) shows.0 c.args.own.items.now
    c.sides.result.0.items.now c.args.own.bounds.now
    c.sides.result.0.bounds.now c.requires.own shows.4 (c.sides.ensures.below ∙ shows.2)
    (λ e. (c.sides.ensures.bounds number c.in-Cut.variable c.in-Cut.cut shows.0 shows.1 shows.2 e).0) in
    -- the part of the second tree has the spans of its own forks
    let others : IsBounded other_number c.bounded_part-other.result.items.now c.bounded_part-other.result.bounds.now =
    part_bounded other_number c.args.spaces.now.walked c.args.other.items.now c.bounded_part-other.result.items.now
    c.args.other.bounds.now c.bounded_part-other.result.bounds.now
    c.requires.others c.bounded_part-other.ensures.part in (
      -- the measure, what is known of the functions, and both trees with their spans
      small,
      (
        within.0,
        (
          within.1.0,
          (
            within.1.1.0,
            (
              within.1.1.1.0,
              (
                within.1.1.1.1.0,
                (
                  within.1.1.1.1.1,
                  (
                    c.requires.callable,
                    (c.requires.equal, (own, others)),
                  ),
                ),
              ),
            ),
          ),
        ),
      ),
    )

-- the call for the side above, if scenarios go both ways: its list is shorter, and the spans are those of its forks
pub greater_by-requires-in-Both-2 : goal.greater_by-requires-in-Both-2
greater_by-requires-in-Both-2 g t c κs within =
    -- how leaves are read as numbers
    let number : g.row.T.Denot → ℕ = g.R.Reading.number c.args.how.now.read.now in
    let other_number : g.row.U.Denot → ℕ = g.S.Reading.number c.args.how.now.other_reading.now in
    -- what the top shows: the trees of both sides (0, 1), and that the lists are theirs (2, 3) and their fork's (4)
    let shows = c.in-Cut.ensures.shows in
    let small : length c.sides.result.1.items.now < t =
    omega (arith, c.decreases, ap length c.sides.ensures.above, c.in-Cut.ensures.less.1) in
    -- the side has the spans of its own forks
    let own : IsBounded number c.sides.result.1.items.now c.sides.result.1.bounds.now =
    side_bounded number (Fork c.in-Cut.variable c.in-Cut.cut shows.0 shows.1) shows.1 c.args.own.items.now
    c.sides.result.1.items.now c.args.own.bounds.now
    c.sides.result.1.bounds.now c.requires.own shows.4 (c.sides.ensures.above ∙ shows.3)
    (λ e. (c.sides.ensures.bounds number c.in-Cut.variable c.in-Cut.cut shows.0 shows.1 shows.2 e).1) in
    -- the part of the second tree has the spans of its own forks
    let others : IsBounded other_number c.bounded_part-other.result.items.now c.bounded_part-other.result.bounds.now =
    part_bounded other_number c.args.spaces.now.walked c.args.other.items.now c.bounded_part-other.result.items.now
    c.args.other.bounds.now c.bounded_part-other.result.bounds.now
    c.requires.others c.bounded_part-other.ensures.part in (
      -- the measure, what is known of the functions, and both trees with their spans
      small,
      (
        within.0,
        (
          within.1.0,
          (
            within.1.1.0,
            (
              within.1.1.1.0,
              (
                within.1.1.1.1.0,
                (
                  within.1.1.1.1.1,
                  (
                    c.requires.callable,
                    (c.requires.equal, (own, others)),
                  ),
                ),
              ),
            ),
          ),
        ),
      ),
    )

-- the list has grown by the fork or by a side
pub returns-in_ok-greater_by-in-Both-2-clause-long : goal.returns-in_ok-greater_by-in-Both-2-clause-long
returns-in_ok-greater_by-in-Both-2-clause-long g t c =
    of_answer c.fork.result _ _ c.fork.ensures.long (λ u h. omega (arith, h, c.len-start.ensures, c.fork.new.out.ok.0))

-- the highs and then the lows are put back, so in the end the spaces are those given
pub returns-in_ok-greater_by-in-Both-2-clause-back : goal.returns-in_ok-greater_by-in-Both-2-clause-back
returns-in_ok-greater_by-in-Both-2-clause-back g t c =
    let spaces : SpacePair = c.args.spaces.now in
    let met : SpacePair = c.way.new.self in
    -- both spaces are open on both sides, and are as before
    let way : AreBothOpen spaces c.in-Cut.variable c.in-Cut.cut × (met ≡ spaces) =
    subst (IsWay spaces met c.in-Cut.variable c.in-Cut.cut) c.in-Both.is c.way.ensures in
    of_answer c.fork.result _ _ c.fork.ensures.long
    (λ u h. c.reopen_below-in-Both.ensures
    ∙ ap (λ (q : SpacePair). with_lows q c.in-Cut.variable c.close_below-lows.result)
    c.in_ok-greater_by-in-Both-2.ensures.back
    ∙ c.close_below-lows.ensures.back
    ∙ both_opened met c.close_above-highs.new.self c.greater_by-in-Both.new.spaces c.reopen_above-in-Both.new.self
    c.in-Cut.variable c.close_above-highs.result c.close_above-highs.ensures.back
    c.in_ok-greater_by-in-Both.ensures.back c.reopen_above-in-Both.ensures ∙ way.1)
