-- Proof of `meeting`, which returns those cubes of a list that match some scenario together with `cube`: they leave the
-- same of it as the whole list.
use Rattle.std.proofs.Common.{rules, ◌≡◌, ◌∙◌, sym, ap, false, None, Some, ◌&&◌, arith, List, Bor}
use Rattle.std.specs.Prelude.{is_some}
use Rattle.std.specs.List.{list_any}
use Rattle.std.proofs.lemmas.Bool.{both_ways}
use Rattle.std.proofs.lemmas.List.{take_all}
use Rattle.std.proofs.lemmas.List.Elements.{All-push}
use Rattle.cpg_cube.specs.Cube.{matches}
use Rattle.cpg_cube.specs.declared.literal.Literal.{Literal}
use Rattle.cpg_cube.specs.Fit.{IsCube, IsKnown, asked_of_literal, is_open}
use Rattle.cpg_cube.specs.Bounds.{AreBounds, budget_left, touches, more_asked}
use Rattle.cpg_cube.proofs.CubeLaws.{apart_from_meet}
use Rattle.cpg_cube.proofs.Meeting.{met_from_none, unmatched, meet_from_fit}
use Rattle.cpg_cover.proofs.Kept.{left_same, kept_push, kept_skip}
use Rattle.cpg_cover.proofs.cover.meeting.Goals as goal
use Rattle.cpg_cover.proofs.cover.meeting.Goals.{then-fits+in_ok-push, else-fits}

-- the cube matches no scenario, so each list leaves the same of it
pub returns-in_default-clause-same : goal.returns-in_default-clause-same
returns-in_default-clause-same c s lawful =
    let graph = c.args.problem.now in
    let this_cube = c.args.cube.now in
    -- this cube is a cube of the graph: its variables rise, and each is one of the graph's
    let is : IsCube graph this_cube = record { rising = c.literals.ensures.rising; known = c.requires.cube } in
    -- its literals ask for more than k faults, or one of them can't hold
    let none : budget_left (is_open graph.faults) asked_of_literal graph.faults this_cube ≡ None = search rules in
    left_same (λ (b : Bor (List Literal)). b.now) c.new-kept.result.items c.args.by.now this_cube s
    (λ matched. absurd
    (both_ways (matches this_cube s)
    (unmatched graph c.faults-k.ensures.within this_cube is (met_from_none graph.faults this_cube none) s lawful)
    matched))

-- the next cube is kept, or it is apart from this one: the cubes kept leave the same as all so far
pub loop-other-preserved : goal.loop-other-preserved
loop-other-preserved c =
    let graph = c.args.problem.now in
    let this_cube = c.args.cube.now in
    let other_cube = c.other-item.result.now in
    let by = c.args.by.now in
    let place = c.loop-other.other-index in
    let invariant = c.loop-other.invariant in
    let known : IsKnown graph other_cube =
    rw c.other-item.is (c.requires.list place c.other-item.result (omega arith)) in
    elim c.if-fits.branch [
      -- the cube is kept
      | then-fits+in_ok-push w ↦ record {
        same = λ s lawful matched. rw (
          w.kept-is,
          w.in_ok-push.ensures.items,
          c.other-item.is,
        ) (kept_push (λ x. matches x.now s) c.loop-other.kept.items by place c.other-item.result (omega arith)
            (invariant.same s lawful matched));
        known = rw (w.kept-is, w.in_ok-push.ensures.items)
            (All-push (λ x. IsKnown graph x.now) c.loop-other.kept.items c.other-item.result invariant.known known);
        few = search rules;
      }
      -- the cube doesn't fit beside the bounds of this one, so no scenario matches both
      | else-fits w ↦
          -- both lists of literals are cubes of the graph
          let is_a : IsCube graph this_cube = record { rising = c.literals.ensures.rising; known = c.requires.cube } in
          let is_b : IsCube graph other_cube = record { rising = c.literals-literals.ensures.rising; known = known } in
          -- the faults that this cube leaves, and its bounds
          let some : budget_left (is_open graph.faults) asked_of_literal graph.faults this_cube ≡ Some c.in-Some.left =
          search rules in
          let are : AreBounds this_cube c.of-bounds.result.low c.of-bounds.result.high = search rules in
          let unfit : is_some (budget_left (touches graph.faults c.of-bounds.result.low c.of-bounds.result.high)
          (more_asked c.of-bounds.result.low) c.in-Some.left other_cube) ≡ false = search rules in
          let apart = sym (meet_from_fit graph c.faults-k.ensures.within this_cube is_a other_cube is_b
          c.of-bounds.result.low
          c.of-bounds.result.high are c.in-Some.left some) ∙ unfit in
          record {
            same = λ s lawful matched.
                let off : matches other_cube s ≡ false = sym (ap (λ m. m && matches other_cube s) matched)
                ∙ apart_from_meet graph c.faults-k.ensures.within.few_processes this_cube other_cube is_a is_b apart s
                lawful in
                rw w.kept-is (kept_skip (λ x. matches x.now s) c.loop-other.kept.items by place c.other-item.result
                (omega arith) (rw c.other-item.is at off) (invariant.same s lawful matched));
            known = rw w.kept-is invariant.known;
            few = search rules;
          }
    ]

-- at the end of the loop the cubes so far are all, so in the cube the kept ones leave the same scenarios
pub returns-clause-same : goal.returns-clause-same
returns-clause-same c s lawful =
    left_same (λ (b : Bor (List Literal)). b.now) c.loop-other.kept.items c.args.by.now c.args.cube.now s
    (λ matched. c.loop-other.invariant.same s lawful matched
    ∙ ap (list_any (λ b. matches b.now s)) (take_all c.loop-other.other-index c.args.by.now (omega arith)))
