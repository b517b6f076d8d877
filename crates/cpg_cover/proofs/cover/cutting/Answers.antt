-- Proof of `cutting`, which returns those of the literals that may fail in some scenario that the cube matches.
use Rattle.std.proofs.Common.{rules, ◌≡◌, ◌∙◌, ap, true, get_or, None, Some, arith}
use Rattle.std.proofs.lemmas.Bool.{both_ways}
use Rattle.std.proofs.lemmas.List.{take_all}
use Rattle.std.proofs.lemmas.List.Elements.{All-push}
use Rattle.cpg_base.specs.Graph.{IsVariable}
use Rattle.cpg_cube.specs.Cube.{holds, matches}
use Rattle.cpg_cube.specs.declared.literal.Literal.{Literal}
use Rattle.cpg_cube.specs.Fit.{IsCube, asked_of_literal, is_open}
use Rattle.cpg_cube.specs.Bounds.{AreBounds, budget_left, spans}
use Rattle.cpg_cube.proofs.Meeting.{met_from_none, small_variable, unmatched, holds_where_spanned}
use Rattle.cpg_cover.proofs.Kept.{all_push, all_skip, rising_short}
use Rattle.cpg_cover.proofs.cover.cutting.Goals as goal
use Rattle.cpg_cover.proofs.cover.cutting.Goals.{then-not-spans+in_ok-push, else-not-spans}

-- the cube matches no scenario, so there is nothing to show
pub returns-in_default-clause-same : goal.returns-in_default-clause-same
returns-in_default-clause-same c s lawful matched =
    let graph = c.args.problem.now in
    let this_cube = c.args.cube.now in
    -- this cube is a cube of the graph: its variables rise, and each is one of the graph's
    let is : IsCube graph this_cube = record { rising = c.literals.ensures.rising; known = c.requires.cube } in
    -- its literals ask for more than k faults, or one of them can't hold
    let none : budget_left (is_open graph.faults) asked_of_literal graph.faults this_cube ≡ None = search rules in
    absurd (both_ways (matches this_cube s)
    (unmatched graph c.faults-k.ensures.within this_cube is (met_from_none graph.faults this_cube none) s lawful)
    matched)

-- the next literal is kept, or it holds wherever the cube matches: the literals kept say as much as all so far
pub loop-literal-preserved : goal.loop-literal-preserved
loop-literal-preserved c =
    let graph = c.args.problem.now in
    let this_cube = c.args.cube.now in
    let literals = c.args.literals.now in
    let place = c.loop-literal.literal-index in
    let blank : Literal = record { variable = 0; low = 0; high = 0 } in
    let literal = get_or literals place blank in
    let invariant = c.loop-literal.invariant in
    let known : IsVariable graph literal.variable = c.requires.literals place blank (omega arith) in
    elim c.if-not-spans.branch [
      -- the literal is kept
      | then-not-spans+in_ok-push w ↦ record {
        same = λ s lawful matched. rw (w.kept-is, w.in_ok-push.ensures.items)
            (all_push (holds s) c.loop-literal.kept.items literals place blank (omega arith)
            (invariant.same s lawful matched));
        known = rw (w.kept-is, w.in_ok-push.ensures.items)
            (All-push (λ (m : Literal). IsVariable graph m.variable) c.loop-literal.kept.items literal invariant.known
            known);
        few = search rules;
      }
      -- the literal spans all numbers that its variable has in the cube, so it holds wherever the cube matches
      | else-not-spans w ↦
          -- this cube is a cube of the graph: its variables rise, and each is one of the graph's
          let is : IsCube graph this_cube = record { rising = c.literals.ensures.rising; known = c.requires.cube } in
          -- the faults that this cube leaves, and its bounds
          let some : budget_left (is_open graph.faults) asked_of_literal graph.faults this_cube ≡ Some c.in-Some.left =
          search rules in
          let are : AreBounds this_cube c.of-bounds.result.low c.of-bounds.result.high = search rules in
          let span : spans c.of-bounds.result.low c.of-bounds.result.high c.in-Some.left literal ≡ true =
          search rules in
          record {
            same = λ s lawful matched.
                let on : holds s literal ≡ true =
                holds_where_spanned graph c.faults-k.ensures.within this_cube is c.of-bounds.result.low
                c.of-bounds.result.high are c.in-Some.left some literal known span s lawful matched in
                rw w.kept-is
                (all_skip (holds s) c.loop-literal.kept.items literals place blank (omega arith) on
                (invariant.same s lawful matched));
            known = rw w.kept-is invariant.known;
            few = search rules;
          }
    ]

-- at the end of the loop the literals so far are all literals
pub returns-clause-same : goal.returns-clause-same
returns-clause-same c s lawful matched = c.loop-literal.invariant.same s lawful matched
    ∙ ap (λ ls. matches ls s) (take_all c.loop-literal.literal-index c.args.literals.now (omega arith))

-- the literals of a rising cube are at most 256, and no more than these are kept
pub returns-clause-few : goal.returns-clause-few
returns-clause-few c =
    let graph = c.args.problem.now in
    let literals = c.args.literals.now in
    let blank : Literal = record { variable = 0; low = 0; high = 0 } in
    let few = c.loop-literal.invariant.few in
    let short = rising_short literals blank c.requires.rising (λ i inside.
    small_variable graph c.faults-k.ensures.within (get_or literals i blank).variable
    (c.requires.literals i blank inside)) in
    omega arith
