-- Proof of `left_of`, `left_of_part` and `left_outside`, which return the least scenario that a list of cubes leaves of
-- a cube, one cube of the list after another.
use Rattle.std.proofs.Common.{rules, ◌≡◌, ◌<◌, ◌≤◌, ◌∙◌, [], ◌∷◌, ap, sym, subst, true, false, Some, None, List, length}
use Rattle.std.proofs.Common.{get_or, map, Bor, IsPermutation, arith}
use Rattle.std.specs.Prelude.{All}
use Rattle.std.specs.List.{list_any}
use Rattle.std.proofs.lemmas.List.{nil_from_length}
use Rattle.std.proofs.lemmas.List.Elements.{All-head, All-tail}
use Rattle.std.proofs.lemmas.List.Sorted.{All-permutation, length_permutation}
use Rattle.cpg_base.specs.Graph.{IsVariable}
use Rattle.cpg_base.specs.First.{IsFirst, earlier}
use Rattle.cpg_base.specs.Scenario.{Scenario, IsScenario}
use Rattle.cpg_cube.specs.Cube.{matches}
use Rattle.cpg_cube.specs.declared.literal.Literal.{Literal}
use Rattle.cpg_cube.specs.Fit.{IsKnown}
use Rattle.cpg_cube.specs.Narrow.{narrowed_by, with_literal}
use Rattle.cpg_cube.proofs.CubeLaws.{with-is}
use Rattle.cpg_cube.proofs.Narrow.{known-narrowed}
use Rattle.cpg_cover.proofs.CoverSearch.{left_of_none, left_at_once}
use Rattle.cpg_cube.proofs.Mapped.{any_map}
use Rattle.cpg_cover.proofs.Kept.{all_removed}
use Rattle.cpg_cover.proofs.CoverLaws.{matches_permutation, left_by_taken, outside_none, first_below, first_above}
use Rattle.cpg_cover.proofs.CoverLaws.{outside_one, part_none, within_none, within_kept, earlier_none}
use Rattle.cpg_cover.proofs.cover.+cover.Goals as goal

-- what the list's references point to
abbrev seen : Bor (List Literal) → List Literal
seen b = b.now

-- the cube matches nothing, so nothing is left of it
pub left_of-returns-in_default : goal.left_of-returns-in_default
left_of-returns-in_default t c =
    let graph = c.args.problem.now in
    let order = c.args.order.now in
    let cube = c.args.cube.now in
    -- the cube matches no scenario
    let none : IsFirst graph order (matches cube) None = rw c.in_default.is at (c.in_ok-least.ensures.first order) in
    left_of_none graph order (map seen c.args.by.items) cube none

-- no cube of the list matches the least scenario of the cube, so that is the least that is left
pub left_of-returns-in_default-place_of_match : goal.left_of-returns-in_default-place_of_match
left_of-returns-in_default-place_of_match t c =
    let graph = c.args.problem.now in
    let order = c.args.order.now in
    let cube = c.args.cube.now in
    let least = c.in-Some.least in
    -- the least scenario that the cube matches
    let first : IsFirst graph order (matches cube) (Some least) =
    rw c.in-Some.is at (c.in_ok-least.ensures.first order) in
    let none : list_any (λ b. matches b least) (map seen c.args.by.items) ≡ false =
    any_map (λ b. matches b least) seen c.args.by.items ∙
    rw c.as_slice.ensures.value at c.in_default-place_of_match.ensures.none in
    left_at_once graph order (map seen c.args.by.items) cube least first none

-- the literals that cut, ranked in some order, and the cubes without the one taken are known to the graph
pub left_of-left_outside-requires : goal.left_of-left_outside-requires
left_of-left_outside-requires t c =
    let graph = c.args.problem.now in
    -- the cube that is taken out of the list has known variables
    let within : c.in-Some-place_of_match.place < length c.args.by.items = search rules in
    let matching = c.remove-matching.result.now in
    let matching_known : IsKnown graph matching =
    rw c.remove-matching.ensures.value (c.requires.list c.in-Some-place_of_match.place c.remove-matching.result within) in
    -- the literals that cut have known variables too, in their new order, and there are at most 256
    let cutting = c.in_ok-cutting.cutting.items in
    let few : length cutting ≤ 256 = c.in_ok-cutting.ensures.few in
    let ranked : IsPermutation cutting c.in_ok-literals.literals.items =
    rw c.as_slice-2.ensures.value at c.in_ok-literals.ensures in
    let long = length_permutation cutting c.in_ok-literals.literals.items ranked in
    let known : IsKnown graph c.as_slice-4.result.now =
    rw c.as_slice-4.ensures.value (All-permutation (λ (l : Literal). IsVariable graph l.variable) cutting
    c.in_ok-literals.literals.items ranked c.in_ok-cutting.ensures.known) in
    let literals : length c.as_slice-4.result.now ≤ 256 = rw c.as_slice-4.ensures.value (omega arith) in
    -- the other cubes of the list have known variables
    let list : All (λ (b : Bor (List Literal)). IsKnown graph b.now) c.as_slice-5.result.now =
    rw (c.as_slice-5.ensures.value, c.remove-matching.ensures.items)
    (all_removed (λ (b : Bor (List Literal)). IsKnown graph b.now) c.args.by.items c.in-Some-place_of_match.place
    c.requires.list) in
    (search rules, (c.requires.order, (c.requires.cube, (known, (literals, list)))))

-- what is outside the cube that was taken, by the literals that cut, is all that is left
pub left_of-returns : goal.left_of-returns
left_of-returns t c =
    let graph = c.args.problem.now in
    let within : c.in-Some-place_of_match.place < length c.args.by.items = search rules in
    -- the cube that was taken, and the literals that cut, in their new order
    let matching = c.remove-matching.result.now in
    let is_matching : matching ≡ seen (get_or c.args.by.items c.in-Some-place_of_match.place c.remove-matching.result) =
    ap seen c.remove-matching.ensures.value in
    let ranked : IsPermutation c.in_ok-cutting.cutting.items c.in_ok-literals.literals.items =
    rw c.as_slice-2.ensures.value at c.in_ok-literals.ensures in
    -- in a scenario of the cube, these literals match exactly if the cube taken out does
    let cut : (s : Scenario) → IsScenario graph s → matches c.args.cube.now s ≡ true →
    matches c.in_ok-cutting.cutting.items s ≡ matches matching s =
    rw c.literals.ensures.literals at c.in_ok-cutting.ensures.same in
    -- so what the other cubes leave outside these literals is what the whole list leaves
    left_by_taken graph c.args.order.now seen c.args.by.items c.in-Some-place_of_match.place c.remove-matching.result
    c.in_ok-literals.literals.items c.args.cube.now c.in_ok-found.found within
    (λ s lawful matched. sym
    (matches_permutation c.in_ok-cutting.cutting.items c.in_ok-literals.literals.items s ranked)
    ∙ cut s lawful matched ∙ ap (λ b. matches b s) is_matching)
    (rw (c.as_slice-5.ensures.value, c.remove-matching.ensures.items, c.as_slice-4.ensures.value) at c.in_ok-found.ensures)

-- the literal allows no number that the cube allows, so this part of the cube is empty
pub left_of_part-returns-in_default-2-clause-part : goal.left_of_part-returns-in_default-2-clause-part
left_of_part-returns-in_default-2-clause-part t c =
    -- the literal leaves its variable no number
    let none : with_literal c.in-Some.literal c.args.cube.now ≡ None = search rules in
    rw c.in-Some.is
    (part_none c.args.problem.now c.args.order.now (map seen c.args.by.now) c.in-Some.literal c.args.cube.now none)

-- the cube narrowed by a literal on a variable of the graph is known to it
pub left_of_part-meeting-requires-clause-cube : goal.left_of_part-meeting-requires-clause-cube
left_of_part-meeting-requires-clause-cube t c =
    let graph = c.args.problem.now in
    -- the cube narrowed by the literal
    let some : with_literal c.in-Some.literal c.args.cube.now ≡ Some c.in-Some-2.part = search rules in
    let known : IsVariable graph c.in-Some.literal.variable = rw c.in-Some.is at c.requires.literal in
    subst (IsKnown graph) (with-is c.in-Some.literal c.args.cube.now c.in-Some-2.part some)
    (known-narrowed graph c.in-Some.literal c.args.cube.now known c.requires.cube)

-- the part is known to the graph, and so are the cubes that were kept
pub left_of_part-left_of-requires : goal.left_of_part-left_of-requires
left_of_part-left_of-requires t c =
    let graph = c.args.problem.now in
    -- the cube narrowed by the literal
    let some : with_literal c.in-Some.literal c.args.cube.now ≡ Some c.in-Some-2.part = search rules in
    let known : IsVariable graph c.in-Some.literal.variable = rw c.in-Some.is at c.requires.literal in
    let part : IsKnown graph c.in-Some-2.part =
    subst (IsKnown graph) (with-is c.in-Some.literal c.args.cube.now c.in-Some-2.part some)
    (known-narrowed graph c.in-Some.literal c.args.cube.now known c.requires.cube) in
    (search rules, (c.requires.order, (part, c.in_ok-kept.ensures.known)))

-- the literal is the last one, so nothing is left within it: what is left is below it or above it
pub left_outside-returns-then-is_empty : goal.left_outside-returns-then-is_empty
left_outside-returns-then-is_empty t c =
    let graph = c.args.problem.now in
    let few = c.faults-k.ensures.within.few_processes in
    let order = c.args.order.now in
    let by = map seen c.args.by.now in
    let cube = c.args.cube.now in
    let literal = c.in-Some.literal.now in
    -- the literal is the only one that is left
    let last : c.in-Some.rest.now ≡ [] = nil_from_length c.in-Some.rest.now (search rules) in
    let split : c.args.literals.now ≡ literal ∷ [] = c.in-Some.ensures.cases.0 ∙ ap (λ ls. literal ∷ ls) last in
    let known : IsVariable graph literal.variable =
    All-head (λ (m : Literal). IsVariable graph m.variable) literal [] (rw split at c.requires.literals) in
    -- the answers for the parts below it and above it
    let below_is = first_below graph few order by literal cube c.in_ok-low.low
    (rw c.below.ensures at c.in_ok-low.ensures.part)
    (rw c.below.ensures at c.in_ok-low.ensures.none) in
    let above_is = first_above graph few order by literal cube c.in_ok-high.high known
    (rw (c.above.ensures, c.faults-k.ensures.faults) at c.in_ok-high.ensures.part)
    (rw (c.above.ensures, c.faults-k.ensures.faults) at c.in_ok-high.ensures.none) in
    -- within the literal nothing is left, so the earlier of both is the answer
    rw (
      split,
      c.earlier-beside.ensures,
      ← earlier_none graph order (earlier graph order c.in_ok-low.low c.in_ok-high.high),
    )
    (outside_one graph few order by literal [] cube c.in_ok-low.low c.in_ok-high.high None below_is above_is
    (outside_none graph few order by (narrowed_by literal cube)))

-- the cube has no scenario in which the first literal holds, so what is left is below it or above it
pub left_outside-returns-in_default-2 : goal.left_outside-returns-in_default-2
left_outside-returns-in_default-2 t c =
    let graph = c.args.problem.now in
    let few = c.faults-k.ensures.within.few_processes in
    let order = c.args.order.now in
    let by = map seen c.args.by.now in
    let cube = c.args.cube.now in
    let literal = c.in-Some.literal.now in
    let others = c.in-Some.rest.now in
    -- the first literal, on a known variable; the cube has no scenario in which it holds
    let split : c.args.literals.now ≡ literal ∷ others = c.in-Some.ensures.cases.0 in
    let known : IsVariable graph literal.variable =
    All-head (λ (m : Literal). IsVariable graph m.variable) literal others (rw split at c.requires.literals) in
    -- the literal leaves its variable no number
    let none : with_literal literal cube ≡ None = search rules in
    -- the answers for the parts below it and above it
    let below_is = first_below graph few order by literal cube c.in_ok-low.low
    (rw c.below.ensures at c.in_ok-low.ensures.part)
    (rw c.below.ensures at c.in_ok-low.ensures.none) in
    let above_is = first_above graph few order by literal cube c.in_ok-high.high known
    (rw (c.above.ensures, c.faults-k.ensures.faults) at c.in_ok-high.ensures.part)
    (rw (c.above.ensures, c.faults-k.ensures.faults) at c.in_ok-high.ensures.none) in
    -- within the literal nothing is left, so the earlier of both is the answer
    rw (
      split,
      c.earlier-beside.ensures,
      ← earlier_none graph order (earlier graph order c.in_ok-low.low c.in_ok-high.high),
    )
    (outside_one graph few order by literal others cube c.in_ok-low.low c.in_ok-high.high None below_is above_is
    (within_none graph order by literal cube others none))

-- the cube narrowed by the first literal is known to the graph
pub left_outside-meeting-requires-clause-cube : goal.left_outside-meeting-requires-clause-cube
left_outside-meeting-requires-clause-cube t c =
    let graph = c.args.problem.now in
    let literal = c.in-Some.literal.now in
    let others = c.in-Some.rest.now in
    let split : c.args.literals.now ≡ literal ∷ others = c.in-Some.ensures.cases.0 in
    let known : IsVariable graph literal.variable =
    All-head (λ (m : Literal). IsVariable graph m.variable) literal others (rw split at c.requires.literals) in
    -- the cube narrowed by the literal
    let some : with_literal literal c.args.cube.now ≡ Some c.in-Some-2.inside = search rules in
    subst (IsKnown graph) (with-is literal c.args.cube.now c.in-Some-2.inside some)
    (known-narrowed graph literal c.args.cube.now known c.requires.cube)

-- the part within the first literal, the other literals and the cubes kept are known to the graph
pub left_outside-left_outside-requires : goal.left_outside-left_outside-requires
left_outside-left_outside-requires t c =
    let graph = c.args.problem.now in
    let literal = c.in-Some.literal.now in
    let others = c.in-Some.rest.now in
    -- the first literal, on a known variable
    let split : c.args.literals.now ≡ literal ∷ others = c.in-Some.ensures.cases.0 in
    let all : IsKnown graph (literal ∷ others) = rw split at c.requires.literals in
    let known : IsVariable graph literal.variable =
    All-head (λ (m : Literal). IsVariable graph m.variable) literal others all in
    -- the part within it is a cube of known variables
    let some : with_literal literal c.args.cube.now ≡ Some c.in-Some-2.inside = search rules in
    let within : IsKnown graph c.in-Some-2.inside =
    subst (IsKnown graph) (with-is literal c.args.cube.now c.in-Some-2.inside some)
    (known-narrowed graph literal c.args.cube.now known c.requires.cube) in
    let short : length (literal ∷ others) ≤ 256 = rw split at c.requires.short in (
      search rules,
      (
        c.requires.order,
        (
          within,
          (
            All-tail (λ (m : Literal). IsVariable graph m.variable) literal others all,
            (omega arith, rw c.as_slice.ensures.value c.in_ok-kept.ensures.known),
          ),
        ),
      ),
    )

-- the earliest of the answers below the first literal, above it and within it is the first of all
pub left_outside-returns : goal.left_outside-returns
left_outside-returns t c =
    let graph = c.args.problem.now in
    let few = c.faults-k.ensures.within.few_processes in
    let order = c.args.order.now in
    let by = map seen c.args.by.now in
    let cube = c.args.cube.now in
    let literal = c.in-Some.literal.now in
    let others = c.in-Some.rest.now in
    -- the first literal, on a known variable
    let split : c.args.literals.now ≡ literal ∷ others = c.in-Some.ensures.cases.0 in
    let known : IsVariable graph literal.variable =
    All-head (λ (m : Literal). IsVariable graph m.variable) literal others (rw split at c.requires.literals) in
    -- the part within it
    let some : with_literal literal cube ≡ Some c.in-Some-2.inside = search rules in
    -- the answers for the parts below it, above it and within it
    let below_is = first_below graph few order by literal cube c.in_ok-low.low
    (rw c.below.ensures at c.in_ok-low.ensures.part)
    (rw c.below.ensures at c.in_ok-low.ensures.none) in
    let above_is = first_above graph few order by literal cube c.in_ok-high.high known
    (rw (c.above.ensures, c.faults-k.ensures.faults) at c.in_ok-high.ensures.part)
    (rw (c.above.ensures, c.faults-k.ensures.faults) at c.in_ok-high.ensures.none) in
    let within_is = within_kept graph order by literal cube c.in-Some-2.inside some
    (map seen c.in_ok-kept.kept.items) c.in_ok-kept.ensures.same others c.in_ok-found.found
    (rw c.as_slice.ensures.value at c.in_ok-found.ensures) in
    -- the earliest of these three is the answer
    rw (split, c.earlier.ensures, c.earlier-beside.ensures)
    (outside_one graph few order by literal others cube c.in_ok-low.low c.in_ok-high.high c.in_ok-found.found below_is
    above_is within_is)
