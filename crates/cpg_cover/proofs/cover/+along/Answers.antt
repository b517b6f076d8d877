-- Proof of `least_along`, `least_by_number` and `least_of_part`, which return the least scenario that a list of cubes
-- leaves of a cube, variable by variable along the order.
use Rattle.std.proofs.Common.{rules, ◌≡◌, ◌∙◌, true, false, sym, subst, Some, None, List, Bor, map}
use Rattle.std.specs.List.{list_any}
use Rattle.std.proofs.lemmas.Bool.{OnTrue_at}
use Rattle.std.proofs.lemmas.List.Elements.{All-head, All-tail}
use Rattle.cpg_base.specs.First.{IsFirst}
use Rattle.cpg_base.specs.Graph.{IsVariable}
use Rattle.cpg_cube.specs.Cube.{matches}
use Rattle.cpg_cube.specs.declared.literal.Literal.{Literal}
use Rattle.cpg_cube.specs.Fit.{IsKnown}
use Rattle.cpg_cube.specs.Narrow.{with_literal}
use Rattle.cpg_cover.specs.Cover.{is_left}
use Rattle.cpg_cover.specs.Late.{IsLate}
use Rattle.cpg_cover.proofs.AlongLaws.{with_part, without_part, late_part}
use Rattle.cpg_cover.proofs.CoverSearch.{left_of_none, left_at_once}
use Rattle.cpg_cover.proofs.CoverSteps.{none_from_covered}
use Rattle.cpg_cube.proofs.CubeLaws.{with-is}
use Rattle.cpg_cube.proofs.Mapped.{any_map}
use Rattle.cpg_cube.proofs.Narrow.{known-narrowed}
use Rattle.cpg_cover.proofs.cover.+along.Goals as goal
use Rattle.cpg_cover.proofs.cover.+along.Goals.{least_by_number-in-Some-2+in_ok-late+in-Heap-1}
use Rattle.cpg_cover.proofs.cover.+along.Goals.{least_by_number-then-not-late+in_ok-next, least_by_number-else-not-late}
use Rattle.cpg_cover.proofs.cover.+along.Goals.{least_by_number-in-Some-2+in_ok-late+in-Inline-1}
use Rattle.cpg_cover.proofs.cover.+along.Goals.{least_by_number-in_default-2}

-- what the list's references point to
abbrev seen : Bor (List Literal) → List Literal
seen b = b.now

-- the cube matches nothing, so nothing is left of it
pub least_along-returns-in_default : goal.least_along-returns-in_default
least_along-returns-in_default t c =
    let graph = c.args.problem.now in
    let order = c.args.order.now in
    let cube = c.args.cube.now in
    -- the cube matches no scenario
    let none : IsFirst graph order (matches cube) None = rw c.in_default.is at (c.in_ok-least.ensures.first order) in
    left_of_none graph order (map seen c.args.by.items) cube none

-- no cube of the list matches the least scenario of the cube, so that is the least that is left
pub least_along-returns-in_default-place_of_match : goal.least_along-returns-in_default-place_of_match
least_along-returns-in_default-place_of_match t c =
    let graph = c.args.problem.now in
    let order = c.args.order.now in
    let cube = c.args.cube.now in
    let least = c.in-Some.least in
    -- the least scenario that the cube matches
    let first : IsFirst graph order (matches cube) (Some least) =
    rw c.in-Some.is at (c.in_ok-least.ensures.first order) in
    let none : list_any (λ b. matches b least) (map seen c.args.by.items) ≡ false =
    any_map (λ b. matches b least) seen c.args.by.items ∙
    rw c.as_slice.ensures.value at c.in_default-place_of_match.ensures.none in
    left_at_once graph order (map seen c.args.by.items) cube least first none

-- the list covers the cube, so no scenario is left
pub least_along-returns-then-covered : goal.least_along-returns-then-covered
least_along-returns-then-covered t c =
    none_from_covered c.args.problem.now c.args.order.now (map seen c.args.by.items) c.args.cube.now
    (λ s lawful matched. any_map (λ b. matches b s) seen c.args.by.items
    ∙ rw c.as_slice-2.ensures.value at (OnTrue_at c.if-covered.true c.in_ok-covered.ensures s lawful matched))

-- the part has the cube's literals and one on a variable of the order, all known to the graph
pub least_by_number-is_late-requires-clause-part : goal.least_by_number-is_late-requires-clause-part
least_by_number-is_late-requires-clause-part t c =
    let graph = c.args.problem.now in
    let v = c.in-Some.variable.now in
    let literal : Literal = record { variable = v; low = c.loop-number.number; high = c.loop-number.number } in
    let known : IsVariable graph v =
    All-head (IsVariable graph) v c.in-Some.others.now (rw c.in-Some.ensures.cases.0 at c.requires.variables) in
    -- the cube narrowed by the literal
    let some : with_literal literal c.args.cube.now ≡ Some c.in-Some-2.part = search rules in
    subst (IsKnown graph) (with-is literal c.args.cube.now c.in-Some-2.part some)
    (known-narrowed graph literal c.args.cube.now known c.requires.cube)

-- the part and the variables that are left are known to the graph
pub least_by_number-least_of_part-requires : goal.least_by_number-least_of_part-requires
least_by_number-least_of_part-requires t c =
    let graph = c.args.problem.now in
    let v = c.in-Some.variable.now in
    let literal : Literal = record { variable = v; low = c.loop-number.number; high = c.loop-number.number } in
    -- the variable and the others are variables of the graph
    let all_known = rw c.in-Some.ensures.cases.0 at c.requires.variables in
    let known : IsVariable graph v = All-head (IsVariable graph) v c.in-Some.others.now all_known in
    -- the part is a cube of known variables
    let some : with_literal literal c.args.cube.now ≡ Some c.in-Some-2.part = search rules in
    let part : IsKnown graph c.in-Some-2.part =
    subst (IsKnown graph) (with-is literal c.args.cube.now c.in-Some-2.part some)
    (known-narrowed graph literal c.args.cube.now known c.requires.cube) in (
      search rules,
      (
        c.requires.order,
        (
          part,
          (
            rw c.as_slice-list.ensures.value c.requires.list,
            All-tail (IsVariable graph) v c.in-Some.others.now all_known,
          ),
        ),
      ),
    )

-- the next number of the variable gives a part that is searched, late or empty: then one number more is done
pub least_by_number-loop-number-preserved : goal.least_by_number-loop-number-preserved
least_by_number-loop-number-preserved t c =
    let graph = c.args.problem.now in
    let order = c.args.order.now in
    let by = map seen c.args.by.items in
    let cube = c.args.cube.now in
    let v = c.in-Some.variable.now in
    let number = c.loop-number.number in
    -- the literal that says that the variable has the next number
    let literal : Literal = record { variable = v; low = number; high = number } in
    let found = c.loop-number.found in
    let invariant = c.loop-number.invariant in
    elim c.match-branch-3.branch [
      | least_by_number-in-Some-2+in_ok-late+in-Heap-1 w ↦
          -- the cube with this literal is the next part
          let some : with_literal literal cube ≡ Some w.in-Some-2.part = sym c.in_ok-part.ensures.cube
          ∙ w.in-Some-2.is in
          let is = sym (with-is literal cube w.in-Some-2.part some) in
          -- the part is searched, and the earlier of both answers stays; or it is late, and the answer so far stays
          elim w.if-not-late.branch [
            | least_by_number-then-not-late+in_ok-next w' ↦ rw (w.found-is, w'.found-is, w'.earlier-found.ensures)
                (with_part graph order by cube v number found w'.in_ok-next.next invariant
                (subst (λ (d : List Literal). IsFirst graph order (is_left by d) w'.in_ok-next.next) is
                (rw w'.as_slice-list.ensures.value at w'.in_ok-next.ensures)))
            | least_by_number-else-not-late w' ↦ rw (w.found-is, w'.found-is)
                (late_part graph order by cube v number found
                (subst (λ (d : List Literal). IsLate graph order d found) is
                (OnTrue_at (search rules) w.in_ok-late.ensures)) invariant)
          ]
      | least_by_number-in-Some-2+in_ok-late+in-Inline-1 w ↦
          -- the cube with this literal is the next part
          let some : with_literal literal cube ≡ Some w.in-Some-2.part = sym c.in_ok-part.ensures.cube
          ∙ w.in-Some-2.is in
          let is = sym (with-is literal cube w.in-Some-2.part some) in
          -- the part is searched, and the earlier of both answers stays; or it is late, and the answer so far stays
          elim w.if-not-late.branch [
            | least_by_number-then-not-late+in_ok-next w' ↦ rw (w.found-is, w'.found-is, w'.earlier-found.ensures)
                (with_part graph order by cube v number found w'.in_ok-next.next invariant
                (subst (λ (d : List Literal). IsFirst graph order (is_left by d) w'.in_ok-next.next) is
                (rw w'.as_slice-list.ensures.value at w'.in_ok-next.ensures)))
            | least_by_number-else-not-late w' ↦ rw (w.found-is, w'.found-is)
                (late_part graph order by cube v number found
                (subst (λ (d : List Literal). IsLate graph order d found) is
                (OnTrue_at (search rules) w.in_ok-late.ensures)) invariant)
          ]
      -- the cube has no scenario with this number
      | least_by_number-in_default-2 w ↦ rw w.found-is
          (without_part graph order by cube v number found (search rules) invariant)
    ]
