-- Proof of `hints_of`, which returns the places whose cubes some scenario of the space may match, which is that of all
-- scenarios of at most `k` faults.
use Rattle.std.proofs.Common.{map, sym, subst, Bor, List, ℕ, arith}
use Rattle.std.proofs.lemmas.List.{length-map}
use Rattle.cpg_base.specs.Numbers.{numbers_below}
use Rattle.cpg_base.proofs.Lists.{Contains-numbers, below_push}
use Rattle.cpg_cube.specs.declared.literal.Literal.{Literal}
use Rattle.cpg_tree.specs.Space.{IsInSpace}
use Rattle.cpg_row_trees.specs.PlaceHints.{KeepsWhere, places_of}
use Rattle.cpg_row_trees.proofs.PlaceHintLaws.{keeps_none, keeps_one}
use Rattle.cpg_row_trees.proofs.places.hints_of.Goals as goal

-- before the first place there is none to keep
pub loop-place-init : goal.loop-place-init
loop-place-init c = keeps_none (map (λ (b : Bor (List Literal)). b.now) c.args.cubes.now) (IsInSpace c.args.space.now)
    (places_of c.in_ok-hints.hints.items)

-- with the next place admitted, the places of one cube more are kept
pub loop-place-preserved : goal.loop-place-preserved
loop-place-preserved c =
    let cubes : List (List Literal) = map (λ (b : Bor (List Literal)). b.now) c.args.cubes.now in
    subst (λ (xs : List ℕ). KeepsWhere cubes (IsInSpace c.args.space.now) xs (places_of c.admit.new.hints.items))
    (sym (below_push c.loop-place.place))
    (keeps_one cubes (IsInSpace c.args.space.now) c.loop-place.place (numbers_below c.loop-place.place)
    c.loop-place.hints.items c.admit.new.hints.items c.in_ok-admit.ensures c.loop-place.invariant)

-- all places have been gone through, so each that a scenario may match is kept
pub returns : goal.returns
returns c s i lies m = c.loop-place.invariant s i lies (Contains-numbers _ i (omega
    (arith, m.there, c.loop-place-test.false, length-map c.args.cubes.now (λ (b : Bor (List Literal)). b.now)))) m
