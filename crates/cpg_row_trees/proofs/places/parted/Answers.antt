-- Proof of `parted`, which returns for each side of a fork the places whose cubes some scenario there may match.
use Rattle.std.proofs.Common.{map, refl, sym, subst, Bor, List, get_or, ◌≤◌, ◌<◌, ◌∙◌}
use Rattle.std.proofs.lemmas.List.{take_all}
use Rattle.cpg_base.specs.Scenario.{number_of}
use Rattle.cpg_cube.specs.declared.literal.Literal.{Literal}
use Rattle.cpg_tree.specs.declared.space.Space.{Space}
use Rattle.cpg_tree.specs.Space.{IsInSpace}
use Rattle.cpg_row_trees.specs.Places.{IsMatched}
use Rattle.cpg_row_trees.specs.declared.places.PlaceHint.{PlaceHint}
use Rattle.cpg_row_trees.specs.PlaceHints.{IsOpenCut, KeepsPlace, KeepsWhere, places_of}
use Rattle.cpg_row_trees.proofs.PlaceHintLaws.{keeps_more, keeps_none}
use Rattle.cpg_row_trees.proofs.places.parted.Goals as goal

-- before the first hint, nothing has to be kept
pub loop-hint-init : goal.loop-hint-init
loop-hint-init c =
    let cubes : List (List Literal) = map (λ (b : Bor (List Literal)). b.now) c.args.cubes.now in
    let variable = c.args.span.cut.variable in
    record {
      low = keeps_none cubes (λ s. number_of s variable ≤ c.args.span.cut.most) (places_of c.in_ok-low.low.items);
      high = keeps_none cubes (λ s. IsInSpace c.args.space.now s × (c.args.span.cut.most < number_of s variable))
          (places_of c.in_ok-high.high.items);
      same = refl;
    }

-- with the next place kept on the sides that it goes to, one place more is kept on both
pub loop-hint-preserved : goal.loop-hint-preserved
loop-hint-preserved c =
    let cubes : List (List Literal) = map (λ (b : Bor (List Literal)). b.now) c.args.cubes.now in
    let variable = c.args.span.cut.variable in
    let none : PlaceHint = record { place = 0; held = 0; spare = 0 } in
    record {
      -- `keep` says so of the next hint for the side below, and the invariant of those before
      low = keeps_more cubes (λ s. number_of s variable ≤ c.args.span.cut.most) c.args.hints.now c.loop-hint.low.items
          c.keep.new.low.items c.loop-hint.hint-index none c.loop-hint-test.true
          c.in_ok-keep.ensures.low c.loop-hint.invariant.low;
      -- the side above keeps its places too: the space that `keep` speaks of is the one given
      high = keeps_more cubes (λ s. IsInSpace c.args.space.now s × (c.args.span.cut.most < number_of s variable))
          c.args.hints.now c.loop-hint.high.items c.keep.new.high.items c.loop-hint.hint-index none
          c.loop-hint-test.true
          (subst (λ (r : Space). KeepsPlace (λ s. (IsInSpace r s × (c.args.span.cut.most < number_of s variable)) ×
          IsMatched cubes s (get_or c.args.hints.now c.loop-hint.hint-index none).place)
          (get_or c.args.hints.now c.loop-hint.hint-index none).place c.loop-hint.high.items c.keep.new.high.items)
          c.loop-hint.invariant.same c.in_ok-keep.ensures.high)
          c.loop-hint.invariant.high;
      same = c.in_ok-keep.ensures.same ∙ c.loop-hint.invariant.same;
    }

-- the space is the one that was given, so the cut is open in it
pub keep-requires : goal.keep-requires
keep-requires c = subst (λ (r : Space). IsOpenCut r c.args.span.cut.variable c.args.span.cut.most)
    (sym c.loop-hint.invariant.same) c.requires

-- the loop has seen all hints, so their places are kept up to the cut
pub returns-clause-low : goal.returns-clause-low
returns-clause-low c =
    let cubes : List (List Literal) = map (λ (b : Bor (List Literal)). b.now) c.args.cubes.now in
    subst (λ (es : List PlaceHint). KeepsWhere cubes (λ s. number_of s c.args.span.cut.variable ≤ c.args.span.cut.most)
    (places_of es) (places_of c.loop-hint.low.items))
    (take_all c.loop-hint.hint-index c.args.hints.now c.loop-hint-test.false) c.loop-hint.invariant.low

-- the loop has seen all hints, so their places are kept above the cut
pub returns-clause-high : goal.returns-clause-high
returns-clause-high c =
    let cubes : List (List Literal) = map (λ (b : Bor (List Literal)). b.now) c.args.cubes.now in
    subst (λ (es : List PlaceHint). KeepsWhere cubes (λ s. IsInSpace c.args.space.now s ×
    (c.args.span.cut.most < number_of s c.args.span.cut.variable)) (places_of es)
    (places_of c.loop-hint.high.items))
    (take_all c.loop-hint.hint-index c.args.hints.now c.loop-hint-test.false) c.loop-hint.invariant.high
