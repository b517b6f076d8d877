-- Proof of `top_of`, which returns the top of a tree.
use Rattle.std.proofs.Common.{◌∙◌, ap, sym, length, ◌++◌, ◌∷◌, [], take, drop, arith}
use Rattle.std.proofs.lemmas.Bool.{eqb-true, eqb-false}
use Rattle.cpg_tree.specs.declared.item.TreeItem.{TreeItem}
use Rattle.cpg_tree.proofs.Flats.{value_alone, cut_behind, shows_cut, flat-long}
use Rattle.cpg_tree.proofs.top.top_of.Goals as goal

-- the items of a tree are at least one, so the list isn't empty
pub unreachable-requires : goal.unreachable-requires
unreachable-requires g c =
    absurd (omega (arith, c.in_default.ensures.cases, flat-long c.requires.0, ap length c.requires.1))

-- no item stands before the last one, so it isn't a cut
pub unreachable-requires-in-Cut : goal.unreachable-requires-in-Cut
unreachable-requires-in-Cut g c =
    omega (
      arith,
      eqb-true (length c.in-Some.sides.now) 0 (sym c.is_empty.ensures ∙ c.if-is_empty.true),
      cut_behind c.requires.0 c.args.items.now c.in-Some.sides.now c.in-Cut.variable c.in-Cut.cut c.in-Cut.below
          c.requires.1
          (c.in-Some.ensures.cases.0
          ∙ ap (λ (i : TreeItem g.row.T.Denot). c.in-Some.sides.now ++ (i ∷ [])) c.in-Cut.is),
    )

-- items stand before the last one, so it isn't a value
pub unreachable-requires-in-Value-item : goal.unreachable-requires-in-Value-item
unreachable-requires-in-Value-item g c =
    eqb-false (length c.in-Some.sides.now) 0 (sym c.is_empty.ensures ∙ c.if-is_empty.false)
    (value_alone c.requires.0 c.args.items.now c.in-Some.sides.now c.in-Value-item.field-0 c.requires.1
    (c.in-Some.ensures.cases.0
    ∙ ap (λ (i : TreeItem g.row.T.Denot). c.in-Some.sides.now ++ (i ∷ [])) c.in-Value-item.is))

-- the last item is a cut, so the items before it, cut at its number, are those of the two sides
pub returns-clause-shows : goal.returns-clause-shows
returns-clause-shows g c =
    let shows = shows_cut c.requires.0 c.args.items.now c.in-Some.sides.now c.in-Cut-item.variable c.in-Cut-item.cut
    c.in-Cut-item.below c.requires.1
    (c.in-Some.ensures.cases.0
    ∙ ap (λ (i : TreeItem g.row.T.Denot). c.in-Some.sides.now ++ (i ∷ [])) c.in-Cut-item.is) in (
      shows.0,
      shows.1,
      c.split_at.ensures.front ∙ ap (λ n. take n c.in-Some.sides.now) c.min.ensures ∙ shows.2,
      c.split_at.ensures.back ∙ ap (λ n. drop n c.in-Some.sides.now) c.min.ensures ∙ shows.3,
      shows.4,
    )
