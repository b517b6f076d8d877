-- Proof of `at_least_everywhere`, which adds the tree of what is made of `value` or a tree's number, whichever is
-- greater, for all scenarios.
use Rattle.std.proofs.Common.{rules, ◌∙◌, ◌++◌, List, ap}
use Rattle.cpg_tree.specs.declared.item.TreeItem.{TreeItem}
use Rattle.cpg_tree.specs.Flat.{flat}
use Rattle.cpg_tree.proofs.Forks.{of_answer}
use Rattle.cpg_tree_times.proofs.greater.at_least_everywhere.Goals as goal

-- what is made of a leaf is what the function makes of the greater of a value and the leaf's number
pub returns-clause-made : goal.returns-clause-made
returns-clause-made g c =
    of_answer c.map_items.result _ _ c.map_items.ensures.made
    -- p: the tree that was added, how its list stands in the new one, and what is known of it; only `value` is said otherwise
    (λ u made n are.
    let p = made n are in (
      p.0,
      p.1 ∙ ap (λ (xs : List (TreeItem g.row.V.Denot)). xs ++ flat p.0) c.in_ok-reserve.ensures.items,
      record {
        made = record {
          value = λ s d. let z = p.2.made.value s d in search rules;
          lows = p.2.made.lows;
          highs = p.2.made.highs;
        };
        fit = p.2.fit;
        pass = p.2.pass;
      },
    ))
