-- Proof of `at_least`: adds what is made of a value or the tree's number, whichever is greater, for the scenarios of
-- a space.
use Rattle.std.proofs.Common.{rules}
use Rattle.cpg_tree.proofs.Forks.{of_answer}
use Rattle.cpg_tree_times.proofs.greater.at_least.Goals as goal

-- what is made of a value and a leaf is what the function makes of the greater of the two numbers
pub returns-clause-made : goal.returns-clause-made
returns-clause-made g c =
    of_answer c.fill_items.result _ _ c.fill_items.ensures.made
    -- p: the tree that was added, how its list stands in the new one, and what is known of it; only `value` is said otherwise
    (λ u made n are.
    let p = made n are in (
      p.0,
      p.1,
      record {
        made = record {
          value = λ s d. let z = p.2.made.value s d in search rules;
          lows = p.2.made.lows;
          highs = p.2.made.highs;
        };
        fit = p.2.fit;
        pass = p.2.pass;
      },
    ))
