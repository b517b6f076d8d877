-- The rows of a tuning name items that are there.
use Rattle.std.proofs.Common.{ℕ, ◌<◌, All, subst, arith}
use Rattle.std.proofs.lemmas.List.{get_or_default}
use Rattle.cpg_base.specs.Graph.{Graph}
use Rattle.cpg_tune.specs.declared.judge.Judged.{Judged}
use Rattle.cpg_tune.specs.declared.judge.Judged.TheVariants.{Worst, Late, Wide}
use Rattle.cpg_tune.specs.Best.{best_parts}
use Rattle.cpg_tune.specs.Asked.{row_graph}
use Rattle.cpg_tune.specs.Tuned.{Tuning, IsTuning, row_at}
use Rattle.cpg_tune.proofs.AsBefore.{best_parts_of}
use Rattle.cpg_tune.proofs.Kept.{items_same}
use Rattle.cpg_app.specs.Tunes.{IsJudged}
use Rattle.cpg_outputs.specs.Tunes.{IsNamedRow}

-- If the answer of a row names an item, the graph has it: with other parts and another fault number it has as many
-- items.
row_named : (g : Graph) (faults : ℕ) (judged : Judged) → IsJudged (row_graph g faults) judged → IsNamedRow g judged
row_named g faults (Worst finish) is = tt
row_named g faults (Late finish) is = tt
row_named g faults (Wide item) is =
    subst (λ n. item < n) (items_same g (best_parts g) faults (best_parts_of g).one_each) is.answer.wide.within

-- if a row of a tuning `t` names an item, it is an item of the graph
pub rows_named : (g : Graph) (t : Tuning) → IsTuning IsJudged g t → All (IsNamedRow g) t.rows
rows_named g t is k d l =
    let nine = is.rows.long in
    subst (IsNamedRow g) (get_or_default t.rows k _ d l)
    (row_named g k (row_at t.rows k) (is.rows.each k (omega (arith, l, nine))))
