-- Proof of `do_suffice_above`: whether the faults that a space leaves above a cut suffice for literals.
use Rattle.std.proofs.Common.{refl}
use Rattle.cpg_tree.specs.declared.space.Space.{Space}
use Rattle.cpg_tree.proofs.Passes.{of_false}
use Rattle.cpg_row_trees.proofs.SliceLaws.{below_again}
use Rattle.cpg_row_trees.proofs.places.do_suffice_above.Goals as goal

-- if the faults don't suffice in the space above the cut, no scenario there matches the literals
pub returns-clause-none : goal.returns-clause-none
returns-clause-none c = of_false c.affords-do_suffice.result c.affords-do_suffice.ensures
    (λ none s lies above. none s (c.close_below-old_low.ensures.lies s lies above))

-- the space is opened again, and is the one that was given
pub returns-clause-same : goal.returns-clause-same
returns-clause-same c =
    let over : Space = c.close_below-old_low.new.self in
    below_again c.args.space.now over over c.reopen_below.new.self c.args.cut.variable refl c.close_below-old_low.result
    c.reopen_below.ensures c.close_below-old_low.ensures.back
