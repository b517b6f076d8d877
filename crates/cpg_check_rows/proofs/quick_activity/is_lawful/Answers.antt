-- Proof of `is_lawful`: whether an item and the processes of a column's literals are all active wherever the column
-- matches.
use Rattle.std.proofs.Common.{◌≡◌, ◌∙◌, false, not, ap, sym, subst, true≢false}
use Rattle.std.specs.List.{list_any}
use Rattle.std.proofs.lemmas.Bool.{OnTrue_at}
use Rattle.cpg_base.specs.Activity.{active, item_active}
use Rattle.cpg_base.specs.Graph.{item_at, process_of_variable}
use Rattle.cpg_cube.specs.Cube.{matches}
use Rattle.cpg_cube.specs.declared.literal.Literal.{Literal}
use Rattle.cpg_tree.proofs.Forks.{from_false, from_true}
use Rattle.cpg_tree.proofs.Passes.{of_true}
use Rattle.cpg_check_rows.proofs.LawfulRows.{both_active}
use Rattle.cpg_check_rows.proofs.quick_activity.is_lawful.Goals as goal

-- no scenario matches the literals on values, so none matches the column
pub returns-then-not-narrow_to : goal.returns-then-not-narrow_to
returns-then-not-narrow_to c s law m =
    let none = from_false c.narrow_to.result c.if-not-narrow_to.true c.narrow_to.ensures.none in
    absurd (true≢false (sym (c.on_values.ensures s (ap (λ ls. matches ls s) c.literals-literals.ensures.literals ∙ m))
    ∙ none s (c.requires.everywhere s law)))

-- a scenario that the column matches lies in the space of its literals on values, where the item and processes are
-- active
pub returns : goal.returns
returns c =
    let graph = c.args.admitted.now.graph in
    let same = c.literals-literals.ensures.literals in
    let fits = from_true c.narrow_to.result c.if-not-narrow_to.false c.narrow_to.ensures.lies in
    of_true c.are_active.result c.are_active.ensures (λ told s law m.
    let lies = fits s (c.requires.everywhere s law) (c.on_values.ensures s (ap (λ ls. matches ls s) same ∙ m)) in
    both_active (item_active graph s.values (item_at graph c.args.item))
    (list_any (λ (l : Literal). not (active graph s.values (process_of_variable graph l.variable)))
    c.args.column.now.cube)
    (OnTrue_at c.if-not-is_item_running.false c.is_item_running.ensures s law lies)
    (subst (λ ls. list_any (λ (l : Literal). not
    (active graph s.values (process_of_variable graph l.variable))) ls ≡ false)
    same (told s law lies)))
