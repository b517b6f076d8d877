-- Proof of `InputRows::are_there`: whether each of these inputs is there by the time of a column wherever the column
-- matches and the input is live.
use Rattle.std.proofs.Common.{true≢false, sym, ◌∙◌}
use Rattle.std.proofs.lemmas.Bool.{OnTrue_at}
use Rattle.cpg_tree.proofs.Forks.{from_false, from_true}
use Rattle.cpg_tree.proofs.Passes.{of_true}
use Rattle.cpg_check_quick.proofs.InputLaws.{inputs_there}
use Rattle.cpg_check_quick.proofs.input_rows.InputRows.are_there.Goals as goal

-- what each input comes by is over by the column's time in each scenario, so the input is there wherever it is live
pub returns-then-are_early : goal.returns-then-are_early
returns-then-are_early c = λ tables w rules. inputs_there c.args.self.now.admitted.now.graph tables rules
    c.problem-problem.ensures.admitted.well_formed c.args.column.now c.args.edges.now
    c.requires.edges
    (λ s law m i d h on. OnTrue_at c.if-are_early.true c.are_early.ensures tables s w law i d h)

-- the column matches no scenario, so no input has to be there
pub returns-then-not-narrow_to : goal.returns-then-not-narrow_to
returns-then-not-narrow_to c = λ tables w rules. inputs_there c.args.self.now.admitted.now.graph tables rules
    c.problem-problem.ensures.admitted.well_formed c.args.column.now c.args.edges.now
    c.requires.edges
    (λ s law m i d h on.
    let none = rw c.literals.ensures.literals at
    (from_false c.narrow_to.result c.if-not-narrow_to.true c.narrow_to.ensures.none) in
    absurd (true≢false (sym m ∙ none s (w.frames.everywhere.lies s law))))

-- the space has all scenarios that the column matches, and what each live input comes by is over there
pub returns : goal.returns
returns c = of_true c.are_over.result c.are_over.ensures (λ over tables w rules.
    inputs_there c.args.self.now.admitted.now.graph tables rules c.problem-problem.ensures.admitted.well_formed
    c.args.column.now c.args.edges.now c.requires.edges
    (λ s law m.
    let fits = rw c.literals.ensures.literals at
    (from_true c.narrow_to.result c.if-not-narrow_to.false c.narrow_to.ensures.lies) in
    over tables s w law (fits s (w.frames.everywhere.lies s law) m)))
