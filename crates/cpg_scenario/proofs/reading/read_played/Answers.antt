-- Proof of `read_played`, which returns the scenario and the lengths that a document gives.
use Rattle.std.proofs.Common.{◌≡◌, ◌∙◌, ap, sym, subst}
use Rattle.toml.specs.View.{table_view}
use Rattle.cpg_base.specs.Scenario.{Scenario, IsScenario, full_lengths}
use Rattle.cpg_scenario.specs.File.{scenario_of, values_of}
use Rattle.cpg_scenario.proofs.Budget.{is_scenario, full_are, is_played}
use Rattle.cpg_scenario.proofs.reading.read_played.Goals as goal

-- Its counts and then its values have been set, so this is the scenario of the document. As the counts keep the fault
-- number, it is a scenario of the graph.
pub full-requires : goal.full-requires
full-requires c =
    let is : c.set_values.new.scenario ≡ scenario_of c.args.problem.now (table_view c.args.document.now) =
    c.set_values.ensures ∙
    ap (λ (s : Scenario).
    let t : Scenario = record s { values = values_of c.args.problem.now (table_view c.args.document.now) } in t)
    c.if-not-set_faults.ensures.faults in
    subst (λ (s : Scenario). IsScenario c.args.problem.now s) (sym is)
    (is_scenario c.args.problem.now (table_view c.args.document.now) (sym c.if-not-set_faults.ensures.kept))

-- the full lengths are the durations with the document's counts
pub set_lengths-requires : goal.set_lengths-requires
set_lengths-requires c =
    let is : c.set_values.new.scenario ≡ scenario_of c.args.problem.now (table_view c.args.document.now) =
    c.set_values.ensures ∙
    ap (λ (s : Scenario).
    let t : Scenario = record s { values = values_of c.args.problem.now (table_view c.args.document.now) } in t)
    c.if-not-set_faults.ensures.faults in
    c.in_ok-lengths.ensures ∙ ap (full_lengths c.args.problem.now) is
    ∙ full_are c.args.problem.now (table_view c.args.document.now)

-- the document has passed all tests, so its scenario and lengths can be played
pub returns-clause-played : goal.returns-clause-played
returns-clause-played c =
    let is : c.set_values.new.scenario ≡ scenario_of c.args.problem.now (table_view c.args.document.now) =
    c.set_values.ensures ∙
    ap (λ (s : Scenario).
    let t : Scenario = record s { values = values_of c.args.problem.now (table_view c.args.document.now) } in t)
    c.if-not-set_faults.ensures.faults in
    is_played c.args.problem.now (table_view c.args.document.now) c.set_lengths.ensures.within
    (sym c.if-not-set_faults.ensures.kept) (sym c.if-not-set_lengths.ensures.kept)
    c.set_values.new.scenario c.set_lengths.new.lengths is c.if-not-set_lengths.ensures.lengths
