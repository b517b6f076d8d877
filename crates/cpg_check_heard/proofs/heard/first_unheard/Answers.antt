-- Proof of `first_unheard`: the place of the first column of an item's row that matches in a scenario in which the
-- item's node hasn't heard one of the column's literals by its time, with the least such scenario.
use Rattle.std.proofs.Common.{◌≡◌, ◌<◌, ◌&&◌, ◌∙◌, false, Some, None, All, Contains, length, ap, sym, subst, arith, inl}
use Rattle.std.proofs.Common.{inr}
use Rattle.std.proofs.lemmas.Bool.{cases_lt}
use Rattle.std.proofs.lemmas.List.Elements.{All-contains_itself}
use Rattle.cpg_base.specs.Graph.{home}
use Rattle.cpg_base.specs.First.{IsFirst}
use Rattle.cpg_base.specs.Scenario.{Scenario, IsScenario}
use Rattle.cpg_cube.specs.Cube.{matches}
use Rattle.cpg_table.specs.Items.{ItemLists, hears_of}
use Rattle.cpg_table.specs.Shape.{heard_by}
use Rattle.cpg_table.specs.Valid.{breaks_heard}
use Rattle.cpg_violation.proofs.HeadLaws.{hears_of_graph}
use Rattle.cpg_violation.proofs.Columnwise.{broken_place}
use Rattle.cpg_check_heard.specs.Unheard.{is_column_unheard, is_unheard}
use Rattle.cpg_check_heard.proofs.heard.first_unheard.Goals as goal

-- the items are those that the item's node hears
pub ranks-requires-clause-items : goal.ranks-requires-clause-items
ranks-requires-clause-items c =
    let graph = c.args.hearing.now.admitted.now.graph in
    let inside : c.home-node.result < length graph.nodes =
    rw c.problem-problem.ensures.problem at c.home-node.ensures.within in
    let are : c.hears-hears.result.now ≡ heard_by graph c.home-node.result =
    c.hears-hears.ensures ∙ ap (λ (i : ItemLists). i.hears) c.in_ok-items.ensures ∙
    ap (λ h. hears_of h c.home-node.result) c.head.ensures.head
    ∙ hears_of_graph graph c.args.hearing.now.tables.now.head c.requires.hearing.head c.requires.hearing.admitted.limits
    c.home-node.result inside in
    subst (All (Contains (heard_by graph c.home-node.result))) (sym are)
    (All-contains_itself (heard_by graph c.home-node.result))

-- the items are those that the item's node hears
pub least_unheard-requires-clause-items : goal.least_unheard-requires-clause-items
least_unheard-requires-clause-items c =
    let graph = c.args.hearing.now.admitted.now.graph in
    let inside : c.home-node.result < length graph.nodes =
    rw c.problem-problem.ensures.problem at c.home-node.ensures.within in
    c.hears-hears.ensures ∙ ap (λ (i : ItemLists). i.hears) c.in_ok-items.ensures
    ∙ ap (λ h. hears_of h c.home-node.result) c.head.ensures.head
    ∙ hears_of_graph graph c.args.hearing.now.tables.now.head c.requires.hearing.head c.requires.hearing.admitted.limits
    c.home-node.result inside

-- no earlier column is unheard, so the least scenario of this one is that of the first unheard column
pub returns-in-Some-clause-first : goal.returns-in-Some-clause-first
returns-in-Some-clause-first c =
    let graph = c.args.hearing.now.admitted.now.graph in
    let order = c.args.hearing.now.admitted.now.order in
    let tables = c.args.hearing.now.tables.now.nodes in
    let column = c.index-columns-place.result in
    let node : c.home-node.result ≡ home graph c.args.item =
    c.home-node.ensures.home ∙ ap (λ h. home h c.args.item) c.problem-problem.ensures.problem in
    -- the answer for this column, said of the item's own node
    let found =
    subst (λ e. IsFirst graph order
    (λ s. matches e.cube s && is_column_unheard graph tables (home graph c.args.item) s e)
    (Some c.in-Some.scenario)) c.index-columns-place.is
    (subst (λ n. IsFirst graph order (λ s. matches column.cube s && is_column_unheard graph tables n s column)
    (Some c.in-Some.scenario))
    node (rw c.in-Some.is at c.in_ok-unheard.ensures)) in
    record {
      least = broken_place (λ s e. breaks_heard graph tables s c.args.item e) c.args.columns.now
          c.loop-place.place graph order
          column c.loop-place-test.true (Some c.in-Some.scenario) found;
      columns = c.loop-place.invariant;
    }

-- the column at this place is always heard, so all up to the next place are
pub loop-place-preserved : goal.loop-place-preserved
loop-place-preserved c =
    let graph = c.args.hearing.now.admitted.now.graph in
    let order = c.args.hearing.now.admitted.now.order in
    let tables = c.args.hearing.now.tables.now.nodes in
    let column = c.index-columns-place.result in
    -- the node of the item, and the answer for its column at this place: nothing is unheard
    let node : c.home-node.result ≡ home graph c.args.item =
    c.home-node.ensures.home ∙ ap (λ h. home h c.args.item) c.problem-problem.ensures.problem in
    let found =
    subst (λ e. IsFirst graph order
    (λ s. matches e.cube s && is_column_unheard graph tables (home graph c.args.item) s e) None)
    c.index-columns-place.is
    (subst (λ n. IsFirst graph order
    (λ s. matches column.cube s && is_column_unheard graph tables n s column) None) node
    (rw c.in_default.is at c.in_ok-unheard.ensures)) in
    -- so the column at this place never breaks V4
    let none : (s : Scenario) → IsScenario graph s →
    is_unheard graph tables c.args.item c.args.columns.now c.loop-place.place s ≡ false =
    broken_place (λ s e. breaks_heard graph tables s c.args.item e) c.args.columns.now
    c.loop-place.place graph order column
    c.loop-place-test.true None found in
    -- an earlier place is right already, and this one is the next
    λ i s l law. elim (cases_lt i c.loop-place.place) [
      | inl lt ↦ c.loop-place.invariant i s lt law
      | inr ge ↦ let same : c.loop-place.place ≡ i = omega arith in
          subst (λ j. is_unheard graph tables c.args.item c.args.columns.now j s ≡ false) same (none s law)
    ]
