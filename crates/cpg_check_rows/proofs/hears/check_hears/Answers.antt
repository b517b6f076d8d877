-- Proof of `check_hears`: the first violation of V10: the least item that some node hears by other columns than the
-- sender's, each later by the sender's slot, with the first column that differs at the least such node, and the
-- scenario without faults in which every value is false.
use Rattle.std.proofs.Common.{◌≡◌, ◌∙◌, ap, ap₂, subst, map, length, List, arith}
use Rattle.cpg_base.specs.Bus.{slot_length}
use Rattle.cpg_base.specs.Graph.{home, item_count}
use Rattle.cpg_head.specs.GraphHead.{head_of}
use Rattle.cpg_violation.proofs.HeadLaws.{tables_of_graph}
use Rattle.cpg_table.specs.Lawful.{AreTablesOf}
use Rattle.cpg_cube.specs.declared.column.Column.{Column}
use Rattle.cpg_table.specs.Valid.{later_by}
use Rattle.cpg_check_rows.specs.Hears.{IsFirstHear, IsHeardWell, due_columns}
use Rattle.cpg_table.proofs.RowColumns.{columns_few}
use Rattle.cpg_check_rows.proofs.HearLaws.{hears_hold, heard_more}
use Rattle.cpg_check_rows.proofs.hears.check_hears.Goals as goal

-- a row of lawful tables has at most `MOST_LOAD` columns
pub first_hear-requires-clause-few : goal.first_hear-requires-clause-few
first_hear-requires-clause-few c = rw c.columns_of-sent.ensures.columns
    (columns_few c.args.tables.now.head c.args.tables.now.nodes c.columns_of-sent.ensures.lawful c.loop-item.item)

-- all earlier items are heard well, so the difference found here is the first
pub returns-in-Some-clause-first : goal.returns-in-Some-clause-first
returns-in-Some-clause-first c =
    let graph = c.args.admitted.now.graph in
    -- the columns by which the item is to be heard: the sender's, each later by its slot
    let delay : c.slot_length-delay.result ≡ slot_length graph (home graph c.loop-item.item) =
    c.slot_length-delay.ensures ∙ ap (slot_length c.problem-problem.result.now) c.home.ensures.home
    ∙ ap (λ h. slot_length h (home h c.loop-item.item)) c.problem-problem.ensures.problem in
    let due : map (later_by c.slot_length-delay.result) c.columns_of-sent.result.now
    ≡ due_columns graph c.args.tables.now.nodes c.loop-item.item =
    ap₂ (λ d (cs : List Column). map (later_by d) cs) delay c.columns_of-sent.ensures.columns in
    let nodes : length c.args.tables.now.head.nodes ≡ length graph.nodes = ap length c.requires.nodes in
    -- the difference that was found, said of these columns and of the graph's nodes
    let first : IsFirstHear c.args.tables.now.nodes (length graph.nodes) c.loop-item.item
    (due_columns graph c.args.tables.now.nodes c.loop-item.item) c.in-Some.place =
    subst (λ cs. IsFirstHear c.args.tables.now.nodes (length graph.nodes) c.loop-item.item cs c.in-Some.place) due
    (subst (λ n. IsFirstHear c.args.tables.now.nodes n c.loop-item.item (map (later_by c.slot_length-delay.result)
    c.columns_of-sent.result.now) c.in-Some.place) nodes c.in-Some.ensures.differ) in
    -- it is the first violation of V10: number, item, scenario, and that all items before are heard well
    record {
      number = c.number.ensures;
      item = omega (
        arith,
        c.loop-item-test.true,
        c.item_count-item-end.ensures,
        ap item_count c.problem-problem.ensures.problem,
      );
      scenario = rw (← c.problem-problem.ensures.problem) c.in_ok-scenario.ensures;
      items = c.loop-item.invariant;
      column = first;
    }

-- the next item is heard well, too
pub loop-item-preserved : goal.loop-item-preserved
loop-item-preserved c =
    let graph = c.args.admitted.now.graph in
    -- the columns by which it is to be heard, and that no node hears it by others
    let delay : c.slot_length-delay.result ≡ slot_length graph (home graph c.loop-item.item) =
    c.slot_length-delay.ensures ∙ ap (slot_length c.problem-problem.result.now) c.home.ensures.home
    ∙ ap (λ h. slot_length h (home h c.loop-item.item)) c.problem-problem.ensures.problem in
    let due : map (later_by c.slot_length-delay.result) c.columns_of-sent.result.now
    ≡ due_columns graph c.args.tables.now.nodes c.loop-item.item =
    ap₂ (λ d (cs : List Column). map (later_by d) cs) delay c.columns_of-sent.ensures.columns in
    let nodes : length c.args.tables.now.head.nodes ≡ length graph.nodes = ap length c.requires.nodes in
    let well : IsHeardWell graph c.args.tables.now.nodes c.loop-item.item = rw (← due, ← nodes)
    c.in_default.ensures.same in
    heard_more graph c.args.tables.now.nodes c.loop-item.item c.loop-item.invariant well

-- all items are heard well, so V10 holds
pub returns-clause-none : goal.returns-clause-none
returns-clause-none c =
    let graph = c.args.admitted.now.graph in
    let are : AreTablesOf (head_of graph) c.args.tables.now.nodes =
    tables_of_graph graph c.args.tables.now.head c.args.tables.now.nodes c.requires c.head.ensures.lawful in
    hears_hold graph c.problem-problem.ensures.admitted.limits c.args.tables.now.nodes are
    (λ x l. c.loop-item.invariant x (omega (
      arith,
      l,
      c.loop-item-test.false,
      c.item_count-item-end.ensures,
      ap item_count c.problem-problem.ensures.problem,
    )))
