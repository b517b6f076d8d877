-- A node that has sent a value knows it: the process of the condition runs on it, and has ended by then.
use Rattle.std.proofs.Common.{◌≡◌, ℕ, ◌+◌, ◌<◌, ◌≤◌, true, ◌==◌, [], Contains, Option, Some, None, sym, ap, ◌∙◌, subst}
use Rattle.std.proofs.Common.{arith, inl, eqb-true, leb, leb-true, le-leb}
use Rattle.std.proofs.lemmas.Bool.{and_parts}
use Rattle.cpg_base.specs.Graph.{condition_count, condition_of, item_at, node_of, process_count, process_of, producer}
use Rattle.cpg_base.specs.Graph.{producer_of_item, value_variable}
use Rattle.cpg_base.specs.Duration.{duration}
use Rattle.cpg_base.specs.Scenario.{Scenario, fault_of, number_of, number_of_value}
use Rattle.cpg_base.proofs.ConditionProcesses.{condition_of_process_of}
use Rattle.cpg_base.proofs.Items.{item_at-broadcast, process_of_below}
use Rattle.cpg_base.proofs.Lists.{Contains-first, Contains-rest, list_any_parts}
use Rattle.cpg_base.proofs.NumbersOf.{number_of-value}
use Rattle.cpg_cube.specs.declared.literal.Literal.{Literal}
use Rattle.cpg_table.specs.Heard.{exactly, value_fact}
use Rattle.cpg_table.proofs.Told.{LearntFromEnd, Learnt, learnt_true}
use Rattle.cpg_node.specs.Dispatcher.{Act, Dispatcher, Range, range_of}
use Rattle.cpg_node.proofs.Kept.{within_kept}
use Rattle.cpg_node.proofs.Next.{by}
use Rattle.cpg_cluster.specs.Cluster.{Cluster, frame_of_item, initial_cluster, play}
use Rattle.cpg_cluster.specs.Correct.{all_asked, end_of_act, gives_end}
use Rattle.cpg_cluster.proofs.Asked.{Asked, all_asked_in, all_asked_parts, asked_match}
use Rattle.cpg_cluster.proofs.Nodes.{Played}
use Rattle.cpg_cluster.proofs.Plays.{played_of, valid_tables_are_correct}
use Rattle.cpg_cluster.proofs.Reached.{reached}
use Rattle.cpg_follow_laws.specs.Sent.{SentValuesAreKnown, only}

-- if the turn `last` has reached `n`, it has reached `m`, which is not after `n`
by_up : (last : Option ℕ) (m n : ℕ) → by last n ≡ true → m ≤ n → by last m ≡ true
by_up None m n holds at_most = holds
by_up (Some t) m n holds at_most = le-leb m t (omega (arith, leb-true n t holds))

-- a range `r` whose ends are both `n` is the range of `n` only
same_range : (r : Range) (n : ℕ) → r.low ≡ n → r.high ≡ n → r ≡ only n
same_range r n low high = λ i. record { low = low i; high = high i }

-- The range that a node holds of a value that it has sent has just the value that the frame carries. The condition's
-- process runs on this node and has ended, as a send comes after its producer's end. So the node has learnt the value
-- from the end, and what it keeps is just what it has learnt.
pub sent_values_are_known : SentValuesAreKnown
sent_values_are_known g tables f h v w turns node condition act is within there is_broadcast =
    let played : Played g tables w = played_of g tables f h v w is in
    let scenario : Scenario = w.scenario in
    let state : Cluster = play g w (initial_cluster g tables) turns in
    -- what the node has done was asked of it by its last turn
    let own_state = (reached played turns).holds node within in
    let mine = own_state.done.only act there in
    let asked : Asked g tables scenario node act = mine.0 in
    let inside = asked.row.within in
    -- the item is the broadcast of this condition
    let known_condition : condition < condition_count g = omega (arith, is_broadcast, inside) in
    let item = ap (item_at g) is_broadcast ∙ item_at-broadcast g condition in
    let made : producer g act.item ≡ process_of g condition = ap (producer_of_item g) item in
    -- the act is due, and so orderly: the condition's process has ended by then
    let all : Contains (all_asked g tables scenario) act =
    all_asked_in played.setting act (subst (λ n. Asked g tables scenario n act) (sym asked.row.home) asked) in
    -- the act that starts the process, and that it has ended by the broadcast
    let given = list_any_parts (gives_end g scenario (producer g act.item) act.time) (all_asked g tables scenario)
    (((valid_tables_are_correct g tables f h v).orderly scenario played.setting.law).produced act
    (all, omega (arith, is_broadcast))) in
    let start_act : Act = given.0 in
    let ended_by_then = and_parts (start_act.item == producer g act.item)
    (leb (end_of_act g scenario start_act) act.time) given.2 in
    let from : start_act.item ≡ producer g act.item = eqb-true start_act.item (producer g act.item) ended_by_then.0 in
    let over : start_act.time + duration g start_act.item (fault_of scenario start_act.item) ≤ act.time =
    leb-true (end_of_act g scenario start_act) act.time ended_by_then.1 in
    -- this start is due, and it is that of the condition's process
    let start = all_asked_parts played.setting start_act given.1 in
    let end : start_act.item < process_count g = omega (
      arith,
      from,
      made,
      process_of_below g condition known_condition,
    ) in
    let of : condition_of g start_act.item ≡ Some condition =
    ap (condition_of g) (from ∙ made) ∙ condition_of_process_of g condition known_condition in
    -- the node has learnt the value from this end
    let variable : ℕ = value_variable condition in
    let value : Literal = exactly variable (number_of scenario variable) in
    let told : LearntFromEnd g tables scenario node (by own_state.last) value = record {
      process = start_act.item;
      within = end;
      on = ap (node_of g) from ∙ asked.row.home;
      column = start.column;
      match = asked_match start;
      then = by_up own_state.last (start.column.time + duration g start_act.item
          (fault_of scenario start_act.item)) act.time mine.1
          (omega (arith, start.time, over));
      told = Contains-rest (exactly start_act.item (number_of scenario start_act.item))
          (value_fact scenario (condition_of g start_act.item)) value
          (subst (λ o. Contains (value_fact scenario o) value) (sym of) (Contains-first value []));
    } in
    -- so the range it holds is within that value on both sides
    let few : variable < 160 = omega (arith, known_condition, f.few_conditions) in
    let around = within_kept played.setting own_state.heard (Learnt g tables scenario node (by own_state.last))
    own_state.keeps learnt_true variable few in
    let low = own_state.keeps.low_above value (inl told) few in
    let high = own_state.keeps.high_below value (inl told) few in
    ap (λ (d : Dispatcher). range_of d.heard variable) own_state.is
    ∙ same_range (range_of own_state.heard variable) (number_of scenario variable) (omega (arith, around, low))
    (omega (arith, around, high))
    ∙ ap only (number_of-value scenario condition ∙ sym (ap (λ i. number_of_value (frame_of_item w i act).value) item))
