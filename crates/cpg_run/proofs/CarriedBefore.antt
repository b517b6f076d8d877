-- What is carried beside a time is found in the rows of earlier processes alone.
use Rattle.std.proofs.Common.{ℕ, ◌<◌, ◌≤◌, ◌≡◌, ◌&&◌, not, ◌==◌, if◌then◌else◌, List, [], ◌∷◌, ◌++◌, filter, flat_map}
use Rattle.std.proofs.Common.{Contains, arith, sym, ap, ap₂, ◌∙◌, inl, inr}
use Rattle.cpg_base.specs.Numbers.{numbers_below}
use Rattle.cpg_base.specs.Graph.{Graph, process_at, node_of, source, inputs, is_message, edge_count, condition_count}
use Rattle.cpg_base.specs.Graph.{item_count, message_item, broadcast_item, item_at, is_frozen, producer}
use Rattle.cpg_base.specs.Graph.{producer_of_item, process_of}
use Rattle.cpg_base.specs.declared.item.Item.{Item}
use Rattle.cpg_base.specs.Activity.{active, item_active}
use Rattle.cpg_base.proofs.Lists.{Contains-filter_parts, numbers-Contains, same_flat_map}
use Rattle.cpg_base.proofs.Inputs.{inputs_parts}
use Rattle.cpg_base.proofs.Items.{item_cases, item_at-message, item_at-broadcast}
use Rattle.cpg_order.specs.Urgency.{IsTopological}
use Rattle.cpg_base.specs.Order.{place, before_on_node}
use Rattle.cpg_order.specs.Deciding.{decides, deciding}
use Rattle.cpg_order.specs.Queue.{queued_before}
use Rattle.cpg_base.specs.Scenario.{Scenario}
use Rattle.cpg_order.proofs.Acyclic.{input_goes_up}
use Rattle.cpg_order.proofs.DecidingLaws.{decides_earlier}
use Rattle.cpg_base.proofs.Places.{on_node_before}
use Rattle.cpg_cube.specs.declared.literal.Literal.{Literal}
use Rattle.cpg_cube.specs.Cube.{matches}
use Rattle.cpg_cube.specs.declared.column.Column.{Column}
use Rattle.cpg_run.specs.Carried.{carried_by_row, number_known, decided, heard, received, executed, passed}
use Rattle.cpg_run.specs.Carried.{carried_at_start, carried_at_end, sent_by_value, queued, carried_at_send}
use Rattle.cpg_run.specs.Carried.{carried_by_item, carried}
use Rattle.cpg_run.specs.RowLaws.{SameRowsBefore, CarriedRestsOnEarlier}
use Rattle.cpg_run.proofs.Queued.{producer_no_later}

-- the producer of a message is the source of its edge
pub producer_of_message : (g : Graph) (e : ℕ) → e < edge_count g → producer g (message_item g e) ≡ source g e
producer_of_message g e below = ap (producer_of_item g) (item_at-message g e below)

-- the producer of a broadcast is the process of its condition
pub producer_of_broadcast : (g : Graph) (c : ℕ) → producer g (broadcast_item g c) ≡ process_of g c
producer_of_broadcast g c = ap (producer_of_item g) (item_at-broadcast g c)

module _ (g : Graph) (order : List ℕ) (topological : IsTopological g order) where
  -- for each condition that decides p, its broadcast is an item, and the broadcast's producer is before p in the order
  pub hears_earlier : (s : Scenario) (p c : ℕ) → Contains (deciding g s.values p) c →
      (broadcast_item g c < item_count g) × (place order (producer g (broadcast_item g c)) < place order p)
  hears_earlier s p c decides_p =
      let parts = Contains-filter_parts (decides g s.values p) (numbers_below (condition_count g)) c decides_p in
      let c_below = numbers-Contains (condition_count g) c parts.0 in (
        omega (arith, c_below),
        omega (
          arith,
          ap (place order) (producer_of_broadcast g c),
          decides_earlier g order topological s.values p c c_below parts.1,
        ),
      )

  -- for each input of p, the message of the edge is an item, and its producer is before p in the order
  pub receives_earlier : (p e : ℕ) → Contains (inputs g p) e →
      (message_item g e < item_count g) × (place order (producer g (message_item g e)) < place order p)
  receives_earlier p e is_input =
      let edge_below = (inputs_parts g p e is_input).0 in (
        omega (arith, edge_below),
        omega (
          arith,
          ap (place order) (producer_of_message g e edge_below),
          input_goes_up g order topological p e is_input,
        ),
      )

  -- given: two lists of rows that have the same rows of the items from processes before a place
  module _ (rows others : List (List Column)) (bound : ℕ) (same : SameRowsBefore g order bound rows others)
      (s : Scenario) where
    -- the columns of an earlier item that match s carry the same literals in both lists
    told_same : (y : ℕ) → y < item_count g → place order (producer g y) < bound →
        carried_by_row rows s y ≡ carried_by_row others s y
    told_same y below less =
        ap (λ cs. flat_map (λ (c : Column). c.cube) (filter (λ (c : Column). matches c.cube s) cs))
        (same y (below, less))

    -- each broadcast that p hears comes from an earlier process, whose rows are the same in both lists
    heard_same : (p : ℕ) → place order p ≤ bound → heard g rows s p ≡ heard g others s p
    heard_same p p_within = same_flat_map
        (λ c. if node_of g (process_of g c) == node_of g p then [] else carried_by_row rows s (broadcast_item g c))
        (λ c. if node_of g (process_of g c) == node_of g p then [] else carried_by_row others s (broadcast_item g c))
        (deciding g s.values p)
        (λ c decides_p. let earlier = hears_earlier s p c decides_p in
        ap (λ ls. if node_of g (process_of g c) == node_of g p then [] else ls)
        (told_same (broadcast_item g c) earlier.0 (omega (arith, earlier.1, p_within))))

    -- each message that p receives comes from an earlier process, whose rows are the same in both lists
    received_same : (p : ℕ) → place order p ≤ bound → received g rows s p ≡ received g others s p
    received_same p p_within = same_flat_map
        (λ e. if is_message g e then carried_by_row rows s (message_item g e) else [])
        (λ e. if is_message g e then carried_by_row others s (message_item g e) else [])
        (inputs g p)
        (λ e is_input. let earlier = receives_earlier p e is_input in
        ap (λ ls. if is_message g e then ls else []) (told_same (message_item g e) earlier.0
        (omega (arith, earlier.1, p_within))))

    -- what an execution of p carries is the same by both: the messages that it receives, and its count of faults
    executed_same : (p : ℕ) → place order p ≤ bound → executed g rows s p ≡ executed g others s p
    executed_same p at_most =
        ap (λ ls. (if (process_at g p).frozen then [] else ls) ++ number_known s p ∷ []) (received_same p at_most)

    -- what a node carries on from a process before the bound, or at it, is the same by both
    pub passed_same : (p : ℕ) → place order p ≤ bound → passed g rows s p ≡ passed g others s p
    passed_same p at_most = ap₂ (λ hs es. decided g s p ++ hs ++ (if active g s.values p then es else []))
        (heard_same p at_most)
        (executed_same p at_most)

    -- what the node carries on from all processes before p on it is the same by both
    before_same : (p : ℕ) → place order p ≤ bound →
        flat_map (passed g rows s) (before_on_node g order p) ≡ flat_map (passed g others s) (before_on_node g order p)
    before_same p at_most = same_flat_map (passed g rows s) (passed g others s) (before_on_node g order p)
        (λ q j. passed_same q (omega (arith, (on_node_before g order p q j).1, at_most)))

    -- what is carried beside the start of a process before the bound, or at it, is the same by both
    pub start_same : (p : ℕ) → place order p ≤ bound →
        carried_at_start g order rows s p ≡ carried_at_start g order others s p
    start_same p at_most = ap₂ (λ ps (hr : List Literal × List Literal). if (process_at g p).frozen then decided g s p
        else ps ++ decided g s p ++ hr.0 ++ hr.1) (before_same p at_most)
        (ap₂ (λ hs rs. (hs, rs)) (heard_same p at_most) (received_same p at_most))

    -- what is carried beside the end of a process is the same by both: what is carried beside its start, and the fault count
    pub end_same : (p : ℕ) → place order p ≤ bound → carried_at_end g order rows s p ≡ carried_at_end g order others s p
    end_same p at_most = ap (λ ls. ls ++ number_known s p ∷ []) (start_same p at_most)

    -- what a sent item of such a process leaves to the items behind it in the queue is the same by both
    pub queued_same : (y : ℕ) → place order (producer g y) ≤ bound → queued g order rows s y ≡ queued g order others s y
    queued_same y at_most =
        ap (λ ls. decided g s (producer g y) ++ (if active g s.values (producer g y) then sent_by_value g s y else [])
        ++ (if item_active g s.values (item_at g y) && not (is_frozen g y) then ls else []))
        (end_same (producer g y) at_most)

    -- what is carried beside a send of such a process is the same by both: the items before it in the queue come from no later
    -- process
    send_same : (x : ℕ) → place order (producer g x) ≤ bound →
        carried_at_send g order rows s x ≡ carried_at_send g order others s x
    send_same x at_most =
        ap₂ (λ qs es. (if is_frozen g x then decided g s (producer g x) else qs ++ es) ++ sent_by_value g s x)
        (same_flat_map (queued g order rows s) (queued g order others s) (queued_before g order x)
        (λ y j. queued_same y (omega (arith, producer_no_later g order x y j, at_most))))
        (end_same (producer g x) at_most)

    -- what is carried beside any item of such a process is the same by both: the item is a start, a message or a broadcast
    pub carried_same : (x : ℕ) → x < item_count g → place order (producer g x) ≤ bound →
        carried g order rows s x ≡ carried g order others s x
    carried_same x below at_most = elim (item_cases g x below) [
      | inl of_start ↦ of_item of_start.1
          (start_same x (omega (arith, ap (λ i. place order (producer_of_item g i)) of_start.1, at_most)))
      | inr (inl of_message) ↦ of_item of_message.3 (send_same x at_most)
      | inr (inr of_broadcast) ↦ of_item of_broadcast.3 (send_same x at_most)
    ]
      where
        -- it suffices to look at the kind i of the item
        of_item : {i : Item} → item_at g x ≡ i →
            carried_by_item g order rows s x i ≡ carried_by_item g order others s x i →
            carried g order rows s x ≡ carried g order others s x
        of_item {i} is same =
            ap (carried_by_item g order rows s x) is ∙ same ∙ sym (ap (carried_by_item g order others s x) is)

-- what is carried beside a time is found in the rows of earlier processes alone
pub carried_rests_on_earlier : CarriedRestsOnEarlier
carried_rests_on_earlier g order rows others s x topological l same =
    carried_same g order topological rows others (place order (producer g x)) same s x l (omega arith)
