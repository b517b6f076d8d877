-- The reach of each item, found along an order: the variables that its time may depend on. For each node is kept what
-- its next start and its next send depend on because of what came before.
use Rattle.std.specs.Prelude.{ℕ, ◌≡◌, ◌<◌, ◌&&◌, ◌==◌, nat_lt, if◌then◌else◌, List, [], ◌∷◌, ◌++◌, filter, get_or}
use Rattle.std.specs.Prelude.{length, map, take}
use Rattle.std.specs.List.{flat_map}
use Rattle.cpg_base.specs.Numbers.{numbers_below}
use Rattle.cpg_base.specs.Graph.{Graph, item_count, home, is_sent, is_sent_item, is_frozen_item, process_at, node_of}
use Rattle.cpg_base.specs.Graph.{inputs, producer_of_item, value_variable}
use Rattle.cpg_base.specs.declared.item.Item.{Item}
use Rattle.cpg_order.specs.Deciding.{conditions_of}
use Rattle.cpg_order.specs.Reach.{Reach, IsReach, reach_of, end_reach, hearing_reach, input_reach, sent_value}
use Rattle.cpg_order.proofs.Moments.{moment}
use Rattle.cpg_reach.specs.declared.reaches.OrderWalk.{OrderWalk}
use Rattle.cpg_order.specs.Elements.{SameElements}

-- the values of these conditions, and what the times depend on at which the node hears them
abbrev pub heard_by : Graph → Reach → ℕ → List ℕ → List ℕ
heard_by g r node cs = flat_map (λ c. value_variable c ∷ hearing_reach g r node c) cs

-- What a start depends on. A frozen one depends only on what decides it; any other on what the node made it wait for
-- so far (`known`, by node), on what decides it, and on its inputs.
abbrev pub start_by : Graph → Reach → List (List ℕ) → ℕ → List ℕ
start_by g r known p = if (process_at g p).frozen then map value_variable (conditions_of g p) else
    get_or known (node_of g p) [] ++ heard_by g r (node_of g p) (conditions_of g p)
    ++ flat_map (input_reach g r) (inputs g p)

-- What a send depends on: nothing if the item is never sent. A frozen one depends on what decides its producer, any
-- other on its producer's end and on what the node has sent before it (`sent`, by node); both depend on the value that
-- the edge asks for.
abbrev pub send_by : Graph → Reach → List (List ℕ) → Item → List ℕ
send_by g r sent i = if is_sent_item g i then
    (if is_frozen_item g i then map value_variable (conditions_of g (producer_of_item g i))
    else end_reach r (producer_of_item g i) ++ get_or sent (node_of g (producer_of_item g i)) []) ++ sent_value g i
    else []

-- what these processes make later ones on the node wait for: what they hear, and their ends
abbrev pub known_after : Graph → Reach → ℕ → List ℕ → List ℕ
known_after g r node qs = heard_by g r node (flat_map (conditions_of g) qs) ++ flat_map (end_reach r) qs

-- the processes on the node among the first k of the order
abbrev pub on_node : Graph → List ℕ → ℕ → ℕ → List ℕ
on_node g order k node = filter (λ q. node_of g q == node) (take k order)

-- the items that the node sends whose moment is before m; a moment is the place of an item's time along the order
abbrev pub sent_before : Graph → List ℕ → ℕ → ℕ → List ℕ
sent_before g order m node =
    filter (λ y. is_sent g y && (home g y == node) && nat_lt (moment g order y) m) (numbers_below (item_count g))

-- What is found is right as far as it goes: for items before moment m, and for what each node's first k processes and
-- its sends before m leave behind. `r` is the reach by the rules.
pub record AgreesUntil (g : Graph) (order : List ℕ) (r : Reach) (k m : ℕ)
    (reaches known sent : List (List ℕ)) : Type 0 where
  -- there is a set for each item, and two for each node
  pub items : length reaches ≡ item_count g
  pub known_nodes : length known ≡ length g.nodes
  pub sent_nodes : length sent ≡ length g.nodes
  -- items before moment m have their reach
  pub reached : (x : ℕ) → x < item_count g → moment g order x < m → SameElements (reach_of reaches x) (reach_of r x)
  -- by node, what its processes among the first k of the order make later ones wait for
  pub knows : (node : ℕ) → node < length g.nodes →
      SameElements (get_or known node []) (known_after g r node (on_node g order k node))
  -- by node, what its sends before moment m depend on
  pub sends : (node : ℕ) → node < length g.nodes →
      SameElements (get_or sent node []) (flat_map (reach_of r) (sent_before g order m node))

-- the walk has gone over the first k processes, and over the items before moment m
abbrev pub IsWalkedTo : Graph → List ℕ → ℕ → ℕ → OrderWalk → Type 0
IsWalkedTo g order k m w =
    (r : Reach) → IsReach g order r → AgreesUntil g order r k m w.reaches.items w.known.items w.sent.items

-- `reaches` has the reach of each item, in any order of its variables
pub record AreReaches (g : Graph) (order : List ℕ) (reaches : Reach) : Type 0 where
  -- there is a set for each item
  pub count : length reaches ≡ item_count g
  -- it has the same variables as the reach by the rules
  pub each : (r : Reach) → IsReach g order r → (x : ℕ) → x < item_count g →
      SameElements (reach_of reaches x) (reach_of r x)

-- the list has n sets of variables, all of them empty
pub record AreEmpty (n : ℕ) (sets : List (List ℕ)) : Type 0 where
  -- there are n of them
  pub count : length sets ≡ n
  -- each has no variable
  pub each : (i : ℕ) → SameElements (get_or sets i []) []
