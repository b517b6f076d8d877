-- By what a cube is narrowed in a scenario: the literals that frames carry, and what decides a process. The definitions of
-- `Carried` are stated here again, step by step as the code goes.
use Rattle.std.specs.Prelude.{ℕ, ◌≡◌, ◌<◌, ◌==◌, ◌&&◌, ◌++◌, not, false, true, is_some, if◌then◌else◌, List, [], ◌∷◌}
use Rattle.std.specs.Prelude.{Option, None, Some, length, get_or, Contains}
use Rattle.std.specs.Option.{option_to_list}
use Rattle.cpg_base.specs.Graph.{Graph, condition_count, value_variable, item_count, item_at, node_of, producer}
use Rattle.cpg_base.specs.Graph.{process_at, process_of, is_frozen, is_message, message_item, broadcast_item}
use Rattle.cpg_base.specs.Activity.{active, item_active}
use Rattle.cpg_order.specs.Deciding.{deciding}
use Rattle.cpg_order.specs.Reach.{sent_value}
use Rattle.cpg_base.specs.Scenario.{Scenario}
use Rattle.cpg_base.specs.Order.{place}
use Rattle.cpg_cube.specs.declared.literal.Literal.{Literal}
use Rattle.cpg_run.specs.Run.{Times}
use Rattle.cpg_merging.specs.Merged.{AreWithin}
use Rattle.cpg_cube.specs.declared.column.Column.{Column}
use Rattle.cpg_cube.specs.Column.{times_in}
use Rattle.cpg_run.specs.Rows.{IsCubeOf}
use Rattle.cpg_run.specs.Carried.{row_at, carried_by_row, decided, heard, received, sent_by_value}

-- the row of the item x has just its time of the run t in the scenario, or no column that matches if it is inactive
pub record RowTells (g : Graph) (rows : List (List Column)) (s : Scenario) (t : Times) (x : ℕ) : Type 0 where
  -- the item has a row
  pub there : x < length rows
  -- the columns that match have just the time, or none matches
  pub times : times_in (row_at rows x) s ≡ option_to_list (get_or t.times x None)
  -- no literal's high is past the greatest number of its variable
  pub within : AreWithin g.faults (row_at rows x)

-- the row of each item from a process before p has its time of the run t in the scenario
abbrev pub EarlierTell : Graph → List ℕ → List (List Column) → Scenario → Times → ℕ → Type 0
EarlierTell g order rows s t p =
    (x : ℕ) → x < item_count g → place order (producer g x) < place order p → RowTells g rows s t x

-- the conditions are those that decide the process p in the scenario, in any order
pub record AreDeciding (g : Graph) (s : Scenario) (p : ℕ) (conditions : List ℕ) : Type 0 where
  -- each of them decides p
  pub each : (c : ℕ) → Contains conditions c → Contains (deciding g s.values p) c
  -- each that decides p is one of them
  pub all : (c : ℕ) → Contains (deciding g s.values p) c → Contains conditions c

-- the literals that a node hears with the broadcast of the condition c; none if the condition is its own
abbrev pub heard_of : Graph → List (List Column) → Scenario → ℕ → ℕ → List Literal
heard_of g rows s node c = if node_of g (process_of g c) == node then [] else carried_by_row rows s (broadcast_item g c)

-- the literals that come with the edge e; none if it stays on one node
abbrev pub received_by : Graph → List (List Column) → Scenario → ℕ → List Literal
received_by g rows s e = if is_message g e then carried_by_row rows s (message_item g e) else []

-- what is carried beside the start of p, if `earlier` is carried on from the processes before it on its node
abbrev pub start_after : Graph → List (List Column) → Scenario → ℕ → List Literal → List Literal
start_after g rows s p earlier = if (process_at g p).frozen then decided g s p
    else earlier ++ decided g s p ++ heard g rows s p ++ received g rows s p

-- what is carried beside the send of x, if the items before it leave `queue` and `ends` is carried at its producer's end
abbrev pub send_after : Graph → Scenario → ℕ → List Literal → List Literal → List Literal
send_after g s x queue ends =
    (if is_frozen g x then decided g s (producer g x) else queue ++ ends) ++ sent_by_value g s x

-- what the item y leaves to those behind it in the queue, if `ends` is carried at its producer's end
abbrev pub queued_after : Graph → Scenario → ℕ → List Literal → List Literal
queued_after g s y ends = decided g s (producer g y)
    ++ (if active g s.values (producer g y) then sent_by_value g s y else [])
    ++ (if item_active g s.values (item_at g y) && not (is_frozen g y) then ends else [])

-- the literals that come with the messages to p, or none if p is frozen
abbrev pub received_unless_frozen : Graph → List (List Column) → Scenario → ℕ → List Literal
received_unless_frozen g rows s p = if (process_at g p).frozen then [] else received g rows s p

-- the item x has a time in t exactly if it is active in s
abbrev pub IsTimedIfActive : Graph → Scenario → Times → ℕ → Type 0
IsTimedIfActive g s t x = is_some (get_or t.times x None) ≡ item_active g s.values (item_at g x)

-- the option is the condition whose value decides whether the item x is sent once its producer has ended; None if it always
-- is
abbrev pub IsSentValue : Graph → ℕ → Option ℕ → Type 0
IsSentValue g x None = sent_value g (item_at g x) ≡ []
IsSentValue g x (Some c) = (c < condition_count g) × (sent_value g (item_at g x) ≡ value_variable c ∷ [])

-- each literal of xs is one of ys
abbrev pub Within : List Literal → List Literal → Type 0
Within xs ys = (l : Literal) → Contains xs l → Contains ys l

-- `ends` is carried at the end of p, and `end` is its cube if p is active
pub record IsEndOf (g : Graph) (s : Scenario) (p : ℕ) (ends end : List Literal) : Type 0 where
  -- for an active p `end` is the cube of these literals
  pub cube : active g s.values p ≡ true → IsCubeOf g.faults ends end
  -- what decides p is among what is carried
  pub decided : Within (decided g s p) ends
