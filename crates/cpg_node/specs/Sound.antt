-- What holds of the fields of a node between calls.
use Rattle.std.specs.Prelude.{◌≡◌, ◌≤◌, ◌<◌, ◌^◌, length, All, IsPermutation}
use Rattle.std.specs.Vec.{vec_capacity}
use Rattle.cpg_table.specs.Lawful.{IsTable}
use Rattle.cpg_node.specs.declared.node.Node.TheInside.{Inside}
use Rattle.cpg_node.specs.Dispatcher.{Dispatcher, next}
use Rattle.cpg_node.specs.Plan.{Planned, plan_of, fixed_times, SameAtEachTime, IsPlaceAfter}
use Rattle.cpg_node.specs.State.{NodeState, AreTimed}

-- the dispatcher that a node's fields make
abbrev pub dispatcher_of : Inside → Dispatcher
dispatcher_of n = record { table = n.table; heard = n.heard.items; running = n.running.items; last = n.last }

-- the state that a node's fields make
abbrev pub state_of : Inside → NodeState
state_of n = record { dispatcher = dispatcher_of n; acts = n.acts.items }

-- the entries and the times are in order, the next instant is known, and there is room for a turn
pub record IsSound (n : Inside) : Type 0 where
  -- the table is lawful
  pub made : IsTable n.table
  -- an execution, or none, for each of its own processes
  pub count : length n.running.items ≡ length n.table.own
  -- `saved` has as many ranges as `heard`, so what has been heard can be copied into it
  pub mirror : length n.heard.items ≡ length n.saved.items
  -- each execution started before 2^60, so its start and a duration fit 64 bits
  pub starts : AreTimed n.running.items
  -- the plan has all columns of what the node sends or starts, those of one time in the order of the table
  pub planned : SameAtEachTime n.plan.items (plan_of n.table)
  -- its times are below 2^60, so a time and a duration fit 64 bits
  pub early : All (λ (p : Planned). p.time < 2 ^ 60) n.plan.items
  -- it is in order of time, and `plan_place` is the place of the first entry after the last turn
  pub entries : IsPlaceAfter (λ (p : Planned). p.time) n.last n.plan.items n.plan_place
  -- `times` has all times of the table
  pub times : IsPermutation (fixed_times n.table) n.times.items
  -- they are in order, and `times_place` is the place of the first after the last turn
  pub instants : IsPlaceAfter (λ t. t) n.last n.times.items n.times_place
  -- the next instant is found already
  pub next : n.next ≡ next (dispatcher_of n)
  -- room for an act of each entry, so that a turn asks for no memory
  pub room : length n.plan.items ≤ vec_capacity n.acts
  -- room for a report of each process
  pub due_room : length n.table.own ≤ vec_capacity n.due
