-- One step of a run along the order: from when each node is ready, when its slots are free and which times are known before place
-- i, and the process there with what it sends, follows the same before place i + 1.
use Rattle.std.proofs.Common.{◌≡◌, ◌≢◌, ◌∙◌, ℕ, ◌+◌, ◌<◌, ◌≤◌, max, Bool, true, false, ◌&&◌, List, length, get_or, set}
use Rattle.std.proofs.Common.{take, Contains, Option, Some, None, option_map, arith, refl, sym, ap, inl, inr}
use Rattle.std.proofs.Common.{◌⊎◌, subst, true≢false, get_or-set_same, get_or-set_other}
use Rattle.std.proofs.lemmas.Bool.{cases_lt, cases_eq, cases_Bool, cond-false}
use Rattle.std.proofs.lemmas.List.{take_all}
use Rattle.cpg_base.specs.Graph.{Graph, process_count, condition_count, item_count, item_at, edge_at, producer}
use Rattle.cpg_base.specs.Graph.{producer_of_item, node_of, source, process_of, is_sent, is_sent_item}
use Rattle.cpg_base.specs.declared.item.Item.{Item}
use Rattle.cpg_base.specs.declared.item.Item.TheVariants.{Start, Message, Broadcast}
use Rattle.cpg_base.specs.Activity.{active, live, takes, value_of, item_active}
use Rattle.cpg_base.specs.Duration.{duration}
use Rattle.cpg_base.proofs.Items.{item_at-start, item_cases}
use Rattle.cpg_order.specs.Urgency.{IsTopological}
use Rattle.cpg_base.specs.Order.{place}
use Rattle.cpg_order.specs.Deciding.{decides}
use Rattle.cpg_base.specs.Scenario.{Scenario, fault_of}
use Rattle.cpg_order.proofs.Moments.{producer_in_range}
use Rattle.cpg_base.proofs.Places.{Contains-order, same_place}
use Rattle.cpg_run.specs.Run.{Times, IsRun, time_in, end_in, heard_there}
use Rattle.cpg_run.proofs.Runs.{time_is, has_time, end_is, has_end, end_active, start_acts}
use Rattle.cpg_run.specs.Most.{IsMost}
use Rattle.cpg_bus.specs.Plan.{queue_of}
use Rattle.cpg_run.specs.Progress.{IsSentBefore, IsSentBy, IsFree, IsReady, Knows, HasSent, KeepsEnds, free_after}
use Rattle.cpg_run.proofs.Mosts.{most_same}
use Rattle.cpg_bus.proofs.Queued.{in_queue, queue-Contains}
use Rattle.cpg_run.proofs.Sends.{Contains-take}

-- b && false is false
and_none : (b : Bool) → (b && false) ≡ false
and_none true = refl
and_none false = refl

-- an item of an inactive process is inactive
idle_item : (g : Graph) (values : List Bool) (i : Item) → active g values (producer_of_item g i) ≡ false →
    item_active g values i ≡ false
idle_item g values (Start p) is_false = is_false
idle_item g values (Message e) is_false =
    ap (λ b. is_sent_item g (Message e) && (b && takes (edge_at g e).when (value_of g values (source g e)))) is_false
    ∙ and_none (is_sent_item g (Message e))
idle_item g values (Broadcast c) is_false =
    ap (λ b. is_sent_item g (Broadcast c) && b) is_false ∙ and_none (is_sent_item g (Broadcast c))

-- an item that does not go over the bus is inactive, unless it is a start
unsent_idle : (g : Graph) (values : List Bool) (i : Item) → is_sent_item g i ≡ false → ((p : ℕ) → i ≡ Start p → ⊥) →
    item_active g values i ≡ false
unsent_idle g values (Start p) is_false other = absurd (other p refl)
unsent_idle g values (Message e) is_false other = ap (λ b. b && live g values e) is_false
unsent_idle g values (Broadcast c) is_false other = ap (λ b. b && active g values (process_of g c)) is_false

-- whether an item is a start
abbrev starts_one : Item → Bool
starts_one (Start p) = true
starts_one (Message e) = false
starts_one (Broadcast c) = false

-- a message is no start
message_start : (e q : ℕ) → Message e ≡ Start q → ⊥
message_start e q is = true≢false (sym (ap starts_one is))

-- a broadcast is no start
broadcast_start : (c q : ℕ) → Broadcast c ≡ Start q → ⊥
broadcast_start c q is = true≢false (sym (ap starts_one is))

-- given: the run of a scenario and the process at a place
-- `topological`: the order has each process once, behind the sources of its inputs. `run`: t is the run of s under
-- the frozen times. `at`: process p is at place i.
module _ (g : Graph) (order : List ℕ) (topological : IsTopological g order) (frozen : List (Option ℕ)) (s : Scenario)
    (t : Times) (run : IsRun g order frozen s t)
    (i p : ℕ) (p_below : p < process_count g) (at : place order p ≡ i) where
  -- a process before the next place is before this one, or is the process here
  up_to : (q : ℕ) → q < process_count g → place order q < i + 1 → (place order q < i) ⊎ (q ≡ p)
  up_to q below q_less = elim (cases_lt (place order q) i) [
    | inl less ↦ inl less
    | inr more ↦ inr (same_place order q p (Contains-order (process_count g) order topological.all q below)
        (Contains-order (process_count g) order topological.all p p_below) (omega arith))
  ]

  -- ---- when nodes are ready

  -- another node than that of p is ready before the next place when it was before this one
  pub ready_other : (node v : ℕ) → node ≢ node_of g p → IsReady g order s t i node v →
      IsReady g order s t (i + 1) node v
  ready_other node v other r = record {
    ends = λ q k h same a.
        elim (up_to q k h) [ inl less ↦ r.ends q k less same a | inr e ↦ absurd (other (sym same ∙ ap (node_of g) e)) ];
    heard = λ q c k h same m d. elim (up_to q k h) [
      | inl less ↦ r.heard q c k less same m d
      | inr e ↦ absurd (other (sym same ∙ ap (node_of g) e))
    ];
    least = λ b x y. r.least b (λ q k less same a. x q k (omega arith) same a)
        (λ q c k less same m d. y q c k (omega arith) same m d);
  }

  -- the node of p is ready at v, if v is the least time that isn't before r, when it was ready, h, when it has heard what decides
  -- p, or the end of p, if p is active
  pub ready_here : (r h v : ℕ) → IsReady g order s t i (node_of g p) r →
      IsMost (λ c. (c < condition_count g) × (decides g s.values p c ≡ true)) (heard_there g t (node_of g p)) h
      → max r h ≤ v → (active g s.values p ≡ true → end_in t p ≤ v) →
      ((b : ℕ) → max r h ≤ b → (active g s.values p ≡ true → end_in t p ≤ b) → v ≤ b)
      → IsReady g order s t (i + 1) (node_of g p) v
  ready_here r h v ready heard above ended least = record {
    ends = λ q k less same a. elim (up_to q k less) [
      | inl sooner ↦ omega (arith, ready.ends q k sooner same a)
      | inr e ↦ omega (arith, ap (end_in t) e, ended (sym (ap (active g s.values) e) ∙ a))
    ];
    heard = λ q c k less same m d. elim (up_to q k less) [
      | inl sooner ↦ omega (arith, ready.heard q c k sooner same m d)
      | inr e ↦ omega (arith, heard.above c (m, subst (λ z. decides g s.values z c ≡ true) e d))
    ];
    least = λ b x y.
        let ready_by = ready.least b (λ q k sooner same a. x q k (omega arith) same a)
        (λ q c k sooner same m d. y q c k (omega arith) same m d) in
        let heard_by = heard.least b (λ c d. y p c p_below (omega arith) refl d.0 d.1) in
        least b (omega arith) (λ acts. x p p_below (omega arith) refl acts);
  }

  -- after an inactive process its node is ready once it was and has heard what decides the process
  pub ready_idle : (r h v : ℕ) → active g s.values p ≡ false → v ≡ max r h → IsReady g order s t i (node_of g p) r →
      IsMost (λ c. (c < condition_count g) × (decides g s.values p c ≡ true)) (heard_there g t (node_of g p)) h
      → IsReady g order s t (i + 1) (node_of g p) v
  ready_idle r h v idle is ready heard = ready_here r h v ready heard (omega arith)
      (λ acts. absurd (true≢false (sym acts ∙ idle))) (λ b m acts. omega arith)

  -- after an active process its node is ready at its end
  pub ready_active : (r h v : ℕ) → active g s.values p ≡ true → v ≡ end_in t p → max r h ≤ v →
      IsReady g order s t i (node_of g p) r →
      IsMost (λ c. (c < condition_count g) × (decides g s.values p c ≡ true)) (heard_there g t (node_of g p)) h
      → IsReady g order s t (i + 1) (node_of g p) v
  ready_active r h v acts is above ready heard =
      ready_here r h v ready heard above (λ _. omega arith) (λ b m ended. let e = ended acts in omega arith)

  -- ---- when slots are free

  -- the slots of another node than that of p are free as before
  pub free_other : (node v : ℕ) → node ≢ node_of g p → IsFree g order s t i node v → IsFree g order s t (i + 1) node v
  free_other node v other m =
      most_same (free_after g t) (IsSentBefore g order s node i) (IsSentBefore g order s node (i + 1)) v
      (λ y h. (h.0, omega (arith, h.1)))
      (λ y h. (
        h.0,
        elim (up_to (producer g y) (producer_in_range g order topological y h.0.within) h.1) [
          | inl less ↦ less
          | inr e ↦ absurd (other (sym h.0.home ∙ ap (node_of g) e))
        ],
      ))
      m

  -- after an inactive process the slots of every node are free as before
  pub free_idle : (node v : ℕ) → active g s.values p ≡ false → IsFree g order s t i node v →
      IsFree g order s t (i + 1) node v
  free_idle node v idle m =
      most_same (free_after g t) (IsSentBefore g order s node i) (IsSentBefore g order s node (i + 1)) v
      (λ y h. (h.0, omega (arith, h.1)))
      (λ y h. (
        h.0,
        elim (up_to (producer g y) (producer_in_range g order topological y h.0.within) h.1) [
          | inl less ↦ less
          | inr e ↦ absurd
              (true≢false (sym h.0.active ∙ idle_item g s.values (item_at g y) (ap (active g s.values) e ∙ idle)))
        ],
      ))
      m

  -- each item of the queue of p is among the first ones, as many as the queue has
  in_whole : (y : ℕ) → Contains (queue_of g p) y → Contains (take (length (queue_of g p)) (queue_of g p)) y
  in_whole y among = subst (λ ys. Contains ys y)
      (sym (take_all (length (queue_of g p)) (queue_of g p) (omega arith))) among

  -- the slots of p's node are free after all that p sends: what the node sends for processes before the next place is what it sends
  -- for earlier ones and the queue of p
  pub free_here : (v : ℕ) → IsMost (IsSentBy g order s p (length (queue_of g p))) (free_after g t) v →
      IsFree g order s t (i + 1) (node_of g p) v
  free_here v m = most_same (free_after g t) (IsSentBy g order s p (length (queue_of g p)))
      (IsSentBefore g order s (node_of g p) (i + 1)) v
      -- what is sent for an earlier process, or is in the queue of p, is sent before the next place
      (λ y h. (
        h.0,
        elim h.1 [
          | inl less ↦ omega arith
          | inr c ↦ omega (
            arith,
            ap (place order) (in_queue g p y (Contains-take (length (queue_of g p)) (queue_of g p) y c)).by,
          )
        ],
      ))
      -- what is sent before the next place is for an earlier process, or is in the queue of p
      (λ y h. (
        h.0,
        elim (up_to (producer g y) (producer_in_range g order topological y h.0.within) h.1) [
          | inl less ↦ inl (omega arith)
          | inr e ↦ inr (in_whole y (queue-Contains g p y h.0.within h.0.sent e))
        ],
      ))
      m

  -- ---- what is known

  -- an inactive item has no time
  no_time : (x : ℕ) → x < item_count g → item_active g s.values (item_at g x) ≡ false → get_or t.times x None ≡ None
  no_time x below idle = time_is g order frozen s t run x below ∙ cond-false _ _ _ idle

  -- after an inactive process what was known is all that is known before the next place: its items and its end have no times
  pub knows_idle : (known : Times) → active g s.values p ≡ false → Knows g order t i known →
      Knows g order t (i + 1) known
  knows_idle known idle knows = record {
    times = λ x k h. elim (up_to (producer g x) (producer_in_range g order topological x k) h) [
      | inl less ↦ knows.times x k less
      | inr e ↦ knows.later x k (omega (arith, ap (place order) e))
          ∙ sym (no_time x k (idle_item g s.values (item_at g x) (ap (active g s.values) e ∙ idle)))
    ];
    later = λ x k h. knows.later x k (omega arith);
    ends = λ q k h. elim (up_to q k h) [
      | inl less ↦ knows.ends q k less
      | inr e ↦ knows.no_ends q k (omega (arith, ap (place order) e))
          ∙ sym (end_is g order frozen s t run q k ∙ ap (option_map (λ start. start + duration g q (fault_of s q)))
          (no_time q (omega arith)
          (ap (item_active g s.values) (item_at-start g q k) ∙ ap (active g s.values) e ∙ idle)))
    ];
    no_ends = λ q k h. knows.no_ends q k (omega arith);
  }

  -- given: what is known before the place, with the start, the end and the sends of the process set
  -- `acts`: p is active. `knows`: what is known is that of the run before place i. `places`, `ends`: the lists have
  -- an entry for each item and each process. `starts`, `stops`: `begun` is what was known, with start and end of p
  -- set. `start_is`, `end_is`: both are those of the run. `sent`, `keeps`: `new` also has the times of all that p
  -- sends, and no other end.
  module _ (acts : active g s.values p ≡ true) (known begun new : Times) (start end free : ℕ)
      (knows : Knows g order t i known)
      (places : length known.times ≡ item_count g) (ends : length known.ends ≡ process_count g)
      (starts : begun.times ≡ set known.times p (Some start)) (stops : begun.ends ≡ set known.ends p (Some end))
      (start_is : start ≡ time_in t p) (end_is : end ≡ end_in t p)
      (sent : HasSent g order s t p (length (queue_of g p)) begun new free) (keeps : KeepsEnds begun new) where
    -- an item among these is one of the queue
    queued : (x : ℕ) → Contains (take (length (queue_of g p)) (queue_of g p)) x → Contains (queue_of g p) x
    queued x among = Contains-take (length (queue_of g p)) (queue_of g p) x among

    -- the producer of a start is the process of the same number
    start_by : (x : ℕ) → x < process_count g → producer g x ≡ x
    start_by x below = ap (producer_of_item g) (item_at-start g x below)

    -- the time of what is neither the start of p nor in its queue is as before
    as_before : (x : ℕ) → x ≢ p → (Contains (queue_of g p) x → ⊥) → get_or new.times x None ≡ get_or known.times x None
    as_before x other unqueued = sent.others x (λ c. unqueued (queued x c)) ∙ ap (λ ts. get_or ts x None) starts
        ∙ get_or-set_other known.times p x (Some start) None other

    -- the times of items of other processes are as before
    elsewhere : (x : ℕ) → (producer g x ≡ p → ⊥) → get_or new.times x None ≡ get_or known.times x None
    elsewhere x other = as_before x (λ e. other (ap (producer g) e ∙ start_by p p_below))
        (λ c. other (in_queue g p x c).by)

    -- the start of p has its time of the run
    its_start : get_or new.times p None ≡ get_or t.times p None
    its_start = sent.others p (λ c. let q = in_queue g p p (queued p c) in absurd (omega (arith, q.above)))
        ∙ ap (λ ts. get_or ts p None) starts ∙ get_or-set_same known.times p (Some start) None (omega arith)
        ∙ ap Some start_is
        ∙ sym (has_time g order frozen s t run p (omega arith) (start_acts g order frozen s t run p p_below acts))

    -- each item of p has its time of the run: its start is set, an item that is sent is set by the send, and one that stays on
    -- the node has no time
    its_item : (x : ℕ) → x < item_count g → producer g x ≡ p → get_or new.times x None ≡ get_or t.times x None
    its_item x k by = elim (cases_eq x p) [
      | inl equal ↦ subst (λ z. get_or new.times z None ≡ get_or t.times z None) (sym equal) its_start
      | inr other ↦ elim (cases_Bool (is_sent g x)) [
        | inl bus ↦ sent.sent x (in_whole x (queue-Contains g p x k bus by))
        | inr local ↦ as_before x other (λ c. true≢false (sym (in_queue g p x c).sent ∙ local))
            ∙ knows.later x k (omega (arith, ap (place order) by))
            ∙ sym
            (no_time x k (unsent_idle g s.values (item_at g x) local (λ q e. other (sym (start_of x q k e) ∙ by))))
      ]
    ]
      where
        -- the producer of an item that is a start is the process of the same number
        start_of : (x q : ℕ) → x < item_count g → item_at g x ≡ Start q → producer g x ≡ x
        start_of x q below is = elim (item_cases g x below) [
          | inl of_start ↦ ap (producer_of_item g) of_start.1
          | inr (inl of_message) ↦ absurd (message_start of_message.0 q (sym of_message.3 ∙ is))
          | inr (inr of_broadcast) ↦ absurd (broadcast_start of_broadcast.0 q (sym of_broadcast.3 ∙ is))
        ]

    -- the end of p is that of the run
    its_end : get_or new.ends p None ≡ get_or t.ends p None
    its_end =
        ap (λ ts. get_or ts p None) (keeps.ends ∙ stops) ∙ get_or-set_same known.ends p (Some end) None (omega arith)
        ∙ ap Some (end_is ∙ end_active g order frozen s t run p p_below acts)
        ∙ sym (has_end g order frozen s t run p p_below acts)

    -- the ends of other processes are as before
    other_end : (q : ℕ) → q ≢ p → get_or new.ends q None ≡ get_or known.ends q None
    other_end q other =
        ap (λ ts. get_or ts q None) (keeps.ends ∙ stops) ∙ get_or-set_other known.ends p q (Some end) None other

    -- with its start, its end and the times of all that it sends, all is known before the next place
    pub knows_active : Knows g order t (i + 1) new
    knows_active = record {
      times = λ x k h. elim (up_to (producer g x) (producer_in_range g order topological x k) h) [
        | inl less ↦ elsewhere x (λ e. absurd (omega (arith, ap (place order) e))) ∙ knows.times x k less
        | inr e ↦ its_item x k e
      ];
      later = λ x k h. elsewhere x (λ e. absurd (omega (arith, ap (place order) e))) ∙ knows.later x k (omega arith);
      ends = λ q k h. elim (up_to q k h) [
        | inl less ↦ other_end q (λ e. absurd (omega (arith, ap (place order) e))) ∙ knows.ends q k less
        | inr e ↦ subst (λ z. get_or new.ends z None ≡ get_or t.ends z None) (sym e) its_end
      ];
      no_ends =
          λ q k h. other_end q (λ e. absurd (omega (arith, ap (place order) e))) ∙ knows.no_ends q k (omega arith);
    }
