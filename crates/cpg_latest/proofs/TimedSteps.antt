-- One step along the order: from when each node is ready, when its slots are free and which times are known before the place i,
-- and the process there with what it sends, follows the same before the place i + 1.
use Rattle.std.proofs.Common.{◌≡◌, ◌≢◌, ◌∙◌, ℕ, ◌+◌, ◌<◌, ◌≤◌, max, Bool, true, false, ◌&&◌, List, length, get_or, set}
use Rattle.std.proofs.Common.{take, Contains, Option, Some, None, option_map, arith, refl, sym, ap, inl, inr}
use Rattle.std.proofs.Common.{◌⊎◌, subst, true≢false, get_or-set_same, get_or-set_other}
use Rattle.std.proofs.lemmas.Bool.{cases_lt, cases_eq, cases_Bool, cond-false}
use Rattle.std.proofs.lemmas.List.{take_all}
use Rattle.cpg_base.specs.Graph.{Graph, process_count, condition_count, item_count, item_at, edge_at, producer}
use Rattle.cpg_base.specs.Graph.{producer_of_item, node_of, source, process_of, is_sent, is_sent_item}
use Rattle.cpg_base.specs.declared.item.Item.{Item}
use Rattle.cpg_base.specs.declared.item.Item.TheVariants.{Start, Message, Broadcast}
use Rattle.cpg_base.specs.Activity.{active, live, takes, value_of, item_active}
use Rattle.cpg_base.proofs.Items.{item_at-start, item_cases}
use Rattle.cpg_order.specs.Urgency.{IsTopological}
use Rattle.cpg_base.specs.Order.{place}
use Rattle.cpg_order.specs.Deciding.{decides}
use Rattle.cpg_base.specs.Scenario.{Scenario}
use Rattle.cpg_order.proofs.Moments.{producer_in_range}
use Rattle.cpg_base.proofs.Places.{Contains-order, same_place}
use Rattle.cpg_latest.specs.Timed.{IsTimed}
use Rattle.cpg_run.specs.Run.{Times, time_in, end_in, heard_there}
use Rattle.cpg_latest.proofs.Timed.{time_is, has_time, end_is, has_end, end_active, start_acts}
use Rattle.cpg_run.specs.Most.{IsMost}
use Rattle.cpg_bus.specs.Plan.{queue_of}
use Rattle.cpg_run.specs.Progress.{IsSentBefore, IsSentBy, IsFree, IsReady, Knows, HasSent, KeepsEnds, free_after}
use Rattle.cpg_run.proofs.Mosts.{most_same}
use Rattle.cpg_bus.proofs.Queued.{in_queue, queue-Contains}
use Rattle.cpg_latest.proofs.TimedSends.{Contains-take}

-- b && false is false
and_none : (b : Bool) → (b && false) ≡ false
and_none true = refl
and_none false = refl

-- the items of an inactive process are inactive
idle_item : (g : Graph) (values : List Bool) (i : Item) → active g values (producer_of_item g i) ≡ false →
    item_active g values i ≡ false
idle_item g values (Start p) is_idle = is_idle
idle_item g values (Message e) is_idle =
    ap (λ b. is_sent_item g (Message e) && (b && takes (edge_at g e).when (value_of g values (source g e)))) is_idle
    ∙ and_none (is_sent_item g (Message e))
idle_item g values (Broadcast c) is_idle =
    ap (λ b. is_sent_item g (Broadcast c) && b) is_idle ∙ and_none (is_sent_item g (Broadcast c))

-- an item that doesn't go over the bus is a start, or is inactive
unsent_idle : (g : Graph) (values : List Bool) (i : Item) → is_sent_item g i ≡ false → ((p : ℕ) → i ≡ Start p → ⊥) →
    item_active g values i ≡ false
unsent_idle g values (Start p) fails other = absurd (other p refl)
unsent_idle g values (Message e) fails other = ap (λ b. b && live g values e) fails
unsent_idle g values (Broadcast c) fails other = ap (λ b. b && active g values (process_of g c)) fails

-- whether an item is a start
abbrev starts_one : Item → Bool
starts_one (Start p) = true
starts_one (Message e) = false
starts_one (Broadcast c) = false

-- a message is no start
message_start : (e q : ℕ) → Message e ≡ Start q → ⊥
message_start e q is = true≢false (sym (ap starts_one is))

-- a broadcast is no start
broadcast_start : (c q : ℕ) → Broadcast c ≡ Start q → ⊥
broadcast_start c q is = true≢false (sym (ap starts_one is))

-- given: times t that keep the rules of a run but for the ends (`run`), and the process p at the place i
module _ (g : Graph) (order : List ℕ) (topological : IsTopological g order) (frozen : List (Option ℕ)) (s : Scenario)
    (t : Times) (run : IsTimed g order frozen s t)
    (i p : ℕ) (inside : p < process_count g) (at : place order p ≡ i) where
  -- a process before the next place is before this one, or is p
  up_to : (q : ℕ) → q < process_count g → place order q < i + 1 → (place order q < i) ⊎ (q ≡ p)
  up_to q within h = elim (cases_lt (place order q) i) [
    | inl less ↦ inl less
    | inr more ↦ inr (same_place order q p (Contains-order (process_count g) order topological.all q within)
        (Contains-order (process_count g) order topological.all p inside) (omega arith))
  ]

  -- ---- when nodes are ready

  -- another node is ready when it was before, as the process at the place isn't on it
  pub ready_other : (node v : ℕ) → node ≢ node_of g p → IsReady g order s t i node v →
      IsReady g order s t (i + 1) node v
  ready_other node v other r = record {
    ends = λ q within less same a.
        elim (up_to q within less) [
          | inl lesser ↦ r.ends q within lesser same a
          | inr e ↦
              absurd (other (sym same ∙ ap (node_of g) e))
        ];
    heard = λ q c within less same m d. elim (up_to q within less) [
      | inl lesser ↦ r.heard q c within lesser same m d
      | inr e ↦ absurd (other (sym same ∙ ap (node_of g) e))
    ];
    least = λ b x y. r.least b (λ q k less same a. x q k (omega arith) same a)
        (λ q c k less same m d. y q c k (omega arith) same m d);
  }

  -- the node of p is ready at v, if v is the least time that isn't before r, when it was ready, h, when it has heard what
  -- decides p, or the end of p, if p is active
  pub ready_here : (r h v : ℕ) → IsReady g order s t i (node_of g p) r →
      IsMost (λ c. (c < condition_count g) × (decides g s.values p c ≡ true)) (heard_there g t (node_of g p)) h
      → max r h ≤ v → (active g s.values p ≡ true → end_in t p ≤ v) →
      ((b : ℕ) → max r h ≤ b → (active g s.values p ≡ true → end_in t p ≤ b) → v ≤ b)
      → IsReady g order s t (i + 1) (node_of g p) v
  ready_here r h v ready heard above ended least = record {
    ends = λ q within less same a. elim (up_to q within less) [
      | inl sooner ↦ omega (arith, ready.ends q within sooner same a)
      | inr is ↦ omega (arith, ap (end_in t) is, ended (sym (ap (active g s.values) is) ∙ a))
    ];
    heard = λ q c within less same m d. elim (up_to q within less) [
      | inl sooner ↦ omega (arith, ready.heard q c within sooner same m d)
      | inr is ↦ omega (arith, heard.above c (m, subst (λ z. decides g s.values z c ≡ true) is d))
    ];
    least = λ b ends_by heard_by.
        let ready_by = ready.least b (λ q k sooner same a. ends_by q k (omega arith) same a)
        (λ q c k sooner same m d. heard_by q c k (omega arith) same m d) in
        let heard_all = heard.least b (λ c d. heard_by p c inside (omega arith) refl d.0 d.1) in
        least b (omega arith) (λ acts. ends_by p inside (omega arith) refl acts);
  }

  -- if p is inactive, its node is ready at the later of r and h
  pub ready_idle : (r h v : ℕ) → active g s.values p ≡ false → v ≡ max r h → IsReady g order s t i (node_of g p) r →
      IsMost (λ c. (c < condition_count g) × (decides g s.values p c ≡ true)) (heard_there g t (node_of g p)) h
      → IsReady g order s t (i + 1) (node_of g p) v
  ready_idle r h v idle is ready heard = ready_here r h v ready heard (omega arith)
      (λ acts. absurd (true≢false (sym acts ∙ idle))) (λ b m acts. omega arith)

  -- if p is active, its node is ready at its end, which isn't before r and h
  pub ready_active : (r h v : ℕ) → active g s.values p ≡ true → v ≡ end_in t p → max r h ≤ v →
      IsReady g order s t i (node_of g p) r →
      IsMost (λ c. (c < condition_count g) × (decides g s.values p c ≡ true)) (heard_there g t (node_of g p)) h
      → IsReady g order s t (i + 1) (node_of g p) v
  ready_active r h v acts is above ready heard =
      ready_here r h v ready heard above (λ _. omega arith) (λ b m ended. let ends_by = ended acts in omega arith)

  -- ---- when slots are free

  -- another node's slots are free when they were before
  pub free_other : (node v : ℕ) → node ≢ node_of g p → IsFree g order s t i node v → IsFree g order s t (i + 1) node v
  free_other node v other most =
      most_same (free_after g t) (IsSentBefore g order s node i) (IsSentBefore g order s node (i + 1)) v
      (λ y h. (h.0, omega (arith, h.1)))
      (λ y h. (
        h.0,
        elim (up_to (producer g y) (producer_in_range g order topological y h.0.within) h.1) [
          | inl less ↦ less
          | inr e ↦ absurd (other (sym h.0.home ∙ ap (node_of g) e))
        ],
      ))
      most

  -- if the process is inactive, the slots of each node are free when they were before
  pub free_idle : (node v : ℕ) → active g s.values p ≡ false → IsFree g order s t i node v →
      IsFree g order s t (i + 1) node v
  free_idle node v idle most =
      most_same (free_after g t) (IsSentBefore g order s node i) (IsSentBefore g order s node (i + 1)) v
      (λ y h. (h.0, omega (arith, h.1)))
      (λ y h. (
        h.0,
        elim (up_to (producer g y) (producer_in_range g order topological y h.0.within) h.1) [
          | inl less ↦ less
          | inr e ↦ absurd
              (true≢false (sym h.0.active ∙ idle_item g s.values (item_at g y) (ap (active g s.values) e ∙ idle)))
        ],
      ))
      most

  -- each item of the queue of p is among the first ones, as many as the queue has
  in_whole : (y : ℕ) → Contains (queue_of g p) y → Contains (take (length (queue_of g p)) (queue_of g p)) y
  in_whole y there = subst (λ ys. Contains ys y)
      (sym (take_all (length (queue_of g p)) (queue_of g p) (omega arith))) there

  -- once p has sent all, its node's slots are free after what it sent: the items sent before the next place are those of earlier
  -- processes and those of p
  pub free_here : (v : ℕ) → IsMost (IsSentBy g order s p (length (queue_of g p))) (free_after g t) v →
      IsFree g order s t (i + 1) (node_of g p) v
  free_here v most = most_same (free_after g t) (IsSentBy g order s p (length (queue_of g p)))
      (IsSentBefore g order s (node_of g p) (i + 1)) v
      -- what is sent for an earlier process, or is in the queue of p, is sent before the next place
      (λ y h. (
        h.0,
        elim h.1 [
          | inl less ↦ omega arith
          | inr c ↦ omega (
            arith,
            ap (place order) (in_queue g p y (Contains-take (length (queue_of g p)) (queue_of g p) y c)).by,
          )
        ],
      ))
      -- what is sent before the next place is for an earlier process, or is in the queue of p
      (λ y h. (
        h.0,
        elim (up_to (producer g y) (producer_in_range g order topological y h.0.within) h.1) [
          | inl less ↦ inl (omega arith)
          | inr is ↦ inr (in_whole y (queue-Contains g p y h.0.within h.0.sent is))
        ],
      ))
      most

  -- ---- what is known

  -- an inactive item has no time
  no_time : (x : ℕ) → x < item_count g → item_active g s.values (item_at g x) ≡ false → get_or t.times x None ≡ None
  no_time x within idle = time_is g order frozen s t run x within ∙ cond-false _ _ _ idle

  -- after an inactive process what was known is all that is known before the next place: its items and its end have no times
  pub knows_idle : (known : Times) → active g s.values p ≡ false → Knows g order t i known →
      Knows g order t (i + 1) known
  knows_idle known idle knows = record {
    times = λ x within less. elim (up_to (producer g x) (producer_in_range g order topological x within) less) [
      | inl lesser ↦ knows.times x within lesser
      | inr e ↦ knows.later x within (omega (arith, ap (place order) e))
          ∙ sym (no_time x within (idle_item g s.values (item_at g x) (ap (active g s.values) e ∙ idle)))
    ];
    later = λ x k h. knows.later x k (omega arith);
    ends = λ q k less. elim (up_to q k less) [
      | inl lesser ↦ knows.ends q k lesser
      | inr e ↦ knows.no_ends q k (omega (arith, ap (place order) e))
          ∙ sym (end_is g order frozen s t run q k ∙ ap (option_map (λ start. run.end_of q))
          (no_time q (omega arith)
          (ap (item_active g s.values) (item_at-start g q k) ∙ ap (active g s.values) e ∙ idle)))
    ];
    no_ends = λ q within h. knows.no_ends q within (omega arith);
  }

  -- given: the process p is active, has its start and its end, and has sent all
  -- `knows`, `places`, `ends`: what is known before; `starts`, `stops`, `start_is`, `end_is`: p's start and end are those of
  -- t; `sent`, `keeps`: all that it sends is sent, and no end has changed
  module _ (acts : active g s.values p ≡ true) (known begun new : Times) (start end free : ℕ)
      (knows : Knows g order t i known)
      (places : length known.times ≡ item_count g) (ends : length known.ends ≡ process_count g)
      (starts : begun.times ≡ set known.times p (Some start)) (stops : begun.ends ≡ set known.ends p (Some end))
      (start_is : start ≡ time_in t p) (end_is : end ≡ end_in t p)
      (sent : HasSent g order s t p (length (queue_of g p)) begun new free) (keeps : KeepsEnds begun new) where
    -- an item among these is one of the queue
    queued : (x : ℕ) → Contains (take (length (queue_of g p)) (queue_of g p)) x → Contains (queue_of g p) x
    queued x there = Contains-take (length (queue_of g p)) (queue_of g p) x there

    -- the producer of a start is its process
    start_by : (x : ℕ) → x < process_count g → producer g x ≡ x
    start_by x within = ap (producer_of_item g) (item_at-start g x within)

    -- the time of what is neither the start of p nor in its queue is as before
    as_before : (x : ℕ) → x ≢ p → (Contains (queue_of g p) x → ⊥) → get_or new.times x None ≡ get_or known.times x None
    as_before x other unqueued = sent.others x (λ there. unqueued (queued x there)) ∙ ap (λ ts. get_or ts x None) starts
        ∙ get_or-set_other known.times p x (Some start) None other

    -- the times of items of other processes are as before
    elsewhere : (x : ℕ) → (producer g x ≡ p → ⊥) → get_or new.times x None ≡ get_or known.times x None
    elsewhere x other = as_before x (λ e. other (ap (producer g) e ∙ start_by p inside))
        (λ c. other (in_queue g p x c).by)

    -- the start of p is known
    its_start : get_or new.times p None ≡ get_or t.times p None
    its_start = sent.others p (λ there. let own_item = in_queue g p p (queued p there) in
        absurd (omega (arith, own_item.above)))
        ∙ ap (λ ts. get_or ts p None) starts ∙ get_or-set_same known.times p (Some start) None (omega arith)
        ∙ ap Some start_is
        ∙ sym (has_time g order frozen s t run p (omega arith) (start_acts g order frozen s t run p inside acts))

    -- an item of p has its time of the run: the start, an item that is sent, or one without a time
    its_item : (x : ℕ) → x < item_count g → producer g x ≡ p → get_or new.times x None ≡ get_or t.times x None
    its_item x within by = elim (cases_eq x p) [
      | inl e ↦ subst (λ z. get_or new.times z None ≡ get_or t.times z None) (sym e) its_start
      | inr other ↦ elim (cases_Bool (is_sent g x)) [
        | inl bus ↦ sent.sent x (in_whole x (queue-Contains g p x within bus by))
        | inr local ↦ as_before x other (λ c. true≢false (sym (in_queue g p x c).sent ∙ local))
            ∙ knows.later x within (omega (arith, ap (place order) by))
            ∙ sym
            (no_time x within (unsent_idle g s.values (item_at g x) local
            (λ q is. other (sym (start_of x q within is) ∙ by))))
      ]
    ]
      where
        -- the producer of an item that is a start is the process of the same number
        start_of : (x q : ℕ) → x < item_count g → item_at g x ≡ Start q → producer g x ≡ x
        start_of x q within is = elim (item_cases g x within) [
          | inl c ↦ ap (producer_of_item g) c.1
          | inr (inl c) ↦ absurd (message_start c.0 q (sym c.3 ∙ is))
          | inr (inr c) ↦ absurd (broadcast_start c.0 q (sym c.3 ∙ is))
        ]

    -- the end of p is known
    its_end : get_or new.ends p None ≡ get_or t.ends p None
    its_end =
        ap (λ ts. get_or ts p None) (keeps.ends ∙ stops) ∙ get_or-set_same known.ends p (Some end) None (omega arith)
        ∙ ap Some (end_is ∙ end_active g order frozen s t run p inside acts)
        ∙ sym (has_end g order frozen s t run p inside acts)

    -- the ends of other processes are as before
    other_end : (q : ℕ) → q ≢ p → get_or new.ends q None ≡ get_or known.ends q None
    other_end q other =
        ap (λ ts. get_or ts q None) (keeps.ends ∙ stops) ∙ get_or-set_other known.ends p q (Some end) None other

    -- all is known before the next place: what comes from earlier processes stays, and what comes from p has its times
    pub knows_active : Knows g order t (i + 1) new
    knows_active = record {
      times = λ x within less. elim (up_to (producer g x) (producer_in_range g order topological x within) less) [
        | inl lesser ↦ elsewhere x (λ e. absurd (omega (arith, ap (place order) e))) ∙ knows.times x within lesser
        | inr is ↦ its_item x within is
      ];
      later = λ x k h. elsewhere x (λ e. absurd (omega (arith, ap (place order) e))) ∙ knows.later x k (omega arith);
      ends = λ q within less. elim (up_to q within less) [
        | inl lesser ↦ other_end q (λ e. absurd (omega (arith, ap (place order) e))) ∙ knows.ends q within lesser
        | inr e ↦ subst (λ z. get_or new.ends z None ≡ get_or t.ends z None) (sym e) its_end
      ];
      no_ends =
          λ q within h. other_end q (λ e. absurd (omega (arith, ap (place order) e)))
          ∙ knows.no_ends q within (omega arith);
    }
