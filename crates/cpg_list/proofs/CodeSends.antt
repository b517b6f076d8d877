-- One scenario of a send: what the item leaves in the queue, and what is carried beside its time.
use Rattle.std.proofs.Common.{◌≡◌, ◌∙◌, ℕ, ◌+◌, ◌-◌, ◌<◌, ◌≤◌, Bool, true, false, not, ◌&&◌, if◌then◌else◌, List, []}
use Rattle.std.proofs.Common.{◌∷◌, ◌++◌, length, get_or, map, flat_map, Contains, Option, Some, None, is_some}
use Rattle.std.proofs.Common.{option_to_list, arith, sym, ap, ap₂, inl, inr, subst}
use Rattle.std.proofs.lemmas.Bool.{cases_Bool, cond-true, cond-false}
use Rattle.std.proofs.lemmas.List.{append-nil, get_or_default}
use Rattle.std.proofs.lemmas.List.Elements.{Contains-append_left, Contains-append_right, Contains-append_cases}
use Rattle.cpg_base.specs.Graph.{Graph, process_count, edge_count, item_count, edge_at, item_at, source, is_message}
use Rattle.cpg_base.specs.Graph.{is_frozen, is_frozen_item, is_sent_item, condition_of, producer, producer_of_item}
use Rattle.cpg_base.specs.Graph.{process_at, value_variable}
use Rattle.cpg_base.specs.declared.item.Item.TheVariants.{Message}
use Rattle.cpg_base.specs.Activity.{active, item_active}
use Rattle.cpg_base.proofs.Items.{item_cases}
use Rattle.cpg_order.specs.Reach.{sent_value}
use Rattle.cpg_base.specs.Scenario.{Scenario}
use Rattle.cpg_base.proofs.ConditionProcesses.{condition_of_below}
use Rattle.cpg_cube.specs.declared.literal.Literal.{Literal}
use Rattle.cpg_bus.specs.Plan.{queue_of}
use Rattle.cpg_bus.proofs.Queued.{in_queue}
use Rattle.cpg_order.specs.Queue.{queued_before}
use Rattle.cpg_base.specs.Order.{before_on_node}
use Rattle.cpg_cube.specs.declared.column.Column.{Column}
use Rattle.cpg_run.specs.Carried.{number_known, decided, heard, received, passed, queued, sent_by_value, carried}
use Rattle.cpg_run.specs.Carried.{carried_by_item, carried_at_start, carried_at_end}
use Rattle.cpg_list.specs.Made.{queued_by, AreEndsOf}
use Rattle.cpg_run.specs.Rows.{IsCubeOf}
use Rattle.cpg_list.specs.Learning.{IsSentValue, IsEndOf, Within, send_after, queued_after}
use Rattle.cpg_list.specs.Narrowing.{IsNarrowed}
use Rattle.cpg_list.proofs.CodeCubes.{narrowed_none, narrowed_same}

-- ---- an item that a process sends

-- given: an item x that p sends
module _ (g : Graph) (p x : ℕ) (queued : Contains (queue_of g p) x) where
  -- an item in the queue of a process is one of the graph
  pub queue_within : x < item_count g
  queue_within = (in_queue g p x queued).within

  -- the producer of an item in the queue of a process is the process
  pub queue_by : producer g x ≡ p
  queue_by = (in_queue g p x queued).by

-- ---- the value that decides whether it is sent

-- if the edge of a message has a `when`, the condition of its source decides whether it is sent
pub value_of : (g : Graph) (x e p : ℕ) → item_at g x ≡ Message e → source g e ≡ p → is_some (edge_at g e).when ≡ true →
    (o : Option ℕ) → condition_of g p ≡ o →
    IsSentValue g x o
value_of g x e p at from on o is =
    let value_is : sent_value g (item_at g x) ≡ map value_variable (option_to_list o) = ap (sent_value g) at
    ∙ cond-true _ _ _ on ∙ ap (λ q. map value_variable (option_to_list (condition_of g q))) from ∙
    ap (λ r. map value_variable (option_to_list r)) is in
    by_option o is value_is
  where
    -- by whether the source has a condition: without one no value decides
    by_option : (o : Option ℕ) → condition_of g p ≡ o →
        sent_value g (item_at g x) ≡ map value_variable (option_to_list o) →
        IsSentValue g x o
    by_option None is v = v
    by_option (Some c) is v = (condition_of_below g p c is, v)

-- ---- what it leaves in the queue

-- given: an item x of producer p, and the literals `ends` that are carried at p's end
module _ (g : Graph) (s : Scenario) (p x : ℕ) (by : producer g x ≡ p) (ends : List Literal) where
  -- what the item x leaves in the queue, by whether p is active (`acts`), and whether x is sent and isn't frozen (`is_free`)
  left : (acts is_free : Bool) → active g s.values p ≡ acts →
      (item_active g s.values (item_at g x) && not (is_frozen g x)) ≡ is_free
      → queued_after g s x ends ≡ decided g s p ++ (if acts then sent_by_value g s x else [])
      ++ (if is_free then ends else [])
  left acts is_free a f = ap (λ q. decided g s q ++ (if active g s.values q then sent_by_value g s x else [])
      ++ (if item_active g s.values (item_at g x) && not (is_frozen g x) then ends else [])) by
      ∙ ap₂ (λ u v. decided g s p ++ (if u then sent_by_value g s x else []) ++ (if v then ends else [])) a f

  -- an item whose producer is inactive leaves only what decides the producer
  pub left_idle : active g s.values p ≡ false → item_active g s.values (item_at g x) ≡ false →
      queued_after g s x ends ≡ decided g s p
  left_idle is_idle i = left false false is_idle (ap (λ b. b && not (is_frozen g x)) i)
      ∙ append-nil (decided g s p ++ [])
      ∙ append-nil (decided g s p)

  -- an inactive item of an active producer also leaves the value that decides whether it is sent
  pub left_skipped : active g s.values p ≡ true → item_active g s.values (item_at g x) ≡ false →
      queued_after g s x ends ≡ decided g s p ++ sent_by_value g s x
  left_skipped is_active is_idle =
      left true false is_active (ap (λ b. b && not (is_frozen g x)) is_idle)
      ∙ append-nil (decided g s p ++ sent_by_value g s x)

  -- a frozen item that is sent leaves only what decides its producer and the value by which it is sent
  pub left_frozen : active g s.values p ≡ true → item_active g s.values (item_at g x) ≡ true → is_frozen g x ≡ true →
      queued_after g s x ends ≡ decided g s p ++ sent_by_value g s x
  left_frozen is is_active it_is_frozen =
      left true false is (ap₂ (λ b c. b && not c) is_active it_is_frozen)
      ∙ append-nil (decided g s p ++ sent_by_value g s x)

  -- an item that is sent and isn't frozen also leaves what is carried at the end of its producer
  pub left_plain : active g s.values p ≡ true → item_active g s.values (item_at g x) ≡ true → is_frozen g x ≡ false →
      queued_after g s x ends ≡ decided g s p ++ sent_by_value g s x ++ ends
  left_plain is_active i f = left true true is_active (ap₂ (λ b c. b && not c) i f)

  -- beside a frozen send only what decides the producer and the sending is carried
  pub sends_frozen : (queue : List Literal) → is_frozen g x ≡ true →
      send_after g s x queue ends ≡ decided g s p ++ sent_by_value g s x
  sends_frozen queue it_is_frozen = ap (λ q. (if is_frozen g x then decided g s q else queue ++ ends)
      ++ sent_by_value g s x) by ∙
      ap (λ ls. ls ++ sent_by_value g s x) (cond-true (is_frozen g x) (decided g s p) (queue ++ ends) it_is_frozen)

  -- beside another send, what the queue leaves and the end of the producer are carried, too
  pub sends_plain : (queue : List Literal) → is_frozen g x ≡ false →
      send_after g s x queue ends ≡ queue ++ ends ++ sent_by_value g s x
  sends_plain queue fails =
      ap (λ ls. ls ++ sent_by_value g s x)
      (cond-false (is_frozen g x) (decided g s (producer g x)) (queue ++ ends) fails)

-- if the literals `ds` are among `es`, a cube narrowed by `es` and `vs` is narrowed by `ds`, `vs` and `es`
pub end_with_value : (k : ℕ) (ds vs es a b : List Literal) → Within ds es → IsNarrowed k (es ++ vs) a b →
    IsNarrowed k (ds ++ vs ++ es) a b
end_with_value k ds vs es a b in_ends is = narrowed_same k (es ++ vs) (ds ++ vs ++ es) a b
    (λ l there. elim (Contains-append_cases es vs l there) [
      | inl among ↦ Contains-append_right (ds ++ vs) es l among
      | inr among ↦ Contains-append_left (ds ++ vs) es l (Contains-append_right ds vs l among)
    ])
    (λ l there. elim (Contains-append_cases (ds ++ vs) es l there) [
      | inr among ↦ Contains-append_left es vs l among
      | inl in_first ↦ elim (Contains-append_cases ds vs l in_first) [
        | inl d ↦ Contains-append_left es vs l (in_ends l d)
        | inr in_second ↦ Contains-append_right es vs l in_second
      ]
    ]) is

-- ---- the literals carried beside a send, and those that it leaves

-- given: an item x that p sends
module _ (g : Graph) (order : List ℕ) (rows : List (List Column)) (s : Scenario) (p x : ℕ)
    (queued_here : Contains (queue_of g p) x) where
  -- what is carried beside the item x is `send_after` of what the queue before it leaves and what is carried at the end of p
  pub carried_send : carried g order rows s x
      ≡ send_after g s x (queued_by g order rows (queued_before g order x) s) (carried_at_end g order rows s p)
  carried_send = let own_item = in_queue g p x queued_here in elim (item_cases g x own_item.within) [
    | inl c ↦ absurd (omega (arith, c.0, own_item.above))
    | inr (inl c) ↦ ap (carried_by_item g order rows s x) c.3 ∙ ap (λ r.
        send_after g s x (queued_by g order rows (queued_before g order x) s)
        (carried_at_end g order rows s r)) own_item.by
    | inr (inr c) ↦ ap (carried_by_item g order rows s x) c.3 ∙ ap (λ r.
        send_after g s x (queued_by g order rows (queued_before g order x) s)
        (carried_at_end g order rows s r)) own_item.by
  ]

  -- what the item x leaves in the queue is `queued_after` of what is carried at the end of p
  pub queued_is : queued g order rows s x ≡ queued_after g s x (carried_at_end g order rows s p)
  queued_is = ap (λ r. queued_after g s x (carried_at_end g order rows s r)) (in_queue g p x queued_here).by

-- what decides a process is carried at its end: it is part of what is carried at the start, frozen or not
pub decided_at_end : (g : Graph) (order : List ℕ) (rows : List (List Column)) (s : Scenario) (p : ℕ) →
    Within (decided g s p) (carried_at_end g order rows s p)
decided_at_end g order rows s p l there = Contains-append_left (carried_at_start g order rows s p)
    (number_known s p ∷ []) l
    (elim (cases_Bool (process_at g p).frozen) [
      | inl on ↦ subst (λ ls. Contains ls l) (sym (cond-true _ _ _ on)) there
      | inr off ↦ subst (λ ls. Contains ls l) (sym (cond-false _ _ _ off))
          (Contains-append_left (flat_map (passed g rows s) (before_on_node g order p) ++ decided g s p
          ++ heard g rows s p)
          (received g rows s p) l
          (Contains-append_left (flat_map (passed g rows s) (before_on_node g order p) ++ decided g s p)
          (heard g rows s p) l
          (Contains-append_right (flat_map (passed g rows s) (before_on_node g order p)) (decided g s p) l there)))
    ])

-- the cube at the place n of the ends of p is that of its end in the n-th scenario
pub end_here : (g : Graph) (order : List ℕ) (rows : List (List Column)) (scenarios : List Scenario) (p : ℕ)
    (cubes : List (List Literal)) →
    AreEndsOf g order rows scenarios p cubes
    → (n : ℕ) (s : Scenario) (cube : List Literal) → n < length scenarios → s ≡ get_or scenarios n s →
    cube ≡ get_or cubes n cube → IsEndOf g s p (carried_at_end g order rows s p) cube
end_here g order rows scenarios p cubes are n s cube inside at read = record {
  cube = λ on. subst (IsCubeOf g.faults (carried_at_end g order rows s p))
      (sym (read ∙ get_or_default cubes n cube [] (omega (arith, inside, are.count))))
      (subst (λ u. IsCubeOf g.faults (carried_at_end g order rows u p) (get_or cubes n [])) (sym at)
      (are.each n s inside (subst (λ (u : Scenario). active g u.values p ≡ true) at on)));
  decided = decided_at_end g order rows s p;
}
