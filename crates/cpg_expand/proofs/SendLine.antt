-- The tree of a send says no more than what is carried beside it, and the tree of when slots are free then no more
-- than what is left to later items.
use Rattle.std.proofs.Common.{ℕ, ◌≡◌, ◌&&◌, not, Bool, true, false, if◌then◌else◌, List, [], ◌∷◌, ◌++◌, flat_map}
use Rattle.std.proofs.Common.{Option, None, Contains, ◌⊎◌, refl, sym, ap, ap₂, subst, inl, inr}
use Rattle.std.proofs.lemmas.List.Elements.{Contains-append_cases, Contains-append_left, Contains-append_right}
use Rattle.cpg_base.specs.Graph.{Graph, process_at, item_at, is_frozen, producer}
use Rattle.cpg_base.specs.Activity.{active, item_active}
use Rattle.cpg_base.proofs.Lists.{Contains-nil}
use Rattle.cpg_bus.specs.Share.{ShareState}
use Rattle.cpg_order.specs.Queue.{queued_before}
use Rattle.cpg_base.specs.Order.{before_on_node}
use Rattle.cpg_base.specs.Scenario.{Scenario}
use Rattle.cpg_cube.specs.declared.literal.Literal.{Literal}
use Rattle.cpg_cube.specs.declared.column.Column.{Column}
use Rattle.cpg_run.specs.Carried.{number_known, decided, heard, received, passed, carried_at_start, carried_at_end}
use Rattle.cpg_run.specs.Carried.{carried_at_send, sent_by_value, queued}
use Rattle.cpg_tree.specs.Space.{HasAtMostFaults}
use Rattle.cpg_tree.specs.Tree.{TreeState}
use Rattle.cpg_expand.specs.Agreeing.{HasValueFrom}
use Rattle.cpg_expand.specs.Sending.{IsSentTree, IsFreeTree}
use Rattle.cpg_tree_times.specs.Values.{slot_from}
use Rattle.cpg_tree.specs.Later.{time_later}
use Rattle.cpg_expand.proofs.AgreeingTrees.{agrees_weaker}

-- given: an order, rows, and a scenario within the graph's faults
module _ (g : Graph) (order : List ℕ) (rows : List (List Column)) (s : Scenario)
    (few : HasAtMostFaults g.faults s) where
  -- what decides a process is carried beside its end
  decided_at_end : (p : ℕ) (l : Literal) → Contains (decided g s p) l → Contains (carried_at_end g order rows s p) l
  decided_at_end p l decides =
      Contains-append_left (carried_at_start g order rows s p) (number_known s p ∷ []) l (by (process_at g p).frozen)
    where
      -- all that an unfrozen process carries at its start
      all : List Literal
      all = flat_map (passed g rows s) (before_on_node g order p) ++ decided g s p ++ heard g rows s p
          ++ received g rows s p

      -- whether the process is frozen or not, what decides it is among what it carries
      by : (f : Bool) → Contains (if f then decided g s p else all) l
      by true = decides
      by false = Contains-append_left (flat_map (passed g rows s) (before_on_node g order p) ++ decided g s p
          ++ heard g rows s p) (received g rows s p) l
          (Contains-append_left (flat_map (passed g rows s) (before_on_node g order p) ++ decided g s p)
          (heard g rows s p) l
          (Contains-append_right (flat_map (passed g rows s) (before_on_node g order p)) (decided g s p) l decides))

  -- given: an item, and a tree of where it goes, which says no more than what decides that
  -- `acts`: item x is active only if its producer is; `goes`, `of_goes`: where x goes, by the literals `says` in the
  -- scenario
  -- `at_most`: each of these literals is one that decides the producer, or one by which an active producer sends x
  module _ (x : ℕ) (acts : item_active g s.values (item_at g x) ≡ true → active g s.values (producer g x) ≡ true)
      (says : List Literal) (goes : TreeState Bool)
      (of_goes : HasValueFrom s says (item_active g s.values (item_at g x)) goes)
      (at_most : (l : Literal) → Contains says l → Contains (decided g s (producer g x)) l ⊎
      ((active g s.values (producer g x) ≡ true) × Contains (sent_by_value g s x) l)) where
    -- what the items before x in the queue leave to it
    abbrev before_it : List Literal
    before_it = flat_map (queued g order rows s) (queued_before g order x)

    -- what x carries if it isn't frozen, apart from the value by which it is sent
    abbrev unfrozen_says : List Literal
    unfrozen_says = before_it ++ carried_at_end g order rows s (producer g x)

    -- an item that isn't frozen carries these literals and that value's
    thawed_says : is_frozen g x ≡ false → (l : Literal) → Contains (unfrozen_says ++ sent_by_value g s x) l →
        Contains (carried_at_send g order rows s x) l
    thawed_says thawed l listed = subst (λ (f : Bool).
        Contains ((if f then decided g s (producer g x) else unfrozen_says) ++ sent_by_value g s x) l)
        (sym thawed) listed

    -- if x isn't frozen, `tree` says when x is sent in s, by what is carried at the send: in the first slot from the
    -- end of its producer (`ended`) and from when slots are free (y), or never if x isn't active
    pub send_line : is_frozen g x ≡ false →
        (share : ShareState) (end : TreeState (Option ℕ)) (free : TreeState ℕ) (tree : TreeState (Option ℕ))
        (ended : Option ℕ) (y : ℕ) →
        IsSentTree g.faults share goes end free tree →
        (item_active g s.values (item_at g x) ≡ true →
        HasValueFrom s (carried_at_end g order rows s (producer g x)) ended end) → HasValueFrom s before_it y free →
        HasValueFrom s (carried_at_send g order rows s x)
        (if item_active g s.values (item_at g x) then slot_from share y ended else None) tree
    send_line thawed share end free tree ended y sends ends frees =
        agrees_weaker s tree (says ++ (if item_active g s.values (item_at g x)
        then carried_at_end g order rows s (producer g x) ++ before_it else [])) (carried_at_send g order rows s x)
        (λ z. z ≡ (if item_active g s.values (item_at g x) then slot_from share y ended else None))
        (λ z. z ≡ (if item_active g s.values (item_at g x) then slot_from share y ended else None)) within
        (λ z equal. equal)
        (sends s few (item_active g s.values (item_at g x)) says
        (carried_at_end g order rows s (producer g x)) before_it ended y of_goes (λ on. (ends on, frees)))
      where
        -- the literals of where x goes are carried: those that decide its producer, and those of a value by which it is
        -- sent
        of_says : (l : Literal) →
            Contains (decided g s (producer g x)) l ⊎
            ((active g s.values (producer g x) ≡ true) × Contains (sent_by_value g s x) l) →
            Contains (carried_at_send g order rows s x) l
        of_says l (inl decides) = thawed_says thawed l (Contains-append_left unfrozen_says (sent_by_value g s x) l
            (Contains-append_right before_it (carried_at_end g order rows s (producer g x)) l
            (decided_at_end (producer g x) l decides)))
        of_says l (inr by_sending) =
            thawed_says thawed l (Contains-append_right unfrozen_says (sent_by_value g s x) l by_sending.1)

        -- so are the literals of the time: those of the producer's end and of what is queued before x
        of_time : (b : Bool) (l : Literal) →
            Contains (if b then carried_at_end g order rows s (producer g x) ++ before_it else []) l →
            Contains (carried_at_send g order rows s x) l
        of_time false l listed = absurd (Contains-nil l listed)
        of_time true l listed = thawed_says thawed l (Contains-append_left unfrozen_says (sent_by_value g s x) l
            (swapped l (Contains-append_cases (carried_at_end g order rows s (producer g x)) before_it l listed)))
          where
            -- the same two parts in the other order
            swapped : (l : Literal) → Contains (carried_at_end g order rows s (producer g x)) l ⊎ Contains before_it l →
                Contains unfrozen_says l
            swapped l (inl at_end) = Contains-append_right before_it (carried_at_end g order rows s (producer g x)) l
                at_end
            swapped l (inr before) = Contains-append_left before_it (carried_at_end g order rows s (producer g x)) l
                before

        -- so is all that the tree of the send says
        within : (l : Literal) →
            Contains (says ++ (if item_active g s.values (item_at g x)
            then carried_at_end g order rows s (producer g x) ++ before_it else [])) l →
            Contains (carried_at_send g order rows s x) l
        within l listed = elim (Contains-append_cases says (if item_active g s.values (item_at g x)
            then carried_at_end g order rows s (producer g x) ++ before_it else []) l listed) [
              | inl in_first ↦ of_says l (at_most l in_first)
              | inr in_second ↦ of_time (item_active g s.values (item_at g x)) l in_second
            ]

    -- `tree` says from when on slots are free after x, by what x and the items before it leave: `turn` after x's time,
    -- or if x isn't active from when on they were before (y)
    pub free_line : (turn : ℕ) (sent : TreeState (Option ℕ)) (free tree : TreeState ℕ) (time : Option ℕ) (y : ℕ) →
        IsFreeTree g.faults turn goes sent free tree →
        HasValueFrom s (carried_at_send g order rows s x) time sent → HasValueFrom s before_it y free →
        HasValueFrom s (before_it ++ queued g order rows s x)
        (if item_active g s.values (item_at g x) then time_later turn time else y) tree
    free_line turn sent free tree time y frees sends waits =
        agrees_weaker s tree (says ++ time_says) (before_it ++ queued g order rows s x) (λ z. z ≡ free_time)
        (λ z. z ≡ free_time) within (λ z equal. equal)
        (frees s few (item_active g s.values (item_at g x)) says time_says time y free_time of_goes by_send by_wait)
      where
        -- what says when the slots are free: the send's literals if x goes, and else those of what is queued before it
        time_says : List Literal
        time_says = if item_active g s.values (item_at g x) then carried_at_send g order rows s x else before_it

        -- when they are free: `turn` after the send if x goes, and else as before
        free_time : ℕ
        free_time = if item_active g s.values (item_at g x) then time_later turn time else y

        -- if x goes, its time in the run decides
        by_send : item_active g s.values (item_at g x) ≡ true →
            HasValueFrom s time_says time sent × (free_time ≡ time_later turn time)
        by_send goes_there = (
          subst (λ (b : Bool). HasValueFrom s (if b then carried_at_send g order rows s x else before_it) time sent)
              (sym goes_there) sends,
          ap (λ (b : Bool). if b then time_later turn time else y) goes_there,
        )

        -- if x doesn't go, the slots are free when they were before
        by_wait : item_active g s.values (item_at g x) ≡ false → HasValueFrom s time_says y free × (free_time ≡ y)
        by_wait stays = (
          subst (λ (b : Bool). HasValueFrom s (if b then carried_at_send g order rows s x else before_it) y free)
              (sym stays) waits,
          ap (λ (b : Bool). if b then time_later turn time else y) stays,
        )

        -- the literals of the value by which an active producer sends x
        value_part : List Literal
        value_part = if active g s.values (producer g x) then sent_by_value g s x else []

        -- the literals of the producer's end, if x goes and isn't frozen
        end_part : List Literal
        end_part = if item_active g s.values (item_at g x) && not (is_frozen g x)
            then carried_at_end g order rows s (producer g x) else []

        -- what decides the producer is left to the items behind x
        by_decided : (l : Literal) → Contains (decided g s (producer g x)) l →
            Contains (before_it ++ queued g order rows s x) l
        by_decided l decides = Contains-append_right before_it (queued g order rows s x) l
            (Contains-append_left (decided g s (producer g x) ++ value_part) end_part l
            (Contains-append_left (decided g s (producer g x)) value_part l decides))

        -- so is the value by which it sends x
        by_value : active g s.values (producer g x) ≡ true → (l : Literal) → Contains (sent_by_value g s x) l →
            Contains (before_it ++ queued g order rows s x) l
        by_value on l listed = Contains-append_right before_it (queued g order rows s x) l
            (Contains-append_left (decided g s (producer g x) ++ value_part) end_part l
            (Contains-append_right (decided g s (producer g x)) value_part l
            (subst (λ (b : Bool). Contains (if b then sent_by_value g s x else []) l) (sym on) listed)))

        -- so is what its end carries, if x goes and isn't frozen
        by_end : item_active g s.values (item_at g x) ≡ true → is_frozen g x ≡ false → (l : Literal) →
            Contains (carried_at_end g order rows s (producer g x)) l →
            Contains (before_it ++ queued g order rows s x) l
        by_end on thawed l at_end = Contains-append_right before_it (queued g order rows s x) l
            (Contains-append_right (decided g s (producer g x) ++ value_part) end_part l
            (subst (λ (b : Bool). Contains (if b then carried_at_end g order rows s (producer g x) else []) l)
            (sym (ap₂ (λ b c. b && not c) on thawed)) at_end))

        -- so is all that the send of x carries, by whether x is frozen
        of_sent : item_active g s.values (item_at g x) ≡ true → (f : Bool) → is_frozen g x ≡ f → (l : Literal) →
            Contains ((if f then decided g s (producer g x) else unfrozen_says) ++ sent_by_value g s x) l →
            Contains (before_it ++ queued g order rows s x) l
        of_sent on true frozen l listed =
            elim (Contains-append_cases (decided g s (producer g x)) (sent_by_value g s x) l listed) [
              | inl in_first ↦ by_decided l in_first
              | inr in_second ↦ by_value (acts on) l in_second
            ]
        of_sent on false thawed l listed = elim (Contains-append_cases unfrozen_says (sent_by_value g s x) l listed) [
          | inr in_second ↦ by_value (acts on) l in_second
          | inl in_first ↦ elim (Contains-append_cases before_it (carried_at_end g order rows s (producer g x)) l
              in_first) [
                | inl before ↦ Contains-append_left before_it (queued g order rows s x) l before
                | inr at_end ↦ by_end on thawed l at_end
              ]
        ]

        -- so is what says when the slots are free, by whether x goes
        of_second : (b : Bool) → item_active g s.values (item_at g x) ≡ b → (l : Literal) →
            Contains (if b then carried_at_send g order rows s x else before_it) l →
            Contains (before_it ++ queued g order rows s x) l
        of_second true goes_there l listed = of_sent goes_there (is_frozen g x) refl l listed
        of_second false is_b l before = Contains-append_left before_it (queued g order rows s x) l before

        -- so is what says where x goes
        of_says : (l : Literal) →
            Contains (decided g s (producer g x)) l ⊎
            ((active g s.values (producer g x) ≡ true) × Contains (sent_by_value g s x) l) →
            Contains (before_it ++ queued g order rows s x) l
        of_says l (inl decides) = by_decided l decides
        of_says l (inr by_sending) = by_value by_sending.0 l by_sending.1

        -- so is all that the tree of the free slots says
        within : (l : Literal) → Contains (says ++ time_says) l → Contains (before_it ++ queued g order rows s x) l
        within l listed = elim (Contains-append_cases says time_says l listed) [
          | inl in_first ↦ of_says l (at_most l in_first)
          | inr in_second ↦ of_second (item_active g s.values (item_at g x)) refl l in_second
        ]
