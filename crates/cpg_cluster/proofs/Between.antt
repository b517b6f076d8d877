-- What code computes of members is what is defined of the state of the cluster: whom a node waits on, and which frames
-- arrive.
use Rattle.std.proofs.Common.{◌≡◌, ℕ, ◌<◌, ◌+◌, Bool, ◌&&◌, ◌||◌, ◌==◌, List, [], ◌∷◌, ◌++◌, length, map, filter}
use Rattle.std.proofs.Common.{get_or, Option, refl, sym, ap, ◌∙◌, subst, arith, inl, inr}
use Rattle.std.specs.Prelude.{option_to_list, nat_le}
use Rattle.std.specs.Option.{option_map_or}
use Rattle.std.specs.List.{flat_map, list_any}
use Rattle.std.proofs.lemmas.Bool.{cases_lt}
use Rattle.std.proofs.lemmas.List.{get_or-map, length-map, get_or_past}
use Rattle.std.proofs.lemmas.Option.{slice_get-get_or, slice_get_past}
use Rattle.cpg_base.specs.Numbers.{numbers_below}
use Rattle.cpg_base.specs.Graph.{Graph, home, item_at}
use Rattle.cpg_base.specs.declared.item.Item.{Item}
use Rattle.cpg_base.specs.declared.item.Item.TheVariants.{Start, Message, Broadcast}
use Rattle.cpg_base.specs.Bus.{slot_length}
use Rattle.cpg_base.proofs.Lists.{same_filter, same_flat_map, numbers-Contains}
use Rattle.cpg_table.specs.Table.{Row}
use Rattle.cpg_cube.specs.declared.column.Column.{Column}
use Rattle.cpg_node.specs.Dispatcher.{Dispatcher, Act, next, zip_with}
use Rattle.cpg_node.proofs.Next.{zip_with-map}
use Rattle.cpg_cluster.specs.Cluster.{World, dispatcher_at, waits_on, answer_by, frame_of_item, frames_of_row}
use Rattle.cpg_cluster.specs.Cluster.{frames_now}
use Rattle.cpg_cluster.specs.Taking.{value_of_item, frames_from}
use Rattle.cpg_cluster.specs.Keeping.{waits_by, waits_between, frames_of_sender, frames_by, AllFit}
use Rattle.cpg_cluster.specs.Kept.{cluster_of}
use Rattle.cpg_cluster.specs.declared.member.Member.{Member}

-- one of the mapped values is true if and only if one of the elements passes; by induction on `xs`
pub any_map : {X : Type 0} (f : X → Bool) (xs : List X) → list_any (λ w. w) (map f xs) ≡ list_any f xs
any_map f [] = refl
any_map f (x ∷ xs) = ap (λ b. f x || b) (any_map f xs)

-- to map a list and to join the results is one flat map; by induction on `xs`
pub flat_id : {X Y : Type 0} (f : X → List Y) (xs : List X) → flat_map (λ l. l) (map f xs) ≡ flat_map f xs
flat_id f [] = refl
flat_id f (x ∷ xs) = ap (λ l. f x ++ l) (flat_id f xs)

-- the dispatcher of node `b` is that of member `b`; the default `d` isn't read
pub dispatcher_is : (ms : List Member) (b : ℕ) (d : Member) → b < length ms →
    dispatcher_at (cluster_of ms) b ≡ (get_or ms b d).node.dispatcher
dispatcher_is ms b d within = get_or-map (λ (m : Member). m.node.dispatcher) ms b d _ within

-- given one of the members of a cluster, each of which keeps what it should
module _ (g : Graph) (ms : List Member) (fits : AllFit g ms) (a : ℕ) (m : Member)
    (here : (d : Member) → get_or ms a d ≡ m) (within : a < length ms) where
  -- the member's list of senders has the home of each row that it hears
  senders_are : m.senders.items ≡ map (λ (row : Row). home g row.item) m.node.dispatcher.table.hears
  senders_are =
      subst (λ (m : Member). m.senders.items ≡ map (λ (row : Row). home g row.item) m.node.dispatcher.table.hears)
      (here m) (fits a m within).senders

  -- the member's own table is that of its dispatcher in the cluster
  table_is : (dispatcher_at (cluster_of ms) a).table ≡ m.node.dispatcher.table
  table_is = ap (λ (d : Dispatcher). d.table) (dispatcher_is ms a m within
      ∙ ap (λ (m : Member). m.node.dispatcher) (here m))

  -- By the members, node `a` waits on node `b` exactly if it does by the state: member `b` has the next instant and the
  -- slot length of its node, and member `a` the hear rows of its node with their senders.
  waits_is : (time b : ℕ) (d : Member) → b < length ms →
      waits_between time m b (get_or ms b d) ≡ waits_on g (cluster_of ms) a time b
  waits_is time b d inside =
      let other = get_or ms b d in
      ap (λ ss. list_any (λ w. w)
      (zip_with (waits_by b time (next other.node.dispatcher) other.slot) m.node.dispatcher.table.hears ss)) senders_are
      ∙ ap (list_any (λ w. w)) (zip_with-map (waits_by b time (next other.node.dispatcher) other.slot)
      (λ (row : Row). home g row.item) m.node.dispatcher.table.hears)
      ∙ any_map (λ (row : Row). waits_by b time (next other.node.dispatcher) other.slot row (home g row.item))
      m.node.dispatcher.table.hears
      ∙ (λ i. list_any (λ (row : Row). (home g row.item == b) && list_any (λ (col : Column).
      nat_le col.time time && list_any (λ u. nat_le (u + slot i) col.time) (option_to_list (comes i)))
      row.columns) (rows i))
    where
      -- the member at b knows the length of its node's slot
      slot : (get_or ms b d).slot ≡ slot_length g b
      slot = (fits b d inside).slot

      -- its next instant is that of its dispatcher
      comes : next (get_or ms b d).node.dispatcher ≡ next (dispatcher_at (cluster_of ms) b)
      comes = sym (ap next (dispatcher_is ms b d inside))

      -- the rows that the member hears are those of its dispatcher
      rows : m.node.dispatcher.table.hears ≡ (dispatcher_at (cluster_of ms) a).table.hears
      rows = sym (ap (λ t. t.hears) table_is)

  -- by the members, a node waits on the same node as by the state of the cluster
  pub answer_is : (time : ℕ) (d : Member) →
      answer_by (filter (λ b. waits_between time m b (get_or ms b d)) (numbers_below (length ms)))
      ≡ answer_by (filter (waits_on g (cluster_of ms) a time) (numbers_below (length (cluster_of ms).nodes)))
  answer_is time d = ap answer_by (same_filter (λ b. waits_between time m b (get_or ms b d))
      (waits_on g (cluster_of ms) a time) (numbers_below (length ms))
      (λ b there. waits_is time b d (numbers-Contains (length ms) b there))
      ∙ ap (λ n. filter (waits_on g (cluster_of ms) a time) (numbers_below n))
      (sym (length-map ms (λ (m : Member). m.node.dispatcher))))

  -- given what happens, and the time of a turn
  module _ (w : World) (time : ℕ) where
    -- a frame carries the value of its item
    frame_is : (i : Item) (act : Act) →
        record { item = act.item; column = act.column; value = value_of_item w.scenario.values i }
        ≡ frame_of_item w i act
    frame_is (Start p) act = refl
    frame_is (Message e) act = refl
    frame_is (Broadcast c) act = refl

    -- by the members, the frames of a row are those by the state: its sender's acts are those of its node
    row_frames : (row : Row) →
        frames_of_sender g w.scenario.values ms time row (home g row.item) ≡ frames_of_row g w (cluster_of ms) time row
    row_frames row = elim (cases_lt (home g row.item) (length ms)) [
      | inl k ↦ ap (λ (o : Option Member).
          option_map_or (λ (m : Member). frames_from value row.item m.slot time m.acts.items) o [])
          (slice_get-get_or ms (home g row.item) m k)
          ∙ (λ i. map (λ (act : Act). frame_is (item_at g row.item) act i) (filter (λ (act : Act).
          (act.item == row.item) && (act.time + (fits (home g row.item) m k).slot i == time)) (sent k i)))
      | inr past ↦ ap (λ (o : Option Member).
          option_map_or (λ (m : Member). frames_from value row.item m.slot time m.acts.items) o [])
          (slice_get_past ms (home g row.item) past)
          ∙ ap (λ acts. map (λ (act : Act). frame_of_item w (item_at g row.item) act) (filter
          (λ (act : Act). (act.item == row.item) && (act.time + slot_length g (home g row.item) == time)) acts))
          (sym (get_or_past (cluster_of ms).acts (home g row.item) []
          (omega (arith, past, length-map ms (λ (m : Member). m.acts.items)))))
    ]
      where
        -- the value of the row's item, if it is a broadcast
        value : Bool
        value = value_of_item w.scenario.values (item_at g row.item)

        -- the acts of the row's sender are those of the cluster
        sent : home g row.item < length ms →
            (get_or ms (home g row.item) m).acts.items ≡ get_or (cluster_of ms).acts (home g row.item) []
        sent less = sym (get_or-map (λ (m : Member). m.acts.items) ms (home g row.item) m [] less)

    -- by the members, the frames that arrive at the time are those by the state
    pub frames_are : (d : Dispatcher) → d.table ≡ m.node.dispatcher.table →
        frames_by g w.scenario.values ms time m.node.dispatcher.table.hears m.senders.items
        ≡ frames_now g w (cluster_of ms) d time
    frames_are d is =
        let hears = m.node.dispatcher.table.hears in
        ap (λ ss. flat_map (λ fs. fs) (zip_with (frames_of_sender g w.scenario.values ms time) hears ss)) senders_are
        ∙ ap (flat_map (λ fs. fs))
        (zip_with-map (frames_of_sender g w.scenario.values ms time) (λ (row : Row). home g row.item) hears)
        ∙ flat_id (λ (row : Row). frames_of_sender g w.scenario.values ms time row (home g row.item)) hears
        ∙ same_flat_map (λ (row : Row). frames_of_sender g w.scenario.values ms time row (home g row.item))
        (frames_of_row g w (cluster_of ms) time) hears (λ row _. row_frames row)
        ∙ sym (ap (λ t. flat_map (frames_of_row g w (cluster_of ms) time) t.hears) is)
