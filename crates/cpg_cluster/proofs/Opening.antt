-- A cluster before its first turns: its members are open, with the room for a play, and its state is that before a play.
use Rattle.std.proofs.Common.{◌≡◌, ℕ, ◌+◌, ◌<◌, false, List, [], ◌∷◌, ◌++◌, length, map, filter, get_or, replicate}
use Rattle.std.proofs.Common.{Contains, None, drop, sym, ap, ◌∙◌, subst, arith, inl, inr}
use Rattle.std.specs.Prelude.{All}
use Rattle.std.proofs.lemmas.Bool.{cases_eq}
use Rattle.std.proofs.lemmas.List.FromFn.{length-range_with_len}
use Rattle.std.proofs.lemmas.List.{length-append, get_or_append_left, get_or_push, get_or-map, length-map}
use Rattle.std.proofs.lemmas.List.{get_or_default, get_or-replicate, length-replicate, same_lists, get_or-drop}
use Rattle.std.proofs.lemmas.List.{drop-drop}
use Rattle.std.proofs.lemmas.List.Elements.{All-weaker, All-contains_itself}
use Rattle.std.proofs.lemmas.Option.{slice_get-get_or}
use Rattle.cpg_base.specs.Graph.{Graph, home, item_count, item_at, process_count, is_heard_by}
use Rattle.cpg_base.specs.Duration.{duration}
use Rattle.cpg_base.specs.Limits.{IsWithinLimits}
use Rattle.cpg_base.specs.Numbers.{numbers_below}
use Rattle.cpg_base.specs.Scenario.{full_lengths, IsScenario, Scenario, fault_of}
use Rattle.cpg_base.specs.WellFormed.{WellFormed}
use Rattle.cpg_base.proofs.Lists.{Contains-map_parts, Contains-filter_parts, numbers-Contains, get_or-map-below}
use Rattle.cpg_table.specs.Table.{NodeTable, Row, table_at, empty_table}
use Rattle.cpg_head.specs.GraphHead.{head_of}
use Rattle.cpg_table.specs.Lawful.{AreTablesOf}
use Rattle.cpg_table.specs.Valid.{IsValid, hear_row, hear_rows}
use Rattle.cpg_table.proofs.GraphTables.{has_shape}
use Rattle.cpg_node.specs.Dispatcher.{Dispatcher, initial_dispatcher}
use Rattle.cpg_node.specs.State.{NodeState}
use Rattle.cpg_cluster.specs.Cluster.{World, dispatchers_from, initial_cluster}
use Rattle.cpg_cluster.specs.Correct.{IsWorld, IsCorrect}
use Rattle.cpg_cluster.specs.Playing.{IsPlaying, opened}
use Rattle.cpg_cluster.specs.Keeping.{AreIndexed, noted_of, IsOpen, AreOpen, HearsItems, AllFit}
use Rattle.cpg_cluster.specs.Kept.{cluster_of}
use Rattle.cpg_cluster.specs.declared.member.Member.{Member}
use Rattle.cpg_cluster.proofs.Owning.{own_is}
use Rattle.cpg_cluster.proofs.Passed.{played_open}
use Rattle.cpg_cluster.proofs.Plays.{valid_tables_are_correct}
use Rattle.cpg_cluster.proofs.Reached.{dispatchers_at, dispatchers_count}
use Rattle.cpg_cluster.proofs.Stepping.{tables_of, play_of}

-- the member at place `i` of the list `ms`
get_member : (ms : List Member) (i : ℕ) → i < length ms → Member
get_member [] i within = absurd (omega arith)
get_member (m ∷ ms) i within = m

-- if the first `n` nodes are open, and member `m` is open as node `n` with its table, the first `n + 1` nodes are open
pub open_more : (g : Graph) (tables : List NodeTable) (n : ℕ) (ms : List Member) (m : Member) → AreOpen g tables n ms →
    IsOpen g n (table_at tables n) m →
    AreOpen g tables (n + 1) (ms ++ m ∷ [])
open_more g tables n ms m a o = record {
  count = omega (arith, length-append ms (m ∷ []), a.count);
  each = λ i d l. elim (cases_eq i n) [
    | inl e ↦ subst (λ i. IsOpen g i (table_at tables i) (get_or (ms ++ m ∷ []) i d)) (sym e)
        (subst (IsOpen g n (table_at tables n)) (sym (get_or_push ms m d n a.count)) o)
    | inr ne ↦ subst (IsOpen g i (table_at tables i))
        (sym (get_or_append_left ms (m ∷ []) d i (omega (arith, a.count)))) (a.each i d (omega arith))
  ];
}

-- if `t` is the first of the tables that are left after `n`, and member `m` is open with it as node `n`, the first `n +
-- 1` nodes are open, and `rest` is left of the tables
pub open_next : (g : Graph) (tables : List NodeTable) (n number after : ℕ) (t : NodeTable) (rest : List NodeTable)
    (ms : List Member) (m : Member) → AreOpen g tables n ms →
    drop n tables ≡ t ∷ rest →
    number ≡ n → after ≡ n + 1
    → IsOpen g number t m → AreOpen g tables after (ms ++ m ∷ []) × (drop after tables ≡ rest)
open_next g tables n number after t rest ms m a left is next o =
    let at : table_at tables n ≡ t = ap (λ i. get_or tables i empty_table) (omega arith)
    ∙ (sym (get_or-drop n tables 0 empty_table) ∙ ap (λ ts. get_or ts 0 empty_table) left) in
    let more =
    open_more g tables n ms m a (subst (λ t. IsOpen g n t m) (sym at) (subst (λ n. IsOpen g n t m) is o)) in (
      subst (λ k. AreOpen g tables k (ms ++ m ∷ [])) (sym next) more,
      ap (λ k. drop k tables) next ∙ (sym (drop-drop 1 n tables) ∙ ap (drop 1) left),
    )

-- by valid tables node `i` hears only items of the graph
pub hears_items : (g : Graph) (tables : List NodeTable) → IsValid g tables → (i : ℕ) → i < length tables →
    HearsItems g (table_at tables i)
hears_items g tables valid i within = subst (All (λ (row : Row). row.item < item_count g))
    (sym (valid.hears i (table_at tables i) (slice_get-get_or tables i empty_table within)))
    (All-weaker (Contains (hear_rows g tables i)) (λ (row : Row). row.item < item_count g) (λ row listed.
    let item = Contains-map_parts (hear_row g tables)
    (filter (λ x. is_heard_by g i (item_at g x)) (numbers_below (item_count g))) row listed in
    let kept = Contains-filter_parts (λ x. is_heard_by g i (item_at g x))
    (numbers_below (item_count g)) item.0 item.1 in
    subst (λ (row : Row). row.item < item_count g) item.2 (numbers-Contains (item_count g) item.0 kept.0))
    (hear_rows g tables i)
    (All-contains_itself (hear_rows g tables i)))

-- given the members of a graph's tables before their first turns
module _ (g : Graph) (tables : List NodeTable) (w : World) (within : IsWithinLimits g)
    (of : AreTablesOf (head_of g) tables) (ms : List Member) (open' : AreOpen g tables (length tables) ms) where
  -- the dispatcher of member `i` is that of its table before the first turn
  table_here : (i : ℕ) (d : Member) → i < length tables →
      (get_or ms i d).node.dispatcher ≡ initial_dispatcher (table_at tables i)
  table_here i d inside = ap (λ (s : NodeState). s.dispatcher) (open'.each i d inside).node

  -- the members have these tables
  pub tables_are : tables_of ms ≡ tables
  tables_are =
      same_lists (tables_of ms) tables (length-map ms (λ (m : Member). m.node.dispatcher.table) ∙ open'.count) (λ i t l.
      let in_members : i < length ms = omega (arith, l, length-map ms (λ (m : Member). m.node.dispatcher.table)) in
      get_or-map (λ (m : Member). m.node.dispatcher.table) ms i (get_member ms i in_members) t in_members
      ∙ ap (λ (d : Dispatcher). d.table)
      (table_here i (get_member ms i in_members) (omega (arith, in_members, open'.count)))
      ∙ get_or_default tables i empty_table t (omega (arith, in_members, open'.count)))

  -- the dispatchers of the members are those of the tables, before any turn
  nodes_are : (cluster_of ms).nodes ≡ dispatchers_from g 0 tables
  nodes_are = same_lists (cluster_of ms).nodes (dispatchers_from g 0 tables)
      (length-map ms (λ (m : Member). m.node.dispatcher) ∙ open'.count ∙ sym (dispatchers_count g 0 tables)) (λ i d l.
      let in_members : i < length ms = omega (arith, l, length-map ms (λ (m : Member). m.node.dispatcher)) in
      let has_table : i < length tables = omega (arith, in_members, open'.count) in
      get_or-map (λ (m : Member). m.node.dispatcher) ms i (get_member ms i in_members) d in_members
      ∙ table_here i (get_member ms i in_members) has_table
      ∙ ap initial_dispatcher (sym (own_is g tables within of i has_table)) ∙
      sym (dispatchers_at g 0 tables i i d empty_table has_table (omega arith)))

  -- if `f`, for example the acts, gives an empty list for each member, the lists of all are those of the state before
  -- the first turns
  none_are : {X : Type 0} (f : Member → List X) → ((i : ℕ) (d : Member) → i < length tables → f (get_or ms i d) ≡ []) →
      map f ms ≡ replicate (length tables) []
  none_are f h = same_lists (map f ms) (replicate (length tables) [])
      (length-map ms f ∙ open'.count ∙ sym (length-replicate (length tables) [])) (λ i d l.
      let in_members : i < length ms = omega (arith, l, length-map ms f) in
      let has_table : i < length tables = omega (arith, in_members, open'.count) in
      get_or-map f ms i (get_member ms i in_members) d in_members ∙ h i (get_member ms i in_members) has_table
      ∙ sym (get_or-replicate (length tables) i [] d has_table))

  -- the members' state is the one before the first turns
  pub cluster_is : cluster_of ms ≡ initial_cluster g tables
  cluster_is = λ i. record {
    nodes = nodes_are i;
    acts = none_are (λ (m : Member). m.acts.items) (λ i d l. (open'.each i d l).acts) i;
    ends = none_are (λ (m : Member). m.ends.items) (λ i d l. (open'.each i d l).ends) i;
    reports = none_are (λ (m : Member). m.reports.items) (λ i d l. (open'.each i d l).reports) i;
  }

  -- the members' play is the one before the first turn
  pub play_is : play_of g w ms ≡ opened g tables w
  play_is = λ i. record { graph = g; tables = tables_are i; world = w; cluster = cluster_is i }

  -- in a world of the graph, it is a play of valid tables
  pub playing_open : WellFormed g → IsValid g tables → IsWorld g w → IsPlaying (play_of g w ms)
  playing_open f v possible = subst IsPlaying (sym play_is)
      (record {
        limits = within;
        formed = f;
        lawful = of;
        shape = has_shape g within tables of;
        valid = v;
        world = possible;
        played = played_open g tables w;
      })

  -- each member keeps what it should, and has the room for a play
  pub fits_open : AllFit g ms
  fits_open i d l =
      let opened = open'.each i d (omega (arith, l, open'.count)) in
      let same_table : (get_or ms i d).node.dispatcher.table ≡ table_at tables i =
      ap (λ (s : NodeState). s.dispatcher.table) opened.node in
      record {
        senders = opened.senders ∙ ap (λ (t : NodeTable). map (λ (row : Row). home g row.item)
            t.hears) (sym same_table);
        slot = opened.slot;
        arrivals = subst (λ (t : NodeTable). AreIndexed t.hears (get_or ms i d).senders.items (length g.nodes)
            (get_or ms i d).arrivals.items) (sym same_table) opened.arrivals;
        noted = opened.noted ∙ ap (noted_of (item_count g)) (sym opened.acts);
        acts = omega (arith, opened.acts_room, ap (λ (t : NodeTable). length t.sends + length t.starts) same_table);
        ends = omega (arith, opened.ends_room, ap (λ (t : NodeTable). length t.own) same_table);
        reports = omega (arith, opened.reports_room, ap (λ (t : NodeTable). length t.own) same_table);
      }

-- valid tables play correctly
pub correct_open : (g : Graph) (tables : List NodeTable) → IsWithinLimits g → AreTablesOf (head_of g) tables →
    WellFormed g → IsValid g tables →
    IsCorrect g tables
correct_open g tables within of formed valid = valid_tables_are_correct g tables formed
    (has_shape g within tables of) valid

-- a scenario `s` with its full lengths is a world, as a duration is at least 1
pub full_world : (g : Graph) (s : Scenario) → WellFormed g → IsScenario g s →
    IsWorld g (record { scenario = s; lengths = full_lengths g s })
full_world g s formed is = record {
  scenario = is;
  count = length-map (numbers_below (process_count g)) (λ p. duration g p (fault_of s p))
      ∙ length-range_with_len 0 (process_count g);
  lengths = λ p less. let at = get_or-map-below (λ p. duration g p (fault_of s p)) (process_count g) p 0 less in
      let work = formed.works p
      (record {
        name = [];
        node = 0;
        wcet = 0;
        parts = 1;
        alpha = 0;
        chi = 0;
        mu = 0;
        join = false;
        frozen = false;
        release = 0;
        deadline = None;
      }) less in
      (omega (arith, at, work), omega (arith, at));
}
