-- How many acts, ends, reports and frames a node has at most in a play.
use Rattle.std.proofs.Common.{◌≡◌, ◌≢◌, ℕ, ◌+◌, ◌<◌, ◌≤◌, Bool, ◌&&◌, ◌==◌, List, [], ◌∷◌, ◌++◌, length, map, filter}
use Rattle.std.proofs.Common.{get_or, Contains, AllPairs, Option, sym, ap, ◌∙◌, subst, arith, inl, inr}
use Rattle.std.proofs.Common.{eqb-true, ne_eqb}
use Rattle.std.specs.List.{flat_map}
use Rattle.std.proofs.lemmas.Bool.{cases_lt, cases_Bool, cond-true, cond-false, and_left, and_parts}
use Rattle.std.proofs.lemmas.List.{length-map, length-append, get_or_past}
use Rattle.cpg_base.specs.Graph.{Graph, item_at, home}
use Rattle.cpg_base.specs.Bus.{slot_length}
use Rattle.cpg_base.proofs.Lists.{Contains-map, Contains-map_parts, filter_none}
use Rattle.cpg_base.proofs.Ordered.{Rises, Rises-weaker}
use Rattle.cpg_base.proofs.Pairs.{AllPairs-cons_by, length-le_of_apart}
use Rattle.cpg_base.specs.Scenario.{fault_of}
use Rattle.cpg_base.specs.Duration.{duration}
use Rattle.cpg_table.specs.Table.{Row, NodeTable, table_at}
use Rattle.cpg_table.specs.Shape.{processes_on}
use Rattle.cpg_table.proofs.Rows.{row_of}
use Rattle.cpg_table.proofs.Settings.{Match, match_once}
use Rattle.cpg_node.specs.Dispatcher.{Dispatcher, Ended, Act}
use Rattle.cpg_cluster.specs.Cluster.{World, Cluster, frame_of_item, frames_of_row, frames_now}
use Rattle.cpg_cluster.proofs.Nodes.{Played}
use Rattle.cpg_cluster.proofs.Asked.{asked_once}
use Rattle.cpg_cluster.proofs.Done.{Before, not_both_ways, Done}
use Rattle.cpg_cluster.proofs.Ends.{Planned, EndsBefore, HasEnded}
use Rattle.cpg_cluster.proofs.Reached.{Reached}
use Rattle.cpg_cluster.proofs.Reporting.{HasReported}

-- what holds of each element and each later one, by recursion, holds of all pairs of places; by induction on `xs`
pairs_of : {X : Type 0} (R : X → X → Type 0) (xs : List X) → Rises R xs → AllPairs R xs
pairs_of R [] rising = λ i j d l m. absurd (omega arith)
pairs_of R (x ∷ xs) rising = AllPairs-cons_by R x xs rising.0 (pairs_of R xs rising.1)

-- if the keys of elements differ, no two of the list of keys are equal; by induction on `xs`
keys_apart : {X : Type 0} (key : X → ℕ) (xs : List X) → Rises (λ a b. key a ≢ key b) xs →
    Rises (λ a b. a ≢ b) (map key xs)
keys_apart key [] differ = tt
keys_apart key (x ∷ xs) differ = (
  λ y there same_key. let other = Contains-map_parts key xs y there in
      differ.0 other.0 other.1 (same_key ∙ sym other.2),
  keys_apart key xs differ.1,
)

-- if the keys of `xs` differ, and each is in `ys`, then `xs` is no longer than `ys`
pub no_more_keys : {X : Type 0} (key : X → ℕ) (xs : List X) (ys : List ℕ) → Rises (λ a b. key a ≢ key b) xs →
    ((x : X) → Contains xs x → Contains ys (key x)) →
    length xs ≤ length ys
no_more_keys key xs ys apart in' = omega (
  arith,
  length-map xs key,
  length-le_of_apart (map key xs) ys (pairs_of (λ a b. a ≢ b) (map key xs) (keys_apart key xs apart))
      (λ y there. let from = Contains-map_parts key xs y there in subst (Contains ys) from.2 (in' from.0 from.1)),
)

-- given a node of a play
module _ {g : Graph} {tables : List NodeTable} {w : World} (played : Played g tables w) (node : ℕ)
    (within : node < length g.nodes) (last : Option ℕ) where
  -- the `acts` that the node has done are of different items, as no item is asked of it twice
  pub acts_apart : (acts : List Act) → Done g tables w.scenario node last acts →
      Rises (λ (a b : Act). a.item ≢ b.item) acts
  acts_apart acts done = Rises-weaker (Before g) (λ (a b : Act). a.item ≢ b.item) acts (λ a b m n before e.
      let same = asked_once played.setting node a b (done.only a m).0 (done.only b n).0 e in
      let self = subst (Before g a) (sym same) before in not_both_ways g a a self self) done.rising

  -- there are no more acts than rows of sends and starts, as each is of a row's item
  pub acts_few : (acts : List Act) → Done g tables w.scenario node last acts →
      length acts ≤ length (table_at tables node).sends + length (table_at tables node).starts
  acts_few acts done =
      let rows = (table_at tables node).starts ++ (table_at tables node).sends in
      omega (
        arith,
        length-append (table_at tables node).starts (table_at tables node).sends,
        length-map rows (λ (row : Row). row.item),
        no_more_keys (λ (a : Act). a.item) acts (map (λ (row : Row). row.item) rows) (acts_apart acts done)
            (λ a m. let row = row_of played.setting.formed played.setting.shape node a.item
            within (done.only a m).0.row in
            subst (Contains (map (λ (this_row : Row). this_row.item) rows)) row.2
            (Contains-map (λ (this_row : Row). this_row.item) rows row.0 row.1)),
      )

  -- there are no more ends than processes of the node, as they are of different ones
  pub ends_few : (ends : List (ℕ × Ended)) → HasEnded g tables w.scenario node last ends →
      length ends ≤ length (processes_on g node)
  ends_few ends ended = no_more_keys (λ (q : ℕ × Ended). q.1.process) ends (processes_on g node)
      (Rises-weaker EndsBefore (λ (a b : ℕ × Ended). a.1.process ≢ b.1.process) ends
      (λ a b m n before e. differ a b (ended.only a m).0 (ended.only b n).0 e before) ended.rising)
      (λ report m. let reported = (ended.only report m).0 in
      subst (Contains (processes_on g node)) (ap (λ (e : Ended). e.process) reported.is) reported.on)
    where
      -- planned ends `a` and `b` of one process are at the same time, since one column of it matches, so neither is
      -- before the other
      differ : (a b : ℕ × Ended) → Planned g tables w.scenario node a → Planned g tables w.scenario node b →
          a.1.process ≡ b.1.process → EndsBefore a b → ⊥
      differ a b plan_a plan_b same_process before =
          let same : plan_a.process ≡ plan_b.process =
          ap (λ (e : Ended). e.process) plan_a.is ∙ same_process ∙ sym (ap (λ (e : Ended). e.process) plan_b.is) in
          let one = match_once played.setting plan_b.process plan_a.column plan_b.column
          (subst (λ x. Match tables w.scenario x plan_a.column) same plan_a.match) plan_b.match in
          let times : a.0 ≡ b.0 =
          sym plan_a.time ∙ (λ i. (one i).time + duration g (same i) (fault_of w.scenario (same i))) ∙ plan_b.time in
          elim before [ inl less ↦ omega arith | inr r ↦ omega (arith, r.1, same_process) ]

  -- there are no more reports than processes of the node, as they are of different ones
  pub reports_few : (reports : List (ℕ × Ended)) → HasReported g tables w node last reports →
      length reports ≤ length (processes_on g node)
  reports_few reports d = no_more_keys (λ (q : ℕ × Ended). q.1.process) reports (processes_on g node) d.apart
      (λ report m. let reported = (d.only report m).0 in
      subst (Contains (processes_on g node)) (sym reported.is) reported.on)

-- Frames: at most one of each row.

-- of acts of different items, at most one is of an item; by induction on `acts`
one_item : (test : Act → Bool) (x : ℕ) (acts : List Act) → Rises (λ (a b : Act). a.item ≢ b.item) acts →
    length (filter (λ (a : Act). (a.item == x) && test a) acts) ≤ 1
one_item test x [] rising = omega arith
one_item test x (a ∷ acts) rising = elim (cases_Bool ((a.item == x) && test a)) [
  -- the first act is of the item, so none of the others is
  | inl holds ↦ omega (
    arith,
    ap (λ (l : List Act). length l) (cond-true _ (a ∷ filter (λ (a : Act). (a.item == x) && test a) acts)
        (filter (λ (a : Act). (a.item == x) && test a) acts) holds),
    ap (λ (l : List Act). length l) (filter_none (λ (a : Act). (a.item == x) && test a) acts
        (λ b m. and_left (b.item == x) (test b)
        (ne_eqb b.item x (λ e. rising.0 b m (eqb-true a.item x (and_parts (a.item == x) (test a) holds).0 ∙ sym e))))),
  )
  -- it isn't counted
  | inr fails ↦ omega (
    arith,
    ap (λ (l : List Act). length l) (cond-false _ (a ∷ filter (λ (a : Act). (a.item == x) && test a) acts)
        (filter (λ (a : Act). (a.item == x) && test a) acts) fails),
    one_item test x acts rising.1,
  )
]

-- if each element gives at most one result, there are no more results than elements; by induction on `xs`
few_in_all : {X Y : Type 0} (f : X → List Y) (xs : List X) → ((x : X) → length (f x) ≤ 1) →
    length (flat_map f xs) ≤ length xs
few_in_all f [] h = omega arith
few_in_all f (x ∷ xs) h = omega (arith, length-append (f x) (flat_map f xs), h x, few_in_all f xs h)

-- at most one frame of each hear row arrives at a time, so there are no more frames than dispatcher `d` has hear rows
pub frames_few : {g : Graph} {tables : List NodeTable} {w : World} (played : Played g tables w) (c : Cluster)
    (reached : Reached g tables w c) (d : Dispatcher) (time : ℕ) →
    length (frames_now g w c d time) ≤ length d.table.hears
frames_few {g = g} {tables = tables} {w = w} played c reached d time = few_in_all
    (frames_of_row g w c time) d.table.hears
    (λ row. row_few row (get_or c.acts (home g row.item) []) (apart (home g row.item)))
  where
    -- the acts that `node` has done are of different items
    apart : (node : ℕ) → Rises (λ (a b : Act). a.item ≢ b.item) (get_or c.acts node [])
    apart node = elim (cases_lt node (length g.nodes)) [
      | inl within ↦ let state = reached.holds node within in
          acts_apart played node within state.last (get_or c.acts node []) state.done
      | inr past ↦ subst (Rises (λ (a b : Act). a.item ≢ b.item))
          (sym (get_or_past c.acts node [] (omega (arith, past, reached.acts)))) tt
    ]

    -- if `acts` are of different items, at most one frame of the hear row `row` arrives at the time
    row_few : (row : Row) (acts : List Act) → Rises (λ (a b : Act). a.item ≢ b.item) acts →
        length (map (λ act. frame_of_item w (item_at g row.item) act) (filter
        (λ (act : Act). (act.item == row.item) && (act.time + slot_length g (home g row.item) == time)) acts)) ≤ 1
    row_few row acts rising = omega (
      arith,
      length-map (filter (λ (act : Act). (act.item == row.item) && (act.time + slot_length g (home g row.item) == time))
          acts) (λ act. frame_of_item w (item_at g row.item) act),
      one_item (λ (act : Act). act.time + slot_length g (home g row.item) == time) row.item acts rising,
    )
