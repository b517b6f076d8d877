-- The steps of the walk along an order: what is found for a start, and for an item that may be sent, is right if what
-- was found before is.
use Rattle.std.proofs.Common.{ℕ, ◌+◌, ◌*◌, ◌<◌, ◌≤◌, ◌≡◌, ◌==◌, Bool, true, false, cond, ◌&&◌, ◌||◌, List, [], ◌∷◌}
use Rattle.std.proofs.Common.{◌++◌, length, get_or, set, take, map, filter, flat_map, Contains, refl, sym, ap}
use Rattle.std.proofs.Common.{ap₂, ◌∙◌, subst, ⊎_elim, inl, inr, arith, lt-ltb, le-ltb, eq-eqb, ltb-true}
use Rattle.std.specs.Prelude.{nat_lt}
use Rattle.std.specs.List.{list_any}
use Rattle.std.proofs.lemmas.Bool.{cases_lt, cases_eq, cases_order, and_parts, and_from, both_ways, or_left, or_right}
use Rattle.std.proofs.lemmas.Bool.{and_right}
use Rattle.std.proofs.lemmas.Bool.Decides.{eqb_tells}
use Rattle.std.proofs.lemmas.List.{length-set, get_or-set_same, get_or-set_other, take_more, append-nil}
use Rattle.std.proofs.lemmas.List.Elements.{filter-append}
use Rattle.std.proofs.lemmas.Grind.{flat_map-append}
use Rattle.cpg_base.specs.Numbers.{numbers_below}
use Rattle.cpg_base.specs.Graph.{Graph, process_count, edge_count, condition_count, item_count, item_at, message_item}
use Rattle.cpg_base.specs.Graph.{broadcast_item, process_at, node_of, source, inputs, is_message, is_sent}
use Rattle.cpg_base.specs.Graph.{is_sent_item, is_frozen, producer, home, process_of, value_variable}
use Rattle.cpg_base.specs.declared.item.Item.{Item}
use Rattle.cpg_base.proofs.Lists.{Contains-filter_parts, numbers-Contains, list_any_parts, same_truth, same_filter}
use Rattle.cpg_base.proofs.Lists.{filter_none}
use Rattle.cpg_base.proofs.Inputs.{inputs_parts}
use Rattle.cpg_base.proofs.Items.{item_at-start, process_of_below, start_not_sent}
use Rattle.cpg_order.specs.Urgency.{IsTopological}
use Rattle.cpg_base.specs.Order.{before_on_node, place}
use Rattle.cpg_order.specs.Deciding.{decides, conditions_of, outcomes}
use Rattle.cpg_order.specs.Queue.{queued_before, is_queued_before}
use Rattle.cpg_order.specs.Reach.{Reach, IsReach, is_in, reach_of, end_reach, hearing_reach, source_value, input_reach}
use Rattle.cpg_order.specs.Reach.{start_reach, sent_value, send_reach, reach_by_item}
use Rattle.cpg_base.proofs.Places.{same_place, Contains-order, comes_before_from_places, place-lt, get_or-place}
use Rattle.cpg_order.proofs.Moments.{phase, phases, moment, message_sooner, broadcast_sooner, end_sooner}
use Rattle.cpg_order.proofs.Moments.{moment_of_start, producer_in_range, phase_below, phase_is_rank, queued_sooner}
use Rattle.cpg_order.proofs.Moments.{sooner}
use Rattle.cpg_order.proofs.Acyclic.{input_goes_up, source_in_order}
use Rattle.cpg_order.proofs.DecidingLaws.{decides_earlier}
use Rattle.cpg_order.proofs.ReachExists.{some_reach}
use Rattle.cpg_order.specs.Elements.{SameElements}
use Rattle.cpg_reach.specs.Variables.{Adds}
use Rattle.cpg_reach.specs.Walked.{heard_by, start_by, send_by, known_after, on_node, sent_before, AgreesUntil}
use Rattle.cpg_reach.specs.Walked.{AreEmpty}
use Rattle.cpg_reach.proofs.Adding.{in_append}
use Rattle.cpg_reach.proofs.Settling.{same_append, same_flat_map, same_cond, same_moment, sent_kept, nothing_at_end}

-- four sets may be united in another order
start_parts : (a e b i : Bool) → (((a || e) || b) || i) ≡ (((a || b) || e) || i)
start_parts true e b i = refl
start_parts false true true i = refl
start_parts false true false i = refl
start_parts false false true i = refl
start_parts false false false i = refl

-- five sets may be united in another order
known_parts : (a e b s p : Bool) → ((((a || e) || b) || s) || p) ≡ ((a || b) || (e || (s || p)))
known_parts true e b s p = refl
known_parts false true true s p = refl
known_parts false true false s p = refl
known_parts false false true s p = refl
known_parts false false false s p = refl

-- given: a topological order, and its reach
module _ (g : Graph) (order : List ℕ) (top : IsTopological g order) (r : Reach) (is : IsReach g order r) where
  -- a condition that decides process p is one of the graph, and its process stands before p
  decides_before : (p c : ℕ) → Contains (conditions_of g p) c →
      (c < condition_count g) × (place order (process_of g c) < place order p)
  decides_before p c there =
      let kept = Contains-filter_parts (λ c. list_any (λ o. decides g o p c) (outcomes (condition_count g)))
      (numbers_below (condition_count g)) c there in
      let outcome = list_any_parts (λ o. decides g o p c) (outcomes (condition_count g)) kept.1 in
      let within = numbers-Contains (condition_count g) c kept.0 in
      (within, decides_earlier g order top outcome.0 p c within outcome.2)

  -- given: what is found is right up to moment m
  module _ (k m : ℕ) (rs known sent : List (List ℕ)) (agrees : AgreesUntil g order r k m rs known sent) where
    -- what the end of process q depends on is right, if q starts before moment m
    end_right : (q : ℕ) → q < process_count g → place order q * phases g + 0 < m →
        SameElements (end_reach rs q) (end_reach r q)
    end_right q within h = same_append (reach_of rs q) (q ∷ []) (reach_of r q) (q ∷ [])
        (agrees.reached q (omega arith) (let moment_is = moment_of_start g order top q within in
        omega arith)) (λ v. refl)

    -- what hearing condition c depends on is right, if its process stands before the place of p
    hearing_right : (p c node : ℕ) → place order p * phases g ≤ m → c < condition_count g →
        place order (process_of g c) < place order p →
        SameElements (hearing_reach g rs node c) (hearing_reach g r node c)
    hearing_right p c node d within less = let ends_before = end_sooner g order top p (process_of g c) less in
        same_cond (node_of g (process_of g c) == node) (end_reach rs (process_of g c))
        (reach_of rs (broadcast_item g c)) (end_reach r (process_of g c)) (reach_of r (broadcast_item g c))
        (λ t. end_right (process_of g c) (process_of_below g c within) (omega arith))
        (λ t. agrees.reached (broadcast_item g c) (omega arith) (omega (arith, broadcast_sooner g order top p c less)))

    -- what an input of p depends on is right, since its source stands before p
    input_right : (p e : ℕ) → place order p * phases g ≤ m → Contains (inputs g p) e →
        SameElements (input_reach g rs e) (input_reach g r e)
    input_right p e at_most there =
        let within : e < edge_count g = (inputs_parts g p e there).0 in
        let up = input_goes_up g order top p e there in
        let ends_before = end_sooner g order top p (source g e) up in
        same_append (cond (is_message g e) (reach_of rs (message_item g e)) (end_reach rs (source g e)))
        (source_value g e)
        (cond (is_message g e) (reach_of r (message_item g e)) (end_reach r (source g e))) (source_value g e)
        (same_cond (is_message g e) (reach_of rs (message_item g e)) (end_reach rs (source g e))
        (reach_of r (message_item g e)) (end_reach r (source g e))
        (λ t. agrees.reached (message_item g e) (omega arith) (omega (arith, message_sooner g order top p e within up)))
        (λ t. end_right (source g e) (source_in_order g order top e within) (omega arith)))
        (λ v. refl)

  -- ---- a start

  -- given: what is found before the start of p, and that it is right (`agrees`)
  module _ (p : ℕ) (within : p < process_count g) (rs known sent : List (List ℕ))
      (agrees : AgreesUntil g order r (place order p) (place order p * phases g) rs known sent)
      (there : node_of g p < length g.nodes) where
    -- what hearing the conditions that decide p depends on, by the reaches s
    abbrev heard_own : Reach → List ℕ
    heard_own s = heard_by g s (node_of g p) (conditions_of g p)

    -- what the inputs depend on
    abbrev ins : Reach → List ℕ
    ins s = flat_map (input_reach g s) (inputs g p)

    -- the processes before p on its node
    abbrev earlier : List ℕ
    earlier = before_on_node g order p

    -- what hearing the conditions that decide these depends on
    abbrev heard_earlier : List ℕ
    heard_earlier = heard_by g r (node_of g p) (flat_map (conditions_of g) earlier)

    -- what the ends of these depend on
    abbrev ends_earlier : List ℕ
    ends_earlier = flat_map (end_reach r) earlier

    -- what hearing the conditions that decide p depends on is right
    heard_right : SameElements (heard_own rs) (heard_own r)
    heard_right = same_flat_map (λ c. value_variable c ∷ hearing_reach g rs (node_of g p) c)
        (λ c. value_variable c ∷ hearing_reach g r (node_of g p) c) (conditions_of g p)
        (λ c among. let before = decides_before p c among in
        same_append (value_variable c ∷ []) (hearing_reach g rs (node_of g p) c) (value_variable c ∷ [])
        (hearing_reach g r (node_of g p) c) (λ v. refl)
        (hearing_right (place order p) (place order p * phases g) rs known sent agrees p c (node_of g p)
        (omega arith) before.0 before.1))

    -- what the inputs of the process depend on is right
    ins_right : SameElements (ins rs) (ins r)
    ins_right = same_flat_map (input_reach g rs) (input_reach g r) (inputs g p)
        (λ e among. input_right (place order p) (place order p * phases g) rs known sent agrees p e (omega arith) among)

    -- what hearing the conditions of the processes up to p depends on: those before p, then p
    heard_up_to : heard_by g r (node_of g p) (flat_map (conditions_of g) (earlier ++ p ∷ []))
        ≡ heard_earlier ++ heard_own r
    heard_up_to = ap (heard_by g r (node_of g p)) (flat_map-append (conditions_of g) earlier (p ∷ [])
        ∙ ap (λ cs. flat_map (conditions_of g) earlier ++ cs) (append-nil (conditions_of g p)))
        ∙ flat_map-append (λ c. value_variable c ∷ hearing_reach g r (node_of g p) c)
        (flat_map (conditions_of g) earlier) (conditions_of g p)

    -- what the start depends on is right, if it isn't frozen
    plain_right : SameElements (get_or known (node_of g p) [] ++ heard_own rs ++ ins rs)
        (heard_by g r (node_of g p) (flat_map (conditions_of g) (earlier ++ p ∷ [])) ++ ends_earlier ++ ins r)
    -- each part is right; they are united in the order of the rules
    plain_right v =
        in_append (get_or known (node_of g p) [] ++ heard_own rs) (ins rs) v
        ∙ ap₂ ◌||◌ (in_append (get_or known (node_of g p) []) (heard_own rs) v ∙ ap₂ ◌||◌
        (agrees.knows (node_of g p) there v ∙ in_append heard_earlier ends_earlier v) (heard_right v)) (ins_right v)
        ∙ start_parts (is_in heard_earlier v) (is_in ends_earlier v) (is_in (heard_own r) v) (is_in (ins r) v)
        ∙ ap (λ b. b || is_in (ins r) v) (ap (λ b. b || is_in ends_earlier v)
        (sym (in_append heard_earlier (heard_own r) v) ∙ ap (λ xs. is_in xs v) (sym heard_up_to))
        ∙ sym (in_append (heard_by g r (node_of g p) (flat_map (conditions_of g) (earlier ++ p ∷ []))) ends_earlier v))
        ∙ sym (in_append (heard_by g r (node_of g p) (flat_map (conditions_of g) (earlier ++ p ∷ [])) ++ ends_earlier)
        (ins r) v)

    -- the reach of the start by the rules
    start_is : SameElements (start_reach g order r p) (reach_of r p)
    start_is v =
        sym (is.each p v (omega arith) ∙ ap (λ i. is_in (reach_by_item g order r p i) v) (item_at-start g p within))

    -- the reach that is found for the start is right
    pub start_right : (reach : List ℕ) → SameElements reach (start_by g rs known p) → SameElements reach (reach_of r p)
    start_right reach same v = same v
        ∙ same_cond (process_at g p).frozen (map value_variable (conditions_of g p))
        (get_or known (node_of g p) [] ++ heard_own rs ++ ins rs) (map value_variable (conditions_of g p))
        (heard_by g r (node_of g p) (flat_map (conditions_of g) (earlier ++ p ∷ [])) ++ ends_earlier ++ ins r)
        (λ t u. refl) (λ t. plain_right) v
        ∙ start_is v

    -- the node's processes before the next place: those before p, and p if it is on the node
    on_node_next : (node : ℕ) →
        on_node g order (place order p + 1) node ≡ on_node g order (place order p) node
        ++ cond (node_of g p == node) (p ∷ []) []
    on_node_next node =
        let among = Contains-order (process_count g) order top.all p within in
        ap (filter (λ q. node_of g q == node)) (take_more order (place order p) p (place-lt order p among)
        ∙ ap (λ q. take (place order p) order ++ q ∷ []) (get_or-place order p p among))
        ∙ filter-append (λ q. node_of g q == node) (take (place order p) order) (p ∷ [])

    -- given: the reach of the start, and d, the set of p's node with what p hears, with its start and with its count
    module _ (reach a b d : List ℕ) (right : SameElements reach (reach_of r p))
        (heard : Adds (get_or known (node_of g p) []) (heard_own rs) a) (started : Adds a reach b)
        (ended : Adds b (p ∷ []) d) where
      -- what later processes wait for after p: what was heard, and what the ends depend on
      known_after_here : known_after g r (node_of g p) (earlier ++ p ∷ []) ≡ (heard_earlier ++ heard_own r)
          ++ (ends_earlier ++ end_reach r p)
      known_after_here = ap₂ ◌++◌ heard_up_to
          (flat_map-append (end_reach r) earlier (p ∷ []) ∙ ap (λ xs. ends_earlier ++ xs) (append-nil (end_reach r p)))

      -- d is that
      here : SameElements d (known_after g r (node_of g p) (earlier ++ p ∷ []))
      -- the union of the parts, put into the order of the rule: what is heard before and by p, then the ends before
      -- and p's own
      here v = ended v ∙ ap (λ t. t || is_in (p ∷ []) v)
          (started v ∙ ap₂ ◌||◌ (heard v ∙ ap₂ ◌||◌
          (agrees.knows (node_of g p) there v ∙ in_append heard_earlier ends_earlier v) (heard_right v)) (right v))
          ∙ known_parts (is_in heard_earlier v) (is_in ends_earlier v) (is_in (heard_own r) v) (is_in (reach_of r p) v)
          (is_in (p ∷ []) v)
          ∙ ap₂ ◌||◌ (sym (in_append heard_earlier (heard_own r) v)) (ap (λ t. is_in ends_earlier v || t)
          (sym (in_append (reach_of r p) (p ∷ []) v)) ∙ sym (in_append ends_earlier (end_reach r p) v))
          ∙ sym (in_append (heard_earlier ++ heard_own r) (ends_earlier ++ end_reach r p) v)
          ∙ ap (λ xs. is_in xs v) (sym known_after_here)

      -- What each node has made wait for is right at the next place.
      -- For the process's node this is `here`, and another node has the same processes before the next place.
      knows_next : (node : ℕ) → node < length g.nodes →
          SameElements (get_or (set known (node_of g p) d) node [])
          (known_after g r node (on_node g order (place order p + 1) node))
      -- by whether p is on the node
      knows_next node inside v = elim (eqb_tells (node_of g p) node) [
        | inl is_same ↦ ap (λ n. is_in (get_or (set known (node_of g p) d) n []) v) (sym is_same.1)
            ∙ ap (λ zs. is_in zs v)
            (get_or-set_same known (node_of g p) d [] (let count = agrees.known_nodes in omega arith))
            ∙ here v
            ∙ ap (λ n. is_in (known_after g r n (on_node g order (place order p) n ++ p ∷ [])) v) is_same.1
            ∙ ap (λ qs. is_in (known_after g r node qs) v)
            (ap (λ t. on_node g order (place order p) node ++ cond t (p ∷ []) []) (sym is_same.0)
            ∙ sym (on_node_next node))
        | inr other ↦ ap (λ zs. is_in zs v) (get_or-set_other known (node_of g p) node d [] (λ e. other.1 (sym e)))
            ∙ agrees.knows node inside v
            ∙ ap (λ qs. is_in (known_after g r node qs) v)
            (sym (append-nil (on_node g order (place order p) node))
            ∙ ap (λ t. on_node g order (place order p) node ++ cond t (p ∷ []) []) (sym other.0)
            ∙ sym (on_node_next node))
      ]

      -- the reaches up to this moment are right: that of the process is the new one, and the others were found before
      reached_start : (y : ℕ) → y < item_count g → moment g order y < place order p * phases g + 2 →
          SameElements (reach_of (set rs p reach) y) (reach_of r y)
      reached_start y inside h v = ⊎_elim
          (λ (e : y ≡ p). ap (λ z. is_in (reach_of (set rs p reach) z) v) e
          ∙ ap (λ zs. is_in zs v) (get_or-set_same rs p reach [] (let count = agrees.items in omega arith)) ∙ right v ∙
          ap (λ z. is_in (reach_of r z) v) (sym e))
          (λ (e : y ≡ p → ⊥). ap (λ zs. is_in zs v) (get_or-set_other rs p y reach [] e)
          ∙ agrees.reached y inside (sooner_than e) v)
          (cases_eq y p)
        where
          -- an item other than the start comes before it, as no item has the moment after it
          sooner_than : (y ≡ p → ⊥) → moment g order y < place order p * phases g
          sooner_than never = ⊎_elim
              (λ (d : moment g order y < place order p * phases g). d)
              (λ (d : place order p * phases g ≤ moment g order y). ⊎_elim
              (λ (f : moment g order y ≡ place order p * phases g + 1).
              absurd (nothing_at_end g order top p y within inside f))
              (λ (f : moment g order y ≡ place order p * phases g + 1 → ⊥).
              absurd (never (same_moment g order top y p inside
              (omega arith) (let moment_is = moment_of_start g order top p within in omega arith))))
              (cases_eq (moment g order y) (place order p * phases g + 1)))
              (cases_lt (moment g order y) (place order p * phases g))

      -- nothing is sent at the start or the end of p
      sends_start : (node : ℕ) →
          sent_before g order (place order p * phases g + 2) node ≡ sent_before g order (place order p * phases g) node
      sends_start node = ap (λ n. sent_before g order n node)
          (let next_moment : place order p * phases g + 2 ≡ (place order p * phases g + 1) + 1 = omega arith in
          next_moment)
          ∙ sent_kept g order top (place order p * phases g + 1) node
          (λ y inside t same. nothing_at_end g order top p y within inside same)
          ∙ sent_kept g order top (place order p * phases g) node
          (λ y inside t e. both_ways _ (start_not_sent g p within)
          (subst (λ z. is_sent g z ≡ true) (same_moment g order top y p inside (omega arith)
          (let moment_is = moment_of_start g order top p within in omega arith)) t))

      -- with both set, all is right up to the moment of p's broadcast
      pub started_next : AgreesUntil g order r (place order p + 1) (place order p * phases g + 2) (set rs p reach)
          (set known (node_of g p) d) sent
      started_next = record {
        items = length-set rs p reach ∙ agrees.items;
        known_nodes = length-set known (node_of g p) d ∙ agrees.known_nodes;
        sent_nodes = agrees.sent_nodes;
        reached = reached_start;
        knows = knows_next;
        sends =
            λ node l v. agrees.sends node l v ∙ ap (λ ys. is_in (flat_map (reach_of r) ys) v) (sym (sends_start node));
      }

  -- ---- what may be sent

  -- what stands before an item in its node's queue is what the node has sent before
  queue_is : (x : ℕ) → x < item_count g → is_sent g x ≡ true →
      queued_before g order x ≡ sent_before g order (moment g order x) (home g x)
  queue_is x within is_true = same_filter (λ y. is_queued_before g order y x)
      (λ y. is_sent g y && (home g y == home g x) && nat_lt (moment g order y) (moment g order x))
      (numbers_below (item_count g))
      (λ y there. same_truth _ _ (to_before y (numbers-Contains (item_count g) y there))
      (from_before y (numbers-Contains (item_count g) y there)))
    where
      -- an item that is queued before this one was sent by the same node before its moment
      to_before : (y : ℕ) → y < item_count g → is_queued_before g order y x ≡ true →
          (is_sent g y && (home g y == home g x) && nat_lt (moment g order y) (moment g order x)) ≡ true
      to_before y below holds = and_from _ _ (and_parts _ _ holds).0
          (lt-ltb _ _ (queued_sooner g order top y x below (phase_is_rank g (item_at g x) is_true) holds))

      -- an item that was sent by the same node before the moment is queued before this one
      from_before : (y : ℕ) → y < item_count g →
          (is_sent g y && (home g y == home g x) && nat_lt (moment g order y) (moment g order x)) ≡ true →
          is_queued_before g order y x ≡ true
      from_before y inside holds =
          let parts = and_parts _ _ holds in
          let less = ltb-true _ _ parts.1 in
          let goes_out = (and_parts _ _ parts.0).0 in
          let y_there = Contains-order (process_count g) order top.all (producer g y)
          (producer_in_range g order top y inside) in
          let x_there = Contains-order (process_count g) order top.all (producer g x)
          (producer_in_range g order top x within) in
          and_from _ _ parts.0 (elim (cases_order (place order (producer g y)) (place order (producer g x))) [
            | inl e ↦ or_right _ _ (and_from
                _ _ (eq-eqb _ _ (same_place order (producer g y) (producer g x) y_there x_there e))
                (lt-ltb _ _ (let same_products = ap (λ n. n * phases g) e in
                let phase_y = phase_is_rank g (item_at g y) goes_out in
                let phase_x = phase_is_rank g (item_at g x) is_true in omega arith)))
            | inr (inl lesser) ↦ or_left _ _ (comes_before_from_places order (producer g y)
                (producer g x) y_there lesser)
            | inr (inr k) ↦ absurd (let later = sooner (place order (producer g x)) (place order (producer g y))
                (phase (item_at g x)) (phases g) k (phase_below g x within) in omega arith)
          ])

  -- given: what is found before item x, which may be sent, and that it is right (`agrees`)
  module _ (k : ℕ) (x : ℕ) (within : x < item_count g) (rs known sent : List (List ℕ))
      (agrees : AgreesUntil g order r k (moment g order x) rs known sent) (there : home g x < length g.nodes) where
    -- the values of the conditions that decide the producer
    abbrev values : List ℕ
    values = map value_variable (conditions_of g (producer g x))

    -- what an item that is sent depends on is right
    sent_right : is_sent g x ≡ true →
        SameElements ((cond (is_frozen g x) values (end_reach rs (producer g x) ++ get_or sent (home g x) []))
        ++ sent_value g (item_at g x)) (send_reach g order r x)
    -- part by part: what decides a frozen item, or else its producer's end and what its node has sent before; then the
    -- value that it asks for
    sent_right goes_out = same_append
        (cond (is_frozen g x) values (end_reach rs (producer g x) ++ get_or sent (home g x) []))
        (sent_value g (item_at g x))
        (cond (is_frozen g x) values (end_reach r (producer g x) ++ flat_map (reach_of r) (queued_before g order x)))
        (sent_value g (item_at g x))
        (same_cond (is_frozen g x) values (end_reach rs (producer g x) ++ get_or sent (home g x) []) values
        (end_reach r (producer g x) ++ flat_map (reach_of r) (queued_before g order x))
        (λ e v. refl)
        (λ e. same_append (end_reach rs (producer g x)) (get_or sent (home g x) []) (end_reach r (producer g x))
        (flat_map (reach_of r) (queued_before g order x))
        (end_right k (moment g order x) rs known sent agrees (producer g x) (producer_in_range g order top x within)
        (let phase_is = phase_is_rank g (item_at g x) goes_out in omega arith))
        (λ v. agrees.sends (home g x) there v
        ∙ ap (λ ys. is_in (flat_map (reach_of r) ys) v) (sym (queue_is x within goes_out)))))
        (λ v. refl)

    -- what item i depends on by the rules, if it is sent, and nothing otherwise
    abbrev if_sent : Item → List ℕ
    if_sent i = cond (is_sent_item g i) (send_reach g order r x) []

    -- what x depends on is right, whether it is sent or not
    any_right : SameElements (send_by g rs sent (item_at g x)) (if_sent (item_at g x))
    any_right = same_cond (is_sent g x)
        ((cond (is_frozen g x) values (end_reach rs (producer g x) ++ get_or sent (home g x) []))
        ++ sent_value g (item_at g x)) []
        (send_reach g order r x) [] sent_right (λ e v. refl)

    -- given: which item x is
    module _ (i : Item) (at : item_at g x ≡ i) (rule : reach_by_item g order r x i ≡ if_sent i) where
      -- a set with what was found for the item has the variables of its reach
      pub send_right : (reach : List ℕ) → SameElements reach (send_by g rs sent i) → SameElements reach (reach_of r x)
      send_right reach same v = same v
          ∙ subst (λ j. SameElements (send_by g rs sent j) (if_sent j)) at any_right v
          ∙ ap (λ xs. is_in xs v) (sym rule)
          ∙ sym (is.each x v within ∙ ap (λ j. is_in (reach_by_item g order r x j) v) at)

      -- an item that is not sent depends on nothing
      pub unsent_empty : is_sent g x ≡ false → (v : ℕ) → is_in (reach_of r x) v ≡ false
      unsent_empty fails v =
          is.each x v within ∙ ap (λ j. is_in (reach_by_item g order r x j) v) at ∙ ap (λ xs. is_in xs v) rule
          ∙ ap (λ j. is_in (if_sent j) v) (sym at) ∙ ap (λ b. is_in (cond b (send_reach g order r x) []) v) fails

-- ---- at first

-- at moment 0, before the first process, empty sets are right
pub walk_begins : (g : Graph) (order : List ℕ) (r : Reach) (rs known sent : List (List ℕ)) →
    AreEmpty (item_count g) rs → AreEmpty (length g.nodes) known →
    AreEmpty (length g.nodes) sent →
    AgreesUntil g order r 0 0 rs known sent
-- nothing has a moment below 0, and nothing is known or sent yet
walk_begins g order r rs known sent a empty are_empty = record {
  items = a.count;
  known_nodes = empty.count;
  sent_nodes = are_empty.count;
  reached = λ x l h. absurd (omega arith);
  knows = λ node l v. empty.each node v;
  sends = λ node l v. are_empty.each node v ∙ ap (λ ys. is_in (flat_map (reach_of r) ys) v) (sym (none node));
}
  where
    -- no item has a moment below 0
    none : (node : ℕ) → sent_before g order 0 node ≡ []
    none node = filter_none (λ y. is_sent g y && (home g y == node) && nat_lt (moment g order y) 0)
        (numbers_below (item_count g))
        (λ y k. and_right (is_sent g y && (home g y == node)) (nat_lt (moment g order y) 0)
        (le-ltb (moment g order y) 0 (omega arith)))

-- what is found has a reach for each item (`rs`), and two sets for each node (`known`, `sent`)
pub walked_some : (g : Graph) (order : List ℕ) (top : IsTopological g order) (k m : ℕ) (rs known sent : List (List ℕ)) →
    ((r : Reach) → IsReach g order r → AgreesUntil g order r k m rs known sent)
    → (length rs ≡ item_count g) × (length known ≡ length g.nodes) × (length sent ≡ length g.nodes)
walked_some g order top k m rs known sent h = let some = some_reach g order top in
    let agrees = h some.0 some.1 in
    (agrees.items, agrees.known_nodes, agrees.sent_nodes)
