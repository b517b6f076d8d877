-- The walk along an order: at each moment at most one item is reached, and once its reach is set, what is found is
-- right up to the next moment.
use Rattle.std.proofs.Common.{ℕ, ◌+◌, ◌*◌, ◌<◌, ◌≤◌, ◌≡◌, ◌==◌, Bool, true, false, cond, ◌&&◌, ◌||◌, List, [], ◌∷◌}
use Rattle.std.proofs.Common.{◌++◌, length, get_or, set, flat_map, Contains, refl, sym, ap, ap₂, ◌∙◌, subst}
use Rattle.std.proofs.Common.{⊎_elim, inl, inr, arith, lt-ltb, le-ltb, eq-eqb, eqb-true, ltb-true}
use Rattle.std.specs.Prelude.{nat_lt}
use Rattle.std.proofs.lemmas.Bool.{cases_Bool, cases_lt, cases_eq, cases_order, and_parts, and_from, both_ways, or_left}
use Rattle.std.proofs.lemmas.Bool.{or_right}
use Rattle.std.proofs.lemmas.List.{length-set, get_or-set_same, get_or-set_other}
use Rattle.cpg_base.specs.Numbers.{numbers_below}
use Rattle.cpg_base.specs.Graph.{Graph, process_count, edge_count, condition_count, item_count, item_at, broadcast_item}
use Rattle.cpg_base.specs.Graph.{source, is_sent, producer, producer_of_item, home, process_of}
use Rattle.cpg_base.proofs.Lists.{Contains-first, Contains-rest, Contains-filter, Contains-filter_parts}
use Rattle.cpg_base.proofs.Lists.{Contains-flat_map, Contains-flat_map_parts, Contains-numbers, numbers-Contains}
use Rattle.cpg_base.proofs.Lists.{same_truth}
use Rattle.cpg_base.proofs.Lists.{same_filter}
use Rattle.cpg_base.proofs.Items.{item_cases, same_condition}
use Rattle.cpg_order.specs.Urgency.{IsTopological}
use Rattle.cpg_base.specs.Order.{place}
use Rattle.cpg_order.specs.Reach.{Reach, is_in, reach_of}
use Rattle.cpg_order.proofs.Along.{is_in_from, from_is_in}
use Rattle.cpg_base.proofs.Places.{same_place, Contains-order}
use Rattle.cpg_order.proofs.Moments.{phase, phases, moment, producer_in_range, phase_below, sooner}
use Rattle.cpg_order.specs.Elements.{SameElements}
use Rattle.cpg_reach.specs.Variables.{Adds}
use Rattle.cpg_reach.specs.Walked.{sent_before, AgreesUntil}
use Rattle.cpg_reach.proofs.Adding.{in_append}

-- ---- lists with the same in them

-- lists whose parts have the same variables have the same
pub same_append : (xs ys zs ws : List ℕ) → SameElements xs zs → SameElements ys ws → SameElements (xs ++ ys) (zs ++ ws)
same_append xs ys zs ws same alike v = in_append xs ys v ∙ ap₂ ◌||◌ (same v) (alike v) ∙ sym (in_append zs ws v)

-- unions of sets that have the same variables, one by one, have the same
pub same_flat_map : (f h : ℕ → List ℕ) (xs : List ℕ) → ((x : ℕ) → Contains xs x → SameElements (f x) (h x)) →
    SameElements (flat_map f xs) (flat_map h xs)
-- by induction on the list
same_flat_map f h [] each = λ v. refl
same_flat_map f h (x ∷ xs) each = same_append (f x) (flat_map f xs) (h x) (flat_map h xs) (each x (Contains-first x xs))
    (same_flat_map f h xs (λ y there. each y (Contains-rest x xs y there)))

-- if a test chooses between two lists on each side, what it chooses has the same variables if both do
pub same_cond : (b : Bool) (xs ys zs ws : List ℕ) → (b ≡ true → SameElements xs zs) → (b ≡ false → SameElements ys ws) →
    SameElements (cond b xs ys) (cond b zs ws)
same_cond true xs ys zs ws h k = h refl
same_cond false xs ys zs ws h k = k refl

-- ---- moments

-- a * m + f and b * m + h, with f and h below m, are equal only if a is b and f is h
apart_products : (a b f h m : ℕ) → f < m → h < m → a * m + f ≡ b * m + h → (a ≡ b) × (f ≡ h)
apart_products a b f h m l k is = elim (cases_order a b) [
  | inl same ↦ (same, let same_products = ap (λ c. c * m) same in omega arith)
  | inr (inl less) ↦ absurd (let lower = sooner a b f m less l in omega arith)
  | inr (inr less) ↦ absurd (let lower = sooner b a h m less k in omega arith)
]

module _ (g : Graph) (order : List ℕ) (top : IsTopological g order) where
  -- Two items of one moment are the same.
  -- A moment is a place and a phase, so both items have one producer and one phase. The phase says whether they are
  -- starts, messages of one number, or broadcasts, and a process has one start and one condition.
  pub same_moment : (x y : ℕ) → x < item_count g → y < item_count g → moment g order x ≡ moment g order y → x ≡ y
  same_moment x y within inside is =
      -- one place and one phase
      let parts = apart_products (place order (producer g x)) (place order (producer g y)) (phase (item_at g x))
      (phase (item_at g y)) (phases g) (phase_below g x within) (phase_below g y inside) is in
      -- one place has one process
      let same_producer = same_place order (producer g x) (producer g y)
      (Contains-order (process_count g) order top.all (producer g x) (producer_in_range g order top x within))
      (Contains-order (process_count g) order top.all (producer g y)
      (producer_in_range g order top y inside)) parts.0 in
      -- items of different kinds have different phases, so only equal kinds are left
      elim (item_cases g x within) [
        | inl start_x ↦ elim (item_cases g y inside) [
          | inl start_y ↦ sym (ap (producer_of_item g) start_x.1) ∙ same_producer ∙ ap (producer_of_item g) start_y.1
          | inr (inl message_y) ↦ absurd (omega (arith, parts.1, ap phase start_x.1, ap phase message_y.3))
          | inr (inr broadcast_y) ↦ absurd (omega (arith, parts.1, ap phase start_x.1, ap phase broadcast_y.3))
        ]
        | inr (inl message_x) ↦ elim (item_cases g y inside) [
          | inl start_y ↦ absurd (omega (arith, parts.1, ap phase message_x.3, ap phase start_y.1))
          | inr (inl message_y) ↦ omega (
            arith,
            message_x.2,
            message_y.2,
            parts.1,
            ap phase message_x.3,
            ap phase message_y.3,
          )
          | inr (inr broadcast_y) ↦ absurd (omega (arith, parts.1, ap phase message_x.3, ap phase broadcast_y.3))
        ]
        | inr (inr broadcast_x) ↦ elim (item_cases g y inside) [
          | inl start_y ↦ absurd (omega (arith, parts.1, ap phase broadcast_x.3, ap phase start_y.1))
          | inr (inl message_y) ↦ absurd (omega (arith, parts.1, ap phase broadcast_x.3, ap phase message_y.3))
          | inr (inr broadcast_y) ↦ broadcast_x.2 ∙ ap (broadcast_item g)
              (same_condition g broadcast_x.0 broadcast_y.0 broadcast_x.1 broadcast_y.1
              (sym (ap (producer_of_item g) broadcast_x.3) ∙ same_producer ∙ ap (producer_of_item g) broadcast_y.3))
              ∙ sym broadcast_y.2
        ]
      ]

  -- an item at a moment of process p has the producer p and the moment's phase
  pub moment_parts : (x p f : ℕ) → x < item_count g → p < process_count g → f < phases g →
      moment g order x ≡ place order p * phases g + f →
      (producer g x ≡ p) × (phase (item_at g x) ≡ f)
  -- a moment is the place times the number of phases, with a phase below that number, so both can be read off it
  moment_parts x p f within inside less is =
      let parts = apart_products (place order (producer g x)) (place order p) (phase (item_at g x)) f (phases g)
      (phase_below g x within) less is in (
        same_place order (producer g x) p (Contains-order (process_count g) order top.all (producer g x)
            (producer_in_range g order top x within)) (Contains-order (process_count g) order top.all p inside) parts.0,
        parts.1,
      )

  -- no item has the moment of a process's end, between its start and its broadcast
  pub nothing_at_end : (p x : ℕ) → p < process_count g → x < item_count g →
      moment g order x ≡ place order p * phases g + 1 → ⊥
  nothing_at_end p x within inside is =
      let parts = moment_parts x p 1 inside within (omega arith) is in
      elim (item_cases g x inside) [
        | inl start ↦ omega (arith, parts.1, ap phase start.1)
        | inr (inl message) ↦ omega (arith, parts.1, ap phase message.3)
        | inr (inr broadcast) ↦ omega (arith, parts.1, ap phase broadcast.3)
      ]

  -- an item at the moment of a process's broadcast is that of a condition of the process
  pub broadcast_at : (p x : ℕ) → p < process_count g → x < item_count g →
      moment g order x ≡ place order p * phases g + 2 →
      (c : ℕ) × (c < condition_count g) × (process_of g c ≡ p)
  -- the phase 2 is that of broadcasts alone
  broadcast_at p x within inside is =
      let parts = moment_parts x p 2 inside within (omega arith) is in
      elim (item_cases g x inside) [
        | inl start ↦ absurd (omega (arith, parts.1, ap phase start.1))
        | inr (inl message) ↦ absurd (omega (arith, parts.1, ap phase message.3))
        | inr (inr broadcast) ↦ (broadcast.0, broadcast.1, sym (ap (producer_of_item g) broadcast.3) ∙ parts.0)
      ]

  -- if an item has the moment of an edge's message of a process, that process is the edge's source
  pub message_at : (p e x : ℕ) → p < process_count g → e < edge_count g → x < item_count g →
      moment g order x ≡ place order p * phases g + (e + 3) → source g e ≡ p
  -- the phase e + 3 is that of the message of edge e alone
  message_at p e x within inside below is =
      let parts = moment_parts x p (e + 3) below within (omega arith) is in
      elim (item_cases g x below) [
        | inl start ↦ absurd (omega (arith, parts.1, ap phase start.1))
        | inr (inl message) ↦ let same : message.0 ≡ e = omega (arith, parts.1, ap phase message.3) in
            ap (source g) (sym same) ∙ sym (ap (producer_of_item g) message.3) ∙ parts.0
        | inr (inr broadcast) ↦ absurd (omega (arith, parts.1, ap phase broadcast.3))
      ]

  -- ---- what has been sent before a moment

  -- if nothing is sent at a moment, the node has sent the same before the next one
  pub sent_kept : (m node : ℕ) → ((y : ℕ) → y < item_count g → is_sent g y ≡ true → moment g order y ≡ m → ⊥) →
      sent_before g order (m + 1) node ≡ sent_before g order m node
  sent_kept m node none = same_filter _ _ (numbers_below (item_count g))
      (λ y there. by_sent y (numbers-Contains (item_count g) y there) (is_sent g y) refl)
    where
      -- by whether the item is sent: if it is, its moment isn't m, so it comes before m + 1 just if before m
      by_sent : (y : ℕ) → y < item_count g → (b : Bool) → is_sent g y ≡ b →
          (is_sent g y && (home g y == node) && nat_lt (moment g order y) (m + 1)) ≡
          (is_sent g y && (home g y == node) && nat_lt (moment g order y) m)
      by_sent y within true same = ap (λ t. is_sent g y && (home g y == node)
          && t) (elim (cases_order (moment g order y) m) [
            | inl is ↦ absurd (none y within same is)
            | inr (inl less) ↦ lt-ltb (moment g order y) (m + 1) (omega arith) ∙ sym (lt-ltb (moment g order y) m less)
            | inr (inr more) ↦ le-ltb (moment g order y) (m + 1) (omega arith)
                ∙ sym (le-ltb (moment g order y) m (omega arith))
          ])
      by_sent y within false is = ap (λ s. s && (home g y == node) && nat_lt (moment g order y) (m + 1)) is
          ∙ sym (ap (λ s. s && (home g y == node) && nat_lt (moment g order y) m) is)

  -- given: the reach r
  module _ (r : Reach) where
    -- what all items sent before a moment on a node depend on
    abbrev sent_reach : ℕ → ℕ → List ℕ
    sent_reach m node = flat_map (reach_of r) (sent_before g order m node)

    -- an item of the node that is sent before a moment is one of those sent before
    sent_by : (m node y : ℕ) → y < item_count g → is_sent g y ≡ true → home g y ≡ node → moment g order y < m →
        Contains (sent_before g order m node) y
    sent_by m node y within goes_out is k = Contains-filter (λ y. is_sent g y && (home g y == node)
        && nat_lt (moment g order y) m)
        (numbers_below (item_count g)) y
        (and_from _ _ (and_from _ _ goes_out (eq-eqb _ _ is)) (lt-ltb _ _ k)) (Contains-numbers (item_count g) y within)

    -- an item among those is one of the graph, is sent, by this node, and before the moment
    sent_parts : (m node y : ℕ) → Contains (sent_before g order m node) y →
        (y < item_count g) × (is_sent g y ≡ true) × (home g y ≡ node) × (moment g order y < m)
    sent_parts m node y there =
        let kept = Contains-filter_parts (λ y. is_sent g y && (home g y == node) && nat_lt (moment g order y) m)
        (numbers_below (item_count g)) y there in
        let parts = and_parts _ _ kept.1 in
        let sent_by_node = and_parts _ _ parts.0 in
        (numbers-Contains (item_count g) y kept.0, sent_by_node.0, eqb-true _ _ sent_by_node.1, ltb-true _ _ parts.1)

    -- what such an item depends on is in the union
    in_sent : (m node y v : ℕ) → Contains (sent_before g order m node) y → is_in (reach_of r y) v ≡ true →
        is_in (sent_reach m node) v ≡ true
    in_sent m node y v there holds = is_in_from (sent_reach m node) v
        (Contains-flat_map (reach_of r) (sent_before g order m node) y v there (from_is_in (reach_of r y) v holds))

    -- a variable of the union is one that some such item depends on
    from_sent : (m node v : ℕ) → is_in (sent_reach m node) v ≡ true →
        (y : ℕ) × Contains (sent_before g order m node) y × (is_in (reach_of r y) v ≡ true)
    from_sent m node v holds = let from =
        Contains-flat_map_parts (reach_of r) (sent_before g order m node) v (from_is_in (sent_reach m node) v holds) in
        (from.0, from.1, is_in_from (reach_of r from.0) v from.2)

    -- if item x is sent at moment m by the node, the union up to the next moment has what x depends on, too
    sent_next : (x m node : ℕ) → x < item_count g → is_sent g x ≡ true → moment g order x ≡ m → home g x ≡ node →
        (v : ℕ) →
        is_in (sent_reach (m + 1) node) v ≡ (is_in (sent_reach m node) v || is_in (reach_of r x) v)
    sent_next x m node within goes_out is same v =
        same_truth (is_in (sent_reach (m + 1) node) v) (is_in (sent_reach m node) v || is_in (reach_of r x) v)
        (λ holds. let item = from_sent (m + 1) node v holds in
        let parts = sent_parts (m + 1) node item.0 item.1 in ⊎_elim
        (λ (before : moment g order item.0 < m). or_left
        _ _ (in_sent m node item.0 v (sent_by m node item.0 parts.0 parts.1 parts.2 before) item.2))
        (λ (not_before : m ≤ moment g order item.0). or_right _ _
        (subst (λ y. is_in (reach_of r y) v ≡ true)
        (same_moment item.0 x parts.0 within (let below_next = parts.3 in omega arith)) item.2))
        (cases_lt (moment g order item.0) m))
        (λ t. ⊎_elim
        (λ (before : is_in (sent_reach m node) v ≡ true). let item = from_sent m node v before in
        let parts = sent_parts m node item.0 item.1 in
        in_sent (m + 1) node item.0 v (sent_by (m + 1) node item.0 parts.0 parts.1 parts.2
        (let below_next = parts.3 in omega arith)) item.2)
        (λ (not_before : is_in (sent_reach m node) v ≡ false). in_sent (m + 1) node x v
        (sent_by (m + 1) node x within goes_out same (omega arith))
        (sym (ap (λ b. b || is_in (reach_of r x) v) not_before) ∙ t))
        (cases_Bool (is_in (sent_reach m node) v)))

    -- if it is sent by another node, the union of this one stays
    other_node : (x m node : ℕ) → x < item_count g → moment g order x ≡ m → (home g x ≡ node → ⊥) →
        SameElements (sent_reach (m + 1) node) (sent_reach m node)
    -- an item of the node with a moment below m + 1 has one below m, since the moment m is x's, of another node
    other_node x m node within is never v = same_truth (is_in (sent_reach (m + 1) node) v) (is_in (sent_reach m node) v)
        (λ holds. let item = from_sent (m + 1) node v holds in
        let parts = sent_parts (m + 1) node item.0 item.1 in ⊎_elim
        (λ (before : moment g order item.0 < m). in_sent m node item.0 v
        (sent_by m node item.0 parts.0 parts.1 parts.2 before) item.2)
        (λ (not_before : m ≤ moment g order item.0).
        absurd (never (ap (home g) (sym (same_moment item.0 x parts.0 within (let below_next = parts.3 in
        omega arith))) ∙ parts.2)))
        (cases_lt (moment g order item.0) m))
        (λ holds. let item = from_sent m node v holds in
        let parts = sent_parts m node item.0 item.1 in
        in_sent (m + 1) node item.0 v (sent_by (m + 1) node item.0 parts.0 parts.1 parts.2
        (let below_next = parts.3 in omega arith)) item.2)

    -- ---- one moment after another

    -- given: what is found is right up to moment m
    module _ (k m : ℕ) (rs known sent : List (List ℕ)) (agrees : AgreesUntil g order r k m rs known sent) where
      -- if no item has the moment m, it is right up to the next moment as it is
      pub skipped : ((y : ℕ) → y < item_count g → moment g order y ≡ m → ⊥) →
          AgreesUntil g order r k (m + 1) rs known sent
      skipped none = record {
        items = agrees.items;
        known_nodes = agrees.known_nodes;
        sent_nodes = agrees.sent_nodes;
        -- no item is of this moment, so what is reached and sent is as before
        reached = λ y l h. ⊎_elim (λ (d : moment g order y < m). agrees.reached y l d)
            (λ (d : m ≤ moment g order y). absurd (none y l (omega arith))) (cases_lt (moment g order y) m);
        knows = agrees.knows;
        sends = λ node l v. agrees.sends node l v
            ∙ ap (λ ys. is_in (flat_map (reach_of r) ys) v) (sym (sent_kept m node (λ y i e d. none y i d)));
      }

      -- given: item x, whose moment is m, and its reach
      module _ (x : ℕ) (within : x < item_count g) (at : moment g order x ≡ m) (reach : List ℕ)
          (right : SameElements reach (reach_of r x)) where
        -- with the reach set, each item up to x has its reach
        reached_next : (y : ℕ) → y < item_count g → moment g order y < m + 1 →
            SameElements (reach_of (set rs x reach) y) (reach_of r y)
        reached_next y inside h v = ⊎_elim
            (λ (e : y ≡ x). ap (λ z. is_in (reach_of (set rs x reach) z) v) e ∙ ap (λ zs. is_in zs v)
            (get_or-set_same rs x reach [] (let count = agrees.items in omega arith)) ∙ right v ∙
            ap (λ z. is_in (reach_of r z) v) (sym e))
            (λ (e : y ≡ x → ⊥). ap (λ zs. is_in zs v) (get_or-set_other rs x y reach [] e)
            ∙ agrees.reached y inside (before_it e) v)
            (cases_eq y x)
          where
            -- another item before the next moment has an earlier moment than x, since moments differ
            before_it : (y ≡ x → ⊥) → moment g order y < m
            before_it never = ⊎_elim (λ (d : moment g order y < m). d)
                (λ (d : m ≤ moment g order y). absurd (never (same_moment y x inside within (omega arith))))
                (cases_lt (moment g order y) m)

        -- given: b, the set of x's node with x's reach added
        module _ (unsent_none : is_sent g x ≡ false → (v : ℕ) → is_in (reach_of r x) v ≡ false) (b : List ℕ)
            (adds : Adds (get_or sent (home g x) []) reach b) (there : home g x < length g.nodes) where
          -- b is what the node's sends up to the next moment depend on, whether x is sent or not
          here_next : (s : Bool) → is_sent g x ≡ s → (v : ℕ) → is_in b v ≡ is_in (sent_reach (m + 1) (home g x)) v
          here_next true is v = adds v ∙ ap₂ ◌||◌ (agrees.sends (home g x) there v) (right v)
              ∙ sym (sent_next x m (home g x) within is at refl v)
          here_next false is v = adds v ∙ ap₂ ◌||◌ (agrees.sends (home g x) there v) (right v ∙ unsent_none is v)
              ∙ or_nothing (is_in (sent_reach m (home g x)) v)
              ∙ ap (λ ys. is_in (flat_map (reach_of r) ys) v) (sym (sent_kept m (home g x) (λ y inside t d.
              both_ways _ is (subst (λ z. is_sent g z ≡ true) (same_moment y x inside within (d ∙ sym at)) t))))
            where
              -- "or false" changes nothing
              or_nothing : (a : Bool) → (a || false) ≡ a
              or_nothing true = refl
              or_nothing false = refl

          -- with both set, what is found is right up to the next moment
          pub settled : AgreesUntil g order r k (m + 1) (set rs x reach) known (set sent (home g x) b)
          -- x's node is right by `here_next`, and the sends of any other node before the two moments are the same
          settled = record {
            items = length-set rs x reach ∙ agrees.items;
            known_nodes = agrees.known_nodes;
            sent_nodes = length-set sent (home g x) b ∙ agrees.sent_nodes;
            reached = reached_next;
            knows = agrees.knows;
            sends = λ node l v. ⊎_elim
                (λ (e : node ≡ home g x). ap (λ n. is_in (get_or (set sent (home g x) b) n []) v) e ∙
                ap (λ zs. is_in zs v) (get_or-set_same sent (home g x) b []
                (let count = agrees.sent_nodes in omega arith))
                ∙ here_next (is_sent g x) refl v ∙ ap (λ n. is_in (sent_reach (m + 1) n) v) (sym e))
                (λ (e : node ≡ home g x → ⊥). ap (λ zs. is_in zs v) (get_or-set_other sent (home g x) node b [] e)
                ∙ agrees.sends node l v
                ∙ sym (other_node x m node within at (λ d. e (sym d)) v))
                (cases_eq node (home g x));
          }
