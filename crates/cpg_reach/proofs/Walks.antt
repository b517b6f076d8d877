-- The walk along an order, as the code takes its steps: what it reads is equal to what was found, by other names.
use Rattle.std.proofs.Common.{ℕ, ◌+◌, ◌*◌, ◌<◌, ◌≤◌, ◌≡◌, cond, List, [], ◌∷◌, length, get_or, set, Some, None, refl}
use Rattle.std.proofs.Common.{sym, ap, ◌∙◌, subst, arith, mul-le-mul_right}
use Rattle.cpg_base.specs.Graph.{Graph, process_count, edge_count, item_count, item_at, message_item, broadcast_item}
use Rattle.cpg_base.specs.Graph.{node_of, source, is_sent_item, producer_of_item, home, condition_of}
use Rattle.cpg_base.specs.declared.item.Item.{Item}
use Rattle.cpg_base.specs.declared.item.Item.TheVariants.{Message, Broadcast}
use Rattle.cpg_base.proofs.Items.{item_at-message, item_at-broadcast}
use Rattle.cpg_order.specs.Urgency.{IsTopological}
use Rattle.cpg_base.specs.Order.{place, IsOrder}
use Rattle.cpg_order.specs.Deciding.{conditions_of}
use Rattle.cpg_order.specs.Reach.{Reach, IsReach, send_reach, reach_by_item}
use Rattle.cpg_base.proofs.ConditionProcesses.{condition_of_process_of, process_of_condition_of, condition_of_below}
use Rattle.cpg_order.proofs.Moments.{phases, moment, moment_of_item, moment_before_last}
use Rattle.cpg_base.proofs.Standing.{place_at}
use Rattle.cpg_order.specs.Elements.{SameElements}
use Rattle.cpg_reach.specs.Variables.{Adds}
use Rattle.cpg_reach.specs.Walked.{heard_by, start_by, send_by, AgreesUntil, AreEmpty, AreReaches}
use Rattle.cpg_reach.proofs.Settling.{skipped, settled, broadcast_at, message_at}
use Rattle.cpg_reach.proofs.Steps.{start_right, started_next, send_right, unsent_empty, walk_begins, walked_some}

-- what is found is right by each reach of the order; `k` and `m` say how far
abbrev pub Agrees : Graph → List ℕ → ℕ → ℕ → (rs known sent : List (List ℕ)) → Type 0
Agrees g order k m rs known sent = (r : Reach) → IsReach g order r → AgreesUntil g order r k m rs known sent

-- what agrees for some lists agrees for equal ones: `us`, `knows` and `sents` for `rs`, `known` and `sent`, and the moment
-- n for m
agrees_as : (g : Graph) (order : List ℕ) (r : Reach) (k m n : ℕ) (rs us known knows sent sents : List (List ℕ)) →
    m ≡ n → rs ≡ us → known ≡ knows → sent ≡ sents →
    AgreesUntil g order r k m rs known sent → AgreesUntil g order r k n us knows sents
agrees_as g order r k m n rs us known knows sent sents e a b c h =
    subst (λ x. AgreesUntil g order r k n us knows x) c
    (subst (λ x. AgreesUntil g order r k n us x sent) b (subst (λ x. AgreesUntil g order r k n x known sent) a
    (subst (λ x. AgreesUntil g order r k x rs known sent) e h)))

-- given: a topological order
module _ (g : Graph) (order : List ℕ) (top : IsTopological g order) where
  -- Once the reach of a start is set, and what its node makes later processes wait for, all is right up to the
  -- process's broadcast.
  pub start_settled : (p : ℕ) → p < process_count g → (rs seen seen_again known starts sent : List (List ℕ)) → seen ≡ rs →
      seen_again ≡ rs →
      starts ≡ known →
      Agrees g order (place order p) (place order p * phases g) rs known sent
      → (node : ℕ) → node ≡ node_of g p → node < length g.nodes → (reach a b c d : List ℕ) →
      SameElements reach (start_by g seen starts p) → a ≡ get_or known node [] →
      Adds a (heard_by g seen_again node (conditions_of g p)) b → Adds b reach c → Adds c (p ∷ []) d
      → Agrees g order (place order p + 1) (place order p * phases g + 2) (set rs p reach) (set known node d) sent
  -- the sets that the code reads by other names are the given ones; then `started_next` says that all is right
  start_settled p within rs seen seen_again known starts sent same again knows walked node at there reach a b c d right was
      heard started ended r is =
      let node_within : node_of g p < length g.nodes = subst (λ x. x < length g.nodes) at there in
      let right_by : SameElements reach (start_by g rs known p) =
      subst (λ us. SameElements reach (start_by g us known p)) same
      (subst (λ us. SameElements reach (start_by g seen us p)) knows right) in
      let heard_here : Adds (get_or known (node_of g p) []) (heard_by g rs (node_of g p) (conditions_of g p)) b =
      subst (λ x. Adds (get_or known x []) (heard_by g rs x (conditions_of g p)) b) at
      (subst (λ us. Adds (get_or known node []) (heard_by g us node (conditions_of g p)) b) again
      (subst (λ xs. Adds xs (heard_by g seen_again node (conditions_of g p)) b) was heard)) in
      let reach_is = start_right g order top r is p within rs known sent (walked r is) node_within reach right_by in
      agrees_as g order r (place order p + 1) (place order p * phases g + 2) (place order p * phases g + 2)
      (set rs p reach) (set rs p reach) (set known (node_of g p) d)
      (set known node d) sent sent refl refl (ap (λ x. set known x d) (sym at)) refl
      (started_next g order top r is p within rs known sent
      (walked r is) node_within reach b c d reach_is heard_here started ended)

  -- Once the reach of item x, which may be sent, is set, all is right up to the next moment, m + 1.
  -- `rs`, `known`, `sent`: what is found before; `us`, `knows`, `sents`: what is found after that; `seen`, `sends`: `rs` and
  -- `sent` by the names under which the code reads them
  pub send_settled : (k m x : ℕ) (rs seen known sent sends us knows sents : List (List ℕ)) → seen ≡ rs →
      sends ≡ sent → Agrees g order k m rs known sent → x < item_count g → (i : Item) →
      item_at g x ≡ i → moment g order x ≡ m
      → ((r : Reach) → reach_by_item g order r x i ≡ cond (is_sent_item g i) (send_reach g order r x) []) → (node : ℕ) →
      node ≡ home g x → node < length g.nodes
      → (reach b : List ℕ) → SameElements reach (send_by g seen sends i) → us ≡ set rs x reach → knows ≡ known →
      sents ≡ set sent node b → Adds (get_or sent node []) reach b →
      Agrees g order k (m + 1) us knows sents
  -- the sets that the code reads by other names are the given ones; then `settled` says that all is right
  send_settled k m x rs seen known sent sends us knows sents same again walked within i at when rule node here there
      reach b right us_is knows_is sents_is adds r is =
      let home_within : home g x < length g.nodes = subst (λ y. y < length g.nodes) here there in
      let right_by : SameElements reach (send_by g rs sent i) = subst (λ vs. SameElements reach (send_by g vs sent i))
      same (subst (λ vs. SameElements reach (send_by g seen vs i)) again right) in
      let agrees : AgreesUntil g order r k (moment g order x) rs known sent =
      subst (λ y. AgreesUntil g order r k y rs known sent) (sym when) (walked r is) in
      let reach_is = send_right g order top r is k x within rs known sent agrees home_within i at
      (rule r) reach right_by in
      agrees_as g order r k (m + 1) (m + 1) (set rs x reach) us known knows (set sent (home g x) b) sents refl
      (sym us_is) (sym knows_is) (ap (λ y. set sent y b) (sym here) ∙ sym sents_is)
      (settled g order top r k m rs known sent (walked r is) x within when reach reach_is
      (unsent_empty g order top r is k x within rs known sent agrees home_within i at (rule r)) b
      (subst (λ y. Adds (get_or sent y []) reach b) here adds) home_within)

  -- Once the reach of the broadcast of p's condition c is set, all is right up to the process's first message. The lists
  -- are named as in `send_settled`.
  pub broadcast_settled : (p c : ℕ) (rs seen known sent sends us knows sents : List (List ℕ)) → seen ≡ rs →
      sends ≡ sent →
      condition_of g p ≡ Some c →
      Agrees g order (place order p + 1) (place order p * phases g + 2) rs known sent
      → (node : ℕ) → node ≡ node_of g p → node < length g.nodes
      → (reach b : List ℕ) → SameElements reach (send_by g seen sends (Broadcast c)) →
      us ≡ set rs (broadcast_item g c) reach → knows ≡ known → sents ≡ set sent node b →
      Adds (get_or sent node []) reach b
      → Agrees g order (place order p + 1) (place order p * phases g + 3) us knows sents
  -- a broadcast is an item that may be sent, and its moment is 2 past its process's first one
  broadcast_settled p c rs seen known sent sends us knows sents same again own walked node here there reach b right
      us_is knows_is sents_is adds r is =
      let by_process = process_of_condition_of g p c own in
      let within = condition_of_below g p c own in
      agrees_as g order r (place order p + 1) (place order p * phases g + 2 + 1)
      (place order p * phases g + 3) us us knows knows sents sents (omega arith) refl refl refl
      (send_settled (place order p + 1) (place order p * phases g + 2)
      (broadcast_item g c) rs seen known sent sends us knows sents same again walked (omega arith) (Broadcast c)
      (item_at-broadcast g c)
      (ap (moment_of_item g order) (item_at-broadcast g c)
      ∙ ap (λ z. place order z * phases g + 2) by_process) (λ s. refl) node
      (here ∙ ap (node_of g) (sym by_process)
      ∙ ap (λ i. node_of g (producer_of_item g i)) (sym (item_at-broadcast g c))) there
      reach b right us_is knows_is sents_is adds r is)

  -- a process without a condition has no broadcast, so all is right up to its first message already
  pub no_broadcast : (p : ℕ) → p < process_count g → (rs known sent : List (List ℕ)) → condition_of g p ≡ None →
      Agrees g order (place order p + 1) (place order p * phases g + 2) rs known sent →
      Agrees g order (place order p + 1) (place order p * phases g + 3) rs known sent
  no_broadcast p within rs known sent none walked r is =
      agrees_as g order r (place order p + 1) (place order p * phases g + 2 + 1)
      (place order p * phases g + 3) rs rs known known sent sent (omega arith) refl refl refl
      (skipped g order top r (place order p + 1) (place order p * phases g + 2) rs known sent (walked r is)
      (λ y inside same. let broadcast = broadcast_at g order top p y within inside same in
      none_is_some (sym none ∙ ap (condition_of g) (sym broadcast.2)
      ∙ condition_of_process_of g broadcast.0 broadcast.1)))
    where
      -- None is no number
      none_is_some : {c : ℕ} → None ≡ Some c → ⊥
      none_is_some same = cc

  -- Once the reach of the message of edge e, an output of p, is set, all is right up to the next edge's. The lists are
  -- named as in `send_settled`.
  pub message_settled : (p e : ℕ) (rs seen known sent sends us knows sents : List (List ℕ)) → seen ≡ rs →
      sends ≡ sent → e < edge_count g →
      source g e ≡ p →
      Agrees g order (place order p + 1) (place order p * phases g + 3 + e) rs known sent
      → (node : ℕ) → node ≡ node_of g p → node < length g.nodes
      → (reach b : List ℕ) → SameElements reach (send_by g seen sends (Message e)) →
      us ≡ set rs (message_item g e) reach → knows ≡ known → sents ≡ set sent node b →
      Adds (get_or sent node []) reach b
      → Agrees g order (place order p + 1) (place order p * phases g + 3 + (e + 1)) us knows sents
  -- a message is an item that may be sent, at the moment of its edge
  message_settled p e rs seen known sent sends us knows sents same again within q walked node here there
      reach b right us_is knows_is sents_is adds r is =
      agrees_as g order r (place order p + 1) (place order p * phases g + 3 + e + 1)
      (place order p * phases g + 3 + (e + 1)) us us knows knows sents sents (omega arith) refl refl refl
      (send_settled (place order p + 1) (place order p * phases g + 3 + e)
      (message_item g e) rs seen known sent sends us knows sents same again walked (omega arith) (Message e)
      (item_at-message g e within)
      (ap (moment_of_item g order) (item_at-message g e within) ∙ ap (λ z. place order z * phases g + (e + 3)) q ∙
      (let same_sum : place order p * phases g + (e + 3) ≡ place order p * phases g + 3 + e = omega arith in same_sum))
      (λ s. refl) node
      (here ∙ ap (node_of g) (sym q)
      ∙ ap (λ i. node_of g (producer_of_item g i)) (sym (item_at-message g e within))) there
      reach b right us_is knows_is sents_is adds r is)

  -- an edge from another process has no item at this moment, so all is right up to the next edge's already
  pub no_message : (p e : ℕ) → p < process_count g → e < edge_count g → (rs known sent : List (List ℕ)) →
      (source g e ≡ p → ⊥) →
      Agrees g order (place order p + 1) (place order p * phases g + 3 + e) rs known sent →
      Agrees g order (place order p + 1) (place order p * phases g + 3 + (e + 1)) rs known sent
  -- the item with that moment would be the message of an edge from p
  no_message p e within inside rs known sent other walked r is =
      agrees_as g order r (place order p + 1) (place order p * phases g + 3 + e + 1)
      (place order p * phases g + 3 + (e + 1)) rs rs known known sent sent (omega arith) refl refl refl
      (skipped g order top r (place order p + 1) (place order p * phases g + 3 + e) rs known sent (walked r is)
      (λ y i h. other (message_at g order top p e y within inside i
      (h ∙ (let same_sum : place order p * phases g + 3 + e ≡ place order p * phases g + (e + 3) = omega arith in
      same_sum)))))

  -- empty sets are right before the first process
  pub walk_starts : (items nodes : ℕ) (rs known sent : List (List ℕ)) → items ≡ item_count g → nodes ≡ length g.nodes →
      AreEmpty items rs → AreEmpty nodes known →
      AreEmpty nodes sent →
      Agrees g order 0 (0 * phases g) rs known sent
  walk_starts items nodes rs known sent i n empty are_empty c r is =
      agrees_as g order r 0 0 (0 * phases g) rs rs known known sent sent (omega arith) refl refl refl
      (walk_begins g order r rs known sent (subst (λ m. AreEmpty m rs) i empty)
      (subst (λ m. AreEmpty m known) n are_empty)
      (subst (λ m. AreEmpty m sent) n c))

  -- given: process p at place k of the order, and the graph by another name
  module _ (h : Graph) (same : h ≡ g) (lawful : IsOrder order) (k p : ℕ) (within : k < length order)
      (at : p ≡ get_or order k 0) (rs known sent : List (List ℕ)) where
    -- the process stands at place k
    stands : place order p ≡ k
    stands = ap (place order) at ∙ place_at order lawful k within

    -- what is right before a place is right before the process there
    pub step_in : Agrees g order k (k * phases g) rs known sent →
        Agrees h order (place order p) (place order p * phases h) rs known sent
    step_in walked = subst (λ n. Agrees h order n (n * phases h) rs known sent) (sym stands)
        (subst (λ (x : Graph). Agrees x order k (k * phases x) rs known sent) (sym same) walked)

    -- what is right behind the process is right before the next place
    pub step_out : Agrees h order (place order p + 1) ((place order p + 1) * phases h) rs known sent →
        Agrees g order (k + 1) ((k + 1) * phases g) rs known sent
    step_out walked = subst (λ (x : Graph). Agrees x order (k + 1) ((k + 1) * phases x) rs known sent) same
        (subst (λ n. Agrees h order (n + 1) ((n + 1) * phases h) rs known sent) stands walked)

  -- behind the last process the reach of each item is found
  pub all_reached : (k : ℕ) (rs known sent : List (List ℕ)) → process_count g ≤ k →
      Agrees g order k (k * phases g) rs known sent →
      AreReaches g order rs
  all_reached k rs known sent at_most walked = record {
    count = (walked_some g order top k (k * phases g) rs known sent walked).0;
    each = λ r is x within. (walked r is).reached x within (let before_last = moment_before_last g order top x within in
        let no_more = mul-le-mul_right (phases g) at_most in omega arith);
  }
