-- What sends depend on, case by case as the code takes them: the item is never sent, it is a broadcast, or it is a
-- message, frozen or not.
use Rattle.std.proofs.Common.{ℕ, ◌<◌, ◌≤◌, ◌≡◌, Bool, true, false, not, cond, ◌&&◌, List, [], ◌++◌, length, get_or, map}
use Rattle.std.proofs.Common.{None, sym, ap, ◌∙◌, lt-ltb, le-ltb, eq-eqb}
use Rattle.std.proofs.lemmas.List.{append-nil}
use Rattle.std.proofs.lemmas.Bool.{ne_eqb}
use Rattle.cpg_base.specs.Graph.{Graph, edge_at, source, target, node_of, process_of, value_variable}
use Rattle.cpg_base.specs.declared.item.Item.TheVariants.{Message, Broadcast}
use Rattle.cpg_base.specs.declared.process.Edge.{Edge}
use Rattle.cpg_order.specs.Deciding.{conditions_of}
use Rattle.cpg_order.specs.Reach.{Reach, is_in, end_reach, source_value}
use Rattle.cpg_order.specs.Elements.{SameElements}
use Rattle.cpg_reach.specs.Variables.{Adds}
use Rattle.cpg_reach.specs.Walked.{send_by}
use Rattle.cpg_reach.proofs.Adding.{same_after}

-- the edge that is read past the end of the list, which doesn't happen
abbrev pub no_edge : Edge
no_edge = record { from = 0; to = 0; size = 0; when = None; frozen = false }

-- given: reaches, and by node what it has sent so far
module _ (g : Graph) (r : Reach) (sent : List (List ℕ)) where
  -- an empty set has what an empty list has
  pub nothing_sent : (xs ys : List ℕ) → ((v : ℕ) → is_in xs v ≡ false) → ys ≡ [] → SameElements xs ys
  nothing_sent xs ys h is v = h v ∙ ap (λ zs. is_in zs v) (sym is)

  -- with one node no broadcast is sent, so it depends on nothing
  pub one_node : (c : ℕ) → length g.nodes ≤ 1 → send_by g r sent (Broadcast c) ≡ []
  one_node c at_most =
      ap (λ b. cond b ((end_reach r (process_of g c) ++ get_or sent (node_of g (process_of g c)) []) ++ []) [])
      (le-ltb 1 (length g.nodes) at_most)

  -- with more nodes a broadcast depends on its process's end and on what the node has sent before
  pub broadcast_sent : (c p node : ℕ) (xs : List ℕ) → 1 < length g.nodes → p ≡ process_of g c → node ≡ node_of g p →
      SameElements xs (end_reach r p ++ get_or sent node []) →
      SameElements xs (send_by g r sent (Broadcast c))
  broadcast_sent c p node xs within e f same v = same v
      ∙ ap (λ n. is_in (end_reach r p ++ get_or sent n []) v) f
      ∙ ap (λ q. is_in (end_reach r q ++ get_or sent (node_of g q) []) v) e
      ∙ ap (λ zs. is_in zs v)
      (sym (append-nil (end_reach r (process_of g c) ++ get_or sent (node_of g (process_of g c)) []))
      ∙ ap (λ b. cond b ((end_reach r (process_of g c) ++ get_or sent (node_of g (process_of g c)) []) ++ []) [])
      (sym (lt-ltb 1 (length g.nodes) within)))

  -- what a message depends on, apart from its source's value
  abbrev pub before_value : ℕ → Bool → List ℕ
  before_value e frozen = cond frozen (map value_variable (conditions_of g (source g e)))
      (end_reach r (source g e) ++ get_or sent (node_of g (source g e)) [])

  -- what a message depends on, by whether its edge is a message and whether it is frozen
  abbrev by_tests : ℕ → Bool → Bool → List ℕ
  by_tests e message frozen = cond message (before_value e (message && frozen) ++ source_value g e) []

  -- an edge within a node is never sent, so it depends on nothing
  pub within_node : (e : ℕ) → node_of g (source g e) ≡ node_of g (target g e) → send_by g r sent (Message e) ≡ []
  within_node e is =
      ap (λ b. by_tests e (not b) (edge_at g e).frozen) (eq-eqb (node_of g (source g e)) (node_of g (target g e)) is)

  -- a message between nodes depends on the value that its edge asks for, and on what `before_value` says
  pub message_sent : (e : ℕ) (frozen : Bool) (mid xs : List ℕ) → (node_of g (source g e) ≡ node_of g (target g e) → ⊥) →
      (edge_at g e).frozen ≡ frozen →
      SameElements mid (before_value e frozen) →
      Adds mid (source_value g e) xs
      → SameElements xs (send_by g r sent (Message e))
  message_sent e frozen mid xs never is same adds v = same_after mid (before_value e frozen)
      (source_value g e) xs same adds v
      ∙ ap (λ zs. is_in zs v) (ap (λ b. by_tests e true b) (sym is) ∙ ap (λ b. by_tests e (not b) (edge_at g e).frozen)
      (sym (ne_eqb (node_of g (source g e)) (node_of g (target g e)) never)))
