-- An item that is too wide under an order is so whatever order a graph gives.
use Rattle.std.proofs.Common.{ℕ, ◌+◌, ◌*◌, ◌≡◌, ◌==◌, ◌&&◌, ◌||◌, Bool, List, [], ◌∷◌, ◌++◌, Option, IsTrue}
use Rattle.std.proofs.Common.{if◌then◌else◌, filter, map, length, sum_by, sym, ap, ◌∙◌, subst}
use Rattle.std.specs.Prelude.{nat_lt}
use Rattle.std.specs.List.{list_any, list_all, flat_map}
use Rattle.cpg_base.specs.Numbers.{numbers_below}
use Rattle.cpg_base.specs.Graph.{Graph, process_count, condition_count, process_at, inputs, node_of, item_at}
use Rattle.cpg_base.specs.Graph.{is_sent_item, is_frozen, producer, process_of, value_variable}
use Rattle.cpg_base.specs.declared.item.Item.{Item}
use Rattle.cpg_base.specs.declared.item.Item.TheVariants.{Start, Message, Broadcast}
use Rattle.cpg_base.specs.Activity.{is_active}
use Rattle.cpg_base.specs.Order.{before_on_node}
use Rattle.cpg_base.specs.Scenario.{number_of}
use Rattle.cpg_order.specs.Deciding.{outcomes, conditions_of}
use Rattle.cpg_order.specs.Queue.{queued_before}
use Rattle.cpg_order.specs.Scenario.{scenarios}
use Rattle.cpg_order.specs.Reach.{Reach, IsReach, is_in, reach_of, end_reach, hearing_reach, input_reach, sent_value}
use Rattle.cpg_order.specs.Reach.{start_reach, send_reach, reach_by_item, views, rows_of_item, most_views}
use Rattle.cpg_order.specs.Reach.{most_loads, is_too_wide}
use Rattle.cpg_reach.specs.Wide.{IsWide, IsNarrow}
use Rattle.cpg_given_laws.proofs.Runs.{other, same_activations, same_decides}

module _ (g : Graph) (given : Option (List ℕ)) where
  -- the conditions that decide a process in some outcome are the same
  same_conditions : conditions_of (other g given) ≡ conditions_of g
  same_conditions = ap {B = ℕ → List ℕ}
      (λ f p. filter (λ c. list_any (λ o. f o p c) (outcomes (condition_count g))) (numbers_below (condition_count g)))
      (same_decides g given)

  -- given an order, and what the earlier items reach
  module _ (order : List ℕ) (r : Reach) where
    -- a start depends on the same variables
    same_start_reach : (p : ℕ) → start_reach (other g given) order r p ≡ start_reach g order r p
    same_start_reach p = ap {B = List ℕ} (λ f. if (process_at g p).frozen then map value_variable (f p) else
        flat_map (λ c. value_variable c ∷ hearing_reach g r (node_of g p) c)
        (flat_map f (before_on_node g order p ++ p ∷ []))
        ++ flat_map (end_reach r) (before_on_node g order p)
        ++ flat_map (input_reach g r) (inputs g p)) same_conditions

    -- a send has the same reach whatever order is given
    same_send_reach : (x : ℕ) → send_reach (other g given) order r x ≡ send_reach g order r x
    same_send_reach x = ap {B = List ℕ} (λ f. (if is_frozen g x then map value_variable (f (producer g x))
        else end_reach r (producer g x) ++ flat_map (reach_of r) (queued_before g order x))
        ++ sent_value g (item_at g x)) same_conditions

    -- item `it`, of number `x`, has the same reach whatever order is given
    same_reach : (x : ℕ) (it : Item) → reach_by_item (other g given) order r x it ≡ reach_by_item g order r x it
    same_reach x (Start p) = same_start_reach p
    same_reach x (Message e) = ap (λ vs. if is_sent_item g (Message e) then vs else []) (same_send_reach x)
    same_reach x (Broadcast c) = ap (λ vs. if is_sent_item g (Broadcast c) then vs else []) (same_send_reach x)

    -- reaches of the graph are those of the graph with another order
    reach_of_other : IsReach g order r → IsReach (other g given) order r
    reach_of_other is = record {
      count = is.count;
      each = λ x v l. is.each x v l ∙ ap (λ vs. is_in vs v) (sym (same_reach x (item_at g x)));
    }

  -- a reach has as many views
  same_views : views (other g given) ≡ views g
  same_views = ap {B = List ℕ → ℕ} (λ f reached. length (filter (λ s.
      list_all (λ p. (number_of s p == 0) || (is_in reached p && is_active (f s.values p)))
      (numbers_below (process_count g))
      && list_all (λ c. (number_of s (value_variable c) == 0) || (is_in reached (value_variable c)
      && is_active (f s.values (process_of g c)))) (numbers_below (condition_count g)))
      (scenarios g))) (same_activations g given)

  -- so item `x` is too wide under both orders, or under neither
  same_too_wide : (r : Reach) (x : ℕ) → is_too_wide (other g given) r x ≡ is_too_wide g r x
  same_too_wide r x = ap {B = Bool} (λ f. nat_lt 0 (rows_of_item g (item_at g x))
      && (nat_lt most_views (f (reach_of r x)) || nat_lt most_loads
      (sum_by (λ y. f (reach_of r y) * rows_of_item g (item_at g y)) (numbers_below (x + 1))))) same_views

  -- an item that is too wide under an order is so whatever order the graph gives
  pub wide_of_other : (order : List ℕ) (x : ℕ) → IsWide g order x → IsWide (other g given) order x
  wide_of_other order x is = record {
    reach = is.reach;
    reached = reach_of_other order is.reach is.reached;
    within = is.within;
    wide = subst IsTrue (sym (same_too_wide is.reach x)) is.wide;
  }

-- if no item is too wide under an order, none is whatever order the graph gives
pub narrow_of_other : (g : Graph) (given : Option (List ℕ)) (order : List ℕ) → IsNarrow g order →
    IsNarrow (other g given) order
narrow_of_other g given order is x wide = is x (wide_of_other (other g given) g.order order x wide)
