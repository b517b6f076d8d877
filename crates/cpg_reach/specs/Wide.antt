-- The views of an item under an order, and items that are too wide by their views.
use Rattle.std.specs.Prelude.{ℕ, ◌+◌, ◌*◌, ◌≡◌, ◌<◌, ◌≤◌, Bool, false, ◌&&◌, ◌||◌, nat_lt, List, IsTrue}
use Rattle.cpg_base.specs.Graph.{Graph, item_count, item_at}
use Rattle.cpg_order.specs.Reach.{Reach, IsReach, reach_of, views, rows_of_item, is_too_wide, most_views, most_loads}

-- n is the number of item x's views under the order
pub record HasViews (g : Graph) (order : List ℕ) (x n : ℕ) : Type 0 where
  -- there is a reach, so n is a number of views
  pub some : (r : Reach) × IsReach g order r
  -- any reach of the order gives n views
  pub each : (r : Reach) → IsReach g order r → n ≡ views g (reach_of r x)

-- item x is too wide under the order: it is in some row and has too many views, or the items up to it have too many
-- columns together
pub record IsWide (g : Graph) (order : List ℕ) (x : ℕ) : Type 0 where
  -- a reach of the order, by which it is so
  pub reach : Reach
  pub reached : IsReach g order reach
  -- x is an item of the graph, and too wide by that reach
  pub within : x < item_count g
  pub wide : IsTrue (is_too_wide g reach x)

-- no item is too wide under the order
abbrev pub IsNarrow : Graph → List ℕ → Type 0
IsNarrow g order = (x : ℕ) → IsWide g order x → ⊥

-- x is the first item that is too wide under the order
pub record IsLeastWide (g : Graph) (order : List ℕ) (x : ℕ) : Type 0 where
  -- x is too wide
  pub wide : IsWide g order x
  -- no earlier item is
  pub least : (y : ℕ) → y < x → IsWide g order y → ⊥

-- how many columns an item with this reach may take in all tables: its views, once for each row in which it stands
abbrev pub load_by : Graph → List ℕ → ℕ → ℕ
load_by g reached x = views g reached * rows_of_item g (item_at g x)

-- Whether item x with this reach is too wide: it is in some row, and has more views than a row may have columns, or
-- makes the load of all items up to it too great. `loads` is that of the items before it.
abbrev pub is_wide_by : Graph → List ℕ → ℕ → ℕ → Bool
is_wide_by g reached x loads = nat_lt 0 (rows_of_item g (item_at g x))
    && (nat_lt most_views (views g reached) || nat_lt most_loads (loads + load_by g reached x))

-- item x with this reach isn't too wide after items with the load `loads`, and `sum_of_loads` is that with its own
pub record HasLoads (g : Graph) (reached : List ℕ) (x loads sum_of_loads : ℕ) : Type 0 where
  -- it isn't too wide
  pub narrow : is_wide_by g reached x loads ≡ false
  -- its load is added
  pub sum : sum_of_loads ≡ loads + load_by g reached x
  -- the sum is within the limit
  pub few : sum_of_loads ≤ most_loads
