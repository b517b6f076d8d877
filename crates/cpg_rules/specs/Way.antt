-- What holds on a way along an order: of the standings so far, and of the outcomes that go this way.
use Rattle.std.specs.Prelude.{ℕ, ◌≡◌, ◌<◌, Bool, false, List, Option, Some, None, is_some, get_or, length}
use Rattle.cpg_base.specs.Graph.{Graph, process_count, condition_count, process_of}
use Rattle.cpg_base.specs.Activity.{active}
use Rattle.cpg_base.specs.Order.{place}

-- Outcome o goes this way: each condition whose process stands before place k and is active has in o the value of its
-- standing.
pub record Follows (g : Graph) (order : List ℕ) (k : ℕ) (standings : List (Option Bool)) (o : List Bool) : Type 0 where
  pub takes : (c : ℕ) → c < condition_count g → place order (process_of g c) < k → (value : Bool) →
      get_or standings (process_of g c) None ≡ Some value → get_or o c false ≡ value

-- the standings are right for the processes before place k
pub record AreSettled (g : Graph) (order : List ℕ) (k : ℕ) (standings : List (Option Bool)) : Type 0 where
  -- there is a standing for each of the 128 numbers that a process may have
  pub long : length standings ≡ 128
  -- a process before place k stands as active exactly if it is active in each outcome of this way
  pub right : (o : List Bool) → Follows g order k standings o → (p : ℕ) → p < process_count g → place order p < k →
      is_some (get_or standings p None) ≡ active g o p
