-- At the start of an order nothing stands.
use Rattle.std.proofs.Common.{ℕ, ◌≤◌, Bool, List, replicate, Option, None, arith}
use Rattle.std.proofs.lemmas.List.{length-replicate}
use Rattle.cpg_base.specs.Graph.{Graph, process_count}
use Rattle.cpg_order.specs.Urgency.{IsTopological}
use Rattle.cpg_rules.specs.Way.{Follows, AreSettled}

-- given: a topological order of a graph of at most 128 processes
module _ (g : Graph) (order : List ℕ) (topological : IsTopological g order) (few : process_count g ≤ 128) where
  -- at the start no process is settled
  pub none_settled : AreSettled g order 0 (replicate 128 None)
  none_settled = record {
    long = length-replicate {A = Option Bool} 128 None;
    right = λ o f p l m. absurd (omega arith);
  }

  -- every outcome follows the standings at the start
  pub all_follow : (s : List (Option Bool)) (o : List Bool) → Follows g order 0 s o
  all_follow s o = record { takes = λ c l m v e. absurd (omega arith) }
