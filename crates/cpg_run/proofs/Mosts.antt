-- The greatest value over the numbers of a kind, when the kind is said in another way.
use Rattle.std.proofs.Common.{◌≡◌, ℕ, ◌<◌, Bool, true, List, map, Contains, subst, sym}
use Rattle.cpg_base.specs.Numbers.{greatest}
use Rattle.cpg_base.specs.Graph.{Graph, condition_count}
use Rattle.cpg_base.proofs.Lists.{greatest_above, greatest-le, Contains-map, Contains-filter, Contains-filter_parts}
use Rattle.cpg_order.specs.Urgency.{IsTopological}
use Rattle.cpg_order.specs.Deciding.{decides}
use Rattle.cpg_order.specs.Guard.{deciding_along}
use Rattle.cpg_order.specs.Counting.{conditions_along}
use Rattle.cpg_order.proofs.Along.{Contains-along, from_along}
use Rattle.cpg_run.specs.Most.{IsMost}
use Rattle.cpg_run.proofs.Bounded.{passing_le}

module _ (f : ℕ → ℕ) where
  -- if the same numbers are of the kinds P and Q, the greatest value over P is that over Q
  pub most_same : (P Q : ℕ → Type 0) (v : ℕ) → ((y : ℕ) → P y → Q y) → ((y : ℕ) → Q y → P y) → IsMost P f v →
      IsMost Q f v
  most_same P Q v to from m =
      record { above = λ y q. m.above y (from y q); least = λ b h. m.least b (λ y p. h y (to y p)) }

  -- the greatest value over the elements of a list is the greatest of the list of their values
  pub most_of_list : (xs : List ℕ) → IsMost (Contains xs) f (greatest (map f xs))
  most_of_list xs = record {
    above = λ y c. greatest_above (map f xs) (f y) (Contains-map f xs y c);
    least = λ b h. greatest-le (map f xs) b (λ v c. passing_le f xs v b h c);
  }

  -- the greatest value over the conditions that decide a process, listed along the order, is that over all that decide it
  pub most_deciding : (g : Graph) (order : List ℕ) → IsTopological g order → (values : List Bool) (p v : ℕ) →
      v ≡ greatest (map f (deciding_along g order values p))
      → IsMost (λ c. (c < condition_count g) × (decides g values p c ≡ true)) f v
  most_deciding g order topological values p v is =
      subst (λ n. IsMost (λ c. (c < condition_count g) × (decides g values p c ≡ true)) f n) (sym is)
      (most_same (Contains (deciding_along g order values p))
      (λ c. (c < condition_count g) × (decides g values p c ≡ true)) _
      (λ c k. let parts = Contains-filter_parts (decides g values p) (conditions_along g order) c k in
      ((from_along g order c parts.0).0, parts.1))
      (λ c k. Contains-filter (decides g values p) (conditions_along g order) c k.1
      (Contains-along g order topological c k.0))
      (most_of_list (deciding_along g order values p)))
