-- What is sorted for the urgency order: each process with its tail.
use Rattle.std.specs.Prelude.{ℕ, List, get_or}
use Rattle.cpg_order.specs.declared.urgency_order.UrgencyRank.{UrgencyRank}

-- The rank of a process. Its tail is wrapped so that the greater one is sorted first.
abbrev pub rank_of : List ℕ → ℕ → UrgencyRank
rank_of tails p = record { tail = record { 0 = get_or tails p 0 }; process = p }
