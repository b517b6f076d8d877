-- A play that is driven to its end. A number decides which node is asked first; then the others are asked round the
-- circle until one takes its turn.
use Rattle.std.specs.Prelude.{ℕ, zero, suc, ◌≡◌, ◌<◌, ◌+◌, ◌^◌, ◌%◌, ◌/◌, Bool, true, false, List, [], ◌∷◌, map, length}
use Rattle.std.specs.Prelude.{sum_by}
use Rattle.cpg_base.specs.Graph.{Graph}
use Rattle.cpg_base.specs.Draws.{next_number}
use Rattle.cpg_base.specs.Numbers.{numbers_below}
use Rattle.cpg_node.specs.Instants.{instants_left}
use Rattle.cpg_cluster.specs.Cluster.{World, Cluster, Answer, Took, Waits, Done, step, answer}

-- the node that is asked first: a 64-bit number's upper 31 bits, modulo the number of nodes
abbrev pub first_asked : ℕ → ℕ → ℕ
first_asked nodes x = (x / 2 ^ 33) % nodes

-- all nodes in the order of a circle, from node `first` on
abbrev pub circle : ℕ → ℕ → List ℕ
circle nodes first = map (λ i. (first + i) % nodes) (numbers_below nodes)

-- what comes of a choice, in which nodes are asked until one takes its turn
pub record Choice : Type 0 where
  -- the state after it
  pub cluster : Cluster
  -- how many nodes answered that they wait
  pub waits : ℕ
  -- whether a node took its turn
  pub took : Bool

-- the choice with one more node that waits
abbrev pub waited : Choice → Choice
waited c = record c { waits = c.waits + 1 }

-- the choice if node a is asked first and answers so; `rest` is the choice among the nodes after it, which are asked
-- only if a doesn't take its turn
abbrev pub chosen : Graph → World → Cluster → ℕ → Answer → Choice → Choice
chosen g w c a Took rest = record { cluster = step g w c a; waits = 0; took = true }
chosen g w c a (Waits b) rest = waited rest
chosen g w c a Done rest = rest

-- the choice among these nodes, in their order
abbrev pub choose : Graph → World → Cluster → List ℕ → Choice
choose g w c [] = record { cluster = c; waits = 0; took = false }
choose g w c (a ∷ rest) = chosen g w c a (answer g c a) (choose g w c rest)

-- the choice that number x makes: it gives the node that is asked first
abbrev pub choice : Graph → World → Cluster → ℕ → Choice
choice g w c x = choose g w c (circle (length g.nodes) (first_asked (length g.nodes) x))

-- the state after so many choices, made by the numbers that are drawn after x, and how often a node waited in them
abbrev pub driven : Graph → World → ℕ → ℕ → Cluster → Cluster × ℕ
driven g w zero x c = (c, 0)
driven g w (suc turns) x c = let one = choice g w c (next_number x) in
    let rest = driven g w turns (next_number x) one.cluster in
    (rest.0, one.waits + rest.1)

-- every node is done
abbrev pub AllDone : Graph → Cluster → Type 0
AllDone g c = (node : ℕ) → node < length g.nodes → answer g c node ≡ Done

-- from one state to the other, choices by the numbers after x are made until every node is done, and no longer
pub record IsDriven (g : Graph) (w : World) (x : ℕ) (before after : Cluster) (waits : ℕ) : Type 0 where
  -- how many choices are made
  pub turns : ℕ
  -- they lead to the state `after`, and `waits` times in them a node answered that it waits
  pub is : driven g w turns x before ≡ (after, waits)
  -- all nodes are done then, and not all after fewer
  pub done : AllDone g after
  pub needed : (fewer : ℕ) → fewer < turns → AllDone g (driven g w fewer x before).0 → ⊥

-- how many instants all nodes together have left, at most
abbrev pub remaining : Cluster → ℕ
remaining c = sum_by instants_left c.nodes
