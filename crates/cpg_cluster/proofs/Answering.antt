-- What an answer in a play implies: a node with the least next instant takes its turn, and one that is done has done
-- all that is due.
use Rattle.std.proofs.Common.{◌≡◌, ℕ, ◌<◌, length, subst}
use Rattle.cpg_cluster.specs.Cluster.{Took, Done, answer}
use Rattle.cpg_cluster.specs.Playing.{Playing, IsPlaying, HasLeastInstant, HasDoneAll}
use Rattle.cpg_cluster.proofs.Lively.{least_took}
use Rattle.cpg_cluster.proofs.Nodes.{Played}
use Rattle.cpg_cluster.proofs.Passed.{played_reached}
use Rattle.cpg_cluster.proofs.Plays.{played_of, whole}
use Rattle.cpg_cluster.proofs.Reached.{Reached}

-- given a node of a play
module _ (p : Playing) (is : IsPlaying p) (a : ℕ) (within : a < length p.graph.nodes) where
  -- the setting of the play: a well-formed graph, its valid tables and a world
  k : Played p.graph p.tables p.world
  k = played_of p.graph p.tables is.formed is.shape is.valid p.world is.world

  -- its state is one that a play reaches
  r : Reached p.graph p.tables p.world p.cluster
  r = played_reached k p.cluster is.played

  -- a node with the least next instant takes its turn
  least_takes : HasLeastInstant p a → answer p.graph p.cluster a ≡ Took
  least_takes h = least_took k p.cluster r a h.time within h.comes h.least

  -- a node that is done has done all that is due on it
  done_all : answer p.graph p.cluster a ≡ Done → HasDoneAll p a
  done_all is_done acts due = whole k p.cluster r a acts within due is_done

-- The same for `now`, the play as code sees it, which is p.

-- a node `a` with the least next instant in the play `now` takes its turn
pub takes_at : (p now : Playing) → p ≡ now → IsPlaying p → (a : ℕ) → a < length now.graph.nodes →
    HasLeastInstant now a →
    answer now.graph now.cluster a ≡ Took
takes_at p now view is = subst (λ (now : Playing). (a : ℕ) → a < length now.graph.nodes → HasLeastInstant now a →
    answer now.graph now.cluster a ≡ Took) view (least_takes p is)

-- a node `a` that is done in the play `now` has done all that is due on it
pub all_at : (p now : Playing) → p ≡ now → IsPlaying p → (a : ℕ) → a < length now.graph.nodes →
    answer now.graph now.cluster a ≡ Done →
    HasDoneAll now a
all_at p now view is = subst (λ (now : Playing). (a : ℕ) → a < length now.graph.nodes →
    answer now.graph now.cluster a ≡ Done → HasDoneAll now a) view (done_all p is)
