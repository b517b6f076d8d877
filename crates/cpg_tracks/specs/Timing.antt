-- What the code looks up while it places the processes of a track (`Timing`), and the lists that it keeps on the way.
use Rattle.std.specs.Prelude.{ℕ, ◌≡◌, ◌≢◌, ◌<◌, ◌≤◌, ◌^◌, ◌⊎◌, Bool, true, List, Option, Some, None, map, length}
use Rattle.std.specs.Prelude.{Contains}
use Rattle.cpg_base.specs.Numbers.{numbers_below}
use Rattle.cpg_base.specs.Graph.{Graph, process_count, edge_count, outputs, target}
use Rattle.cpg_base.specs.Limits.{IsWithinLimits}
use Rattle.cpg_base.specs.WellFormed.{WellFormed}
use Rattle.cpg_base.specs.Activity.{active, live}
use Rattle.cpg_base.specs.Duration.{duration}
use Rattle.cpg_base.specs.Bus.{round}
use Rattle.cpg_order.specs.Links.{links_of}
use Rattle.cpg_base.specs.Order.{place}
use Rattle.cpg_tracks.specs.declared.timing.Timing.{Timing}
use Rattle.cpg_tracks.specs.declared.schedule.Candidate.{Candidate}
use Rattle.cpg_tracks.specs.declared.schedule.FedProcess.{FedProcess}
use Rattle.cpg_tracks.specs.Tracks.{ready_at}
use Rattle.cpg_tracks.specs.Placing.{IsFed, IsNext, IsDone, IsSooner, would_start, free_at}
use Rattle.cpg_tracks.specs.Track.{IsTrackOf, AreBy}

-- the track's outcome
abbrev pub outcome_of : Timing → List Bool
outcome_of t = t.track.now.outcome

-- The facts are those of a graph within its limits and one of its tracks. They are the edges of each process, which
-- processes are active and which edges live in the track, each process's duration with all faults, and the round, which
-- is what a message takes.
pub record IsTiming (g : Graph) (t : Timing) : Type 0 where
  -- the graph is within its limits and well-formed, and the track is one of its tracks
  pub limits : IsWithinLimits g
  pub well_formed : WellFormed g
  pub track : IsTrackOf g t.track.now
  -- the edges of each process
  pub links : t.links.now ≡ links_of g
  -- by process whether it is active in the track
  pub active : t.active.items ≡ map (active g (outcome_of t)) (numbers_below (process_count g))
  -- by edge whether it is live in the track
  pub live : t.live.items ≡ map (live g (outcome_of t)) (numbers_below (edge_count g))
  -- by process how long it lasts with all faults
  pub durations : t.durations.items ≡ map (λ p. duration g p g.faults) (numbers_below (process_count g))
  -- how long a message takes: a round
  pub round : t.round ≡ round g

-- the schedule is well-formed while processes are placed, with starts so early that no sum overflows
pub record IsOnTheWay (g : Graph) (starts : List (Option ℕ)) : Type 0 where
  -- there is a start or none for each process
  pub count : length starts ≡ process_count g
  -- no start is after 2^60
  pub early : AreBy (2 ^ 60) starts

-- `free` says of each node when it has ended all that is placed on it
abbrev pub AreFree : Graph → List (Option ℕ) → List ℕ → Type 0
AreFree g starts free = free ≡ map (free_at g starts) (numbers_below (length g.nodes))

-- the process can be placed next, and `ready` is when it is ready
pub record IsFedAt (g : Graph) (o : List Bool) (starts : List (Option ℕ)) (f : FedProcess) : Type 0 where
  -- it can be placed next
  pub fed : IsFed g o starts f.process
  -- it is ready at that time
  pub ready : f.ready ≡ ready_at g o starts f.process

-- the list has the processes that can be placed, each at least once, and no others
pub record AreFed (g : Graph) (o : List Bool) (starts : List (Option ℕ)) (fed : List FedProcess) : Type 0 where
  -- each entry is a process that can be placed, with its right time
  pub each : (f : FedProcess) → Contains fed f → IsFedAt g o starts f
  -- each process that can be placed is in it
  pub all : (q : ℕ) → IsFed g o starts q → Contains (map (λ f. f.process) fed) q

-- the list has only processes that can be placed, and all of them but for targets of p's live outputs
pub record AreFedBut (g : Graph) (o : List Bool) (starts : List (Option ℕ)) (p : ℕ)
    (fed : List FedProcess) : Type 0 where
  -- each entry is a process that can be placed, with its right time
  pub each : (f : FedProcess) → Contains fed f → IsFedAt g o starts f
  -- each process that can be placed is in it, or is the target of a live output of p
  pub all : (q : ℕ) → IsFed g o starts q →
      Contains (map (λ f. f.process) fed) q ⊎
      ((e : ℕ) × Contains (outputs g p) e × (live g o e ≡ true) × (target g e ≡ q))

-- The list `fed_new` has all that `fed_old` has, and p too if it can be placed. If `fed_old` is right, so is `fed_new`.
pub record Feeds (g : Graph) (o : List Bool) (starts : List (Option ℕ)) (p : ℕ)
    (fed_old fed_new : List FedProcess) : Type 0 where
  -- if each entry of the old list is right, each of the new one is
  pub each : ((f : FedProcess) → Contains fed_old f → IsFedAt g o starts f) → (f : FedProcess) → Contains fed_new f →
      IsFedAt g o starts f
  -- each process of the old list is in the new one, and p is if it can be placed
  pub kept : (q : ℕ) → Contains (map (λ f. f.process) fed_old) q → Contains (map (λ f. f.process) fed_new) q
  pub added : IsFed g o starts p → Contains (map (λ f. f.process) fed_new) p

-- the process can be placed next, and `start` is when it would start
pub record IsCandidate (g : Graph) (o : List Bool) (starts : List (Option ℕ)) (c : Candidate) : Type 0 where
  -- its process can be placed next
  pub fed : IsFed g o starts c.process
  -- it would start at that time
  pub start : c.start ≡ would_start g o starts c.process

-- the candidate can be placed, would start at `start`, and is sooner than all others of these processes that can be
pub record IsBestCandidate (g : Graph) (o : List Bool) (starts : List (Option ℕ)) (qs : List ℕ)
    (c : Candidate) : Type 0 where
  -- it can be placed, and would start at its time
  pub candidate : IsCandidate g o starts c
  -- it is sooner than any other of these that can be placed
  pub best : (q : ℕ) → Contains qs q → IsFed g o starts q → c.process ≢ q → IsSooner g o starts c.process q

-- the best of some processes, and none if none of them can be placed
abbrev pub IsBestOf : Graph → List Bool → List (Option ℕ) → List ℕ → Option Candidate → Type 0
IsBestOf g o starts qs None = (q : ℕ) → Contains qs q → IsFed g o starts q → ⊥
IsBestOf g o starts qs (Some c) = IsBestCandidate g o starts qs c

-- one candidate starts before another, or with it and is no less urgent by an order
abbrev pub ComesFirst : List ℕ → Candidate → Candidate → Type 0
ComesFirst order a b = (a.start < b.start) ⊎ ((a.start ≡ b.start) × (place order a.process ≤ place order b.process))

-- the better of two candidates, the first of which may be missing; `better` is one of them and comes no later
abbrev pub IsBetterOf : List ℕ → Option Candidate → Candidate → Candidate → Type 0
IsBetterOf order None b better = better ≡ b
IsBetterOf order (Some a) b better = ((better ≡ a) × ComesFirst order a b) ⊎ ((better ≡ b) × ComesFirst order b a)

-- the process to place next and when it would start, or none if nothing can be placed
abbrev pub IsChosen : Graph → List Bool → List (Option ℕ) → Option Candidate → Type 0
IsChosen g o starts None = IsDone g o starts
IsChosen g o starts (Some c) = IsNext g o starts c.process × (c.start ≡ would_start g o starts c.process)
