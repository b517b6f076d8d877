-- Two spaces at once: the scenarios asked for, and those that the forks on the way to a place leave (walked).
use Rattle.std.specs.Prelude.{ℕ, ◌≡◌, ◌≤◌, ◌<◌, true}
use Rattle.cpg_base.specs.Scenario.{Scenario, number_of}
use Rattle.cpg_tree.specs.Space.{IsInSpace, below_cut, is_open_above, is_open_below, reopened_below}
pub use Rattle.cpg_tree_times.specs.declared.asked.SpacePair.{SpacePair}
use Rattle.cpg_tree_times.specs.declared.asked.Highs.{Highs}
use Rattle.cpg_tree_times.specs.declared.asked.Lows.{Lows}
use Rattle.cpg_tree_times.specs.declared.asked.Way.{Way}
use Rattle.cpg_tree_times.specs.declared.asked.Way.TheVariants.{Below, Above, Both}

-- a scenario lies in both spaces
abbrev pub IsInBothSpaces : SpacePair → Scenario → Type 0
IsInBothSpaces spaces s = IsInSpace spaces.asked s × IsInSpace spaces.walked s

-- both spaces with the given highs of v
abbrev pub with_highs : SpacePair → ℕ → Highs → SpacePair
with_highs spaces v highs =
    record { asked = below_cut spaces.asked v highs.asked; walked = below_cut spaces.walked v highs.walked }

-- both spaces with the low of v and the faults left that `lows` keeps from before
abbrev pub with_lows : SpacePair → ℕ → Lows → SpacePair
with_lows spaces v lows =
    record { asked = reopened_below spaces.asked v lows.asked; walked = reopened_below spaces.walked v lows.walked }

-- all scenarios of `spaces` pass a test and lie in `inner` too; both ask for the same scenarios
pub record IsInner (spaces : SpacePair) (passes : Scenario → Type 0) (inner : SpacePair) : Type 0 where
  -- the space asked for is the same; the space walked may be smaller
  pub asked : inner.asked ≡ spaces.asked
  -- no scenario of `spaces` is lost: each passes the test, and lies in `inner`
  pub goes : (s : Scenario) → IsInBothSpaces spaces s → passes s
  pub lies : (s : Scenario) → IsInBothSpaces spaces s → IsInBothSpaces inner s

-- each of both spaces has numbers of v on both sides of the cut
pub record AreBothOpen (spaces : SpacePair) (v cut : ℕ) : Type 0 where
  pub below : is_open_below spaces.asked v cut ≡ true
  pub above : is_open_above spaces.asked v cut ≡ true
  pub walked_below : is_open_below spaces.walked v cut ≡ true
  pub walked_above : is_open_above spaces.walked v cut ≡ true

-- Where the scenarios go at a fork. If all go one way, the new spaces hold them, and the highs or lows that `Below` or
-- `Above` keeps take the new spaces back to the old ones. With `Both` the spaces stay as they are, and are open on both
-- sides of the cut.
abbrev pub IsWay : SpacePair → SpacePair → ℕ → ℕ → Way → Type 0
IsWay old new v cut (Below highs) = IsInner old (λ s. number_of s v ≤ cut) new × (with_highs new v highs ≡ old)
IsWay old new v cut (Above lows) = IsInner old (λ s. cut < number_of s v) new × (with_lows new v lows ≡ old)
IsWay old new v cut Both = AreBothOpen old v cut × (new ≡ old)
