-- Proof of `SpacePair::way`, which says where the scenarios of both spaces go at a fork.
use Rattle.std.proofs.Common.{ap₂, refl}
use Rattle.cpg_tree_times.specs.Asked.{SpacePair}
use Rattle.cpg_tree.specs.declared.space.Space.{Space}
use Rattle.cpg_tree.proofs.Forks.{from_false}
use Rattle.cpg_tree_times.proofs.asked.SpacePair.way.Goals as goal

-- two spaces as a pair
abbrev pair_of : Space → Space → SpacePair
pair_of asked walked = record { asked = asked; walked = walked }

-- Nothing that is walked is below the cut, so all scenarios of both spaces go above it. The spaces stay as they are, and
-- putting their lows back changes nothing.
pub returns-then-not-is_open_below : goal.returns-then-not-is_open_below
returns-then-not-is_open_below c = (
  record {
    asked = refl;
    goes = λ s d. from_false c.is_open_below.result c.if-not-is_open_below.true c.is_open_below.ensures.none s d.1;
    lies = λ s d. d;
  },
  ap₂ pair_of c.lowest.ensures c.lowest-then-not-is_open_below.ensures,
)

-- Nothing that is walked is above the cut, so all scenarios of both spaces go below it. The spaces stay as they are, and
-- putting their highs back changes nothing.
pub returns-then-not-is_open_above : goal.returns-then-not-is_open_above
returns-then-not-is_open_above c = (
  record {
    asked = refl;
    goes = λ s d. from_false c.is_open_above.result c.if-not-is_open_above.true c.is_open_above.ensures.none s d.1;
    lies = λ s d. d;
  },
  ap₂ pair_of c.highest.ensures c.highest-then-not-is_open_above.ensures,
)

-- nothing that is asked for is below the cut, so all go above it, and only scenarios above it are walked from now on
pub returns-then-not-is_open_below-2 : goal.returns-then-not-is_open_below-2
returns-then-not-is_open_below-2 c = (
  record {
    asked = c.walk_above.ensures.asked;
    goes =
        λ s d. from_false c.is_open_below-2.result c.if-not-is_open_below-2.true c.is_open_below-2.ensures.none s d.0;
    lies = λ s d. c.walk_above.ensures.lies s d
        (from_false c.is_open_below-2.result c.if-not-is_open_below-2.true c.is_open_below-2.ensures.none s d.0);
  },
  c.walk_above.ensures.back,
)

-- nothing that is asked for is above the cut, so all go below it, and only scenarios up to it are walked from now on
pub returns-then-not-is_open_above-2 : goal.returns-then-not-is_open_above-2
returns-then-not-is_open_above-2 c = (
  record {
    asked = c.walk_below.ensures.asked;
    goes =
        λ s d. from_false c.is_open_above-2.result c.if-not-is_open_above-2.true c.is_open_above-2.ensures.none s d.0;
    lies = λ s d. c.walk_below.ensures.lies s d
        (from_false c.is_open_above-2.result c.if-not-is_open_above-2.true c.is_open_above-2.ensures.none s d.0);
  },
  c.walk_below.ensures.back,
)
