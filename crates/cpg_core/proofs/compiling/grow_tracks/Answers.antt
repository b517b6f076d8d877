-- Proof of `grow_tracks`: returns what is found under a track order, under which no item is too wide.
use Rattle.cpg_reach.specs.Wide.{IsLeastWide}
use Rattle.cpg_core.proofs.compiling.grow_tracks.Goals as goal

-- no item is too wide under the track order, so the fault cannot come
pub unreachable-requires : goal.unreachable-requires
unreachable-requires c =
    -- the fault would name an item that is too wide
    let least : IsLeastWide c.args.admitted.now.graph c.args.order c.in-Err-TooWide.field-0-0 =
    rw c.in-Err-TooWide.field-0-is at c.in-Err-TooWide.ensures.fault in
    c.requires.narrow c.in-Err-TooWide.field-0-0 least.wide
