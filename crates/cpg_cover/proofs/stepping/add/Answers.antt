-- Proof of `add`, which adds a cube to a list, unless it is found there already.
use Rattle.cpg_cover.specs.Fewest.{matches_at}
use Rattle.cpg_cover.proofs.FewestLaws.{any_inserted}
use Rattle.cpg_cover.proofs.stepping.add.Goals as goal

-- what matches a list with one cube inserted matches this cube or the list before
pub returns-in_ok-insert : goal.returns-in_ok-insert
returns-in_ok-insert c n matched = any_inserted (matches_at n) c.args.cubes.now.items c.in-Some.place c.args.cube
    (rw c.in_ok-insert.ensures.items at matched)
