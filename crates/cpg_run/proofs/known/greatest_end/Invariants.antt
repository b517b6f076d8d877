-- Loops of `greatest_end`: the greatest of these ends, or 0 if there is none.
use Rattle.std.proofs.Common.{◌≡◌, take, flat_map, option_to_list}
use Rattle.cpg_base.specs.Numbers.{greatest}
use Rattle.cpg_run.proofs.known.greatest_end.Given as goal

-- `latest` is the greatest of the ends so far that are known, or 0 if none is
abbrev pub invariant-loop-end : goal.invariant-loop-end
invariant-loop-end l = l.latest ≡ greatest (flat_map option_to_list (take l.end-index l.ends))
