-- Loops of `place_of_match`, which returns the place of the first cube that matches a scenario; `None` exactly if none
-- does.
use Rattle.std.proofs.Common.{◌≡◌, drop}
use Rattle.std.specs.List.{list_any}
use Rattle.cpg_cube.specs.Cube.{matches}
use Rattle.cpg_cover.proofs.cover.place_of_match.Given as goal

-- no cube before `place` matches the scenario, so some cube matches if one from `place` on does
abbrev pub invariant-loop-place : goal.invariant-loop-place
invariant-loop-place l =
    list_any (λ b. matches b.now l.scenario) l.by ≡ list_any (λ b. matches b.now l.scenario) (drop l.place l.by)
