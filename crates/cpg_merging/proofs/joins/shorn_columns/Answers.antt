-- Proof of `shorn_columns`, which returns the columns without the literals that have the whole range of their
-- variable.
use Rattle.std.proofs.Common.{◌≡◌, false, sym, rules}
use Rattle.std.specs.List.{list_any}
use Rattle.cpg_cube.specs.Cube.{is_whole}
use Rattle.cpg_merging.proofs.MergingCubes.{columns_kept}
use Rattle.cpg_merging.proofs.joins.shorn_columns.Goals as goal

-- no column has a literal of the whole range, so shearing leaves them as they are
pub returns-then-not-has_any_whole : goal.returns-then-not-has_any_whole
returns-then-not-has_any_whole c =
    let none : list_any (λ e. list_any (is_whole c.args.faults) e.cube) c.args.columns.items ≡ false = search rules in
    sym (columns_kept c.args.faults c.args.columns.items none)
