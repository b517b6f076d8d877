-- Proof of `Grown::build`, which returns the rows, with the frozen times and the measures, as `build_bounded` does. No
-- item may be too wide under the order by its views, so the one error is `OutOfMemory`.
use Rattle.cpg_core.specs.WideRows.{HaveWideRows}
use Rattle.cpg_core.proofs.WideRowsMade.{narrow_unnamed}
use Rattle.cpg_core.proofs.expanding.Grown.build.Goals as goal

-- no item is too wide, so there is none to name and the fault cannot come
pub unreachable-requires : goal.unreachable-requires
unreachable-requires c =
    let g = c.args.admitted.now.graph in
    narrow_unnamed (HaveWideRows g c.args.admitted.now.order c.args.self.trees.forest.times) g c.args.self.order
    c.in-Err-TooWide.field-0 c.in-Err-TooWide.field-0-0 c.requires.narrow
    c.in-Err-TooWide.field-0-is c.in-Err-TooWide.ensures.fault
