-- Proof of `met_at`: the least scenario that a cube matches together with the column at `place`.
use Rattle.std.proofs.Common.{◌≡◌, ◌&&◌, ◌∙◌, Some, ap, sym}
use Rattle.std.specs.Prelude.{slice_get}
use Rattle.std.proofs.lemmas.Option.{slice_get-get_or}
use Rattle.cpg_base.proofs.First.{first_same}
use Rattle.cpg_cube.specs.Cube.{matches}
use Rattle.cpg_violation.specs.Sieves.{is_at}
use Rattle.cpg_violation.proofs.SieveLaws.{at_found}
use Rattle.cpg_check_rows.proofs.single.met_at.Goals as goal

-- the column that was looked up is the one at the place
pub returns-clause-first : goal.returns-clause-first
returns-clause-first c = λ order.
    let found : slice_get c.args.columns.now c.args.place ≡ Some c.in-Some.column.now =
    slice_get-get_or c.args.columns.now c.args.place c.in-Some.column.now c.in-Some.ensures.lookup.3.0 ∙
    ap Some (sym c.in-Some.ensures.lookup.1) in
    first_same c.args.problem.now order (λ s. matches c.args.cube.now s && matches c.in-Some.column.now.cube s)
    (λ s. matches c.args.cube.now s && is_at c.args.columns.now s c.args.place) c.in_ok-found.found
    (λ s _. ap (λ b. matches c.args.cube.now s && b)
    (at_found c.args.columns.now c.args.place c.in-Some.column.now found s)) (c.in_ok-found.ensures.first order)
