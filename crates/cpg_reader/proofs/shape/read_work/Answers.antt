-- Proof of `read_work`, which returns the fields of a process besides its two names.
use Rattle.std.proofs.Common.{refl}
use Rattle.std.proofs.lemmas.Result.{err_from_is_err_and}
use Rattle.cpg_reader.proofs.Each.{Refuses-along}
use Rattle.cpg_reader.specs.Shape.{read_work}
use Rattle.cpg_reader.proofs.shape.read_work.Goals as goal

-- all fields were read, but the table has a key that is unknown
pub returns-in_err-only : goal.returns-in_err-only
unfolding read_work
returns-in_err-only c =
    let failed = err_from_is_err_and c.from_residual-in_err-only.result c.from_residual-in_err-only.ensures.1 in
    rw (
      failed.1,
      failed.2,
      c.in_ok-wcet.ensures,
      c.in_ok-parts.ensures,
      c.in_ok-alpha.ensures,
      c.in_ok-chi.ensures,
      c.in_ok-mu.ensures,
      c.in_ok-join.ensures,
      c.in_ok-frozen.ensures,
      c.in_ok-release.ensures,
      c.in_ok-deadline.ensures,
    )
    (Refuses-along c.in_err-only.field-0.0 _ _ (λ f e. rw e refl) c.in_err-only.ensures)
