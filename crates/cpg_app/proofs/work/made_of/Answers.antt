-- Proof of `made_of`, which compiles an admitted graph.
use Rattle.cpg_app.proofs.Listed.{packed_of_rows, shown_of_rows}
use Rattle.cpg_app.proofs.work.made_of.Goals as goal

-- the text that is written by the rows is that of the tables that have these rows
pub returns-in-Ok-clause-text : goal.returns-in-Ok-clause-text
returns-in-Ok-clause-text c =
    shown_of_rows c.args.admitted c.problem-graph.ensures.admitted.well_formed
    (rw c.problem-graph.ensures.problem at c.head_is_lawful.ensures) c.in-Ok.rows c.in-Ok.ensures.rows

-- The rows can be written, and their pack is that of the tables that have these rows.
pub returns-in-Ok-clause-pack : goal.returns-in-Ok-clause-pack
returns-in-Ok-clause-pack c = (
  c.in-Ok.ensures.rows.writable,
  packed_of_rows c.args.admitted c.problem-graph.ensures.admitted.limits c.problem-graph.ensures.admitted.well_formed
      (rw c.problem-graph.ensures.problem at c.head_is_lawful.ensures) c.in-Ok.rows c.in-Ok.ensures.rows,
)
