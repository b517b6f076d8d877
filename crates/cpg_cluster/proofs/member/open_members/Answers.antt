-- Proof of `open_members`, which returns the nodes of the tables, by number, before their first turns.
use Rattle.std.proofs.Common.{subst, sym, ap, ◌∙◌, arith, inl, inr, length}
use Rattle.std.proofs.lemmas.List.{length-drop}
use Rattle.cpg_head.specs.Head.{Head}
use Rattle.cpg_table.specs.Lawful.{AreTablesOf}
use Rattle.cpg_cluster.specs.Keeping.{AreOpen}
use Rattle.cpg_cluster.proofs.Opening.{open_next}
use Rattle.cpg_cluster.proofs.member.open_members.Goals as goal

-- One more member is open: the one that was opened with the next table.
pub loop-number-preserved : goal.loop-number-preserved
loop-number-preserved c =
    let pairs = c.loop-number.number-iterator in
    let pairs_left = c.next.new.self in
    let invariant = c.loop-number.invariant in
    let steps = c.in-Some.ensures.steps in
    let range = steps.0 in
    -- the next member is open, and one table less is left
    let next = open_next c.args.problem.now c.args.tables.nodes pairs.a.start c.in-Some.number pairs_left.a.start c.in-Some.table
    pairs_left.b.rest.items c.loop-number.members.items c.in_ok-open_member.field-0
    invariant.opened (invariant.left ∙ steps.1.0) range.1.1 range.1.2 c.in_ok-open_member.ensures in
    record {
      opened = subst (AreOpen c.args.problem.now c.args.tables.nodes pairs_left.a.start) (sym c.in_ok-push.ensures.items) next.0;
      left = next.1;
      few = omega (arith, range, invariant.few);
      end = range.0 ∙ invariant.end;
    }

-- After the loop all numbers or all tables are used up. There are as many of both, so every table has its member.
pub returns-clause-members : goal.returns-clause-members
returns-clause-members c =
    let nodes = c.args.tables.nodes in
    let pairs = c.loop-number.number-iterator in
    let invariant = c.loop-number.invariant in
    let many = length-drop pairs.a.start nodes in
    let left = ap length invariant.left in
    -- there are as many tables as nodes
    let of : AreTablesOf c.args.tables.head nodes = c.head.ensures.lawful in
    let head = ap (λ (h : Head). length h.nodes) c.head.ensures.head in
    let count = ap length c.nodes.ensures.nodes in
    let rest = pairs.b.rest.ok.0 in
    -- all of them have been gone over
    subst (λ n. AreOpen c.args.problem.now nodes n c.loop-number.members.items)
    (elim c.in-None.ensures.steps [
      | inl e ↦ omega (arith, e.1, invariant.few, invariant.end, of.count, head, count)
      | inr e ↦ omega (arith, e.1, rest, many, left, invariant.few, invariant.end, of.count, head, count)
    ]) invariant.opened
