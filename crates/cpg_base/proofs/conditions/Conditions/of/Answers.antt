-- Proof of `Conditions::of`: returns the conditions of `processes` processes with these edges, and `None` exactly if
-- there are more than 32.
use Rattle.std.proofs.Common.{◌≡◌, ◌∙◌, ◌∷◌, [], sym, ap, false, get_or, length, filter, length-append, arith}
use Rattle.cpg_base.specs.Numbers.{numbers_below}
use Rattle.cpg_base.proofs.Lists.{filter_below_takes, filter_below_skips}
use Rattle.cpg_base.specs.Conditions.{has_conditional_output}
use Rattle.cpg_base.proofs.Marks.{same_marked, many_pass}
use Rattle.cpg_base.proofs.conditions.Conditions.of.Goals as goal
use Rattle.cpg_base.proofs.conditions.Conditions.of.Goals.{then-found-process+else-count-eq-MOST_CONDITIONS}
use Rattle.cpg_base.proofs.conditions.Conditions.of.Goals.{else-found-process}

-- 32 processes before this one have a condition, and so has this one: more than 32 in all
pub returns-then-count-eq-MOST_CONDITIONS-clause-many :
    goal.returns-then-count-eq-MOST_CONDITIONS-clause-many
returns-then-count-eq-MOST_CONDITIONS-clause-many c =
    let same = same_marked c.disjunctions-found.result (has_conditional_output c.args.edges.now) c.loop-process.process
    (omega arith) c.disjunctions-found.ensures in
    many_pass (has_conditional_output c.args.edges.now) c.args.processes c.loop-process.process 32
    c.loop-process-test.true
    (sym (c.disjunctions-found.ensures c.loop-process.process (omega arith)) ∙ c.if-found-process.true)
    (ap length (sym same) ∙ ap length (sym c.loop-process.invariant.found) ∙ sym c.count.ensures.count
    ∙ c.if-count-eq-MOST_CONDITIONS.true)

-- a process that is marked is added, and no other
pub loop-process-preserved : goal.loop-process-preserved
loop-process-preserved c = elim c.if-found-process.branch [
  -- the process is marked, and added
  | then-found-process+else-count-eq-MOST_CONDITIONS w ↦ record {
    found = filter_below_takes (λ p. get_or c.disjunctions-found.result p false) c.loop-process.conditions
        c.if-found-process.conditions c.loop-process.process
        c.loop-process.invariant.found w.if-found-process.true (w.conditions-is ∙ w.push.ensures);
    few = omega (
      arith,
      ap length (w.conditions-is ∙ w.push.ensures),
      length-append c.loop-process.conditions (c.loop-process.process ∷ []),
    );
  }
  -- it isn't marked
  | else-found-process w ↦ record {
    found = w.conditions-is ∙ filter_below_skips (λ p. get_or c.disjunctions-found.result p false)
        c.loop-process.conditions c.loop-process.process
        c.loop-process.invariant.found w.if-found-process.false;
    few = omega (arith, ap length w.conditions-is);
  }
]

-- the marked processes below the count are those that have a conditional output
pub returns-clause-found : goal.returns-clause-found
returns-clause-found c =
    let at : c.loop-process.process ≡ c.args.processes = omega arith in
    c.loop-process.invariant.found ∙ same_marked c.disjunctions-found.result
    (has_conditional_output c.args.edges.now) c.loop-process.process (omega arith) c.disjunctions-found.ensures
    ∙ ap (λ n. filter (has_conditional_output c.args.edges.now) (numbers_below n)) at
