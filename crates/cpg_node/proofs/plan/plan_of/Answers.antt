-- Proof of `plan_of`: all columns of what a node sends and starts, in order of time.
use Rattle.std.proofs.Common.{rules, length, ap, subst, sym}
use Rattle.std.specs.Prelude.{All, ◌≤◌}
use Rattle.std.proofs.lemmas.Fn.{always_returns_same}
use Rattle.std.proofs.lemmas.List.Sorted.{IsNonDecreasingBy-from_sort_by_key}
use Rattle.cpg_base.specs.declared.limits.TheConstants.{MOST_COLUMNS}
use Rattle.cpg_table.specs.Table.{Row}
use Rattle.cpg_node.specs.Plan.{Planned, SameAtEachTime}
use Rattle.cpg_node.proofs.Planning.{planned_is, same_from_stable}
use Rattle.cpg_node.proofs.TableBounds.{sends_few, starts_few}
use Rattle.cpg_node.proofs.plan.plan_of.Goals as goal

-- the rows of what a node sends are lawful, so they have at most 16,384 columns each
pub plan_rows-requires-clause-few : goal.plan_rows-requires-clause-few
plan_rows-requires-clause-few c = subst (All (λ (row : Row). length row.columns ≤ MOST_COLUMNS))
    (sym c.sends.ensures.sends) (sends_few c.args.table.now c.sends.ensures.made)

-- the rows of what a node starts are lawful, so they have at most 16,384 columns each
pub plan_rows-requires-2-clause-few : goal.plan_rows-requires-2-clause-few
plan_rows-requires-2-clause-few c = subst (All (λ (row : Row). length row.columns ≤ MOST_COLUMNS))
    (sym c.starts.ensures.starts) (starts_few c.args.table.now c.sends.ensures.made)

-- before the sort the plan is that of the table, and a stable sort by time keeps the order of entries of one time
pub returns-clause-same : goal.returns-clause-same
returns-clause-same c = subst (SameAtEachTime c.sort_by_key.new.self.items)
    (planned_is c.args.table.now c.new-plan.result.items c.plan_rows.new.plan.items c.plan_rows-2.new.plan.items
    c.sends.result.now c.starts.result.now (length c.sends-2.result.now)
    c.new-plan.ensures.items c.sends.ensures.sends c.starts.ensures.starts
    (ap length c.sends-2.ensures.sends) c.in_ok-plan_rows.ensures c.in_ok-plan_rows-2.ensures)
    (same_from_stable c.plan_rows-2.new.plan.items c.sort_by_key.new.self.items (c.in_ok-sort_by_key.ensures.stable
    (λ (p : Planned). p.time) (always_returns_same _ _ _ (λ a r f k. search rules))))

-- a sort by time leaves an order of time
pub returns-clause-rises : goal.returns-clause-rises
returns-clause-rises c = IsNonDecreasingBy-from_sort_by_key (λ (p : Planned). p.time) _
    c.in_ok-sort_by_key.ensures.sorted (λ a r f' k. search rules)
