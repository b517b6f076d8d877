-- Proof of `Space::affords`: whether the faults left suffice for the lows of literals from the place `from` on: if not,
-- no scenario of the space matches the literals.
use Rattle.std.proofs.Common.{arith}
use Rattle.std.proofs.lemmas.Bool.{false_from_ne_true}
use Rattle.cpg_cube.specs.Cube.{matches}
use Rattle.cpg_tree.proofs.Demands.{demands_left, demand_fits, demand_rest}
use Rattle.cpg_tree.proofs.space.Space.affords.Goals as goal

-- before the first literal no fault is used up
pub loop-at-init : goal.loop-at-init
loop-at-init c s lies all = demands_left c.args.self.now s lies c.args.literals.now c.requires all c.args.from

-- the faults that the literal at this place asks for are taken from those left
pub loop-at-preserved : goal.loop-at-preserved
loop-at-preserved c s lies all = demand_rest c.args.self.now c.args.literals.now c.loop-at.at
    (record { variable = 0; low = 0; high = 0 }) c.loop-at-test.true c.loop-at.left c.saturating_sub.result
    c.faults_of-more.result
    c.saturating_sub.ensures c.faults_of-more.ensures (c.loop-at.invariant s lies all)

-- the literal at this place asks for more faults than are left, so no scenario of the space matches all
pub returns-then-left-more : goal.returns-then-left-more
returns-then-left-more c s lies = false_from_ne_true (matches c.args.literals.now s) (λ all. omega (
  arith,
  c.if-left-more.true,
  demand_fits c.args.self.now c.args.literals.now c.loop-at.at (record { variable = 0; low = 0; high = 0 })
      c.loop-at-test.true c.loop-at.left c.saturating_sub.result c.faults_of-more.result
      c.saturating_sub.ensures c.faults_of-more.ensures (c.loop-at.invariant s lies all),
))
