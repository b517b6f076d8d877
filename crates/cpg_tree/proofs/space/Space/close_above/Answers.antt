-- Proof of `Space::close_above`, which makes the cut the high of a variable, and returns the high from before, which
-- `reopen_above` puts back.
use Rattle.std.proofs.Common.{rules, ap, List, ℕ, ◌∙◌, set-set}
use Rattle.cpg_tree.specs.Space.{Space}
use Rattle.cpg_tree.proofs.Spaces.{lies_below}
use Rattle.cpg_tree.proofs.space.Space.close_above.Goals as goal

-- the high is set and set back, so the space is the one from before
pub returns-clause-back : goal.returns-clause-back
returns-clause-back c =
    let space : Space = c.args.self.now in
    let with_highs : List ℕ → Space = λ xs. record { low = space.low; high = xs; left = space.left } in
    ap with_highs (set-set space.high c.args.variable c.args.cut c.highest-high.result) ∙ c.highest-high.ensures

-- a scenario whose number is at most the cut stays in the space
pub returns-clause-lies : goal.returns-clause-lies
returns-clause-lies c s lies h =
    lies_below c.args.self.now s lies c.args.variable c.args.cut (search rules) (search rules) h
