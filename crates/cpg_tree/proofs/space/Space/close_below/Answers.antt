-- Proof of `Space::close_below`, which makes `cut + 1` the low of a variable and takes the faults for it from those
-- left.
use Rattle.std.proofs.Common.{ap, List, ℕ, ◌+◌, ◌∙◌, set-set}
use Rattle.cpg_tree.specs.declared.space.Lifted.{Lifted}
use Rattle.cpg_tree.specs.Space.{Space, reopened_below}
use Rattle.cpg_tree.proofs.space.Space.close_below.Goals as goal

-- the low is set and set back, so the space is the one from before
pub returns-clause-back : goal.returns-clause-back
returns-clause-back c =
    let space : Space = c.args.self.now in
    let was : Lifted = c.lowest-was.result in
    let with_lows : List ℕ → Space = λ xs. record { low = xs; high = space.high; left = was.left } in
    ap (λ (r : Space). reopened_below r c.args.variable was) c.raise.ensures.is
    ∙ ap with_lows (set-set space.low c.args.variable (c.args.cut + 1) was.low) ∙ c.lowest-was.ensures
