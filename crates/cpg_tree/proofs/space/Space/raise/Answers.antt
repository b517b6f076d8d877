-- Proof of `Space::raise`, which makes `cut + 1` the low of a variable, and takes the faults for it from those left.
use Rattle.std.proofs.Common.{rules, sym, subst, ◌+◌, ◌-◌, ℕ}
use Rattle.std.specs.Prelude.{slice_set}
use Rattle.cpg_tree.specs.Space.{Space, IsInSpace}
use Rattle.cpg_tree.proofs.Spaces.{lies_above}
use Rattle.cpg_tree.proofs.space.Space.raise.Goals as goal

-- a scenario whose number is above the cut lies in the space above it
pub returns-clause-lies : goal.returns-clause-lies
returns-clause-lies c s lies h =
    let space : Space = c.args.self.now in
    subst (λ (n : ℕ). IsInSpace (record { low = slice_set space.low c.args.variable (c.args.cut + 1); high = space.high; left = space.left - n }) s)
    (sym c.faults_of.ensures)
    (lies_above space s lies c.args.variable c.args.cut (search rules) (search rules) c.requires.below h)
