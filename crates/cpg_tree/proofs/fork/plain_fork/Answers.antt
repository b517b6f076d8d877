-- Proof of `plain_fork`, which makes a fork of the two trees that a list ends in, with its cut behind both lists.
use Rattle.cpg_tree.proofs.Forks.{of_answer}
use Rattle.cpg_tree.proofs.ForkLaws.{forks_plain}
use Rattle.cpg_tree.proofs.fork.plain_fork.Goals as goal

-- the cut that is pushed behind the two lists makes them the list of the fork
pub returns-clause-made : goal.returns-clause-made
returns-clause-made g c =
    of_answer c.push_cut.result _ _ c.push_cut.ensures
    (λ u added before below above split. forks_plain c.args.start c.args.middle c.args.out.now.items before below above
    split c.args.variable c.args.cut c.push_cut.new.out.items
    c.ranges.variable.fits added)
