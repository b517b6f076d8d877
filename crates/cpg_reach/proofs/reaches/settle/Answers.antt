-- Proof of `settle`, which sets the reach of an item, and adds it to what its node has sent.
use Rattle.std.proofs.Common.{◌||◌, ◌∙◌, refl, ap}
use Rattle.cpg_order.specs.Reach.{is_in}
use Rattle.cpg_reach.proofs.Adding.{set_at}
use Rattle.cpg_reach.proofs.reaches.settle.Goals as goal

-- the reach of the item is added to what its node has sent
pub returns-clause-sent : goal.returns-clause-sent
returns-clause-sent c = (
  c.add.new.self,
  refl,
  λ v. c.add.ensures v
      ∙ ap (λ xs. is_in xs v || is_in c.args.reach v) (c.copy-sent.ensures
      ∙ set_at c.args.walk.now.sent.items c.args.node c.index.result.now c.requires.node c.index.ensures),
)
