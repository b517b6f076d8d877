-- Proof of `goes`, which returns a tree that is true where an item is sent, and false elsewhere. `active` says where
-- its producer is active.
use Rattle.std.proofs.Common.{◌∙◌, sym}
use Rattle.cpg_tree.specs.Variables.{is_variable}
use Rattle.cpg_tree.proofs.GraphTrees.{same_tree}
use Rattle.cpg_expand.proofs.Goes.{goes_message, goes_other}
use Rattle.cpg_expand.proofs.sending.goes.Goals as goal

-- the item is a message, so it goes where its edge is live
pub returns-in_ok-live-in-Message-clause-goes : goal.returns-in_ok-live-in-Message-clause-goes
returns-in_ok-live-in-Message-clause-goes c =
    goes_message c.args.problem.now c.args.item c.args.active.now c.in_ok-live-in-Message.live c.in-Message.edge
    (sym c.item.ensures.item ∙ c.in-Message.is) c.requires.sent c.in_ok-live-in-Message.ensures.live

-- the item is not a message, so it goes where its producer is active
pub returns-in_ok-same-in_default : goal.returns-in_ok-same-in_default
returns-in_ok-same-in_default c = record {
  tree = same_tree c.args.problem.now c.args.active.now c.in_ok-same-in_default.same c.requires.active.faults
      c.in_ok-same-in_default.ensures.is.faults c.in_ok-same-in_default.ensures.each
      (c.in_ok-same-in_default.ensures.pass (is_variable c.args.problem.now) c.requires.active.known);
  goes = goes_other c.args.problem.now c.args.item c.args.active.now c.in_ok-same-in_default.same c.item.result
      (sym c.item.ensures.item) c.in_default.not-Message c.requires.sent c.requires.active
      c.in_ok-same-in_default.ensures.is;
}
