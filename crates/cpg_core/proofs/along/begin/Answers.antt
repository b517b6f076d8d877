-- Proof of `begin`, which adds to the forest the start and the end of a process, and when its node goes on after it,
-- and to `frozen` its frozen time if it is frozen and ever active. Returns the tree of where it is active. `TooWide`
-- names the forest's item if a tree on the way has too many leaves.
use Rattle.std.proofs.Common.{◌≡◌, ◌∙◌, false, true, refl, sym, subst, inl, inr}
use Rattle.cpg_base.specs.Graph.{Graph, is_frozen}
use Rattle.cpg_rules.specs.Guards.{tree_of}
use Rattle.cpg_expand.specs.Large.{IsLargeBegun, IsLargeFrozen, IsLargeThawed}
use Rattle.cpg_expand.proofs.LargeShown.{handed_as}
use Rattle.cpg_core.proofs.along.begin.Goals as goal

-- the process is not frozen, so its start is the one in each scenario and no frozen time changes
pub returns-clause-begun : goal.returns-clause-begun
returns-clause-begun c =
    let b = c.in_ok-active-2.ensures.begun c.args.order.now in
    record {
      chooser_tree = b.chooser_tree;
      actives = b.actives;
      start = b.start;
      -- the process isn't frozen, the frozen times stay, and the start follows from all that it waits for
      starts = inl (
        subst (λ (g : Graph). is_frozen g c.args.process ≡ false) c.problem.ensures.problem
            (sym c.is_frozen.ensures ∙ c.if-is_frozen.false),
        refl,
        b.starts,
      );
      end = b.end;
      ends = b.ends;
      ready = b.ready;
      ready_after = b.ready_after;
      readies = b.readies;
      is = b.is;
    }

-- the process is frozen, so a tree too large on a frozen process's way is one on the way to its start and end
pub returns-in_err-active-clause-fault : goal.returns-in_err-active-clause-fault
returns-in_err-active-clause-fault c =
    let g = c.args.admitted.now.graph in
    let p = c.args.process in
    let f = c.args.forest.now in
    let frozen : is_frozen g p ≡ true = subst (λ (k : Graph). is_frozen k p ≡ true) c.problem.ensures.problem
    (sym c.is_frozen.ensures ∙ c.if-is_frozen.true) in
    handed_as (IsLargeFrozen g c.args.order.now p f (tree_of c.args.admitted.now.guards p))
    (IsLargeBegun g c.args.order.now c.args.admitted.now.guards p f) f.wide
    c.from_residual.result c.in_err-active.field-0.0 c.from_residual.ensures.1
    (λ x. inr (frozen, x)) c.in_err-active.ensures.fault

-- the process isn't frozen, so a tree too large on such a process's way is one on the way to its start and end
pub returns-in_err-active-2-clause-fault : goal.returns-in_err-active-2-clause-fault
returns-in_err-active-2-clause-fault c =
    let g = c.args.admitted.now.graph in
    let p = c.args.process in
    let f = c.args.forest.now in
    let thawed : is_frozen g p ≡ false = subst (λ (k : Graph). is_frozen k p ≡ false) c.problem.ensures.problem
    (sym c.is_frozen.ensures ∙ c.if-is_frozen.false) in
    handed_as (IsLargeThawed g p f (tree_of c.args.admitted.now.guards p))
    (IsLargeBegun g c.args.order.now c.args.admitted.now.guards p f) f.wide
    c.from_residual-in_err-active-2.result c.in_err-active-2.field-0.0 c.from_residual-in_err-active-2.ensures.1
    (λ x. inl (thawed, x)) c.in_err-active-2.ensures.fault
