-- Proof of `start_where`, which returns the starts of a process where `active` is true, and no time elsewhere. It waits
-- for its node, its release and the inputs `edges`; `wait` says from when on the node is ready for it. `TooWide` names
-- the forest's item if a tree of the wait with some of the inputs has too many leaves.
use Rattle.std.proofs.Common.{ap, ℕ, ◌<◌, ◌∙◌, ◌∷◌, List, arith, sym, subst}
use Rattle.std.specs.Prelude.{IfOk}
use Rattle.std.proofs.lemmas.List.{nil_from_length}
use Rattle.std.proofs.lemmas.Option.{MatchOption-at_none}
use Rattle.cpg_base.specs.Graph.{edge_count}
use Rattle.cpg_tree.specs.Read.{later_by}
use Rattle.cpg_tree.proofs.Forks.{from_true, of_answer}
use Rattle.cpg_expand.specs.Large.{IsLarge, IsLargeWith, ShowsLarge}
use Rattle.cpg_expand.specs.Forest.{ForestState, input_delay, input_tree, ready_by}
use Rattle.cpg_expand.specs.Guarded.{IsStartWhere}
use Rattle.cpg_expand.proofs.StartsWhere.{last_where, one_where, own_where}
use Rattle.cpg_expand.proofs.GuardTrees.{all_parts, later_is}
use Rattle.cpg_expand.proofs.LargeParts.{large_both, large_later, large_own}
use Rattle.cpg_expand.proofs.LargeShown.{handed_on, named_as, shown_for}
use Rattle.cpg_expand.proofs.guarded.+start_where.Goals as goal

-- no inputs are left, so the starts are those after the wait and the release, where the process is active
pub returns-in_default-clause-start : goal.returns-in_default-clause-start
returns-in_default-clause-start t c =
    subst (λ (es : List ℕ). IsStartWhere c.args.problem.now c.args.forest.now c.args.active.now
    (ready_by c.args.problem.now c.args.forest.now c.args.wait.now) c.args.release es c.in_ok-start.start)
    (sym (nil_from_length c.args.edges.now (MatchOption-at_none _ _ c.in_default.is c.split_first.ensures.cases)))
    c.in_ok-start.ensures.start

-- the first input is from the node itself, so it is there once the node is ready, and the starts without it are those
-- with it
pub returns-then-not-is_message-clause-start : goal.returns-then-not-is_message-clause-start
returns-then-not-is_message-clause-start t c =
    let g = c.args.problem.now in
    let f = c.args.forest.now in
    let active = c.args.active.now in
    let wait = ready_by g f c.args.wait.now in
    let e = c.in-Some.edge.now in
    let es = c.in-Some.others.now in
    subst (λ (xs : List ℕ). IfOk c.start_where.result (IsStartWhere g f active wait c.args.release xs))
    (sym c.in-Some.ensures.cases.0)
    (of_answer c.start_where.result (IsStartWhere g f active wait c.args.release es)
    (IsStartWhere g f active wait c.args.release (e ∷ es)) c.start_where.ensures.start
    (λ start made. own_where g f active wait start c.args.release e es
    (sym c.is_message.ensures ∙ c.if-not-is_message.true) made))

-- all other inputs are from the node itself, so the first one is the last to wait for
pub returns-then-are_own-clause-start : goal.returns-then-are_own-clause-start
returns-then-are_own-clause-start t c =
    let g = c.args.problem.now in
    let f = c.args.forest.now in
    let active = c.args.active.now in
    let wait = ready_by g f c.args.wait.now in
    subst (λ (es : List ℕ). IsStartWhere g f active wait c.args.release es c.in_ok-start-2.start)
    (sym c.in-Some.ensures.cases.0)
    (last_where g f active wait c.in_ok-start-2.start c.args.release c.in-Some.edge.now c.in-Some.others.now
    (from_true c.are_own.result c.if-are_own.true c.are_own.ensures) c.in_ok-start-2.ensures.start)

-- the other inputs are fewer, and the wait that includes the first one is a tree of the graph
pub start_where-requires-2 : goal.start_where-requires-2
start_where-requires-2 t c =
    let below = all_parts (λ e. e < edge_count c.args.problem.now) c.args.edges.now c.in-Some.edge.now
    c.in-Some.others.now c.in-Some.ensures.cases.0 c.requires.edges in
    let shorter = c.in-Some.ensures.cases.1 in
    let at = c.decreases in
    (omega arith, (c.requires.forest, (c.in_ok-there.ensures.tree, (below.1, c.requires.active))))

-- the first input is from another node, so the others are waited for after the later of it and the wait
pub returns-clause-start : goal.returns-clause-start
returns-clause-start t c =
    let g = c.args.problem.now in
    let f = c.args.forest.now in
    let active = c.args.active.now in
    let wait = ready_by g f c.args.wait.now in
    let e = c.in-Some.edge.now in
    let es = c.in-Some.others.now in
    subst (λ (xs : List ℕ). IfOk c.start_where-2.result (IsStartWhere g f active wait c.args.release xs))
    (sym c.in-Some.ensures.cases.0)
    (of_answer c.start_where-2.result (IsStartWhere g f active c.in_ok-there.there c.args.release es)
    (IsStartWhere g f active wait c.args.release (e ∷ es)) c.start_where-2.ensures.start
    (λ start made. one_where g f active wait start c.args.release (later_by (input_delay g e) (input_tree g f e))
    c.in_ok-there.there e es (later_is g (input_delay g e) (input_tree g f e)) c.in_ok-there.ensures.both made))

-- the first input is from the node itself, so a fault for the others is one for all
pub returns-then-not-is_message-clause-fault : goal.returns-then-not-is_message-clause-fault
returns-then-not-is_message-clause-fault t c =
    let g = c.args.problem.now in
    let f = c.args.forest.now in
    let wait = ready_by g f c.args.wait.now in
    let es = c.in-Some.others.now in
    shown_for c.start_where.result (ShowsLarge f.wide (IsLargeWith g f wait es))
    (ShowsLarge f.wide (IsLargeWith g f wait c.args.edges.now)) c.start_where.ensures.fault
    (λ fault shown. large_own g f wait f.wide fault c.args.edges.now c.in-Some.edge.now es c.in-Some.ensures.cases.0
    (sym c.is_message.ensures ∙ c.if-not-is_message.true) shown)

-- the first input comes from another node, and the tree of the wait with it has too many leaves
pub returns-in_err-few-clause-fault : goal.returns-in_err-few-clause-fault
returns-in_err-few-clause-fault t c =
    handed_on _ c.from_residual-in_err-few.result c.in_err-few.field-0.0 c.from_residual-in_err-few.ensures.1
    (large_both c.args.problem.now c.args.forest.now (ready_by c.args.problem.now c.args.forest.now c.args.wait.now)
    c.args.forest.now.wide c.in_err-few.field-0.0 c.args.edges.now c.in-Some.edge.now
    c.in-Some.others.now c.in-Some.ensures.cases.0 c.in_ok-there.there c.in_ok-there.ensures.both
    (named_as (IsLarge c.in_ok-there.there) c.forest.inside.wide c.args.forest.now.wide c.in_err-few.field-0.0
    (ap (λ (x : ForestState). x.wide) c.forest.view_is) c.in_err-few.ensures))

-- a tree too large with the other inputs, after the wait with the first, is one on the way of all inputs
pub returns-clause-fault : goal.returns-clause-fault
returns-clause-fault t c =
    let g = c.args.problem.now in
    let f = c.args.forest.now in
    let wait = ready_by g f c.args.wait.now in
    let es = c.in-Some.others.now in
    shown_for c.start_where-2.result (ShowsLarge f.wide (IsLargeWith g f c.in_ok-there.there es))
    (ShowsLarge f.wide (IsLargeWith g f wait c.args.edges.now)) c.start_where-2.ensures.fault
    (λ fault shown. large_later g f wait f.wide fault c.args.edges.now c.in-Some.edge.now es c.in-Some.ensures.cases.0
    c.in_ok-there.there c.in_ok-there.ensures.both shown)

-- the other inputs are fewer, and they are inputs of the graph too
pub start_where-requires : goal.start_where-requires
start_where-requires t c =
    let below = all_parts (λ e. e < edge_count c.args.problem.now) c.args.edges.now c.in-Some.edge.now
    c.in-Some.others.now c.in-Some.ensures.cases.0 c.requires.edges in
    let shorter = c.in-Some.ensures.cases.1 in
    let at = c.decreases in
    (omega arith, (c.requires.forest, (c.requires.wait, (below.1, c.requires.active))))

-- without inputs the starts are a tree of the graph
pub returns-in_default-clause-tree : goal.returns-in_default-clause-tree
returns-in_default-clause-tree t c = c.in_ok-start.ensures.tree

-- the starts without the first input are a tree of the graph
pub returns-then-not-is_message-clause-tree : goal.returns-then-not-is_message-clause-tree
returns-then-not-is_message-clause-tree t c = c.start_where.ensures.tree

-- the starts after the first input are a tree of the graph
pub returns-then-are_own-clause-tree : goal.returns-then-are_own-clause-tree
returns-then-are_own-clause-tree t c = c.in_ok-start-2.ensures.tree

-- the starts after the wait that includes the first input are a tree of the graph
pub returns-clause-tree : goal.returns-clause-tree
returns-clause-tree t c = c.start_where-2.ensures.tree
