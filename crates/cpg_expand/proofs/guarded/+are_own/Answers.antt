-- Proof of `are_own`, which says whether all these inputs come from the process's own node; so it is if there are none.
-- Callers rely only on the answer yes.
use Rattle.std.proofs.Common.{ℕ, ◌<◌, ◌≡◌, ◌∙◌, false, List, All, arith, sym, subst}
use Rattle.std.proofs.lemmas.List.{nil_from_length}
use Rattle.std.proofs.lemmas.List.Elements.{All-cons, All-nil}
use Rattle.std.proofs.lemmas.Option.{MatchOption-at_none}
use Rattle.cpg_base.specs.Graph.{edge_count, is_message}
use Rattle.cpg_tree.proofs.Passes.{of_true}
use Rattle.cpg_expand.proofs.GuardTrees.{all_parts}
use Rattle.cpg_expand.proofs.guarded.+are_own.Goals as goal

-- there is no input, so none is a message
pub returns-in_default : goal.returns-in_default
returns-in_default t c = subst (All (λ (e : ℕ). is_message c.args.problem.now e ≡ false))
    (sym (nil_from_length c.args.edges.now (MatchOption-at_none _ _ c.in_default.is c.split_first.ensures.cases)))
    (All-nil (λ (e : ℕ). is_message c.args.problem.now e ≡ false))

-- the other inputs are fewer, and they are edges of the graph too
pub are_own-requires : goal.are_own-requires
are_own-requires t c =
    let below = all_parts (λ e. e < edge_count c.args.problem.now) c.args.edges.now c.in-Some.edge.now
    c.in-Some.others.now c.in-Some.ensures.cases.0 c.requires in
    let shorter = c.in-Some.ensures.cases.1 in
    let at = c.decreases in
    (omega arith, below.1)

-- the first input is from the node itself, so all are if the others are
pub returns : goal.returns
returns t c =
    let own : ℕ → Type 0 = λ e. is_message c.args.problem.now e ≡ false in
    of_true c.are_own.result c.are_own.ensures
    (λ others. subst (All own) (sym c.in-Some.ensures.cases.0) (All-cons own c.in-Some.edge.now c.in-Some.others.now
    (sym c.is_message.ensures ∙ c.if-is_message.false) others))
