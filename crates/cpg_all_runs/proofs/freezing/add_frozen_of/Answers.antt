-- Proof of `add_frozen_of`: adds the frozen items of a process: its start, and then what it sends, in the order of its
-- queue.
use Rattle.std.proofs.Common.{◌≡◌, ◌∙◌, ℕ, ◌+◌, ◌<◌, Bool, List, ◌∷◌, [], ◌++◌, filter, take, length, get_or, Contains}
use Rattle.std.proofs.Common.{append_assoc, arith, subst, sym, ap}
use Rattle.std.proofs.lemmas.List.{take_more}
use Rattle.std.proofs.lemmas.List.Elements.{Contains-get_or, filter-append}
use Rattle.cpg_base.specs.Graph.{is_frozen}
use Rattle.cpg_bus.specs.Plan.{queue_of}
use Rattle.cpg_bus.proofs.Queued.{in_queue}
use Rattle.cpg_all_runs.proofs.freezing.add_frozen_of.Goals as goal

-- the chosen of a first item and i others, and then the next one if it is chosen, are the chosen of the first and i + 1
-- others: filters of lists behind each other
one_more : (f : ℕ → Bool) (before items : List ℕ) (first i x : ℕ) → i < length items → x ≡ get_or items i 0 →
    (before ++ filter f (first ∷ take i items)) ++ filter f (x ∷ []) ≡ before ++ filter f (first ∷ take (i + 1) items)
one_more f before items first i x inside is =
    append_assoc before (filter f (first ∷ take i items)) (filter f (x ∷ []))
    ∙ ap (λ ys. before ++ ys) (sym (filter-append f (first ∷ take i items) (x ∷ []))
    ∙ ap (λ y. filter f (first ∷ (take i items ++ y ∷ []))) is ∙
    ap (λ ys. filter f (first ∷ ys)) (sym (take_more items i 0 inside)))

-- what a process sends is an item of the graph
pub add_if_frozen-requires-in-loop-item : goal.add_if_frozen-requires-in-loop-item
add_if_frozen-requires-in-loop-item c =
    let x = get_or c.queue-item-items.result.now c.loop-item.item-index 0 in
    (in_queue c.args.problem.now c.args.process x
    (subst (λ xs. Contains xs x) c.queue-item-items.ensures
    (Contains-get_or c.queue-item-items.result.now c.loop-item.item-index 0 c.loop-item-test.true))).within

-- one more item of the queue is added if it is frozen
pub loop-item-preserved : goal.loop-item-preserved
loop-item-preserved c =
    let g = c.args.problem.now in
    let i = c.loop-item.item-index in
    let x = get_or c.queue-item-items.result.now i 0 in
    let inside : i < length (queue_of g c.args.process) =
    omega (arith, ap length c.queue-item-items.ensures, c.loop-item-test.true) in
    c.in_ok-add_if_frozen-2.ensures ∙ ap (λ xs. xs ++ filter (is_frozen g) (x ∷ [])) c.loop-item.invariant
    ∙ one_more (is_frozen g) c.args.items.now.items (queue_of g c.args.process) c.args.process i x inside
    (ap (λ xs. get_or xs i 0) c.queue-item-items.ensures)
