-- Proof of `frozen_items`: the frozen items of all processes, along an order.
use Rattle.std.proofs.Common.{ℕ, ◌+◌, ◌≡◌, ◌∙◌, ◌<◌, ◌≤◌, List, [], ◌∷◌, ◌++◌, ap, ap₂, append-nil, get_or, length}
use Rattle.std.proofs.Common.{subst, sym, take}
use Rattle.std.specs.List.{flat_map}
use Rattle.std.proofs.lemmas.List.{take_all, take_more}
use Rattle.std.proofs.lemmas.List.Concat.{flat_map-append}
use Rattle.cpg_run.specs.FrozenItems.{frozen_along, frozen_items_of}
use Rattle.cpg_run.proofs.FrozenOrder.{within_order}
use Rattle.cpg_all_runs.proofs.freezing.frozen_items.Goals as goal

-- an element of the order is a process of the graph
pub add_frozen_of-requires-clause-process : goal.add_frozen_of-requires-clause-process
add_frozen_of-requires-clause-process c =
    within_order c.args.problem.now c.args.order.now c.processes-process-items.result.now c.loop-process.process-index
    c.processes-process-items.ensures.processes c.processes-process-items.ensures.order c.requires.order
    c.loop-process-test.true

-- what one element more of a list gives is added to what those before it give
one_more : (f : ℕ → List ℕ) (list order : List ℕ) (i : ℕ) (old new : List ℕ) → list ≡ order → i < length list →
    old ≡ flat_map f (take i order) → new ≡ old ++ f (get_or list i 0) → new ≡ flat_map f (take (i + 1) order)
one_more f list order i old new is within before more =
    let inside : i < length order = subst (λ (xs : List ℕ). i < length xs) is within in
    more ∙ ap₂ (λ (xs : List ℕ) (p : ℕ). xs ++ f p) before (ap (λ (xs : List ℕ). get_or xs i 0) is)
    ∙ sym (ap (λ (xs : List ℕ). flat_map f xs) (take_more order i 0 inside)
    ∙ flat_map-append f (take i order) (get_or order i 0 ∷ [])
    ∙ ap (λ (xs : List ℕ). flat_map f (take i order) ++ xs) (append-nil (f (get_or order i 0))))

-- the frozen items of the next process are added
pub loop-process-preserved : goal.loop-process-preserved
loop-process-preserved c =
    one_more (frozen_items_of c.args.problem.now) c.processes-process-items.result.now c.args.order.now
    c.loop-process.process-index c.loop-process.items.items c.add_frozen_of.new.items.items
    c.processes-process-items.ensures.processes c.loop-process-test.true c.loop-process.invariant
    c.in_ok-add_frozen_of.ensures

-- at the end they are those of all processes
pub returns : goal.returns
returns c =
    let i = c.loop-process.process-index in
    let past : length c.args.order.now ≤ i = subst (λ (xs : List ℕ). length xs ≤ i)
    c.processes-process-items.ensures.processes c.loop-process-test.false in
    c.loop-process.invariant
    ∙ ap (λ (xs : List ℕ). frozen_along c.args.problem.now xs) (take_all i c.args.order.now past)
