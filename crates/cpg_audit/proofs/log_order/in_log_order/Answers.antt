-- Proof of `in_log_order`: all items, those that a log names first, by time, and then the others.
use Rattle.std.proofs.Common.{◌≡◌, ◌++◌, ◌∷◌, ◌∙◌, ℕ, [], map, ap, rules, subst, sym}
use Rattle.std.specs.Prelude.{IsPermutation}
use Rattle.std.proofs.lemmas.List.{map-append}
use Rattle.std.proofs.lemmas.List.Sorted.{IsPermutation-map}
use Rattle.cpg_base.specs.Graph.{item_count}
use Rattle.cpg_base.specs.Numbers.{numbers_below}
use Rattle.cpg_base.proofs.Lists.{below_push}
use Rattle.cpg_audit.specs.declared.log_order.TimedItem.{TimedItem}
use Rattle.cpg_audit.proofs.log_order.in_log_order.Goals as goal

-- the number of an item that is listed with its time
abbrev item : TimedItem → ℕ
item t = t.item

-- the next item is added behind those before
pub loop-item-preserved : goal.loop-item-preserved
loop-item-preserved c =
    let timed : TimedItem = record { time = c.unwrap_or-time.result; item = c.loop-item.item } in
    ap (map item) c.in_ok-push.ensures.items ∙ map-append item c.loop-item.ordered.items (timed ∷ [])
    ∙ ap (λ xs. xs ++ c.loop-item.item ∷ []) c.loop-item.invariant ∙ sym (below_push c.loop-item.item)

-- the list has all items, and sorting it leaves a permutation of them
pub returns : goal.returns
returns c =
    let last : c.loop-item.item ≡ item_count c.args.problem.now = search rules in
    let all : map item c.loop-item.ordered.items ≡ numbers_below (item_count c.args.problem.now) =
    c.loop-item.invariant ∙ ap numbers_below last in
    subst (λ xs. IsPermutation xs (map item c.sort_by_key.new.self.items)) all (IsPermutation-map item
    c.loop-item.ordered.items c.sort_by_key.new.self.items c.in_ok-sort_by_key.ensures.permutation)
