-- Proof of `excluded`: the cubes of those columns of all items whose times a log excludes.
use Rattle.std.proofs.Common.{◌≡◌, ◌-◌, ◌∙◌, ◌||◌, ℕ, Bool, List, All, Bor, get_or, length, map, flat_map, take, sym}
use Rattle.std.proofs.Common.{ap, subst, arith}
use Rattle.std.specs.List.{list_any}
use Rattle.std.proofs.lemmas.List.{take_all}
use Rattle.std.proofs.lemmas.List.Folds.{list_any-append}
use Rattle.cpg_base.specs.Graph.{item_count}
use Rattle.cpg_base.specs.Numbers.{numbers_below}
use Rattle.cpg_cube.specs.Cube.{matches}
use Rattle.cpg_cube.specs.Fit.{IsKnown}
use Rattle.cpg_cube.specs.declared.literal.Literal.{Literal}
use Rattle.cpg_cube.proofs.Mapped.{any_map}
use Rattle.cpg_cover.proofs.Kept.{all_unmapped}
use Rattle.cpg_audit.specs.Excluded.{excluded_of}
use Rattle.cpg_audit.specs.declared.log_order.TimedItem.{TimedItem}
use Rattle.cpg_audit.proofs.GivesLaws.{excluded_known}
use Rattle.cpg_audit.proofs.NarrowingLaws.{any_in_order, any_within, flat_more}
use Rattle.cpg_audit.proofs.auditing.excluded.Goals as goal

-- the number of an item that is listed with its time
abbrev item : TimedItem → ℕ
item t = t.item

-- the default of `get_or`, which is never reached
abbrev blank : TimedItem
blank = record { time = 0; item = 0 }

-- with the next item's excluded cubes taken off, the kept cubes match where those of one item more do
pub loop-timed-preserved : goal.loop-timed-preserved
loop-timed-preserved c =
    let f : ℕ → List (List Literal) = excluded_of c.args.tables.now.nodes c.args.log.now in
    let xs : List TimedItem = c.as_slice-timed-items.result.now in
    let i : ℕ = c.loop-timed.timed-index in
    let x : TimedItem = get_or xs i blank in
    -- the cubes of the next item are those that the log excludes of it
    let one : map (λ (b : Bor (List Literal)). b.now) c.in_ok-by.by.items ≡ f x.item =
    rw (c.until.ensures, c.time_of.ensures, c.columns_of-columns.ensures.columns) at c.in_ok-by.ensures in
    let inv = c.loop-timed.invariant in
    let kept = c.take_off_all.new.kept.items in
    record {
      -- a scenario matches a kept cube exactly if it matches an excluded one of the items so far
      same = λ s lies.
          let test : List Literal → Bool = λ b. matches b s in
          rw c.as_slice.ensures.value at (c.in_ok-take_off_all.ensures.same s (inv.left s lies))
          ∙ ap (λ b. b || list_any (λ (b : Bor (List Literal)). matches b.now s) c.in_ok-by.by.items) (inv.same s lies)
          ∙ ap (λ b. list_any test (flat_map f (map item (take i xs))) || b)
          (sym (any_map test (λ (b : Bor (List Literal)). b.now) c.in_ok-by.by.items) ∙ ap (list_any test) one)
          ∙ sym (list_any-append test (flat_map f (map item (take i xs))) (f x.item))
          ∙ sym (ap (list_any test) (flat_more f item xs i blank (omega arith)));
      -- a scenario that no kept cube matches lies in the narrowed space
      left = λ s lies off.
          let window =
          any_within (λ b. matches b.now s) c.len-first.result (length kept - c.len-first.result) kept off in
          c.narrow.ensures s (rw c.deref.ensures.value window)
          (c.in_ok-take_off_all.ensures.space s (inv.left s lies) off);
      -- the kept cubes have variables of the graph alone
      known =
          let cubes : All (IsKnown c.args.problem.now) (f x.item) =
          excluded_known c.args.problem.now c.args.tables.now.nodes c.args.log.now x.item (c.requires x.item) in
          c.in_ok-take_off_all.ensures.known c.args.problem.now
          (rw c.as_slice.ensures.value
          (all_unmapped (IsKnown c.args.problem.now) (λ (b : Bor (List Literal)). b.now) c.in_ok-by.by.items
          (subst (All (IsKnown c.args.problem.now)) (sym one) cubes))) inv.known;
    }

-- all items were gone over in some order, so the kept cubes match where any excluded cube does
pub returns-clause-same : goal.returns-clause-same
returns-clause-same c s lies =
    let f : ℕ → List (List Literal) = excluded_of c.args.tables.now.nodes c.args.log.now in
    let xs : List TimedItem = c.as_slice-timed-items.result.now in
    c.loop-timed.invariant.same s lies
    ∙ ap (λ ts. list_any (λ b. matches b s) (flat_map f (map item ts)))
    (take_all c.loop-timed.timed-index xs (omega arith) ∙ c.as_slice-timed-items.ensures.value)
    ∙ any_in_order (λ b. matches b s) f (numbers_below (item_count c.args.problem.now))
    (map item c.in_ok-ordered.ordered.items) c.in_ok-ordered.ensures
