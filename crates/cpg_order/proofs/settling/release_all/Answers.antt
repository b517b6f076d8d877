-- Proof of `release_all`: counts each of these edges as a settled input of its target.
use Rattle.std.proofs.Common.{ℕ, List, ◌+◌, ◌<◌, ◌≤◌, ◌≡◌, ◌==◌, ◌∙◌, ◌++◌, sym, ap, length, get_or, take, arith}
use Rattle.std.proofs.Common.{eq-eqb, append_assoc, length-set}
use Rattle.std.proofs.lemmas.List.{take_all}
use Rattle.std.proofs.lemmas.List.Elements.{Contains-get_or}
use Rattle.cpg_base.specs.Graph.{target}
use Rattle.cpg_order.proofs.Readiness.{passing, passing_next, left_next}
use Rattle.cpg_order.proofs.settling.release_all.Goals as goal

-- each of these edges is one of the graph
pub target-requires : goal.target-requires
target-requires c = c.requires.edges (get_or c.args.edges.now c.loop-edge.edge-index 0)
    (Contains-get_or c.args.edges.now c.loop-edge.edge-index 0 c.loop-edge-test.true)

-- the target t of the next edge still waits: it waited for at least all of these edges that lead to it, and this one isn't
-- counted yet
next_waits : (edges waiting : List ℕ) (f : ℕ → ℕ) (i t : ℕ) (old : ℕ) → i < length edges → t ≡ f (get_or edges i 0) →
    passing (λ e. f e == t) edges ≤ old →
    get_or waiting t 0 + passing (λ e. f e == t) (take i edges) ≡ old → 0 < get_or waiting t 0
next_waits edges waiting f i t old inside at enough left =
    let counted = passing_next (λ e. f e == t) edges i inside (eq-eqb (f (get_or edges i 0)) t (sym at)) in
    omega arith

-- the target of an edge that isn't counted yet still waits for it
pub release-requires-clause-waits : goal.release-requires-clause-waits
release-requires-clause-waits c = next_waits c.args.edges.now c.loop-edge.waiting.items
    (target c.args.problem.now) c.loop-edge.edge-index c.target.result
    (get_or c.args.waiting.now.items c.target.result 0)
    c.loop-edge-test.true c.target.ensures.target (c.requires.wait c.target.result)
    (c.loop-edge.invariant.left c.target.result)

-- after one more edge its target waits for one input less
pub loop-edge-preserved : goal.loop-edge-preserved
loop-edge-preserved c =
    -- the target still waits for an input, which is counted now
    let some = next_waits c.args.edges.now c.loop-edge.waiting.items (target c.args.problem.now) c.loop-edge.edge-index
    c.target.result (get_or c.args.waiting.now.items c.target.result 0)
    c.loop-edge-test.true c.target.ensures.target (c.requires.wait c.target.result)
    (c.loop-edge.invariant.left c.target.result) in
    record {
      ready = c.in_ok-release.ensures.ready;
      long = ap length c.in_ok-release.ensures.waiting ∙ length-set c.loop-edge.waiting.items c.target.result _
          ∙ c.loop-edge.invariant.long;
      left =
          left_next (target c.args.problem.now) c.args.edges.now c.loop-edge.waiting.items c.release.new.waiting.items
          (λ p. get_or c.args.waiting.now.items p 0) c.loop-edge.edge-index c.target.result
          c.loop-edge-test.true c.target.ensures.target some c.in_ok-release.ensures.waiting c.loop-edge.invariant.left;
      longer = let old = c.loop-edge.invariant.longer in let more = c.in_ok-release.ensures.longer in
          (old.0 ++ more.0, more.1 ∙ ap (λ xs. xs ++ more.0) old.1 ∙ append_assoc c.args.ready.now.items old.0 more.0);
    }

-- all edges are counted, so each process waits for as many inputs less as there are edges to it among them
pub returns-clause-waiting : goal.returns-clause-waiting
returns-clause-waiting c p =
    ap (λ xs. get_or c.loop-edge.waiting.items p 0 + passing (λ e. target c.args.problem.now e == p) xs)
    (sym (take_all c.loop-edge.edge-index c.args.edges.now (omega arith)))
    ∙ c.loop-edge.invariant.left p
