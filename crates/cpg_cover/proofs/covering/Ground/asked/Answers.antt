-- Proof of `Ground::asked`, which returns what literals ask of the numbers beyond the lows, without those that hold
-- everywhere in the cube; `None` if one holds nowhere.
use Rattle.std.proofs.Common.{rules, ◌≡◌, get_or, true, arith}
use Rattle.cpg_cube.specs.Bounds.{spans}
use Rattle.cpg_cube.specs.declared.literal.Literal.{Literal}
use Rattle.cpg_cover.specs.Fewest.{beyond, holds_at}
use Rattle.cpg_cover.proofs.FewestLaws.{all_before_last, all_one_more}
use Rattle.cpg_cover.proofs.covering.Ground.asked.Goals as goal
use Rattle.cpg_cover.proofs.covering.Ground.asked.Goals.{then-not-spans+in-Some+in_ok-push, else-not-spans}

-- the next literal holds if it spans its variable, or if what it asks beyond the low holds
pub loop-literal-preserved : goal.loop-literal-preserved
loop-literal-preserved c s on asked_held =
    let low = c.args.self.now.bounds.low in
    let literals = c.args.literals.now in
    let place = c.loop-literal.literal-index in
    elim c.if-not-spans.branch [
      -- it doesn't span the variable: what it asks beyond the low is the last of those asked, and holds
      | then-not-spans+in-Some+in_ok-push w ↦
          let parts = all_before_last (holds_at (beyond low s)) c.loop-literal.asked.items w.in-Some.beyond
          (rw (w.asked-is, w.in_ok-push.ensures.items) at asked_held) in
          all_one_more (holds_at s) literals place _ (omega arith) (c.loop-literal.invariant s on parts.0)
          (w.in-Some.ensures s (on.lows _) parts.1)
      -- it spans the variable, so it holds by itself
      | else-not-spans w ↦
          let blank : Literal = record { variable = 0; low = 0; high = 0 } in
          let literal = get_or literals place blank in
          let span : spans low c.args.self.now.bounds.high c.args.self.now.left literal ≡ true = search rules in
          all_one_more (holds_at s) literals place blank (omega arith)
          (c.loop-literal.invariant s on (rw w.asked-is at asked_held))
          (on.spanned literal span)
    ]
