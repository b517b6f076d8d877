-- Proof of `take_out`, which takes `count` items out of a list, from the place `from` on.
use Rattle.std.proofs.Common.{rules, ◌∙◌, ◌-◌, ◌≡◌, ap, take, ℕ}
use Rattle.cpg_tree.proofs.Moves.{moved, moved_on, moved_all, moved_none}
use Rattle.cpg_tree.proofs.fork.take_out.Goals as goal

-- before the first item nothing has been moved
pub loop-i-init : goal.loop-i-init
loop-i-init g c = record { long = search rules; is = moved_none c.args.out.now.items c.args.from c.args.count }

-- one item more is moved to its new place
pub loop-i-preserved : goal.loop-i-preserved
loop-i-preserved g c = record {
  long = search rules;
  is = moved_on c.args.out.now.items c.args.from c.args.count c.loop-i.out.items c.loop-i.i c.index.result.now
      (search rules) (search rules) c.loop-i.invariant.is c.index.ensures;
}

-- all items behind those taken out are moved, and what is left over at the end is cut off
pub returns : goal.returns
returns g c =
    let left : ℕ = c.len.result - c.args.count in
    let done : c.loop-i.i ≡ left = search rules in
    c.truncate.ensures.items
    ∙ ap (take left) (c.loop-i.invariant.is ∙ ap (moved c.args.out.now.items c.args.from c.args.count) done)
    ∙ moved_all c.args.out.now.items c.args.from c.args.count left (search rules) (search rules)
