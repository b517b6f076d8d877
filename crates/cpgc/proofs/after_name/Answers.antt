-- Proof of `after_name`: the arguments after the first, which is the program's name.
use Rattle.std.proofs.Common.{refl, subst, sym}
use Rattle.std.specs.Vec.Iter.{into_iter_items, into_iter_steps}
use Rattle.std.proofs.lemmas.Iterator.{items_from_collect, YieldsList}
use Rattle.std.proofs.lemmas.Iterator.Adapters.{YieldsList-from_skip, YieldsList-from_vec}
use Rattle.cpgc.proofs.after_name.Goals as goal

-- the iterator gives all arguments, and the first is skipped
pub returns : goal.returns
returns c =
    let whole = YieldsList-from_vec {s = c.args.args} (into_iter_items c.args.args) refl c.args.args.rest.ok.0 in
    let skipped =
    YieldsList-from_skip 1 (subst (λ s. YieldsList into_iter_steps (λ x. x) s (into_iter_items c.args.args))
    (sym c.skip.ensures.source) whole) c.skip.ensures.count in
    items_from_collect c.collect.result c.collect.ensures.ran skipped
