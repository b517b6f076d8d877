-- Proof of `follower_named`, which returns the first node that has this name as a follower of the stream.
use Rattle.std.proofs.Common.{rules, ◌≡◌, Some, refl}
use Rattle.cpg_app.specs.Causes.{first_named}
use Rattle.cpg_app.proofs.work.follower_named.Goals as goal

-- the tables have a node of this name, and the follower is opened for it
pub returns-in-Ok-clause-opens : goal.returns-in-Ok-clause-opens
returns-in-Ok-clause-opens c =
    let named : first_named c.args.tables.head c.args.name.now ≡ Some c.in-Some.node = search rules in
    (record { node = c.in-Some.node; named = named; opened = c.in-Ok.ensures }, refl)
