-- Proof of `with`, which returns the table with this value at a key, in place of any other.
use Rattle.std.proofs.Common.{◌∙◌, ap}
use Rattle.toml.specs.View.{view, members_view}
use Rattle.cpg_reader.specs.WrittenTree.{with_member}
use Rattle.cpg_reader.proofs.Members.{members_view-insert}
use Rattle.cpg_reader.proofs.written_tables.with.Goals as goal

-- an insertion into the table adds the member to its view
pub returns : goal.returns
returns c = ap members_view c.in_ok-insert.ensures.entries
    ∙ members_view-insert c.args.table.entries c.in_ok-key.key c.args.value
    ∙ ap (λ k. with_member k (view c.args.value) (members_view c.args.table.entries)) c.in_ok-key.ensures.ok
