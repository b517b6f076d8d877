-- Loops of `names_in`, which returns the names of an array, or `None` if an element isn't a name.
use Rattle.std.proofs.Common.{◌≡◌, drop}
use Rattle.toml.specs.View.{items_view}
use Rattle.cpg_reader.specs.Rows.{items_as, as_name}
use Rattle.cpg_reader.proofs.Items.{after}
use Rattle.cpg_reader.proofs.row.names_in.Given as goal

-- reading all elements as names gives what reading those that are left gives, after the names so far
abbrev pub invariant-loop-element : goal.invariant-loop-element
invariant-loop-element l = items_as as_name (items_view l.element-items)
    ≡ after l.names.items (items_as as_name (items_view (drop l.element-index l.element-items)))
