-- Proof of `names_in`, which returns the names of an array, or `None` if an element isn't a name.
use Rattle.std.proofs.Common.{◌∙◌, ap}
use Rattle.toml.specs.View.{items_view}
use Rattle.cpg_reader.specs.Rows.{items_as, as_name}
use Rattle.cpg_reader.proofs.Items.{goes_on, stops}
use Rattle.cpg_reader.proofs.row.names_in.Goals as goal

-- one more element is a name
pub loop-element-preserved : goal.loop-element-preserved
loop-element-preserved c =
    let one = rw c.in-Some.is at c.in_ok-name.ensures in
    rw c.in_ok-push.ensures.items
    (goes_on as_name c.deref-element-items.result.now c.loop-element.element-index c.element-item.result
    c.loop-element.names.items _
    c.loop-element-test.true c.element-item.is c.loop-element.invariant c.in-Some.name one)

-- this element is no name, so the array isn't one of names
pub returns-in_default : goal.returns-in_default
returns-in_default c =
    let none = rw c.in_default.is at c.in_ok-name.ensures in
    stops as_name c.deref-element-items.result.now c.loop-element.element-index c.element-item.result
    c.loop-element.names.items _
    c.loop-element-test.true c.element-item.is c.loop-element.invariant none
    ∙ ap (λ vs. items_as as_name (items_view vs)) c.deref-element-items.ensures.value
