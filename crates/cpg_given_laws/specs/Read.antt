-- What a graph file says when the names of an order are put into it, at the key `order`.
use Rattle.std.specs.Prelude.{ℕ, ◌≡◌, List, Ok, codes, map}
use Rattle.toml.specs.Data.{Data, Members, array, string}
use Rattle.toml.specs.View.{items_of}
use Rattle.cpg_base.specs.Graph.{Graph, process_count}
use Rattle.cpg_base.specs.Limits.{IsOrderWithin}
use Rattle.cpg_label.specs.Labels.{labels_of, process_name}
use Rattle.cpg_reader.specs.Document.{document_of, problem_of}
use Rattle.cpg_reader.specs.WrittenTree.{with_member}
use Rattle.cpg_given_laws.specs.Kept.{with_order}

-- the names of the processes along an order, as `show` prints them, in an array of a document
abbrev pub names_along : Graph → List ℕ → Data
names_along g order = array (items_of (map (λ p. string (process_name (labels_of g) p)) order))

-- a document with these names at its key `order`, and otherwise unchanged
abbrev pub with_key : Graph → List ℕ → Members → Members
with_key g order ms = with_member (codes "order") (names_along g order) ms

-- If a file says a graph, and a second file has the same document but for these names at `order`, the second says the
-- same graph with this order.
abbrev pub GivenOrdersAreRead : Type 0
GivenOrdersAreRead = (bytes new : List ℕ) (ms : Members) (g : Graph) (order : List ℕ) → document_of bytes ≡ Ok ms →
    problem_of bytes ≡ Ok g →
    IsOrderWithin (process_count g) order → document_of new ≡ Ok (with_key g order ms) →
    problem_of new ≡ Ok (with_order g order)
