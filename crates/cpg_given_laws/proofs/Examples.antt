-- A small file, and the same with a line more.
use Rattle.std.proofs.Common.{◌≡◌, ℕ, pos, List, [], ◌∷◌, Some, None, false, refl}
use Rattle.std.specs.Prelude.{codes}
use Rattle.toml.specs.Data.{Members, no_members, member, string, integer, array, table, item, no_items}
use Rattle.toml.specs.Parse.{parse_document}
use Rattle.toml.proofs.OnLiterals.{toml_on_literals}
use Rattle.cpg_base.specs.Graph.{Graph}
use Rattle.cpg_base.specs.declared.process.Process.{Process}
use Rattle.cpg_given_laws.specs.Read.{with_key}

-- a process of 9 on the node N with this name
abbrev process : List ℕ → Process
process name = record {
  name = name;
  node = 0;
  wcet = 9;
  parts = 1;
  alpha = 0;
  chi = 0;
  mu = 0;
  join = false;
  frozen = false;
  release = 0;
  deadline = None;
}

-- two processes, Y and X, on one node
abbrev graph : Graph
graph = record {
  faults = 0;
  deadline = 20;
  nodes = codes "N" ∷ [];
  slots = [];
  processes = process (codes "Y") ∷ process (codes "X") ∷ [];
  edges = [];
  order = None;
}

-- a row of the document for such a process
abbrev row : List ℕ → Members
row name = member (codes "name") (string name)
    (member (codes "node") (string (codes "N")) (member (codes "wcet") (integer (pos 9)) no_members))

-- the document that the small file says
abbrev document : Members
document = member (codes "deadline") (integer (pos 20))
    (member (codes "faults") (integer (pos 0))
    (member (codes "node") (array (item (table (member (codes "name") (string (codes "N")) no_members)) no_items))
    (member (codes "process")
    (array (item (table (row (codes "Y"))) (item (table (row (codes "X"))) no_items))) no_members)))

-- the bytes of the file are read as this document
is_document : parse_document (codes
    "faults = 0\ndeadline = 20\nnode = [{ name = \"N\" }]\nprocess = [{name=\"Y\",node=\"N\",wcet=9}, {name=\"X\",node=\"N\",wcet=9}]\n")
    ≡ Some document
unfolding toml_on_literals
is_document = refl

-- with the names of an order at the key it is that of the longer file
one_line_more : parse_document (codes
    "order = [\"X\", \"Y\"]\nfaults = 0\ndeadline = 20\nnode = [{ name = \"N\" }]\nprocess = [{name=\"Y\",node=\"N\",wcet=9}, {name=\"X\",node=\"N\",wcet=9}]\n") ≡
    Some (with_key graph (1 ∷ 0 ∷ []) document)
unfolding toml_on_literals
one_line_more = refl
