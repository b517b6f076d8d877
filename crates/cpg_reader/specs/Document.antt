-- What the bytes of a graph file say.
use Rattle.std.specs.Prelude.{ℕ, List, Option, Some, None, Err, if◌then◌else◌}
use Rattle.std.specs.Str.{is_utf8}
use Rattle.toml.specs.Data.{Members}
use Rattle.toml.specs.Parse.{parse_document}
use Rattle.cpg_base.specs.Graph.{Graph}
use Rattle.cpg_reader.specs.declared.place.ReadFault.TheVariants.{NotToml}
use Rattle.cpg_reader.specs.Reading.{Reading, pure, ◌>>=◌, ◌>>◌}
use Rattle.cpg_reader.specs.Shape.{read_raw}
use Rattle.cpg_reader.specs.Ranges.{limits}
use Rattle.cpg_reader.specs.Names.{graph_of}

-- the members of a document, or the refusal if there is none
abbrev pub members_if : Option Members → Reading Members
members_if None = Err NotToml
members_if (Some ms) = pure ms

-- the members of the TOML document that the bytes spell; bytes that aren't UTF-8, or spell none, are refused
unfoldable pub document_of : List ℕ → Reading Members
document_of bytes = members_if (if is_utf8 bytes then parse_document bytes else None)

-- The graph that a document says. Its keys and types are checked first, then its limits, and then its names.
unfoldable pub read_members : Members → Reading Graph
read_members ms = do
  g ← read_raw ms
  limits g
  graph_of g

-- the graph that a file's bytes say, or the first reason to refuse them
unfoldable pub problem_of : List ℕ → Reading Graph
problem_of bytes = document_of bytes >>= read_members
