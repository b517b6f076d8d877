-- Small documents and what is read of them.
use Rattle.std.proofs.Common.{◌≡◌, ℕ, List, [], ◌∷◌, ◌++◌, Ok, Err, Some, None, false, refl}
use Rattle.std.specs.Prelude.{codes}
use Rattle.toml.specs.Parse.{parse_document}
use Rattle.toml.proofs.OnLiterals.{toml_on_literals}
use Rattle.cpg_base.specs.Graph.{Graph}
use Rattle.cpg_reader.specs.declared.place.Table.TheVariants as tables
use Rattle.cpg_reader.specs.declared.place.Key.TheVariants as keys
use Rattle.cpg_reader.specs.declared.place.What.TheVariants.{Number}
use Rattle.cpg_reader.specs.declared.place.ReadFault.TheVariants.{BadField, DoubleName, UnknownName, OverLimit}
use Rattle.cpg_reader.specs.Reading.{Reading, ◌>>=◌}
use Rattle.cpg_reader.specs.Rows.{optional, only, read_name, read_integer, integer_or, flag_or, read_array}
use Rattle.cpg_reader.specs.Shape.{read_node, read_slot, read_process, read_edge, read_raw}
use Rattle.cpg_reader.specs.Ranges.{limits}
use Rattle.cpg_reader.specs.Names.{place, apart, number_of, slot_of, process_of, edge_of, order_of, order_apart}
use Rattle.cpg_reader.specs.Names.{resolved, graph_of}
use Rattle.cpg_reader.specs.Document.{members_if, read_members}

-- the bytes of lines, each with a line feed
abbrev lines : List (List ℕ) → List ℕ
lines [] = []
lines (l ∷ ls) = l ++ 10 ∷ lines ls

-- what bytes say that are ASCII, and so UTF-8
abbrev said : List ℕ → Reading Graph
said bytes = members_if (parse_document bytes) >>= read_members

-- a document with its two numbers alone is a graph of nothing; here and below both sides compute to the same
nothing : said (lines (codes "faults = 0" ∷ codes "deadline = 0" ∷ []))
    ≡ Ok (record { faults = 0; deadline = 0; nodes = []; slots = []; processes = []; edges = []; order = None })
unfolding read_members read_raw read_node read_slot read_process read_edge optional only read_name read_integer
    integer_or flag_or read_array limits apart number_of slot_of process_of edge_of order_of
    order_apart resolved graph_of toml_on_literals
nothing = refl

-- a document with one process on one node, which has the defaults of what it leaves out
single : said (lines (codes "faults = 1" ∷ codes "deadline = 72" ∷ codes "node = [{ name = \"N1\" }]"
    ∷ codes "process = [{ name = \"A\", node = \"N1\", wcet = 30, alpha = 2, chi = 3, mu = 5 }]" ∷
    [])) ≡ Ok (record {
      faults = 1;
      deadline = 72;
      nodes = codes "N1" ∷ [];
      slots = [];
      processes =
          record {
            name = codes "A";
            node = 0;
            wcet = 30;
            parts = 1;
            alpha = 2;
            chi = 3;
            mu = 5;
            join = false;
            frozen = false;
            release = 0;
            deadline = None;
          } ∷ [];
      edges = [];
      order = None;
    })
unfolding read_members read_raw read_node read_slot read_process read_edge optional only read_name read_integer
    integer_or flag_or read_array limits apart number_of slot_of process_of edge_of order_of
    order_apart resolved graph_of toml_on_literals
single = refl

-- a missing key is refused at its place
no_deadline : said (lines (codes "faults = 1" ∷ [])) ≡ Err (BadField (place tables.Top 0 keys.Deadline))
unfolding read_members read_raw read_node read_slot read_process read_edge optional only read_name read_integer
    integer_or flag_or read_array limits apart number_of slot_of process_of edge_of order_of
    order_apart resolved graph_of toml_on_literals
no_deadline = refl

-- a name with a blank is refused
bad_name : said (lines (codes "faults = 1" ∷ codes "deadline = 72" ∷ codes "node = [{ name = \"N1\" }]"
    ∷ codes "process = [{ name = \"A b\", node = \"N1\", wcet = 30, alpha = 2, chi = 3, mu = 5 }]"
    ∷ [])) ≡ Err (BadField (place tables.Process 0 keys.Name))
unfolding read_members read_raw read_node read_slot read_process read_edge optional only read_name read_integer
    integer_or flag_or read_array limits apart number_of slot_of process_of edge_of order_of
    order_apart resolved graph_of toml_on_literals
bad_name = refl

-- a key that the format doesn't have is refused
unknown_key : said (lines (codes "faults = 1" ∷ codes "deadline = 72" ∷ codes "node = [{ name = \"N1\" }]" ∷ codes
    "process = [{ name = \"A\", node = \"N1\", wcet = 30, alpha = 2, chi = 3, mu = 5, nu = 1 }]" ∷ []))
    ≡ Err (BadField (place tables.Process 0 keys.Unknown))
unfolding read_members read_raw read_node read_slot read_process read_edge optional only read_name read_integer
    integer_or flag_or read_array limits apart number_of slot_of process_of edge_of order_of
    order_apart resolved graph_of toml_on_literals
unknown_key = refl

-- a wrong type is reported before a number out of range
type_first : said (lines (codes "faults = 9" ∷ codes "deadline = 72" ∷ codes "node = 3" ∷ []))
    ≡ Err (BadField (place tables.Top 0 keys.Node))
unfolding read_members read_raw read_node read_slot read_process read_edge optional only read_name read_integer
    integer_or flag_or read_array limits apart number_of slot_of process_of edge_of order_of
    order_apart resolved graph_of toml_on_literals
type_first = refl

-- a number below its range is refused
no_work : said (lines (codes "faults = 1" ∷ codes "deadline = 72" ∷ codes "node = [{ name = \"N1\" }]"
    ∷ codes "process = [{ name = \"A\", node = \"N1\", wcet = 0, alpha = 2, chi = 3, mu = 5 }]" ∷
    [])) ≡ Err (OverLimit (Number (place tables.Process 0 keys.Wcet)))
unfolding read_members read_raw read_node read_slot read_process read_edge optional only read_name read_integer
    integer_or flag_or read_array limits apart number_of slot_of process_of edge_of order_of
    order_apart resolved graph_of toml_on_literals
no_work = refl

-- a name that stands twice is reported before one that names nothing
double_node :
    said (lines (codes "faults = 0" ∷ codes "deadline = 9" ∷ codes "node = [{ name = \"N1\" }, { name = \"N1\" }]"
    ∷ codes "process = [{ name = \"A\", node = \"N2\", wcet = 1 }]" ∷ [])) ≡
    Err (DoubleName (place tables.Node 1 keys.Name))
unfolding read_members read_raw read_node read_slot read_process read_edge optional only read_name read_integer
    integer_or flag_or read_array limits apart number_of slot_of process_of edge_of order_of
    order_apart resolved graph_of toml_on_literals
double_node = refl

-- a name that names nothing is refused
unknown_node : said (lines (codes "faults = 0" ∷ codes "deadline = 9" ∷ codes "node = [{ name = \"N1\" }]"
    ∷ codes "process = [{ name = \"A\", node = \"N2\", wcet = 1 }]" ∷ [])) ≡ Err
    (UnknownName (place tables.Process 0 keys.Node))
unfolding read_members read_raw read_node read_slot read_process read_edge optional only read_name read_integer
    integer_or flag_or read_array limits apart number_of slot_of process_of edge_of order_of
    order_apart resolved graph_of toml_on_literals
unknown_node = refl

-- an order is read as the numbers of its processes
ordered : said (lines (codes "faults = 0" ∷ codes "deadline = 9" ∷ codes "node = [{ name = \"N\" }]"
    ∷ codes "order = [\"A\"]" ∷ codes "process = [{ name = \"A\", node = \"N\", wcet = 1 }]" ∷ [])) ≡
    Ok (record {
      faults = 0;
      deadline = 9;
      nodes = codes "N" ∷ [];
      slots = [];
      processes = record
          { name = codes "A"; node = 0; wcet = 1; parts = 1; alpha = 0; chi = 0; mu = 0; join = false; frozen = false; release = 0; deadline = None } ∷ [];
      edges = [];
      order = Some (0 ∷ []);
    })
unfolding read_members read_raw read_node read_slot read_process read_edge optional only read_name read_integer
    integer_or flag_or read_array limits apart number_of slot_of process_of edge_of order_of
    order_apart resolved graph_of toml_on_literals
ordered = refl

-- an empty order isn't the same as no order
empty_order : said (lines (codes "faults = 0" ∷ codes "deadline = 9" ∷ codes "node = [{ name = \"N\" }]"
    ∷ codes "order = []" ∷ codes "process = [{ name = \"A\", node = \"N\", wcet = 1 }]" ∷ [])) ≡
    Ok (record {
      faults = 0;
      deadline = 9;
      nodes = codes "N" ∷ [];
      slots = [];
      processes = record
          { name = codes "A"; node = 0; wcet = 1; parts = 1; alpha = 0; chi = 0; mu = 0; join = false; frozen = false; release = 0; deadline = None } ∷ [];
      edges = [];
      order = Some ([]);
    })
unfolding read_members read_raw read_node read_slot read_process read_edge optional only read_name read_integer
    integer_or flag_or read_array limits apart number_of slot_of process_of edge_of order_of
    order_apart resolved graph_of toml_on_literals
empty_order = refl

-- an element of the order that is no name is reported before a number out of range
bad_order : said (lines (codes "faults = 9" ∷ codes "deadline = 9" ∷ codes "node = [{ name = \"N\" }]"
    ∷ codes "order = [\"A\", 1]" ∷ codes "process = [{ name = \"A\", node = \"N\", wcet = 1 }]" ∷
    [])) ≡ Err (BadField (place tables.Top 0 keys.Order))
unfolding read_members read_raw read_node read_slot read_process read_edge optional only read_name read_integer
    integer_or flag_or read_array limits apart number_of slot_of process_of edge_of order_of
    order_apart resolved graph_of toml_on_literals
bad_order = refl

-- a name that stands twice in the order is reported before one that names nothing
double_order : said (lines (codes "faults = 0" ∷ codes "deadline = 9" ∷ codes "node = [{ name = \"N\" }]"
    ∷ codes "order = [\"B\", \"A\", \"A\"]" ∷ codes
    "process = [{ name = \"A\", node = \"N\", wcet = 1 }]" ∷ [])) ≡ Err (DoubleName (place tables.Top 0 keys.Order))
unfolding read_members read_raw read_node read_slot read_process read_edge optional only read_name read_integer
    integer_or flag_or read_array limits apart number_of slot_of process_of edge_of order_of
    order_apart resolved graph_of toml_on_literals
double_order = refl

-- a name of the order that names nothing is refused, at the key of the order
unknown_order : said (lines (codes "faults = 0" ∷ codes "deadline = 9" ∷ codes "node = [{ name = \"N\" }]"
    ∷ codes "order = [\"A\", \"N\"]" ∷ codes
    "process = [{ name = \"A\", node = \"N\", wcet = 1 }]" ∷ [])) ≡ Err (UnknownName (place tables.Top 0 keys.Order))
unfolding read_members read_raw read_node read_slot read_process read_edge optional only read_name read_integer
    integer_or flag_or read_array limits apart number_of slot_of process_of edge_of order_of
    order_apart resolved graph_of toml_on_literals
unknown_order = refl
