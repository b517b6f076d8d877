-- Proof of `read_graph_and_pack`, which reads a graph, and then a pack.
use Rattle.std.proofs.Common.{List, [], ◌∷◌, None, Some}
use Rattle.std.proofs.lemmas.Result.{err_from_is_err_and}
use Rattle.cpg_history.specs.Fetch.{Fetch}
use Rattle.cpg_inputs.specs.declared.kind.FileKind.TheVariants.{GraphFile, PackFile}
use Rattle.cpg_inputs.specs.Files.{file}
use Rattle.cpg_inputs.specs.Says.{graph_value, tables_value}
use Rattle.cpg_inputs.proofs.Keeping.{keeps_on}
use Rattle.cpg_inputs.proofs.Readings.{reads_more, reads_one, stops_after, stops_one}
use Rattle.cpg_inputs.proofs.reading.read_graph_and_pack.Goals as goal

-- the graph was read, and the pack stops the run; `past`, `mid` and `now` are the histories at first, after the graph
-- and after the pack
pub returns-in_err-tables-clause-halt : goal.returns-in_err-tables-clause-halt
returns-in_err-tables-clause-halt g c =
    let S = g.S.Shelf in
    let admission = c.in_ok-graph.graph in
    let past : List Fetch = (S.state c.args.shelf.now).history in
    let mid : List Fetch = (S.state c.read_graph.new.shelf).history in
    let now : List Fetch = (S.state c.read_tables.new.shelf).history in
    let halt = c.in_err-tables.field-0.0 in
    let graph = file GraphFile c.args.graph.now in
    let pack = file PackFile c.args.pack.now in
    let read = reads_one None graph past mid (graph_value admission) c.in_ok-graph.ensures.graph in
    let stops = stops_one (Some admission.graph) pack [] mid now halt
    (c.in_err-tables.ensures.halt (Some admission.graph)) in
    let failed = err_from_is_err_and c.from_residual-in_err-tables.result c.from_residual-in_err-tables.ensures.1 in
    rw (failed.1, failed.2) (stops_after None (graph ∷ []) (pack ∷ []) past mid now
    (graph_value admission ∷ []) halt read stops)

-- the graph was read, and then the pack, each as one file
pub returns-clause-read : goal.returns-clause-read
returns-clause-read g c =
    let S = g.S.Shelf in
    let admission = c.in_ok-graph.graph in
    let tables = c.in_ok-tables.tables in
    let past : List Fetch = (S.state c.args.shelf.now).history in
    let mid : List Fetch = (S.state c.read_graph.new.shelf).history in
    let now : List Fetch = (S.state c.read_tables.new.shelf).history in
    let graph = file GraphFile c.args.graph.now in
    let pack = file PackFile c.args.pack.now in
    reads_more None (graph ∷ []) (pack ∷ []) past mid now (graph_value admission ∷ []) (tables_value tables ∷ [])
    (reads_one None graph past mid (graph_value admission) c.in_ok-graph.ensures.graph)
    (reads_one (Some admission.graph) pack mid now (tables_value tables)
    (c.in_ok-tables.ensures.tables (Some admission.graph)))

-- both readings keep the shelf, one after the other
pub returns-in_err-tables-clause-keeps : goal.returns-in_err-tables-clause-keeps
returns-in_err-tables-clause-keeps g c =
    let S = g.S.Shelf in
    keeps_on (S.state c.args.shelf.now) (S.state c.read_graph.new.shelf)
    (S.state c.read_tables.new.shelf) c.in_ok-graph.ensures.keeps c.in_err-tables.ensures.keeps

-- both readings keep the shelf, one after the other
pub returns-clause-keeps : goal.returns-clause-keeps
returns-clause-keeps g c =
    let S = g.S.Shelf in
    keeps_on (S.state c.args.shelf.now) (S.state c.read_graph.new.shelf)
    (S.state c.read_tables.new.shelf) c.in_ok-graph.ensures.keeps c.in_ok-tables.ensures.keeps
