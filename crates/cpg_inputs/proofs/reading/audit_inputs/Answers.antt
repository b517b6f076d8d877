-- Proof of `audit_inputs`, which reads the files of `audit`.
use Rattle.std.proofs.Common.{List, [], ◌∷◌, None, Some}
use Rattle.std.proofs.lemmas.Result.{err_from_is_err_and}
use Rattle.cpg_history.specs.Fetch.{Fetch}
use Rattle.cpg_inputs.specs.declared.kind.FileKind.TheVariants.{GraphFile, LogFile, PackFile}
use Rattle.cpg_inputs.specs.Files.{file}
use Rattle.cpg_inputs.specs.Says.{graph_value, tables_value}
use Rattle.cpg_inputs.proofs.Keeping.{keeps_on}
use Rattle.cpg_inputs.proofs.Readings.{stops_after, stops_more, stops_one}
use Rattle.cpg_inputs.proofs.reading.audit_inputs.Goals as goal

-- the graph or the pack stops the run, and no log is fetched
pub returns-in_err-graph_and_pack-clause-inputs : goal.returns-in_err-graph_and_pack-clause-inputs
returns-in_err-graph_and_pack-clause-inputs g c =
    let S = g.S.Shelf in
    let past : List Fetch = (S.state c.args.shelf.now).history in
    let now : List Fetch = (S.state c.read_graph_and_pack.new.shelf).history in
    let failed = err_from_is_err_and c.from_residual.result c.from_residual.ensures.1 in
    rw (failed.1, failed.2) (stops_more None (file GraphFile c.args.graph.now ∷ file PackFile c.args.pack.now ∷ [])
    (file LogFile c.args.log.now ∷ []) past now c.in_err-graph_and_pack.field-0.0 c.in_err-graph_and_pack.ensures.halt)

-- the graph and the pack were read, and the log stops the run
pub returns-in_err-log-clause-inputs : goal.returns-in_err-log-clause-inputs
returns-in_err-log-clause-inputs g c =
    let S = g.S.Shelf in
    let admission = c.in_ok-graph_and_pack.graph_and_pack.graph in
    let tables = c.in_ok-graph_and_pack.graph_and_pack.tables in
    -- the histories at first, after the pack and after the log
    let past : List Fetch = (S.state c.args.shelf.now).history in
    let mid : List Fetch = (S.state c.read_graph_and_pack.new.shelf).history in
    let now : List Fetch = (S.state c.read_acts.new.shelf).history in
    let halt = c.in_err-log.field-0.0 in
    let last = file LogFile c.args.log.now in
    -- the log stops the run, after the graph and the pack
    let stops =
    stops_one (Some admission.graph) last [] mid now halt (rw c.problem.ensures.problem at c.in_err-log.ensures.halt) in
    let failed = err_from_is_err_and c.from_residual-in_err-log.result c.from_residual-in_err-log.ensures.1 in
    rw (failed.1, failed.2) (stops_after None (file GraphFile c.args.graph.now ∷ file PackFile c.args.pack.now ∷ [])
    (last ∷ []) past mid now
    (graph_value admission ∷ tables_value tables ∷ []) halt c.in_ok-graph_and_pack.ensures.read stops)

-- both readings keep the shelf, one after the other
pub returns-in_err-log-clause-keeps : goal.returns-in_err-log-clause-keeps
returns-in_err-log-clause-keeps g c =
    let S = g.S.Shelf in
    keeps_on (S.state c.args.shelf.now) (S.state c.read_graph_and_pack.new.shelf)
    (S.state c.read_acts.new.shelf) c.in_ok-graph_and_pack.ensures.keeps c.in_err-log.ensures.keeps

-- both readings keep the shelf, one after the other
pub returns-clause-keeps : goal.returns-clause-keeps
returns-clause-keeps g c =
    let S = g.S.Shelf in
    keeps_on (S.state c.args.shelf.now) (S.state c.read_graph_and_pack.new.shelf)
    (S.state c.read_acts.new.shelf) c.in_ok-graph_and_pack.ensures.keeps c.in_ok-log.ensures.keeps
