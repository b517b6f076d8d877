-- Proof of `finish`, which does the work of a command on what its files say, and writes its output to `out`, or the
-- line of the halt to `err`.
use Rattle.std.proofs.Common.{ℕ, List, inr, refl, sym, subst, string_bytes}
use Rattle.cpg_show.specs.NodeText.{node_text}
use Rattle.cpg_inputs.proofs.Keeping.{keeps_same}
use Rattle.cpg_app.specs.declared.output.Output.TheVariants.{Lines, Table as Shown, NodeTable as OfNode, Pack}
use Rattle.cpg_app.specs.Endings.{Has, Prints, Ran, seen}
use Rattle.cpg_app.specs.Outputs.{Answers, packed_by, shown_by}
use Rattle.cpg_outputs.specs.Told.{IsWritten, sent}
use Rattle.cpg_app.proofs.Answered.{followed_lawful, halt_named, is_open, may_follow}
use Rattle.cpg_app.proofs.Finished.{stopped_lawful, written_lawful}
use Rattle.cpg_app.proofs.Worked.{IsLive, live_of, text_of}
use Rattle.cpg_app.proofs.top.finish.Goals as goal

-- the stream is one of the command's files, so it may be fetched
pub follow-requires-clause-may : goal.follow-requires-clause-may
follow-requires-clause-may g c =
    let asked = c.requires.may in
    -- the output is a node that is to follow a stream, so the command is `live`
    let live : IsLive asked.command asked.values c.in-Ok-Stream.follower c.in-Ok-Stream.stream =
    live_of asked.command asked.values c.in-Ok-Stream.follower c.in-Ok-Stream.stream
    (subst (Answers asked.command asked.values) c.in-Ok-Stream.field-0-is
    (c.in-Ok-Stream.ensures.output asked.command asked.values asked.are)) in
    subst (g.S.Shelf.may_fetch c.args.shelf.now) (sym c.as_str-in-Ok-Stream.ensures)
    (may_follow (g.S.Shelf.may_fetch c.args.shelf.now) asked.command asked.values _ _ live asked.files)

-- the node was opened before its stream
pub follow-requires-clause-opened : goal.follow-requires-clause-opened
follow-requires-clause-opened g c =
    let asked = c.requires.may in
    -- the output is a node that is to follow a stream, so the command is `live`
    let live : IsLive asked.command asked.values c.in-Ok-Stream.follower c.in-Ok-Stream.stream =
    live_of asked.command asked.values c.in-Ok-Stream.follower c.in-Ok-Stream.stream
    (subst (Answers asked.command asked.values) c.in-Ok-Stream.field-0-is
    (c.in-Ok-Stream.ensures.output asked.command asked.values asked.are)) in
    is_open live.tables live.name c.in-Ok-Stream.follower live.follower

-- what the line of the halt names of the graph is there
pub stop-requires : goal.stop-requires
stop-requires g c =
    let asked = c.requires.may in
    halt_named asked.command asked.values c.in-Err.halt (c.in-Err.ensures.halt asked.command asked.values asked.are)

-- the tables have this node, as the output of `node` says
pub put_node_table-requires : goal.put_node_table-requires
put_node_table-requires g c =
    let asked = c.requires.may in
    (text_of asked.command asked.values (OfNode c.in-Ok-NodeTable.tables c.in-Ok-NodeTable.node) tt
    (subst (Answers asked.command asked.values) c.in-Ok-NodeTable.field-0-is
    (c.in-Ok-NodeTable.ensures.output asked.command asked.values asked.are))).0

-- the rows of the compile can be written as a pack, as the output of `compile` says
pub put_pack-requires : goal.put_pack-requires
put_pack-requires g c =
    let asked = c.requires.may in
    (text_of asked.command asked.values (Pack c.in-Ok-Pack.made) tt
    (subst (Answers asked.command asked.values) c.in-Ok-Pack.field-0-is
    (c.in-Ok-Pack.ensures.output asked.command asked.values asked.are))).0

-- the output is a text, which was written or met a fault, so the run ends lawfully
pub returns-in-Ok-Lines-clause-lawful : goal.returns-in-Ok-Lines-clause-lawful
returns-in-Ok-Lines-clause-lawful g c words start at =
    -- the run, as it ends
    let ran : Ran = record {
      words = words;
      shelf = seen start (g.S.Shelf.state c.args.shelf.now);
      out = sent (g.O.Sink.state c.args.out.now) (g.O.Sink.state c.put.new.out);
      err = sent (g.E.Sink.state c.args.err.now) (g.E.Sink.state c.end.new.err);
      status = c.end.result;
    } in
    -- its words are the command, whose files were read, and the output answers it
    let has : Has ran at.command at.has.values = record { words = at.words; reads = at.has.reads } in
    let puts = text_of at.command at.has.values (Lines c.in-Ok-Lines.text) tt
    (subst (Answers at.command at.has.values) c.in-Ok-Lines.field-0-is
    (c.in-Ok-Lines.ensures.output at.command at.has.values at.has.are)) in
    let prints : Prints ran (string_bytes c.in-Ok-Lines.text) =
    record { command = at.command; values = at.has.values; has = has; puts = puts } in
    written_lawful ran (string_bytes c.in-Ok-Lines.text) c.put.result prints (subst
    (λ (bytes : List ℕ). IsWritten ran.out c.put.result bytes) c.as_str.ensures.value c.put.ensures) c.end.ensures

-- the output is the text of a graph's tables, which was written or met a fault
pub returns-in-Ok-Table-clause-lawful : goal.returns-in-Ok-Table-clause-lawful
returns-in-Ok-Table-clause-lawful g c words start at =
    -- the run, as it ends
    let ran : Ran = record {
      words = words;
      shelf = seen start (g.S.Shelf.state c.args.shelf.now);
      out = sent (g.O.Sink.state c.args.out.now) (g.O.Sink.state c.put_tables.new.out);
      err = sent (g.E.Sink.state c.args.err.now) (g.E.Sink.state c.end-in-Ok-Table.new.err);
      status = c.end-in-Ok-Table.result;
    } in
    -- its words are the command, whose files were read, and the output answers it
    let has : Has ran at.command at.has.values = record { words = at.words; reads = at.has.reads } in
    let puts = text_of at.command at.has.values (Shown c.in-Ok-Table.made) tt
    (subst (Answers at.command at.has.values) c.in-Ok-Table.field-0-is
    (c.in-Ok-Table.ensures.output at.command at.has.values at.has.are)) in
    let prints : Prints ran (shown_by c.in-Ok-Table.made.admitted.graph c.in-Ok-Table.made.rows) =
    record { command = at.command; values = at.has.values; has = has; puts = puts } in
    written_lawful ran (shown_by c.in-Ok-Table.made.admitted.graph c.in-Ok-Table.made.rows) c.put_tables.result prints
    (c.put_tables.ensures) c.end-in-Ok-Table.ensures

-- the output is the text of a node's table, which was written or met a fault
pub returns-in-Ok-NodeTable-clause-lawful : goal.returns-in-Ok-NodeTable-clause-lawful
returns-in-Ok-NodeTable-clause-lawful g c words start at =
    -- the run, as it ends
    let ran : Ran = record {
      words = words;
      shelf = seen start (g.S.Shelf.state c.args.shelf.now);
      out = sent (g.O.Sink.state c.args.out.now) (g.O.Sink.state c.put_node_table.new.out);
      err = sent (g.E.Sink.state c.args.err.now) (g.E.Sink.state c.end-in-Ok-NodeTable.new.err);
      status = c.end-in-Ok-NodeTable.result;
    } in
    -- its words are the command, whose files were read, and the output answers it
    let has : Has ran at.command at.has.values = record { words = at.words; reads = at.has.reads } in
    let puts = text_of at.command at.has.values (OfNode c.in-Ok-NodeTable.tables c.in-Ok-NodeTable.node) tt
    (subst (Answers at.command at.has.values) c.in-Ok-NodeTable.field-0-is
    (c.in-Ok-NodeTable.ensures.output at.command at.has.values at.has.are)) in
    let prints : Prints ran (node_text c.in-Ok-NodeTable.tables c.in-Ok-NodeTable.node) =
    record { command = at.command; values = at.has.values; has = has; puts = puts.1 } in
    written_lawful ran (node_text c.in-Ok-NodeTable.tables c.in-Ok-NodeTable.node) c.put_node_table.result prints
    c.put_node_table.ensures c.end-in-Ok-NodeTable.ensures

-- the output is a pack, which was written or met a fault
pub returns-in-Ok-Pack-clause-lawful : goal.returns-in-Ok-Pack-clause-lawful
returns-in-Ok-Pack-clause-lawful g c words start at =
    -- the run, as it ends
    let ran : Ran = record {
      words = words;
      shelf = seen start (g.S.Shelf.state c.args.shelf.now);
      out = sent (g.O.Sink.state c.args.out.now) (g.O.Sink.state c.put_pack.new.out);
      err = sent (g.E.Sink.state c.args.err.now) (g.E.Sink.state c.end-in-Ok-Pack.new.err);
      status = c.end-in-Ok-Pack.result;
    } in
    -- its words are the command, whose files were read, and the output answers it
    let has : Has ran at.command at.has.values = record { words = at.words; reads = at.has.reads } in
    let puts = text_of at.command at.has.values (Pack c.in-Ok-Pack.made) tt
    (subst (Answers at.command at.has.values) c.in-Ok-Pack.field-0-is
    (c.in-Ok-Pack.ensures.output at.command at.has.values at.has.are)) in
    let prints : Prints ran (packed_by c.in-Ok-Pack.made.admitted.graph c.in-Ok-Pack.made.rows) =
    record { command = at.command; values = at.has.values; has = has; puts = puts.1 } in
    written_lawful ran (packed_by c.in-Ok-Pack.made.admitted.graph c.in-Ok-Pack.made.rows) c.put_pack.result prints
    c.put_pack.ensures c.end-in-Ok-Pack.ensures

-- the node followed its stream, to the close or not, so the run ends lawfully
pub returns-in-Ok-Stream-clause-lawful : goal.returns-in-Ok-Stream-clause-lawful
returns-in-Ok-Stream-clause-lawful g c words start at =
    -- the run, as it ends
    let ran : Ran = record {
      words = words;
      shelf = seen start (g.S.Shelf.state c.follow.new.shelf);
      out = sent (g.O.Sink.state c.args.out.now) (g.O.Sink.state c.follow.new.out);
      err = sent (g.E.Sink.state c.args.err.now) (g.E.Sink.state c.follow.new.err);
      status = c.follow.result;
    } in
    let live = live_of at.command at.has.values c.in-Ok-Stream.follower c.in-Ok-Stream.stream
    (subst (Answers at.command at.has.values) c.in-Ok-Stream.field-0-is
    (c.in-Ok-Stream.ensures.output at.command at.has.values at.has.are)) in
    followed_lawful ran at.command at.has.values c.in-Ok-Stream.follower c.in-Ok-Stream.stream
    (g.S.Shelf.state c.args.shelf.now).history at.words at.has.reads live
    (rw c.as_str-in-Ok-Stream.ensures at c.follow.ensures.followed)

-- the work stopped, and the line that says so was written or met a fault
pub returns-in-Err-clause-lawful : goal.returns-in-Err-clause-lawful
returns-in-Err-clause-lawful g c words start at =
    -- the run, as it ends
    let ran : Ran = record {
      words = words;
      shelf = seen start (g.S.Shelf.state c.args.shelf.now);
      out = sent (g.O.Sink.state c.args.out.now) (g.O.Sink.state c.args.out.now);
      err = sent (g.E.Sink.state c.args.err.now) (g.E.Sink.state c.stop.new.err);
      status = c.stop.result;
    } in
    -- its words are the command, whose files were read, and the output answers it
    let has : Has ran at.command at.has.values = record { words = at.words; reads = at.has.reads } in
    stopped_lawful ran c.in-Err.halt
    (inr (inr (record { command = at.command; values = at.has.values; has = has; stops = c.in-Err.ensures.halt at.command at.has.values at.has.are })))
    (record { faultless = refl; taken = refl }) c.stop.ensures

-- the work is done, and nothing more is fetched
pub returns-in-Ok-Lines-clause-keeps : goal.returns-in-Ok-Lines-clause-keeps
returns-in-Ok-Lines-clause-keeps g c = keeps_same (g.S.Shelf.state c.args.shelf.now)

-- the work is done, and nothing more is fetched
pub returns-in-Ok-Table-clause-keeps : goal.returns-in-Ok-Table-clause-keeps
returns-in-Ok-Table-clause-keeps g c = keeps_same (g.S.Shelf.state c.args.shelf.now)

-- the work is done, and nothing more is fetched
pub returns-in-Ok-NodeTable-clause-keeps : goal.returns-in-Ok-NodeTable-clause-keeps
returns-in-Ok-NodeTable-clause-keeps g c = keeps_same (g.S.Shelf.state c.args.shelf.now)

-- the work is done, and nothing more is fetched
pub returns-in-Ok-Pack-clause-keeps : goal.returns-in-Ok-Pack-clause-keeps
returns-in-Ok-Pack-clause-keeps g c = keeps_same (g.S.Shelf.state c.args.shelf.now)

-- the work has stopped, and nothing more is fetched
pub returns-in-Err-clause-keeps : goal.returns-in-Err-clause-keeps
returns-in-Err-clause-keeps g c = keeps_same (g.S.Shelf.state c.args.shelf.now)
