-- Proof of `Follower::feed_piece`: reads the next piece of the stream and feeds it; if the shelf meets a fault, nothing is
-- fed.
use Rattle.std.proofs.Common.{rules, ◌≡◌, ◌+◌, ◌++◌, ◌∙◌, List, arith, sym, ap, subst, length, take}
use Rattle.std.proofs.lemmas.List.{length-append}
use Rattle.cpg_io.proofs.Agreeing.{read_rest}
use Rattle.cpg_node.specs.Dispatcher.{Act}
use Rattle.cpg_table.specs.Table.{NodeTable}
use Rattle.cpg_live.specs.Follower.{Follower}
use Rattle.cpg_live.specs.Laws.{Feeds}
use Rattle.cpg_live.specs.LinesKept.{entry_count, table_in}
use Rattle.cpg_live.specs.Stream.{after}
use Rattle.cpg_live.proofs.Bounds.{table_after}
use Rattle.cpg_live.proofs.following.Follower.feed_piece.Goals as goal

-- the state is that after the bytes of before and the piece; the acts only grew, and the room for lines is as it was
pub invariant_of-self : goal.invariant_of-self
invariant_of-self g c =
    let old = c.self.invariant in
    let piece = take c.in_ok-count.count c.read.new.buf in
    let long = length-append old.fed piece in
    let bound = c.in_ok-count.ensures.bound in
    let grown = c.feed.ensures.grows in
    let table = table_in c.self.inside in
    -- the state is the one after all bytes that were fed, and the table is still the node's
    let live = c.feed.ensures.whole table old.fed old.live in
    let same = table_after table (old.fed ++ piece) c.feed.new.self live in
    -- the bytes, their count, and the room for the lines of the acts
    record {
      fed = old.fed ++ piece;
      live = live ∙ ap (λ t. after t (old.fed ++ piece)) (sym same);
      read = omega (arith, old.read, long, bound.1);
      few = search rules;
      told = omega (
        arith,
        old.told,
        ap (λ (done : List Act). length done) grown.1,
        length-append c.self.inside.live.progress.acts grown.0,
      );
      room = omega (arith, old.room, ap entry_count same);
    }

-- a failed read leaves on the shelf the rest of the stream, if it was so before
pub returns-in_err-count-clause-rest : goal.returns-in_err-count-clause-rest
returns-in_err-count-clause-rest g c r =
    read_rest (g.S.Shelf.state c.args.shelf.now) (g.S.Shelf.state c.read.new.self) c.read.ensures.names c.read.result
    c.read.new.buf (search rules) c.read.ensures.history c.read.ensures.bytes r

-- a read leaves on the shelf the rest of the stream, if it was so before
pub returns-clause-rest : goal.returns-clause-rest
returns-clause-rest g c r =
    read_rest (g.S.Shelf.state c.args.shelf.now) (g.S.Shelf.state c.read.new.self) c.read.ensures.names c.read.result
    c.read.new.buf (search rules) c.read.ensures.history c.read.ensures.bytes r

-- the piece is what was read into the buffer, and feeding it led to the new state
pub returns-clause-piece : goal.returns-clause-piece
returns-clause-piece g c =
    let old = c.self.invariant in
    let piece = take c.in_ok-count.count c.read.new.buf in
    let table = table_in c.self.inside in
    -- feeding leaves the node's table as it is
    let same : c.feed.new.self.progress.dispatcher.table ≡ table =
    table_after table (old.fed ++ piece) c.feed.new.self (c.feed.ensures.whole table old.fed old.live) in
    -- the piece that was read, and the follower's state after it
    record {
      piece = piece;
      long = search rules;
      gave = search rules;
      state = ap (λ (t : NodeTable). let with_table : Follower =
          record {
            head = c.self.inside.head;
            table = t;
            live = c.feed.new.self;
            told = c.self.inside.told;
            read = c.self.inside.read + c.in_ok-count.count;
          } in with_table) same
          ∙ ap (λ (f : Follower). let with_piece : Follower =
          record f { live = c.feed.new.self; read = f.read + c.in_ok-count.count } in with_piece) c.self.view_is;
      few = search rules;
      fed = subst (λ l. Feeds l piece c.feed.new.self)
          (ap (λ (f : Follower). f.live) c.self.view_is) c.feed.ensures.whole;
    }
