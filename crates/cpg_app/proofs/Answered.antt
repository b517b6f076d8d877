-- A run that read the files of its words, and did the work on what they say, ends lawfully.
use Rattle.std.proofs.Common.{◌≡◌, ◌∙◌, List, [], ◌∷◌, Some, None, sym, ap, subst, arith, inl, inr}
use Rattle.std.specs.Prelude.{All}
use Rattle.cpg_history.specs.Fetch.{Fetch}
use Rattle.cpg_words.specs.FileWords.{file_words}
use Rattle.cpg_words.specs.Parts.{Text}
use Rattle.cpg_words.specs.Forms.{command_of}
use Rattle.cpg_words.specs.declared.command.Command.{Command}
use Rattle.cpg_table.specs.Lawful.{Tables}
use Rattle.cpg_table.specs.Table.{table_at}
use Rattle.cpg_refusal.specs.declared.halt.Halt.{Halt}
use Rattle.cpg_refusal.specs.Lines.{IsNamed}
use Rattle.cpg_inputs.specs.declared.kind.FileKind.TheVariants.{PackFile}
use Rattle.cpg_inputs.specs.Files.{file, files_of}
use Rattle.cpg_inputs.specs.Says.{Value, tables_value}
use Rattle.cpg_inputs.specs.Reading.{IsRead, Reads}
use Rattle.cpg_live.specs.Follower.{Follower, open_follower}
use Rattle.cpg_app.specs.Causes.{OrMemory, StopsWork}
use Rattle.cpg_app.specs.Outputs.{IsFollower}
use Rattle.cpg_app.specs.Endings.{Follows, Ran}
use Rattle.cpg_outputs.specs.Said.{IsFollowedAt, IsToldTo, streamed}
use Rattle.cpg_app.specs.Lawful.{IsLawful}
use Rattle.cpg_app.proofs.Named.{work_named}
use Rattle.cpg_app.proofs.Streamed.{lawful_closed, lawful_stream}
use Rattle.cpg_app.proofs.Worked.{IsLive}

-- what the line of halt `h` of the work of command `c` names is there
pub halt_named : (c : Command) (vs : List Value) (h : Halt) → OrMemory (StopsWork c vs) h → IsNamed h
halt_named c vs h (inl stops) = work_named c vs h stops
halt_named c vs h (inr memory) = subst IsNamed (sym memory) tt

-- a follower `f` that is a node of tables `t`, before its stream, is open with its own head and table, as they are
-- those of the tables
pub is_open : (t : Tables) (name : Text) (f : Follower) → IsFollower t name f → f ≡ open_follower f.head f.table
is_open t name f is =
    let head = ap (λ (g : Follower). g.head) is.opened in
    let table = ap (λ (g : Follower). g.table) is.opened in
    subst (λ h. f ≡ open_follower h f.table) (sym head) (subst (λ n. f ≡ open_follower t.head n) (sym table) is.opened)

-- the stream of `live` is one of its files, so it may be fetched
pub may_follow : (may : Text → Type 0) (c : Command) (vs : List Value) (f : Follower) (path : Text) →
    IsLive c vs f path → All may (file_words c) → may path
may_follow may c vs f path live files =
    (subst (λ (k : Command). All may (file_words k)) live.command files) 1 path (omega arith)

-- Given a run of a command that follows a stream (`live`), whose words are the command (`words`), and whose files were
-- read (`reads`).
module _ (r : Ran) (c : Command) (vs : List Value) (f : Follower) (path : Text) (mid : List Fetch)
    (words : command_of r.words ≡ Some c) (reads : Reads None (files_of c) r.shelf.old.history mid vs)
    (live : IsLive c vs f path) where
  -- the values of the one file were read from the pack
  one : (ws : List Value) → ws ≡ tables_value live.tables ∷ [] →
      Reads None (file PackFile live.pack ∷ []) r.shelf.old.history mid ws →
      (read : Fetch) ×
      IsRead None (file PackFile live.pack) read (tables_value live.tables) × (mid ≡ read ∷ r.shelf.old.history)
  one ws is reads = subst (Reads None (file PackFile live.pack ∷ []) r.shelf.old.history mid) is reads

  -- the pack was read first
  pack_read : (read : Fetch) × IsRead None (file PackFile live.pack) read (tables_value live.tables) ×
      (mid ≡ read ∷ r.shelf.old.history)
  pack_read =
      one vs live.said (subst (λ (k : Command). Reads None (files_of k) r.shelf.old.history mid vs) live.command reads)

  -- given that the node then followed its stream
  module _ (at : IsFollowedAt f.head f.table path mid r.shelf.new.history r.out r.err r.status) where
    -- what the run has read and followed, from the words of its command
    abbrev follows : Follows r
    follows = record {
      pack = live.pack;
      name = live.name;
      stream = path;
      words = words ∙ ap (λ (k : Command). Some k) live.command;
      read = pack_read.0;
      tables = live.tables;
      spelled = pack_read.1;
      node = live.follower.node;
      named = live.follower.named;
      fetch = at.fetch;
      of = at.named;
      history = at.history ∙ ap (λ past. at.fetch ∷ past) pack_read.2;
    }

    -- the follower has the head of the pack
    head_is : f.head ≡ live.tables.head
    head_is = ap (λ (g : Follower). g.head) live.follower.opened

    -- the follower has the table of the node
    table_is : f.table ≡ table_at live.tables.nodes live.follower.node
    table_is = ap (λ (g : Follower). g.table) live.follower.opened

    -- what was written is what is to be written of the stream, by the head and the table of the pack
    told : IsToldTo live.tables.head (table_at live.tables.nodes live.follower.node)
        (streamed at.fetch r.out) r.err r.status
    told =
        subst (λ h. IsToldTo h (table_at live.tables.nodes live.follower.node) (streamed at.fetch r.out) r.err r.status)
        head_is
        (subst (λ n. IsToldTo f.head n (streamed at.fetch r.out) r.err r.status) table_is at.ends)

    -- a run in which a node followed its stream, to the close or not, ends lawfully
    pub followed_lawful : IsLawful r
    followed_lawful = elim told [
      | inl all ↦ lawful_closed r (record { follows = follows; completes = all.0; status = all.1; err = all.2 })
      | inr broken ↦
          lawful_stream r (record { follows = follows; broken = broken.0; breaks = broken.1; said = broken.2 })
    ]
