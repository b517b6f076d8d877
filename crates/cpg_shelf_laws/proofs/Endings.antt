-- How a run ends, by what its shelf reports.
use Rattle.std.proofs.Common.{◌≡◌, ◌<◌, arith, [], ◌∷◌, Option, Some, None, IfSome, sym, subst, inl, inr}
use Rattle.cpg_io.specs.Agreement.{IsFrontOf}
use Rattle.cpg_io.specs.Shelf.{KeepsShelf}
use Rattle.cpg_io.specs.State.{given_count}
use Rattle.cpg_words.specs.Parts.{Text}
use Rattle.cpg_words.specs.Forms.{command_of}
use Rattle.cpg_words.specs.declared.command.Command.{Command}
use Rattle.cpg_refusal.specs.declared.halt.Halt.{Halt}
use Rattle.cpg_refusal.specs.declared.halt.Halt.TheVariants.{Memory}
use Rattle.cpg_refusal.specs.Lines.{line_of, write_fault_line}
use Rattle.cpg_live.specs.declared.following.Broken.{Broken}
use Rattle.cpg_live.specs.declared.following.Broken.TheVariants.{Shelf, Sink, Refused}
use Rattle.cpg_live.specs.declared.following.StreamFault.{StreamFault}
use Rattle.cpg_live.specs.declared.following.StreamFault.TheVariants.{Long}
use Rattle.cpg_live.specs.declared.following.TheConstants.{STREAM_LIMIT}
use Rattle.cpg_live.specs.Following.{Breaks as BreaksFetch}
use Rattle.cpg_live.specs.Streams.{IsClosed as IsClosedFetch, IsRefused as IsRefusedFetch}
use Rattle.cpg_app.specs.Endings.{Ran as Run, Ends as EndsRun, Follows as FollowsRun, IsCut as IsCutRun}
use Rattle.cpg_app.specs.Endings.{IsMuted as IsMutedRun, IsPrinted as IsPrintedRun, IsTold as IsToldRun}
use Rattle.cpg_app.specs.Endings.{Prints as PrintsRun}
use Rattle.cpg_app.specs.Endings.{Stops as StopsRun, stream_of as stream_of_run, table_of as table_in}
use Rattle.cpg_app.specs.Lawful.{IsRefusedStream as IsRefusedRun, IsUnreadStream as IsUnreadRun}
use Rattle.cpg_shelf_laws.specs.Causes.{StopsAsked, seen}
use Rattle.cpg_shelf_laws.specs.Outputs.{PrintsAsked}
use Rattle.cpg_shelf_laws.specs.Streams.{Breaks}
use Rattle.cpg_shelf_laws.specs.Endings.{Ends, Follows, IsCut, IsMuted, IsPrinted, IsTold, stream_of}
use Rattle.cpg_shelf_laws.specs.Lawful.{IsRefusedStream, IsUnreadStream}
use Rattle.cpg_shelf_laws.specs.Told.{told_of}
use Rattle.cpg_shelf_laws.proofs.Commands.{memory_stops, prints, spelled_by, stops_files, stops_work}
use Rattle.cpg_shelf_laws.proofs.Fetched.{IsLast, agreed, last}
use Rattle.cpg_shelf_laws.proofs.Sinks.{either_told, part_told, said_told}
use Rattle.cpg_shelf_laws.proofs.Streams.{closed_told, cut_told, lawful_told, refused_told}

-- memory may run out in a run `r`, whatever it was asked, `c`
asked_memory : (r : Run) (c : Option Command) (halt : Halt) → halt ≡ Memory →
    StopsAsked (seen r.shelf.old r.shelf.new) c halt
asked_memory r None halt same = inr same
asked_memory r (Some c) halt same = memory_stops r.shelf.old r.shelf.new c halt same

-- given a run that kept its shelf
module _ (r : Run) (k : KeepsShelf r.shelf.old r.shelf.new) where
  -- a stop of its command is a stop of its words
  of_command : (c : Command) (halt : Halt) → command_of r.words ≡ Some c →
      StopsAsked (seen r.shelf.old r.shelf.new) (Some c) halt →
      StopsAsked (seen r.shelf.old r.shelf.new) (command_of r.words) halt
  of_command c halt found stops =
      subst (λ asked. StopsAsked (seen r.shelf.old r.shelf.new) asked halt) (sym found) stops

  -- If the run stops, the earlier contract has this stop too. By where it stops: in its words, in its files or in its
  -- work.
  pub stops_told : (halt : Halt) → StopsRun r halt → StopsAsked (seen r.shelf.old r.shelf.new) (command_of r.words) halt
  stops_told halt (inl w) = elim w.cause [
    | inl formless ↦
        subst (λ asked. StopsAsked (seen r.shelf.old r.shelf.new) asked halt) (sym formless.1) (inl formless.0)
    | inr memory ↦ asked_memory r (command_of r.words) halt memory
  ]
  stops_told halt (inr (inl f)) =
      of_command f.command halt f.words (stops_files r.shelf.old r.shelf.new k f.command halt f.stops)
  stops_told halt (inr (inr w)) = elim w.stops [
    | inl stops ↦ of_command w.command halt w.has.words
        (stops_work r.shelf.old r.shelf.new k r.words w.command halt w.values w.has.words w.has.reads stops)
    | inr memory ↦ asked_memory r (command_of r.words) halt memory
  ]

  -- an output of the run is one by the earlier contract, too
  pub prints_told : (text : Text) → PrintsRun r text →
      PrintsAsked (seen r.shelf.old r.shelf.new) (command_of r.words) text
  prints_told text prints_run =
      subst (λ asked. PrintsAsked (seen r.shelf.old r.shelf.new) asked text) (sym prints_run.has.words)
      (prints r.shelf.old r.shelf.new k r.words prints_run.command text prints_run.values prints_run.has.words
      prints_run.has.reads prints_run.puts)

  -- a run that reported its halt did so by the earlier contract, too
  pub told : (halt : Halt) → IsToldRun r halt → IsTold (told_of r) halt
  told halt is_told_run =
      record { status = is_told_run.status; out = is_told_run.out.taken; err = is_told_run.err.taken }

  -- a run whose line wasn't written whole is so by the earlier contract, too
  muted : (halt : Halt) → IsMutedRun r halt → IsMuted (told_of r) halt
  muted halt is_muted_run = record {
    status = is_muted_run.status;
    out = is_muted_run.out.taken;
    err =
        part_told r.err (line_of halt) is_muted_run.err;
  }

  -- a run whose output was written whole is so by the earlier contract, too
  pub printed : (text : Text) → IsPrintedRun r text → IsPrinted (told_of r) text
  printed text is_printed_run =
      record { status = is_printed_run.status; out = is_printed_run.out.taken; err = is_printed_run.err.taken }

  -- a run whose output was cut off is so by the earlier contract, too
  cut : (text : Text) → IsCutRun r text → IsCut (told_of r) text
  cut text is_cut_run =
      record {
        status = is_cut_run.status;
        out = part_told r.out text is_cut_run.out;
        err =
            either_told r.err write_fault_line is_cut_run.err;
      }

  -- ---- a stream

  -- a run that follows a stream does so by the earlier contract, too: what the shelf reports of the pack spells its
  -- tables
  abbrev pub follows_told : FollowsRun r → Follows (told_of r)
  follows_told f = record {
    pack = f.pack;
    name = f.name;
    stream = f.stream;
    words = f.words;
    tables = f.tables;
    spells = spelled_by r.shelf.old r.shelf.new k f.pack f.read f.tables f.spelled
        (agreed r.shelf.old r.shelf.new k f.read (record { newer = f.fetch ∷ []; older = []; is = f.history }));
    node = f.node;
    named = f.named;
  }

  -- the fetch of the stream is the last
  last_of : (f : FollowsRun r) → IsLast r.shelf.old r.shelf.new f.fetch
  last_of f = last r.shelf.old r.shelf.new k f.fetch (f.read ∷ []) f.history

  -- the fetch of the stream gave a front of what stands under the stream's name
  pub front_of : (f : FollowsRun r) → IfSome (r.shelf.old.stands f.stream) (λ whole. IsFrontOf whole f.fetch)
  front_of f =
      subst (λ name. IfSome (r.shelf.old.stands name) (λ whole. IsFrontOf whole f.fetch)) f.of (last_of f).agrees

  -- if a stream is refused as too long, more bytes were given than the limit
  over : (f : FollowsRun r) (fault : StreamFault) (lines : Text) →
      IsRefusedFetch f.tables.head (table_in f) f.fetch fault lines → fault ≡ Long →
      STREAM_LIMIT < given_count r.shelf.new
  over f fault lines is_refused_fetch is_long =
      let more = (is_refused_fetch.long is_long).more in let count = (last_of f).count in
      omega (arith, more, count)

  -- a stream that the shelf failed to read is one by the earlier contract, too
  pub unread_told : IsUnreadRun r → IsUnreadStream (told_of r)
  unread_told unread = let followed = unread.follows in record {
    follows = follows_told followed;
    lines = unread.lines;
    lawful = lawful_told followed.tables.head (table_in followed) followed.fetch (r.shelf.old.stands followed.stream)
        (given_count r.shelf.new) unread.lines (last_of followed).count (front_of followed) unread.lawful;
    out = unread.out.taken;
    err = unread.err.taken;
  }

  -- a stream that was rejected is one by the earlier contract, too
  pub refused_stream_told : IsRefusedRun r → IsRefusedStream (told_of r)
  refused_stream_told refused_run = let followed = refused_run.follows in record {
    follows = follows_told followed;
    fault = refused_run.fault;
    lines = refused_run.lines;
    refused = refused_told followed.tables.head (table_in followed) followed.fetch (r.shelf.old.stands followed.stream)
        refused_run.fault refused_run.lines
        (front_of followed) refused_run.refused;
    over = over followed refused_run.fault refused_run.lines refused_run.refused;
    out = refused_run.out.taken;
    err = refused_run.err.taken;
  }

  -- the lines of a stream that was followed to its close are an output by the earlier contract
  pub closed_prints : (f : FollowsRun r) (lines : Text) → IsClosedFetch f.tables.head (table_in f) f.fetch lines →
      PrintsAsked (seen r.shelf.old r.shelf.new) (command_of r.words) lines
  closed_prints f lines is_closed_fetch =
      subst (λ asked. PrintsAsked (seen r.shelf.old r.shelf.new) asked lines) (sym f.words) (record {
        output = (
          f.tables,
          (follows_told f).spells,
          record {
            node = f.node;
            named = f.named;
            closed = closed_told f.tables.head (table_in f) f.fetch (r.shelf.old.stands f.stream) lines (front_of f)
                is_closed_fetch;
          },
        );
        within = (let short = is_closed_fetch.short in let count = (last_of f).count in omega (arith, short, count));
      })

  -- a stream that isn't followed to its close isn't by the earlier contract either, for the same reason
  breaks_told : (f : FollowsRun r) (broken : Broken) →
      BreaksFetch f.tables.head (table_in f) (stream_of_run r f) broken →
      Breaks f.tables.head (table_in f) (stream_of (told_of r) (follows_told f)) broken
  breaks_told f Shelf (lines, c, wrote) = (
    (last_of f).rose c.failed,
    (
      lines,
      lawful_told f.tables.head (table_in f) f.fetch (r.shelf.old.stands f.stream) (given_count r.shelf.new) lines
          (last_of f).count (front_of f) c,
      wrote.taken,
    ),
  )
  breaks_told f Sink (rose, c) = (
    rose,
    cut_told f.tables.head (table_in f) f.fetch (r.shelf.old.stands f.stream) r.out.old r.out.new (front_of f) c,
  )
  breaks_told f (Refused fault) (lines, c, wrote) = (
    lines,
    refused_told f.tables.head (table_in f) f.fetch (r.shelf.old.stands f.stream) fault lines (front_of f) c,
    wrote.taken,
    over f fault lines c,
  )

  -- A run ends by the earlier contract, too. By how it ends: a stream that was followed to its close has become an
  -- output.
  pub ends_told : EndsRun r → Ends (told_of r)
  -- it has an output
  ends_told (inl (text, e)) = inl (
    text,
    record {
      prints = prints_told text e.prints;
      ending = elim e.ending [ inl p ↦ inl (printed text p) | inr c ↦ inr (cut text c) ];
    },
  )
  -- it stops with a halt
  ends_told (inr (inl (halt, e))) = inr (inl (
    halt,
    record {
      stops = stops_told halt e.stops;
      ending = elim e.ending [ inl t ↦ inl (told halt t) | inr m ↦ inr (muted halt m) ];
    },
  ))
  -- it followed a stream to its close
  ends_told (inr (inr (inl ended))) = let completes = ended.completes in inl (
    completes.0,
    record {
      prints = closed_prints ended.follows completes.0 completes.1;
      ending = inl (record { status = ended.status; out = completes.2.taken; err = ended.err.taken });
    },
  )
  -- it followed a stream, but not to its close
  ends_told (inr (inr (inr e))) = inr (inr (record
      { follows = follows_told e.follows; broken = e.broken; breaks = breaks_told e.follows e.broken e.breaks; said = said_told r.err r.status e.broken e.said }))
