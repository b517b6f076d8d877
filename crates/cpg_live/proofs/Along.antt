-- A follower along its stream: after each piece it is along it still, or the stream breaks, and how.
use Rattle.std.proofs.Common.{◌≡◌, ℕ, ◌+◌, ◌<◌, ◌≤◌, ◌-◌, ◌||◌, List, [], ◌∷◌, ◌++◌, true, false, true≢false, length}
use Rattle.std.proofs.Common.{take, drop, Some, None, refl, sym, ap, ap₂, ◌∙◌, subst, arith}
use Rattle.std.specs.Prelude.{IfErr, IfOk, Result, Ok, Err, MatchResult, OnErr, OnOk, is_err}
use Rattle.std.proofs.lemmas.List.{length-append, length-drop, length-take, take_all}
use Rattle.cpg_history.specs.Fetch.{Fetch, failed, gave, is_none}
use Rattle.cpg_io.specs.State.{ShelfState, SinkState}
use Rattle.cpg_io.specs.Shelf.{opened as started}
use Rattle.cpg_io.specs.Sink.{Took, TookPrefix}
use Rattle.cpg_io.proofs.Writes.{Took-none, Took-trans}
use Rattle.cpg_head.specs.Head.{Head}
use Rattle.cpg_table.specs.Table.{NodeTable}
use Rattle.cpg_node.specs.Dispatcher.{Act}
use Rattle.cpg_live.specs.declared.lawless.LawlessRecord.{LawlessRecord}
use Rattle.cpg_live.specs.Stream.{LiveState, after, open_stream, outcome}
use Rattle.cpg_live.specs.Laws.{Grows}
use Rattle.cpg_live.specs.declared.following.Broken.{Broken}
use Rattle.cpg_live.specs.declared.following.Broken.TheVariants.{Shelf, Sink, Refused}
use Rattle.cpg_live.specs.declared.following.StreamFault.TheVariants.{Lawless, Long}
use Rattle.cpg_live.specs.declared.following.TheConstants.{STREAM_LIMIT}
use Rattle.cpg_live.specs.Follower.{Follower, open_follower}
use Rattle.cpg_live.specs.Following.{Breaks, Closes, Completes, IsAlong, IsAlongAt, IsOfSame, IsStreamed, Stream}
use Rattle.cpg_live.specs.Following.{TakesPiece}
use Rattle.cpg_live.specs.Streams.{act_lines, closed_line, IsClosed, IsCutOff, IsRefused}
use Rattle.cpg_live.proofs.Streams.{acts_more, closed, cut_closed, cut_off, lines_more, refused_by_record, too_long}
use Rattle.cpg_live.proofs.Streams.{took_after}
use Rattle.cpg_live.proofs.Streams.{unclosed}

-- ---- a piece

-- A follower was along a stream, and a piece was fed whose lines aren't written yet: `live` is the state after all
-- bytes that the fetch gave, `before` are the acts whose lines were written, and `lines` parts the lines of all acts
-- there
pub record IsFed (name : List ℕ) (past rest : List Fetch) (start now : List ℕ) (h : Head) (table : NodeTable)
    (before : List Act) (from : ℕ) (read : ℕ) (live : LiveState) : Type 0 where
  -- the stream has been fetched without a fault
  pub fetch : Fetch
  pub named : fetch.name ≡ name
  pub sound : fetch.failed ≡ false
  pub history_is : rest ≡ fetch ∷ past
  -- what was read of it is what the shelf gave, within the limit
  pub long : read ≡ length fetch.given
  pub few : length fetch.given ≤ STREAM_LIMIT + 1
  -- the follower has taken all of it
  pub state : live ≡ after table fetch.given
  -- the lines of the acts before were written
  pub wrote : Took start now (act_lines h before)
  -- the lines of all acts are these and those of the acts from `from` on
  pub lines : act_lines h live.progress.acts ≡ act_lines h before ++ act_lines h (drop from live.progress.acts)

-- state `t`, after a piece more than state `s`, has the acts of `s`, and perhaps more after them
acts_grow : (table : NodeTable) (fed piece : List ℕ) (s t : LiveState) → s ≡ after table fed →
    t ≡ after table (fed ++ piece) →
    Grows s.progress.acts t.progress.acts
acts_grow table fed piece s t before d =
    let grown = acts_more table fed piece in (
      grown.0,
      ap (λ (s : LiveState). s.progress.acts) d ∙ grown.1
          ∙ ap (λ (s : LiveState). s.progress.acts ++ grown.0) (sym before),
    )

-- a fetch that gave a piece more
abbrev pub grown_by : List ℕ → Fetch → Fetch
grown_by piece f =
    record { name = f.name; given = f.given ++ piece; ended = is_none piece || f.ended; failed = f.failed }

-- A follower `f` along its stream that takes a piece, and becomes `g`, has been fed it, and the piece's lines are still
-- to be written. The fetch has grown by the piece, the state is the one after all bytes, and the acts that the piece
-- added come behind those that were told.
pub fed_on : (name : List ℕ) (past : List Fetch) (shelf rest : ShelfState) (count : ℕ) (start now : List ℕ)
    (f g : Follower) →
    IsAlong name past shelf.history start now f →
    TakesPiece shelf rest f g count →
    IsFed name past rest.history start now f.head f.table f.live.progress.acts f.told g.read g.live
fed_on name past shelf rest count start now f g a t =
    let live : g.live ≡ after f.table (a.fetch.given ++ t.piece) = t.fed f.table a.fetch.given a.live in
    let grown = acts_grow f.table a.fetch.given t.piece f.live g.live a.live live in
    let read : g.read ≡ f.read + count = ap (λ (f : Follower). f.read) t.state in
    record {
      fetch = grown_by t.piece a.fetch;
      named = a.named;
      sound = a.sound;
      history_is = t.gave ∙ ap (gave t.piece) a.history_is;
      long = omega (arith, read, a.read, t.long, length-append a.fetch.given t.piece);
      few = omega (arith, read, a.read, t.long, t.few, length-append a.fetch.given t.piece);
      state = live;
      wrote = a.wrote;
      lines = lines_more f.head f.live.progress.acts grown.0 g.live.progress.acts grown.1 ∙
          ap (λ n. act_lines f.head f.live.progress.acts ++ act_lines f.head (drop n g.live.progress.acts))
          (sym a.all_told);
    }

-- a piece of length 0 is empty
no_bytes : (piece : List ℕ) → length piece ≡ 0 → is_none piece ≡ true
no_bytes [] e = refl
no_bytes (b ∷ bs) e = absurd (omega (arith, e))

-- if the piece that leads from follower `f` to `g` has no bytes, the stream has come to its end
pub fed_end : (name : List ℕ) (past : List Fetch) (shelf rest : ShelfState) (count : ℕ) (start now : List ℕ)
    (f g : Follower) (a : IsAlong name past shelf.history start now f)
    (t : TakesPiece shelf rest f g count) → count ≡ 0 →
    (fed_on name past shelf rest count start now f g a t).fetch.ended ≡ true
unfolding fed_on
fed_end name past shelf rest count start now f g a t none =
    ap (λ b. b || a.fetch.ended) (no_bytes t.piece (t.long ∙ none))

-- given a piece that was fed, whose lines are still to be written
module _ (name : List ℕ) (past rest : List Fetch) (start now out : List ℕ) (h : Head) (table : NodeTable)
    (before : List Act) (from read : ℕ) (live : LiveState)
    (k : IsFed name past rest start now h table before from read live) where
  -- the lines of the acts after all bytes that came are those of `live`
  same_lines : act_lines h (after table k.fetch.given).progress.acts ≡ act_lines h live.progress.acts
  same_lines = ap (λ (s : LiveState). act_lines h s.progress.acts) (sym k.state)

  -- if the rest of the lines was written, all lines were
  pub wrote_all : Took now out (act_lines h (drop from live.progress.acts)) →
      Took start out (act_lines h live.progress.acts)
  wrote_all whole = subst (Took start out) (sym k.lines)
      (Took-trans start now out (act_lines h before) (act_lines h (drop from live.progress.acts)) k.wrote whole)

  -- if of the piece's lines only a proper prefix was written, the stream's lines are cut off
  pub fed_cut : TookPrefix now out (act_lines h (drop from live.progress.acts)) → IsCutOff h table k.fetch start out
  fed_cut part = cut_off h table k.fetch k.sound k.few start out
      (subst (TookPrefix start out) (sym (same_lines ∙ k.lines))
      (took_after start now out (act_lines h before) (act_lines h (drop from live.progress.acts)) k.wrote part))

  -- if the piece has a lawless record, the stream is refused by that record
  pub fed_lawless : (lawless : LawlessRecord) → live.lawless ≡ Some lawless →
      IsRefused h table k.fetch (Lawless lawless) (act_lines h live.progress.acts)
  fed_lawless lawless e = subst (IsRefused h table k.fetch (Lawless lawless)) same_lines
      (refused_by_record h table k.fetch k.sound k.few lawless (ap (λ (s : LiveState). s.lawless) (sym k.state) ∙ e))

  -- if the piece goes past the limit of lawful bytes, the stream is refused as too long
  pub fed_long : live.lawless ≡ None → STREAM_LIMIT < read →
      IsRefused h table k.fetch Long (act_lines h live.progress.acts)
  fed_long e l = subst (IsRefused h table k.fetch Long) same_lines (too_long h table k.fetch k.sound k.few
      (ap (λ (s : LiveState). s.lawless) (sym k.state) ∙ e) (omega (arith, l, k.long)))

  -- if the piece is lawful and within the limit, and its lines are written, the follower is along the stream; all acts
  -- are told then
  pub fed_along : live.lawless ≡ None → read ≤ STREAM_LIMIT →
      Took now out (act_lines h (drop from live.progress.acts)) →
      IsAlong name past rest start out
      (record { head = h; table = table; live = live; told = length live.progress.acts; read = read })
  fed_along e l whole = record {
    fetch = k.fetch;
    named = k.named;
    sound = k.sound;
    history_is = k.history_is;
    read = k.long;
    few = l;
    live = k.state;
    lawful = e;
    all_told = refl;
    wrote =
        wrote_all whole;
  }

-- ---- what is written

-- if `P` holds in case `r` is an error, and `r` is one, then `P` holds
pub on_err : {T E : Type 0} {P : Type 0} (r : Result T E) → is_err r ≡ true → OnErr r P → P
on_err (Ok x) e p = absurd (true≢false (sym e))
on_err (Err x) e p = p

-- if `P` holds in case `r` is no error, and `r` is none, then `P` holds
pub on_ok : {T E : Type 0} {P : Type 0} (r : Result T E) → is_err r ≡ false → OnOk r P → P
on_ok (Ok x) e p = p
on_ok (Err x) e p = absurd (true≢false e)

-- the acts that aren't told are no more than the acts
pub rest_few : (told : ℕ) (acts : List Act) → length (take (length acts - told) (drop told acts)) ≤ length acts
rest_few told acts = omega (arith, length-take (length acts - told) (drop told acts), length-drop told acts)

-- as many acts as there are from `told` on are all from there on
rest_is : (told : ℕ) (acts : List Act) → take (length acts - told) (drop told acts) ≡ drop told acts
rest_is told acts = take_all (length acts - told) (drop told acts) (omega (arith, length-drop told acts))

-- the lines of the acts that aren't told yet, those from `told` on, are what is appended to an empty list (`clear`)
pub told_lines : (h k : Head) (acts done : List Act) (told : ℕ) (clear items : List ℕ) →
    items ≡ clear ++ act_lines k (take (length acts - told) (drop told acts)) → clear ≡ [] → k ≡ h → acts ≡ done →
    items ≡ act_lines h (drop told done)
told_lines h k acts done told clear items e none same a =
    e ∙ ap (λ (front : List ℕ). front ++ act_lines k (take (length acts - told) (drop told acts))) none
    ∙ ap (act_lines k) (rest_is told acts) ∙
    ap₂ (λ (h : Head) (acts : List Act). act_lines h (drop told acts)) same a

-- the lines of the acts that aren't told are the same by the follower `f` before a piece and by `n` after it
pub lines_told : (shelf rest : ShelfState) (f n : Follower) (count : ℕ) → TakesPiece shelf rest f n count →
    act_lines n.head (drop n.told n.live.progress.acts) ≡ act_lines f.head (drop f.told n.live.progress.acts)
lines_told shelf rest f n count t = ap (λ (f : Follower). act_lines f.head (drop f.told n.live.progress.acts)) t.state

-- the follower `n` after a piece, once it has told all its acts, is `s`: of `f` it keeps the head and the table
pub told_as : (shelf rest : ShelfState) (f n s : Follower) (count : ℕ) → TakesPiece shelf rest f n count →
    s ≡ record n { told = length n.live.progress.acts } →
    record { head = f.head; table = f.table; live = n.live; told = length n.live.progress.acts; read = n.read } ≡ s
told_as shelf rest f n s count t e = sym (e ∙ ap (λ (f : Follower). record {
  head = f.head;
  table = f.table;
  live = n.live;
  told = length n.live.progress.acts;
  read = n.read;
}) t.state)

-- If follower `f` is along the stream, is `n` after a piece of `count` bytes, which leaves the shelf as `rest`, and is `s`
-- once the lines of the piece are written, then `s` is along the stream too; and if the piece is empty, the stream has
-- ended. The sink had taken `start` before the stream, `now` before these lines and `out` after them.
pub along_at : (name : List ℕ) (past : List Fetch) (shelf rest : ShelfState) (count : ℕ) (start now out : List ℕ)
    (f n s : Follower) (a : IsAlong name past shelf.history start now f)
    (takes : TakesPiece shelf rest f n count) → n.live.lawless ≡ None → n.read ≤ STREAM_LIMIT →
    Took now out (act_lines f.head (drop f.told n.live.progress.acts)) →
    s ≡ record n { told = length n.live.progress.acts } → IsAlongAt count name past rest.history start out s
unfolding fed_along fed_on
along_at name past shelf rest count start now out f n s a takes none within whole told_is =
    let fed_on_now = fed_on name past shelf rest count start now f n a takes in
    let along = fed_along name past rest.history start now out f.head f.table f.live.progress.acts f.told n.read n.live
    fed_on_now none within whole in
    subst (IsAlongAt count name past rest.history start out) (told_as shelf rest f n s count takes told_is)
    (record { along = along; end = fed_end name past shelf rest count start now f n a takes })

-- the follower made of a head `k` and a table `made`, which equal `h` and `table`, and of the state before the first
-- byte, is the open one
pub opened : (h k : Head) (table made : NodeTable) (live : LiveState) → k ≡ h → made ≡ table → live ≡ open_stream made →
    record { head = k; table = live.progress.dispatcher.table; live = live; told = 0; read = 0 } ≡ open_follower h table
opened h k table made live same is e =
    ap₂ (λ (h : Head) (s : LiveState). record {
      head = h;
      table = s.progress.dispatcher.table;
      live = s;
      told = 0;
      read = 0;
    }) same (e ∙ ap open_stream is)

-- ---- if the shelf met a fault

-- a fetch that failed
abbrev pub broken_off : Fetch → Fetch
broken_off f = record { name = f.name; given = f.given; ended = f.ended; failed = true }

-- if the shelf meets a fault after some pieces, the stream of follower `f` breaks there, with the lines so far: the
-- fetch is broken off where it was, and the lines that were written are those of all acts so far
pub unread : (name : List ℕ) (past history rest : List Fetch) (start now : List ℕ) (f : Follower) (out : SinkState) →
    (a : IsAlong name past history start now f) →
    rest ≡ failed history →
    now ≡ out.taken →
    IsStreamed (λ s. Breaks f.head f.table s Shelf) name past rest start out out
unread name past history rest start now f out a e same = record {
  fetch = broken_off a.fetch;
  named = a.named;
  history_is = e ∙ ap failed a.history_is;
  is = (
    act_lines f.head f.live.progress.acts,
    record {
      failed = refl;
      few = omega (arith, a.read, a.few);
      lawful = ap (λ (s : LiveState). s.lawless) (sym a.live) ∙ a.lawful;
      spelled = ap (λ (s : LiveState). act_lines f.head s.progress.acts) a.live;
    },
    record { faultless = refl; taken = subst (λ o. Took start o (act_lines f.head f.live.progress.acts)) same a.wrote },
  );
}

-- if the shelf meets a fault when the stream is opened, it breaks there, without a line
pub unfetched : (name : List ℕ) (past rest : List Fetch) (h : Head) (table : NodeTable) (old : SinkState) →
    rest ≡ started name true past →
    IsStreamed (λ s. Breaks h table s Shelf) name past rest old.taken old old
unfetched name past rest h table old e = record {
  fetch = record { name = name; given = []; ended = false; failed = true };
  named = refl;
  history_is = e;
  is = (
    [],
    record { failed = refl; few = omega arith; lawful = refl; spelled = refl },
    record { faultless = refl; taken = Took-none old.taken },
  );
}

-- ---- the end

-- a follower whose stream was opened is along it before the first byte; no act, byte or line is there yet
pub along_open : (name : List ℕ) (past history : List Fetch) (now : List ℕ) (h : Head) (table : NodeTable) →
    history ≡ started name false past →
    IsAlong name past history now now (open_follower h table)
along_open name past history now h table e = record {
  fetch = record { name = name; given = []; ended = false; failed = false };
  named = refl;
  sound = refl;
  history_is = e;
  read = refl;
  few = omega arith;
  live = refl;
  lawful = refl;
  all_told = refl;
  wrote = Took-none now;
}

-- given a follower along a stream that has come to its end
module _ (name : List ℕ) (past history : List Fetch) (start now : List ℕ) (f : Follower)
    (a : IsAlong name past history start now f) (ended : a.fetch.ended ≡ true) (old new : SinkState) where
  -- the lines of all acts so far
  acts : List ℕ
  acts = act_lines f.head f.live.progress.acts

  -- what has been fed is lawful
  lawful : (after f.table a.fetch.given).lawless ≡ None
  lawful = ap (λ (s : LiveState). s.lawless) (sym a.live) ∙ a.lawful

  -- if the stream is closed, the lines so far and the closing one are the whole output
  all_closed : (time : ℕ) → outcome f.live ≡ Ok time → IsClosed f.head f.table a.fetch (acts ++ closed_line time)
  unfolding acts
  all_closed time e = subst (IsClosed f.head f.table a.fetch)
      (ap (λ (s : LiveState). act_lines f.head s.progress.acts ++ closed_line time) (sym a.live))
      (closed f.head f.table a.fetch a.sound (omega (arith, a.few, a.read)) ended lawful
      (omega (arith, a.few, a.read)) time (ap outcome (sym a.live) ∙ e))

  -- if the stream is closed and the line of its close was written, it is completed: what was taken is the lines of all
  -- acts and then that of the close
  pub ended_whole : (time : ℕ) → outcome f.live ≡ Ok time → Took now new.taken (closed_line time) →
      new.faults ≡ old.faults →
      IsStreamed (Completes f.head f.table) name past history start old new
  unfolding acts
  ended_whole time e whole kept = record {
    fetch = a.fetch;
    named = a.named;
    history_is = a.history_is;
    is = (
      acts ++ closed_line time,
      all_closed time e,
      record { faultless = kept; taken = Took-trans start now new.taken acts (closed_line time) a.wrote whole },
    );
  }

  -- a stream that ends otherwise breaks, as its end answers: by the sink, which took a part of the last line, or
  -- because the stream was never closed
  pub ended_broken : (broken : Broken) → Closes f old.faults new.faults now new.taken (Err broken) →
      IsStreamed (λ s. Breaks f.head f.table s broken) name past history start old new
  unfolding acts
  ended_broken Shelf ends = absurd ends
  ended_broken Sink ends =
      let time = ends.1.0 in
      let cut = cut_closed f.head f.table a.fetch start new.taken (acts ++ closed_line time) (all_closed time ends.1.1)
      (took_after start now new.taken acts (closed_line time) a.wrote ends.1.2) in
      record { fetch = a.fetch; named = a.named; history_is = a.history_is; is = (ends.0, cut) }
  ended_broken (Refused Long) ends = absurd ends
  ended_broken (Refused (Lawless lawless)) ends =
      let is = subst (IsRefused f.head f.table a.fetch (Lawless lawless))
      (ap (λ (s : LiveState). act_lines f.head s.progress.acts) (sym a.live))
      (unclosed f.head f.table a.fetch a.sound (omega (arith, a.few, a.read)) ended lawful
      (omega (arith, a.few, a.read)) lawless (ap outcome (sym a.live) ∙ ends.0)) in
      record {
        fetch = a.fetch;
        named = a.named;
        history_is = a.history_is;
        is = (acts, is, record { faultless = ends.2; taken = subst (λ o. Took start o acts) (sym ends.1) a.wrote });
      }

-- ---- what came later in a run is of the run

-- what holds of a stream from an earlier state of the sink on, if the sink met no fault since
from_first : (Is : Stream → Type 0) (name : List ℕ) (past history : List Fetch) (start : List ℕ)
    (first old new : SinkState) →
    old.faults ≡ first.faults →
    IsStreamed Is name past history start old new → IsStreamed Is name past history start first new
from_first Is name past history start first old new kept b = record {
  fetch = b.fetch;
  named = b.named;
  history_is = b.history_is;
  is = subst (λ n. Is (record {
    fetch = b.fetch;
    faults_before = n;
    faults_after = new.faults;
    taken_before = start;
    taken_after = new.taken;
  })) kept b.is;
}

-- how the stream of follower `n`, with the head and table of `f`, breaks is how that of `f` breaks, from an earlier
-- state of the sink, `first`, on
pub breaks_on : (f n : Follower) (name : List ℕ) (past history : List Fetch) (start : List ℕ)
    (first old new : SinkState) (broken : Broken) → IsOfSame f n →
    old.faults ≡ first.faults →
    IsStreamed (λ s. Breaks n.head n.table s broken) name past history start old new →
    IsStreamed (λ s. Breaks f.head f.table s broken) name past history start first new
breaks_on f n name past history start first old new broken same kept b =
    from_first (λ s. Breaks f.head f.table s broken) name past history start first old new kept
    (subst (λ h. IsStreamed (λ s. Breaks h f.table s broken) name past history start old new) same.head
    (subst (λ table. IsStreamed (λ s. Breaks n.head table s broken) name past history start old new) same.table b))

-- a stream that follower `n`, with the head and table of `f`, completes from a later state of the sink on is completed
-- by `f` from the state `first` on
pub completes_on : (f n : Follower) (name : List ℕ) (past history : List Fetch) (start : List ℕ)
    (first old new : SinkState) → IsOfSame f n →
    old.faults ≡ first.faults →
    IsStreamed (Completes n.head n.table) name past history start old new →
    IsStreamed (Completes f.head f.table) name past history start first new
completes_on f n name past history start first old new same kept b =
    from_first (Completes f.head f.table) name past history start first old new kept
    (subst (λ h. IsStreamed (Completes h f.table) name past history start old new) same.head
    (subst (λ table. IsStreamed (Completes n.head table) name past history start old new) same.table b))

-- after the last piece, the answer says whether the stream is complete, or how it breaks; each answer is that of the
-- run (`completes_on`, `breaks_on`)
pub end_of_all : (f n : Follower) (name : List ℕ) (past history : List Fetch) (start now : List ℕ)
    (first old new : SinkState) (result : Result Unit Broken) → IsOfSame f n →
    old.faults ≡ first.faults → (at : IsAlongAt 0 name past history start now n) →
    Closes n old.faults new.faults now new.taken result →
    MatchResult result (λ _. IsStreamed (Completes f.head f.table) name past history start first new)
    (λ b. IsStreamed (λ s. Breaks f.head f.table s b) name past history start first new)
end_of_all f n name past history start now first old new (Ok done) same kept at closes =
    completes_on f n name past history start first old new same kept
    (ended_whole name past history start now n at.along (at.end refl) old new closes.0 closes.1 closes.2 closes.3)
end_of_all f n name past history start now first old new (Err broken) same kept at closes =
    breaks_on f n name past history start first old new broken same kept
    (ended_broken name past history start now n at.along (at.end refl) old new broken closes)

-- if result `r` has the meaning `P` of a success or `Q` of an error, a success has the meaning `P`
pub on_match_ok : {T E : Type 0} (P : T → Type 0) (Q : E → Type 0) (r : Result T E) → MatchResult r P Q → IfOk r P
on_match_ok P Q (Ok x) p = p
on_match_ok P Q (Err e) p = tt

-- if result `r` has the meaning `P` of a success or `Q` of an error, an error has the meaning `Q`
pub on_match_err : {T E : Type 0} (P : T → Type 0) (Q : E → Type 0) (r : Result T E) → MatchResult r P Q → IfErr r Q
on_match_err P Q (Ok x) p = tt
on_match_err P Q (Err e) p = p
