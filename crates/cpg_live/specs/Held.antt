-- What a live node keeps between the pieces of its stream.
use Rattle.std.specs.Prelude.{◌≡◌, ◌≤◌, ◌<◌, true, false, None}
use Rattle.std.specs.Vec.{vec_len, vec_capacity}
use Rattle.cpg_node.specs.Dispatcher.{is_after}
use Rattle.cpg_live.specs.declared.live.Live.TheInside.{Inside}
use Rattle.cpg_live.specs.Stream.{LiveState}

-- the state that the fields of a live node make
abbrev pub live_of : Inside → LiveState
live_of l = record {
  progress = l.progress;
  taken = l.taken;
  time = l.time;
  rest = l.rest.items;
  closed = l.closed;
  lawless = l.lawless;
}

-- There is room for a record, and the bytes so far aren't a whole one. If the next record may be lawful, the last turn
-- was before the time of the last one, and so before that of the next.
pub record IsReady (l : Inside) : Type 0 where
  -- the bytes of the next record that have come, and room for all 14
  pub part : vec_len l.rest < 14
  pub room : 14 ≤ vec_capacity l.rest
  -- the last turn was before the time of the last record
  pub later : l.lawless ≡ None → l.closed ≡ false → is_after l.progress.dispatcher.last l.time ≡ true
