-- Proof of `follow`: lets a node follow a stream, and ends the run.
use Rattle.std.proofs.Common.{◌≡◌, ◌∙◌, ap, inl, inr, refl}
use Rattle.std.specs.Prelude.{◌⊎◌, Err}
use Rattle.cpg_io.specs.Causes.{Rose}
use Rattle.cpg_live.specs.declared.following.Broken.{Broken}
use Rattle.cpg_outputs.proofs.Followed.{closed_sound, failed_rose}
use Rattle.cpg_outputs.proofs.living.follow.Goals as goal

-- what stands under names is unchanged, and the newest fetch is that of the stream, which didn't fail, as the stream was
-- followed to its close
pub returns-in-Ok-clause-keeps : goal.returns-in-Ok-clause-keeps
returns-in-Ok-clause-keeps g c =
    let whole = c.in-Ok.ensures.whole in
    record {
      names = c.follow.ensures.names;
      fetched = c.follow.ensures.fetched;
      later = c.follow.ensures.later;
      rose =
          λ fetch past is failed. absurd (closed_sound c.args.follower.now.head c.args.follower.now.table
          c.args.stream.now (g.S.Shelf.state c.args.shelf.now).history
          (g.S.Shelf.state c.follow.new.shelf).history (g.O.Sink.state c.args.out.now).taken
          (g.O.Sink.state c.args.out.now) (g.O.Sink.state c.follow.new.out) whole fetch past is failed);
    }

-- there is one fetch more, that of the stream, which is followed to its close; `err` is untouched
pub returns-in-Ok-clause-followed : goal.returns-in-Ok-clause-followed
returns-in-Ok-clause-followed g c =
    let whole = c.in-Ok.ensures.whole in
    record {
      fetch = whole.fetch;
      named = whole.named;
      history = whole.history_is;
      ends = inl (whole.is, refl, record { faultless = refl; taken = refl });
    }

-- there is one fetch more, that of the stream, and `end_broken` wrote why it isn't followed to its close
pub returns-in-Err-clause-followed : goal.returns-in-Err-clause-followed
returns-in-Err-clause-followed g c =
    let broken = c.in-Err.ensures.broken in
    record {
      fetch = broken.fetch;
      named = broken.named;
      history = broken.history_is;
      ends = inr (c.in-Err.broken, broken.is, c.end_broken.ensures);
    }

-- what stands under names is unchanged, and if the fetch of the stream failed, it was the shelf that broke off, so its count
-- of faults rose
pub returns-in-Err-clause-keeps : goal.returns-in-Err-clause-keeps
returns-in-Err-clause-keeps g c =
    let old = g.S.Shelf.state c.args.shelf.now in
    let new = g.S.Shelf.state c.follow.new.shelf in
    record {
      names = c.follow.ensures.names;
      fetched = c.follow.ensures.fetched;
      later = c.follow.ensures.later;
      rose =
          λ fetch past is failed. failed_rose ((new.history ≡ old.history) ⊎ Rose old.faults new.faults)
          c.args.follower.now.head c.args.follower.now.table c.args.stream.now old.history new.history
          (g.O.Sink.state c.args.out.now).taken (g.O.Sink.state c.args.out.now)
          (g.O.Sink.state c.follow.new.out) c.in-Err.broken c.in-Err.ensures.broken
          (λ e. inr (c.follow.ensures.rose (c.in-Err.is ∙ ap (λ (b : Broken). Err b) e))) fetch past is failed;
    }
