-- Proof of `Follower::tell`: writes the lines of the acts that haven't been written yet.
use Rattle.std.proofs.Common.{◌≡◌, ◌∙◌, arith, ap, drop, length, refl, subst}
use Rattle.std.specs.Prelude.{List, OnErr}
use Rattle.cpg_io.specs.Sink.{TookPrefix}
use Rattle.cpg_node.specs.Dispatcher.{Act}
use Rattle.cpg_live.specs.Stream.{LiveState}
use Rattle.cpg_live.proofs.Bounds.{few_acts}
use Rattle.cpg_live.specs.Follower.{Follower}
use Rattle.cpg_live.specs.LinesKept.{table_in}
use Rattle.cpg_live.specs.Streams.{act_lines}
use Rattle.cpg_live.proofs.Along.{rest_few, told_lines}
use Rattle.cpg_live.proofs.following.Follower.tell.Goals as goal

-- there is room for a line of each entry of the node, and there are no more acts than entries
pub append_acts-requires : goal.append_acts-requires
append_acts-requires g c =
    let kept = c.self.invariant in
    let acts = ap (λ (done : List Act). length done)
    (c.acts-acts.ensures ∙ ap (λ (s : LiveState). s.progress.acts) kept.live) in
    let few = few_acts (table_in c.self.inside) kept.fed in
    omega (
      arith,
      c.clear.ensures.len,
      c.clear.ensures.capacity,
      kept.room,
      acts,
      few,
      rest_few c.self.inside.told c.acts-acts.result.now,
    )

-- what is written are the lines of the acts from `told` on, so a proper prefix of it is one of these
pub returns-clause-part : goal.returns-clause-part
returns-clause-part g c =
    let lines : c.as_slice.result.now
    ≡ act_lines c.self.inside.head (drop c.self.inside.told c.self.inside.live.progress.acts) =
    c.as_slice.ensures.value ∙ told_lines c.self.inside.head c.self.inside.head c.acts-acts.result.now
    c.self.inside.live.progress.acts c.self.inside.told c.clear.new.self.items
    c.append_acts.new.out.items
    c.append_acts.ensures.bytes c.clear.ensures.items refl c.acts-acts.ensures in
    subst (λ bytes. OnErr c.write_all.result
    (TookPrefix (g.O.Sink.state c.args.out.now).taken (g.O.Sink.state c.write_all.new.sink).taken bytes))
    (lines ∙ ap (λ (f : Follower). act_lines f.head (drop f.told f.live.progress.acts)) c.self.view_is)
    c.write_all.ensures.part
