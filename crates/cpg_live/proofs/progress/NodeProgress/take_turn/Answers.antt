-- Proof of `NodeProgress::take_turn`: takes the turn of the next instant.
use Rattle.std.proofs.Common.{◌≡◌, [], Some, length, arith, sym, ap, ◌∙◌, subst}
use Rattle.std.specs.Vec.{vec_capacity}
use Rattle.std.proofs.lemmas.List.{length-append}
use Rattle.std.proofs.lemmas.List.Elements.{All-nil}
use Rattle.cpg_table.specs.Lawful.{IsTable}
use Rattle.cpg_node.specs.Dispatcher.{Dispatcher, next, turn}
use Rattle.cpg_node.specs.Instants.{instants_left}
use Rattle.cpg_node.specs.State.{EndsAt, ArrivesAt}
use Rattle.cpg_node.proofs.Instants.{table_less}
use Rattle.cpg_live.specs.Stream.{NodeProgress}
use Rattle.cpg_live.proofs.Steps.{at_some, turn_taken, room_taken}
use Rattle.cpg_live.proofs.progress.NodeProgress.take_turn.Goals as goal

-- the time is the next instant, and the turn takes neither ends nor frames
pub turn-requires : goal.turn-requires
turn-requires c = record {
  time = c.args.time;
  comes = ap (λ (p : NodeProgress). next p.dispatcher) c.self.view_is ∙ c.requires;
  ends = All-nil (EndsAt c.self.inside.node.dispatcher c.args.time);
  arrive = All-nil (ArrivesAt c.self.inside.node.dispatcher c.args.time);
}

-- there was room for an act of each entry left, and a turn does no more acts than it takes entries
pub append_acts-requires : goal.append_acts-requires
append_acts-requires c = omega (
  arith,
  length-append c.self.inside.acts.items c.acts.result.now,
  room_taken c.self.inside.node c.turn.new.self c.args.time (length c.self.inside.acts.items)
      (vec_capacity c.self.inside.acts) c.acts.result.now
      (ap (λ (p : NodeProgress). next p.dispatcher) c.self.view_is ∙ c.requires) c.turn.ensures.turn c.turn.ensures.acts
      c.acts.ensures c.self.invariant.room,
)

-- `made`: the turn keeps the table. `room`: the acts of the turn took the room of entries that aren't left any more
pub invariant_of-self : goal.invariant_of-self
invariant_of-self c =
    let here : next c.self.inside.node.dispatcher ≡ Some c.args.time =
    ap (λ (p : NodeProgress). next p.dispatcher) c.self.view_is ∙ c.requires in
    record {
      made = subst (λ (d : Dispatcher). IsTable d.table)
          (sym (at_some (next c.self.inside.node.dispatcher) c.args.time
          (λ t. c.turn.new.self.dispatcher ≡ turn c.self.inside.node.dispatcher t [] []) here c.turn.ensures.turn))
          c.self.invariant.made;
      room = omega (
        arith,
        length-append c.self.inside.acts.items c.acts.result.now,
        ap (λ l. length l) c.append_acts.ensures.acts,
        c.append_acts.ensures.room,
        room_taken c.self.inside.node c.turn.new.self c.args.time (length c.self.inside.acts.items)
            (vec_capacity c.self.inside.acts) c.acts.result.now here c.turn.ensures.turn c.turn.ensures.acts
            c.acts.ensures c.self.invariant.room,
      );
    }

-- the node takes the turn of this instant, and its acts are added
pub returns-clause-turn : goal.returns-clause-turn
returns-clause-turn c = turn_taken c.args.self.now c.self.inside.node c.turn.new.self c.args.time
    c.self.inside.acts.items c.acts.result.now c.append_acts.new.acts.items c.self.view_is c.requires
    c.turn.ensures.turn c.turn.ensures.acts c.acts.ensures c.append_acts.ensures.acts

-- a turn with a lawful table leaves fewer instants (`table_less`)
pub returns-clause-fewer : goal.returns-clause-fewer
returns-clause-fewer c =
    let here : next c.self.inside.node.dispatcher ≡ Some c.args.time =
    ap (λ (p : NodeProgress). next p.dispatcher) c.self.view_is ∙ c.requires in
    omega (
      arith,
      table_less c.self.inside.node.dispatcher c.args.time [] here c.self.invariant.made,
      ap instants_left (at_some (next c.self.inside.node.dispatcher) c.args.time
          (λ t. c.turn.new.self.dispatcher ≡ turn c.self.inside.node.dispatcher t [] []) here c.turn.ensures.turn),
      ap (λ (p : NodeProgress). instants_left p.dispatcher) c.self.view_is,
    )
