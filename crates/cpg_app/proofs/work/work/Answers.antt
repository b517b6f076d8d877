-- Proof of `work`, which returns the output of a command by what its files say, or why it stops.
use Rattle.std.proofs.Common.{subst}
use Rattle.cpg_inputs.specs.Inputs.{AreInputs}
use Rattle.cpg_app.proofs.Worked.{of_audit, of_check, of_hyper, of_live, of_node, of_play, of_trial, stops_audit}
use Rattle.cpg_app.proofs.Worked.{stops_check, stops_hyper, stops_live, stops_memory, stops_node, stops_play}
use Rattle.cpg_app.proofs.work.work.Goals as goal

-- for a command on a graph alone, `work_on_graph` says what is put out
pub returns-in-Graph-clause-output : goal.returns-in-Graph-clause-output
returns-in-Graph-clause-output c command values are =
    c.work_on_graph.ensures.output command values (subst (AreInputs command values) c.in-Graph.is are)

-- for a command on a graph alone, `work_on_graph` says what stops it
pub returns-in-Graph-clause-halt : goal.returns-in-Graph-clause-halt
returns-in-Graph-clause-halt c command values are =
    c.work_on_graph.ensures.halt command values (subst (AreInputs command values) c.in-Graph.is are)

-- `check` puts out the verdict on the tables
pub returns-in-Check-clause-output : goal.returns-in-Check-clause-output
returns-in-Check-clause-output c command values are =
    of_check command values c.verdict_of.result c.in-Check.graph c.in-Check.tables
    (subst (AreInputs command values) c.in-Check.is are) c.verdict_of.ensures.text

-- what stops the check stops the work
pub returns-in-Check-clause-halt : goal.returns-in-Check-clause-halt
returns-in-Check-clause-halt c command values are =
    stops_check command values c.verdict_of.result c.in-Check.graph c.in-Check.tables
    (subst (AreInputs command values) c.in-Check.is are) c.verdict_of.ensures.halt

-- `play` puts out the text of the play
pub returns-in-Play-clause-output : goal.returns-in-Play-clause-output
returns-in-Play-clause-output c command values are =
    of_play command values c.play.result c.in-Play.graph c.in-Play.tables c.in-Play.played c.in-Play.turns
    (subst (AreInputs command values) c.in-Play.is are) c.play.ensures.text

-- what stops the play stops the work
pub returns-in-Play-clause-halt : goal.returns-in-Play-clause-halt
returns-in-Play-clause-halt c command values are =
    stops_play command values c.play.result c.in-Play.graph c.in-Play.tables c.in-Play.played c.in-Play.turns
    (subst (AreInputs command values) c.in-Play.is are) c.play.ensures.halt

-- `audit` puts out the text of the audit
pub returns-in-Audit-clause-output : goal.returns-in-Audit-clause-output
returns-in-Audit-clause-output c command values are =
    of_audit command values c.audited.result c.in-Audit.graph c.in-Audit.tables c.in-Audit.log
    (subst (AreInputs command values) c.in-Audit.is are) c.audited.ensures.text

-- what stops the audit stops the work
pub returns-in-Audit-clause-halt : goal.returns-in-Audit-clause-halt
returns-in-Audit-clause-halt c command values are =
    stops_audit command values c.audited.result c.in-Audit.graph c.in-Audit.tables c.in-Audit.log
    (subst (AreInputs command values) c.in-Audit.is are) c.audited.ensures.halt

-- `node` puts out the table of the node that is named
pub returns-in-Node-clause-output : goal.returns-in-Node-clause-output
returns-in-Node-clause-output c command values are = of_node command values c.node_named.result c.in-Node.tables
    c.in-Node.name (subst (AreInputs command values) c.in-Node.is are)
    (rw c.as_str.ensures at c.node_named.ensures.text)

-- the tables have no node of this name, or memory runs out
pub returns-in-Node-clause-halt : goal.returns-in-Node-clause-halt
returns-in-Node-clause-halt c command values are = stops_node command values c.node_named.result c.in-Node.tables
    c.in-Node.name (subst (AreInputs command values) c.in-Node.is are)
    (rw c.as_str.ensures at c.node_named.ensures.halt)

-- `live` is ready to follow the stream, as a follower of the node
pub returns-in-Live-clause-output : goal.returns-in-Live-clause-output
returns-in-Live-clause-output c command values are = of_live command values c.follower_named.result c.in-Live.tables
    c.in-Live.name c.in-Live.stream (subst (AreInputs command values) c.in-Live.is are)
    (rw c.as_str-in-Live.ensures at c.follower_named.ensures.opens)

-- the tables have no node of this name, or memory runs out
pub returns-in-Live-clause-halt : goal.returns-in-Live-clause-halt
returns-in-Live-clause-halt c command values are = stops_live command values c.follower_named.result c.in-Live.tables
    c.in-Live.name c.in-Live.stream (subst (AreInputs command values) c.in-Live.is are)
    (rw c.as_str-in-Live.ensures at c.follower_named.ensures.halt)

-- `hyper` puts out the text of the graph of all instances
pub returns-in-Hyper-clause-output : goal.returns-in-Hyper-clause-output
returns-in-Hyper-clause-output c command values are =
    of_hyper command values c.unrolled_text.result c.in-Hyper.parts (subst (AreInputs command values) c.in-Hyper.is are)
    (rw c.as_slice.ensures.parts at c.unrolled_text.ensures.text)

-- what stops the unrolling stops the work
pub returns-in-Hyper-clause-halt : goal.returns-in-Hyper-clause-halt
returns-in-Hyper-clause-halt c command values are = stops_hyper command values c.unrolled_text.result c.in-Hyper.parts
    (subst (AreInputs command values) c.in-Hyper.is are)
    (rw c.as_slice.ensures.parts at c.unrolled_text.ensures.halt)

-- `trial` puts out the text of the trial's figures
pub returns-in-Trial-clause-output : goal.returns-in-Trial-clause-output
returns-in-Trial-clause-output c command values are = of_trial command values c.trial.result c.in-Trial.number
    (subst (AreInputs command values) c.in-Trial.is are) c.trial.ensures.text

-- a trial stops only as memory runs out
pub returns-in-Trial-clause-halt : goal.returns-in-Trial-clause-halt
returns-in-Trial-clause-halt c command values are = stops_memory command values c.trial.result c.trial.ensures.halt
