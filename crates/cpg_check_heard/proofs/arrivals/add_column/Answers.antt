-- Proof of `add_column`: adds the column at a place, if there is one and what it begins may have come by a time.
use Rattle.std.proofs.Common.{sym}
use Rattle.cpg_check_heard.proofs.ArrivalLaws.{each_push, known_column, tell_push, telling_at}
use Rattle.cpg_check_heard.proofs.arrivals.add_column.Goals as goal

-- the column that is added is on variables of the graph, and its means can tell each bound
pub returns-clause-each : goal.returns-clause-each
returns-clause-each c = λ g known can each.
    let at = c.in-Some.ensures.lookup.3 in
    rw c.in_ok-push.ensures.items
    (each_push g c.args.arrivals.now.items (record { column = c.in-Some.column; means = c.args.means }) each
    (record { known = known_column g c.args.columns.now c.args.place c.in-Some.column.now at.0 at.1 known; can = can }))

-- the columns tell a bound where those before do, or the one that is added
pub returns-clause-told : goal.returns-clause-told
returns-clause-told c = λ g b s.
    let at = c.in-Some.ensures.lookup.3 in
    rw c.in_ok-push.ensures.items (tell_push g c.args.time b s c.args.arrivals.now.items
    (record { column = c.in-Some.column; means = c.args.means }) _
    (sym (telling_at g c.args.time b s c.args.means c.args.columns.now c.args.place c.in-Some.column.now at.0 at.1)))
