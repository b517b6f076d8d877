-- Proof of `Listener::is_told_by`: whether the frame of a heard row's column at a place has told, by the time of
-- `column`, all of its literals that aren't on known variables: `column` begins with the literals of that column.
use Rattle.std.proofs.Common.{◌≡◌, false, true, ◌≤◌, ◌+◌, List, Contains, get_or, length, drop, take, ap, sym, ◌∙◌}
use Rattle.std.proofs.Common.{subst}
use Rattle.std.proofs.lemmas.Bool.{OnTrue_at}
use Rattle.std.proofs.lemmas.List.{take-append-drop}
use Rattle.std.proofs.lemmas.List.Elements.{All-contains, Contains-append_right}
use Rattle.cpg_cube.specs.declared.column.Column.{Column}
use Rattle.cpg_cube.specs.declared.literal.Literal.{Literal}
use Rattle.cpg_table.specs.Table.{columns_of}
use Rattle.cpg_tree.proofs.Passes.{of_true}
use Rattle.cpg_check_quick.specs.Hearing.{IsHeardIn}
use Rattle.cpg_check_quick.proofs.OwnLaws.{known_heard}
use Rattle.cpg_check_quick.proofs.HeardRowLaws.{begun_heard}
use Rattle.cpg_check_quick.proofs.listening.Listener.is_told_by.Goals as goal

-- the column begins with the literals of the frame's column, which the frame tells; the others are on known variables
pub returns : goal.returns
returns c = of_true c.begin_with.result
    (rw (c.literals.ensures.literals, c.literals-2.ensures.literals) at c.begin_with.ensures)
    (λ begins tables x is speaks rules k.
    let graph = c.args.self.now.admitted.now.graph in
    let known = c.args.self.now.known in
    let column = c.args.column.now in
    let own = c.in-Some.own.now in
    let few = c.problem-problem.ensures.admitted.limits.few_processes in
    -- the frame's column is one of the heard item's
    let there : Contains (columns_of tables c.args.heard_row.now.item) own =
    subst (λ (cs : List Column). Contains cs own) speaks.columns
    (c.args.place, c.in-Some.ensures.lookup.3.0, sym c.in-Some.ensures.lookup.1) in
    let rest : List Literal = drop (length own.cube) column.cube in
    -- `known_heard` is for the literals behind the first ones
    begun_heard speaks column own there (OnTrue_at c.if-not-has_come.false c.has_come.ensures.come)
    begins.first (λ l among.
    subst (λ n. IsHeardIn graph tables n column l) (sym is.node)
    (known_heard graph tables rules x is.item few column k known is.known l
    (subst (λ cube. Contains cube l) (take-append-drop (length own.cube) column.cube)
    (Contains-append_right (take (length own.cube) column.cube) rest l among))
    (All-contains (λ (l : Literal). get_or known l.variable false ≡ true) rest l begins.behind among))))
