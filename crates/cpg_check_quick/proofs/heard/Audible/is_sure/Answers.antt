-- Proof of `Audible::is_sure`: whether V4 is known to hold at an item, which has these columns.
use Rattle.std.proofs.Common.{◌≡◌, All, get_or, true, false, ap, ◌∙◌, subst}
use Rattle.std.proofs.lemmas.Bool.{OnTrue_at}
use Rattle.std.proofs.lemmas.List.Elements.{All-contains}
use Rattle.cpg_base.specs.Graph.{home}
use Rattle.cpg_cube.specs.declared.literal.Literal.{Literal}
use Rattle.cpg_table.specs.Table.{columns_of}
use Rattle.cpg_cube.specs.declared.column.Column.{Column}
use Rattle.cpg_tree.proofs.Passes.{of_true}
use Rattle.cpg_check_quick.specs.Hearing.{IsAllHeard}
use Rattle.cpg_check_quick.proofs.HeardLaws.{heard_sure}
use Rattle.cpg_check_quick.proofs.OwnLaws.{known_sure}
use Rattle.cpg_check_quick.proofs.heard.Audible.is_sure.Goals as goal

-- all literals of the item's columns are on variables of own processes that have ended, so V4 holds
pub returns-then-are_all_known : goal.returns-then-are_all_known
returns-then-are_all_known c = λ tables sequences frames rules sent is.
    known_sure c.args.self.now.admitted.now.graph tables rules c.args.item c.requires.item
    c.problem-problem.ensures.admitted.limits.few_processes c.own_ended-known.result
    (c.own_ended-known.ensures tables sequences rules sent)
    (subst (All (λ (d : Column). All (λ (l : Literal). get_or c.own_ended-known.result l.variable false ≡ true) d.cube))
    is (OnTrue_at c.if-are_all_known.true c.are_all_known.ensures))

-- the listener has heard all literals of the item's columns, so V4 holds
pub returns : goal.returns
returns c = of_true c.in_ok-heard.heard c.in_ok-heard.ensures (λ all tables sequences frames rules sent is.
    let graph = c.args.self.now.admitted.now.graph in
    let node : c.home-node.result ≡ home graph c.args.item =
    c.home-node.ensures.home ∙ ap (λ h. home h c.args.item) c.problem-problem.ensures.problem in
    let told = rw c.problem-problem.ensures.problem at c.in_ok-heard_rows.ensures in
    -- what the listener knows: its node, own processes that have ended, and what the node hears
    let heard = all tables c.args.item (record {
      item = c.requires.item;
      sequences = sequences;
      node = node;
      known = c.own_ended-known.ensures tables sequences rules sent;
      heard_rows = told tables frames;
    }) rules is in
    heard_sure graph tables c.args.item (λ d l k h. subst (λ n. IsAllHeard graph tables n d) node
    (All-contains (IsAllHeard graph tables c.home-node.result) (columns_of tables c.args.item) d
    (subst (All (IsAllHeard graph tables c.home-node.result)) is heard) k) l h))
