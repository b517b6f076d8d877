-- Proof of `finish_all`: gives the node the reports `ended`, each at its time, one after another.
use Rattle.std.proofs.Common.{ℕ, ◌+◌, ◌<◌, ◌∙◌, ◌≡◌, List, ap, drop, false, get_or, length, subst, sym}
use Rattle.std.proofs.lemmas.List.{drop_more}
use Rattle.cpg_node.specs.Dispatcher.{Dispatcher, Ended, finished}
use Rattle.cpg_node.specs.State.{MayFinish, NodeState}
use Rattle.cpg_cluster.specs.Taking.{AllFinish, all_finished}
use Rattle.cpg_cluster.proofs.told.finish_all.Goals as goal

-- what is read behind the last report
abbrev blank : ℕ × Ended
blank = (0, record { process = 0; faults = 0; value = false })

-- if the dispatcher may take the reports that are left, it may take the next one, and then the others
may_next : (d : Dispatcher) (es : List (ℕ × Ended)) (i : ℕ) (e : ℕ × Ended) → i < length es → AllFinish d (drop i es) →
    MayFinish d (get_or es i e).0 (get_or es i e).1 × AllFinish (finished d (get_or es i e).1) (drop (i + 1) es)
may_next d es i e there may = subst (λ (rest : List (ℕ × Ended)). AllFinish d rest) (drop_more es i e there) may

-- the next report may be taken
pub finished-requires : goal.finished-requires
finished-requires c = (may_next c.loop-report.node.dispatcher c.args.ended.now c.loop-report.report-index blank
    c.loop-report-test.true c.loop-report.invariant.may).0

-- after it the others may be taken, and they lead where all did
pub loop-report-preserved : goal.loop-report-preserved
loop-report-preserved c =
    let before = c.loop-report.node.dispatcher in
    let es = c.args.ended.now in
    let place = c.loop-report.report-index in
    let may = may_next before es place blank c.loop-report-test.true c.loop-report.invariant.may in
    let taken : c.finished.new.self.dispatcher ≡ finished before (get_or es place blank).1 =
    ap (λ (n : NodeState). n.dispatcher) c.finished.ensures in
    record {
      may = subst (λ (x : Dispatcher). AllFinish x (drop (place + 1) es)) (sym taken) may.1;
      is = ap (λ (x : Dispatcher). all_finished x (drop (place + 1) es)) taken
          ∙ sym (ap (λ (rest : List (ℕ × Ended)). all_finished before rest)
          (drop_more es place blank c.loop-report-test.true))
          ∙ c.loop-report.invariant.is;
      acts = ap (λ (n : NodeState). n.acts) c.finished.ensures ∙ c.loop-report.invariant.acts;
    }
