-- All tracks go on from one place to the next: what is known stays so while frozen times are set that nothing known rests on.
use Rattle.std.proofs.Common.{ℕ, ◌+◌, ◌<◌, Bool, List, length, Option, refl, ap, subst, arith}
use Rattle.cpg_base.specs.Graph.{process_count, node_of}
use Rattle.cpg_base.specs.Limits.{IsWithinLimits}
use Rattle.cpg_base.specs.Order.{place}
use Rattle.cpg_bus.specs.Plan.{queue_of}
use Rattle.cpg_order.specs.Urgency.{IsTopological}
use Rattle.cpg_order.proofs.Moments.{moment}
use Rattle.cpg_run.specs.Progress.{ProgressState}
use Rattle.cpg_run.specs.declared.setting.Setting.{Setting}
use Rattle.cpg_latest.specs.Course.{AreLanes, IsDone, IsEarlier}
use Rattle.cpg_latest.specs.Lanes.{AreLanesBefore, AreSending, CanBegin, HasSentTo, IsBefore, IsSettledBy, queued}
use Rattle.cpg_latest.proofs.CourseSteps.{sent_all}
use Rattle.cpg_latest.proofs.LaneSteps.{course_more, lanes_map, sending_more}
use Rattle.cpg_latest.proofs.Settling.{next_done, next_earlier, own_place, send_grows, send_later, settled_as}
use Rattle.cpg_latest.proofs.Settling.{start_grows}

module _ (setting : Setting) (topological : IsTopological setting.problem.now setting.order.now) (p : ℕ)
    (l : p < process_count setting.problem.now) (tracks : List (List Bool)) where
  -- once the frozen time of the start of p is settled, p can begin in each track: what is known comes from earlier processes,
  -- whose frozen times stay
  pub can_begin : (old new : List (Option ℕ)) (lanes : List (List ProgressState)) → IsSettledBy p old new →
      AreLanes setting.problem.now (IsBefore setting old (place setting.order.now p)) tracks lanes
      → AreLanes setting.problem.now (CanBegin setting new p) tracks lanes
  can_begin old new lanes settled known = lanes_map setting.problem.now
      (IsBefore setting old (place setting.order.now p)) (CanBegin setting new p) tracks lanes
      (λ values n c few course. course_more setting.problem.now setting.order.now
      (IsEarlier setting.problem.now setting.order.now (place setting.order.now p))
      (IsDone setting.problem.now setting.order.now p 0) old new
      (λ y h d. start_grows setting.problem.now setting.order.now topological p l y d)
      (λ y h d. settled.others y (λ e. own_place setting.problem.now setting.order.now topological p l
      (subst (IsEarlier setting.problem.now setting.order.now (place setting.order.now p)) e d)))
      values (place setting.order.now p) n c course)
      known

  -- once the frozen time of p's next item is settled, it can be sent in each track: what is known comes before it, and those
  -- frozen times stay
  pub can_send : (at : ℕ) → at < length (queue_of setting.problem.now p) →
      (old new : List (Option ℕ)) (lanes : List (List ProgressState)) →
      IsSettledBy (queued setting.problem.now p at) old new
      → AreLanes setting.problem.now (HasSentTo setting old p at at) tracks lanes →
      AreLanes setting.problem.now (HasSentTo setting new p (at + 1) at) tracks lanes
  can_send at inside old new lanes settled known =
      lanes_map setting.problem.now (HasSentTo setting old p at at) (HasSentTo setting new p (at + 1) at) tracks lanes
      (λ values n c few sending.
      sending_more setting.problem.now setting.order.now (IsDone setting.problem.now setting.order.now p at)
      (IsDone setting.problem.now setting.order.now p (at + 1)) old new
      (λ y h d. send_grows setting.problem.now setting.order.now topological p l at inside y d)
      (λ y within d. settled.others y
      (λ e. let later = send_later setting.problem.now setting.order.now topological p l at inside y within d in
      let same = ap (moment setting.problem.now setting.order.now) e in
      absurd (omega (arith, later, same))))
      values p at n c sending)
      known

  -- once all items of p are sent, all is known before the next place, since the items done are just those from processes before
  -- it
  pub next_known : (on : node_of setting.problem.now p < length setting.problem.now.nodes) →
      IsWithinLimits setting.problem.now →
      (frozen : List (Option ℕ)) (lanes : List (List ProgressState))
      → AreSending setting tracks p (length (queue_of setting.problem.now p)) frozen lanes →
      AreLanesBefore setting tracks (place setting.order.now p + 1) frozen lanes
  next_known on limits frozen lanes s = record {
    settled = settled_as setting.problem.now setting.order.now topological limits
        (IsDone setting.problem.now setting.order.now p (length (queue_of setting.problem.now p)))
        (IsEarlier setting.problem.now setting.order.now (place setting.order.now p + 1)) frozen s.settled
        (λ y within it_is_frozen earlier. next_done setting.problem.now setting.order.now topological p l y
        within it_is_frozen earlier)
        (λ y within d. next_earlier setting.problem.now setting.order.now topological p l y within d);
    known = lanes_map setting.problem.now
        (HasSentTo setting frozen p (length (queue_of setting.problem.now p)) (length (queue_of setting.problem.now p)))
        (IsBefore setting frozen (place setting.order.now p + 1)) tracks lanes
        (λ values n c few sending.
        course_more setting.problem.now setting.order.now
        (IsDone setting.problem.now setting.order.now p (length (queue_of setting.problem.now p)))
        (IsEarlier setting.problem.now setting.order.now (place setting.order.now p + 1)) frozen frozen
        (λ y within d. next_earlier setting.problem.now setting.order.now topological p l y within d)
        (λ y h d. refl) values
        (place setting.order.now p + 1) n c
        (sent_all setting.problem.now setting.order.now topological (IsDone setting.problem.now setting.order.now p
        (length (queue_of setting.problem.now p))) frozen values p l on n few c sending))
        s.known;
  }
