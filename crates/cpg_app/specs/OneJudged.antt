-- A graph has one answer.
use Rattle.std.proofs.Common.{ℕ, ◌≡◌, ◌∙◌, List, sym, ap, subst, inl, inr}
use Rattle.cpg_base.specs.Graph.{Graph}
use Rattle.cpg_base.specs.WellFormed.{WellFormed}
use Rattle.cpg_order.specs.Urgency.{IsTopological, first_order}
use Rattle.cpg_order.proofs.Urgent.{one_urgency_order}
use Rattle.cpg_tracks.proofs.TrackLaws.{order_of_tracks_topological}
use Rattle.cpg_core.specs.declared.compiling.Compiled.{Compiled}
use Rattle.cpg_core.specs.Measured.{IsMeasured}
use Rattle.cpg_core.specs.Compilation.{IsCompilation}
use Rattle.cpg_core.proofs.Compilations.{measured}
use Rattle.cpg_core.proofs.CompiledLaws.{first_topological, one_measure, one_shown, one_compiled, one_wide}
use Rattle.cpg_core.proofs.CompiledLaws.{not_late_and_compiled}
use Rattle.cpg_tune.specs.declared.judge.Judged.{Judged}
use Rattle.cpg_tune.specs.declared.judge.Judged.TheVariants.{Worst, Late, Wide}
use Rattle.cpg_app.specs.Tunes.{IsCompileAnswer, IsJudged}

-- given a well-formed graph with its urgency order and its first order, both topological
module _ (g : Graph) (w : WellFormed g) (urgency : List ℕ) (top : IsTopological g urgency)
    (first_top : IsTopological g (first_order g urgency)) where
  -- The order of a compilation is topological: it is the track order or the first order.
  order_topological : (c : Compiled) → IsCompilation g urgency c → IsTopological g c.order
  order_topological c is = elim is.compiled.taken [
    | inl preferred ↦ order_of_tracks_topological g w c.order preferred.track
    | inr taken ↦ subst (IsTopological g) (sym taken.0) first_top
  ]

  -- Two compilations have one greatest finish: they have one order, under which it is measured.
  one_worst : (c d : Compiled) → IsCompilation g urgency c → IsCompilation g urgency d → c.built.worst ≡ d.built.worst
  one_worst c d x y =
      let same : c.order ≡ d.order = one_compiled g w urgency top first_top c.order d.order x.compiled y.compiled in
      let other : IsMeasured g urgency c.order d.built.excess d.built.worst =
      subst (λ order. IsMeasured g urgency order d.built.excess d.built.worst) (sym same)
      (measured g urgency d.order d.built y.built) in
      (one_measure g w urgency c.order (order_topological c x) c.built.excess c.built.worst d.built.excess d.built.worst
      (measured g urgency c.order c.built x.built) other).1

  -- Two answers of a compile are equal. If their kinds are, so are their values; different kinds rule each other out.
  one_answer : (a b : Judged) → IsCompileAnswer g urgency a → IsCompileAnswer g urgency b → a ≡ b
  one_answer (Worst m) (Worst n) x y = ap Worst (sym x.3 ∙ (one_worst x.1 y.1 x.2 y.2 ∙ y.3))
  one_answer (Worst m) (Late n) x y =
      absurd (not_late_and_compiled g w urgency top first_top x.1.order y.3.0 x.2.compiled)
  one_answer (Worst m) (Wide i) x y = absurd (x.0 i y.wide)
  one_answer (Late m) (Worst n) x y =
      absurd (not_late_and_compiled g w urgency top first_top y.1.order x.3.0 y.2.compiled)
  one_answer (Late m) (Late n) x y = ap Late (one_shown g w urgency top first_top x.1 y.1 x.2 y.2 m n x.3.1 y.3.1).2
  one_answer (Late m) (Wide i) x y = absurd (x.0 i y.wide)
  one_answer (Wide i) (Worst n) x y = absurd (y.0 i x.wide)
  one_answer (Wide i) (Late n) x y = absurd (y.0 i x.wide)
  one_answer (Wide i) (Wide j) x y = ap Wide (one_wide g w urgency top first_top i j x y)

-- two answers for a graph are equal, as its urgency order is one
pub one_judged : (g : Graph) (a b : Judged) → IsJudged g a → IsJudged g b → a ≡ b
one_judged g a b x y =
    let same : y.order ≡ x.order = one_urgency_order g y.order x.order y.admitted.urgency x.admitted.urgency in
    one_answer g x.admitted.well_formed x.order x.admitted.topological
    (first_topological g x.order x.admitted.topological x.admitted.given) a b x.answer
    (subst (λ order. IsCompileAnswer g order b) same y.answer)
