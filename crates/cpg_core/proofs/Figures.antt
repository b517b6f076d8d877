-- Which order the compile takes by the figures of the two orders, in each case of the choice.
use Rattle.std.proofs.Common.{◌≡◌, ◌≢◌, ◌<◌, ◌∙◌, ℕ, List, Some, None, refl, subst, inl, inr, arith}
use Rattle.std.proofs.lemmas.Bool.{cases_lt}
use Rattle.cpg_base.specs.Graph.{Graph}
use Rattle.cpg_base.specs.WellFormed.{WellFormed}
use Rattle.cpg_order.specs.Urgency.{IsTopological, first_order}
use Rattle.cpg_reach.specs.Wide.{IsNarrow, IsWide}
use Rattle.cpg_tracks.specs.Tracks.{HasManyTracks, HasTrackOrder}
use Rattle.cpg_core.specs.GrownFor.{IsGrownFor}
use Rattle.cpg_core.specs.declared.expanding.Grown.{Grown}
use Rattle.cpg_latest.specs.Laws.{HasFigures}
use Rattle.cpg_core.specs.Accepted.{IsAccepted, IsTaken, ShowsNoFinish, order_taken}
use Rattle.cpg_core.specs.Compilation.{ShowsCompileFault}
use Rattle.cpg_core.specs.Compiled.{IsBetter, IsLateUnder, IsMeasured}
use Rattle.cpg_core.specs.declared.choosing.TakenOrder.{TakenOrder}
use Rattle.cpg_core.specs.declared.fault.CompileFault.{CompileFault}
use Rattle.cpg_core.specs.declared.fault.CompileFault.TheVariants.{TooWide, Late, OutOfMemory}
use Rattle.cpg_core.proofs.Compilations.{found_measured}
use Rattle.cpg_core.proofs.CompiledLaws.{not_preferred_given, not_preferred_many, not_preferred_wide}
use Rattle.cpg_core.proofs.CompiledLaws.{not_preferred_worse, one_measure, preferred}
use Rattle.cpg_core.proofs.MeasuredFrom.{measured_from}

-- the figures of an order are its measures
pub figures_measure : (g : Graph) → WellFormed g → (urgency order : List ℕ) → IsTopological g order →
    (excess worst : ℕ) → HasFigures g order excess worst →
    IsMeasured g urgency order excess worst
figures_measure g well_formed urgency order top excess worst figures =
    measured_from g well_formed urgency order top figures.frozen figures.times excess worst figures.greatest

-- given: a well-formed graph whose urgency order and first order are topological
module _ (g : Graph) (well_formed : WellFormed g) (urgency : List ℕ) (top : IsTopological g urgency)
    (first_top : IsTopological g (first_order g urgency)) where
  -- given: the figures of the first order
  module _ (narrow : g.order ≡ None → IsNarrow g (first_order g urgency)) (e v : ℕ)
      (has_figures : HasFigures g (first_order g urgency) e v) where
    -- the figures measure the first order
    own : IsMeasured g urgency (first_order g urgency) e v
    own = figures_measure g well_formed urgency (first_order g urgency) first_top e v has_figures

    -- the first order, as the order that is taken
    abbrev pub by_first : TakenOrder
    by_first = record { figures = record { excess = e; worst = v }; order = None }

    -- the first order is taken if the graph gives one
    pub first_given : g.order ≢ None → IsTaken g urgency by_first
    first_given given = record {
      taken = inr (refl, not_preferred_given g well_formed urgency top first_top narrow e v own given);
      measured = own;
      topological = tt;
      narrow = tt;
      late = λ exceeds. ((e, v, own, exceeds), inl given);
    }

    -- the first order is taken if the graph has many tracks
    pub first_many : HasManyTracks g → IsTaken g urgency by_first
    first_many many = record {
      taken = inr (refl, not_preferred_many g well_formed urgency top first_top narrow e v own many);
      measured = own;
      topological = tt;
      narrow = tt;
      late = λ exceeds. ((e, v, own, exceeds), inr (inl many));
    }

    -- the first order is taken if an item is too wide under the track order
    pub first_wide : (order : List ℕ) → HasTrackOrder g order → (x : ℕ) → IsWide g order x → IsTaken g urgency by_first
    first_wide order track x wide = record {
      taken = inr (refl, not_preferred_wide g well_formed urgency top first_top narrow e v own order track x wide);
      measured = own;
      topological = tt;
      narrow = tt;
      late = λ exceeds. ((e, v, own, exceeds), inr (inr (order, track, inl (x, wide))));
    }

    -- given: the figures of the track order
    module _ (order : List ℕ) (track : HasTrackOrder g order) (order_top : IsTopological g order) (f u : ℕ)
        (figures : HasFigures g order f u) where
      -- the figures measure the track order
      other : IsMeasured g urgency order f u
      other = figures_measure g well_formed urgency order order_top f u figures

      -- if the track order is no better, the first order is taken
      pub first_better : (IsBetter f u e v → ⊥) → IsTaken g urgency by_first
      -- the first order's figures are its own, and if it is late both orders are
      first_better worse = record {
        taken = inr (
          refl,
          not_preferred_worse g well_formed urgency top first_top narrow e v own order track f u other
              worse,
        );
        measured = own;
        topological = tt;
        narrow = tt;
        late = λ exceeds. (
          (e, v, own, exceeds),
          inr (inr (
            order,
            track,
            inr (
              f,
              u,
              other,
              elim (cases_lt f e) [
                | inl less ↦ absurd (worse (inl less))
                | inr more ↦ omega (arith, exceeds, more)
              ],
            ),
          )),
        );
      }

      -- If the track order is better and no item is too wide under it, it is taken.
      -- If it is late, so is the first order, which is no better.
      pub tracks_better : IsNarrow g order → g.order ≡ None → IsBetter f u e v →
          IsTaken g urgency (record { figures = record { excess = f; worst = u }; order = Some order })
      tracks_better own_narrow ungiven better = record {
        taken =
            inl (preferred g well_formed urgency top first_top narrow e v own order track f u other own_narrow ungiven
            better);
        measured = other;
        topological = order_top;
        narrow = own_narrow;
        late = λ exceeds. (
          (e, v, own, elim better [ inl less ↦ omega (arith, less) | inr same ↦ omega (arith, same.0, exceeds) ]),
          inr (inr (order, track, inr (f, u, other, exceeds))),
        );
      }

    -- if the track order is the first order, that is taken
    pub first_same : (order : List ℕ) → HasTrackOrder g order → order ≡ first_order g urgency →
        IsTaken g urgency by_first
    first_same order track same =
        first_better (first_order g urgency) (subst (HasTrackOrder g) same track) first_top e v has_figures
        (λ better. elim better [ inl less ↦ omega (arith, less) | inr earlier ↦ omega (arith, earlier.1) ])

  -- ---- what is found by the trees of the first order

  -- given: what is grown under the first order
  module _ (grown : Grown) (is : IsGrownFor g urgency (first_order g urgency) grown) where
    -- if something is late under the first order, the trees that are grown for it have an excess
    pub grown_late : IsLateUnder g urgency (first_order g urgency) → 0 < grown.excess.time
    grown_late is_late = let same =
        one_measure g well_formed urgency (first_order g urgency) first_top grown.excess.time
        grown.worst.time is_late.0 is_late.1 (found_measured g urgency (first_order g urgency) grown is) is_late.2 in
        omega (arith, same.0, is_late.3)

    -- if the first order has no excess, the trees that are grown for it have none
    pub grown_in_time : (e v : ℕ) → IsMeasured g urgency (first_order g urgency) e v → e ≡ 0 → grown.excess.time ≡ 0
    grown_in_time e v measured is_zero =
        (one_measure g well_formed urgency (first_order g urgency) first_top grown.excess.time
        grown.worst.time e v (found_measured g urgency (first_order g urgency) grown is) measured).0 ∙ is_zero

    -- if the graph has many tracks, the first order is taken
    pub grown_many : (g.order ≡ None → IsNarrow g (first_order g urgency)) → HasManyTracks g →
        IsTaken g urgency
        (record { figures = record { excess = grown.excess.time; worst = grown.worst.time }; order = None })
    grown_many narrow many =
        let found = found_measured g urgency (first_order g urgency) grown is in
        record {
          taken = inr (
            refl,
            not_preferred_many g well_formed urgency top first_top narrow grown.excess.time grown.worst.time found many,
          );
          measured = found;
          topological = tt;
          narrow = tt;
          late = λ exceeds. ((grown.excess.time, grown.worst.time, found, exceeds), inr (inl many));
        }

  -- if an order has no excess, the trees that are grown for it have none
  pub tracked_in_time : (order : List ℕ) → IsTopological g order → (t : Grown) → IsGrownFor g urgency order t →
      (e v : ℕ) → IsMeasured g urgency order e v → e ≡ 0 →
      t.excess.time ≡ 0
  tracked_in_time order order_top t is e v measured is_zero =
      (one_measure g well_formed urgency order order_top t.excess.time t.worst.time e v
      (found_measured g urgency order t is) measured).0
      ∙ is_zero

-- A graph under whose compile's order nothing is late is accepted.
-- With the excess 0 the measures say that nothing is late.
pub accepted : (g : Graph) (urgency : List ℕ) (t : TakenOrder) → (g.order ≡ None → IsNarrow g (first_order g urgency)) →
    IsTaken g urgency t →
    t.figures.excess ≡ 0 →
    IsAccepted g urgency t.figures.worst
accepted g urgency t narrow is_taken no_excess =
    let order = order_taken (first_order g urgency) t.order in
    let is : IsMeasured g urgency order 0 t.figures.worst =
    subst (λ n. IsMeasured g urgency order n t.figures.worst) no_excess is_taken.measured in
    record {
      order = order;
      compiled = record { narrow = narrow; taken = is_taken.taken; in_time = (t.figures.worst, is) };
      measured = is;
    }

-- why a graph in which no item is too wide isn't compiled is why it has no greatest finish
pub no_finish : (g : Graph) (urgency : List ℕ) (fault : CompileFault) → IsNarrow g (first_order g urgency) →
    ShowsCompileFault g urgency fault →
    ShowsNoFinish g urgency fault
no_finish g urgency (TooWide x) narrow shows = shows.0
no_finish g urgency (Late scenario process finish) narrow shows = (narrow, shows)
no_finish g urgency OutOfMemory narrow shows = tt
