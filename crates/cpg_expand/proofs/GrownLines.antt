-- What the lines of trees say (`Lines`): the times that starts and sends rest on; lines under other frozen times; and
-- the lines of the first trees.
use Rattle.std.proofs.Common.{ℕ, ◌*◌, ◌<◌, ◌≡◌, List, [], length, get_or, Option, None, arith, refl, sym, ◌∙◌, subst}
use Rattle.std.proofs.lemmas.Option.{none-some}
use Rattle.std.proofs.lemmas.List.{length-replicate}
use Rattle.std.proofs.lemmas.List.Elements.{All-get_or}
use Rattle.cpg_base.specs.Graph.{Graph, item_count, item_at, producer}
use Rattle.cpg_base.proofs.Lists.{Contains-nil}
use Rattle.cpg_base.specs.Scenario.{Scenario}
use Rattle.cpg_order.specs.Urgency.{IsTopological}
use Rattle.cpg_base.specs.Order.{place}
use Rattle.cpg_order.proofs.Moments.{phase, phases}
use Rattle.cpg_cube.specs.declared.column.Column.{Column}
use Rattle.cpg_run.specs.Run.{Times, IsRun}
use Rattle.cpg_run.specs.Frozen.{nothing_frozen}
use Rattle.cpg_run.specs.Carried.{carried, carried_at_end}
use Rattle.cpg_run.proofs.Agreeing.{earlier_place, item_before, end_before, ready_same, free_same}
use Rattle.cpg_run.proofs.Settled.{none_frozen}
use Rattle.cpg_run.proofs.Runs.{has_time}
use Rattle.cpg_run.proofs.RunExists.{a_run}
use Rattle.cpg_run.proofs.RunUnique.{AgreeBefore, agree_before}
use Rattle.cpg_tree.specs.Tree.{IsConstant}
use Rattle.cpg_expand.specs.Agreeing.{HasValueFrom}
use Rattle.cpg_expand.specs.Forest.{ForestState, HasTrees, times_of, ends_of, ready_at, ready_by}
use Rattle.cpg_tree.specs.GraphTrees.{no_tree}
use Rattle.cpg_expand.specs.declared.forest.Ready.{Ready}
use Rattle.cpg_expand.specs.declared.forest.Ready.TheVariants.{After, At}
use Rattle.cpg_expand.specs.Grown.{RowsHold, IsReadyLine, IsFreeLine, Lines, IsEarlier, AreSettledOf, IsGrown}
use Rattle.cpg_expand.specs.Grown.{IsReadyFirst, IsBareForest}
use Rattle.cpg_expand.specs.TreeValues.{HasTreeValues}
use Rattle.cpg_expand.specs.Waiting.{ready_of, free_of}
use Rattle.cpg_expand.proofs.AgreeingTrees.{agrees_constant, agrees_weaker}
use Rattle.cpg_expand.proofs.CarriedOn.{valued_by_tree}
use Rattle.cpg_expand.proofs.GuardTrees.{times_tree}

-- ---- what the lines say

-- lines up to a place give what starts and sends there rest on (`HasTreeValues`)
pub valued_from_lines : (g : Graph) (order : List ℕ) (rows : List (List Column)) (i : ℕ) (f : ForestState) →
    HasTrees g f →
    RowsHold g order i f rows →
    (frozen : List (Option ℕ)) (s : Scenario) (t : Times) → IsRun g order frozen s t →
    Lines g order rows s t i f → HasTreeValues g order rows s t i f
-- an item's time is one that its row has a column for, since the rows hold what the trees list
valued_from_lines g order rows i f has hold frozen s t run lines = record {
  ends = λ q below sooner on. lines.ends q below sooner;
  sends = λ x below sent sooner on. valued_by_tree g.faults rows s x (λ (y : Option ℕ). y ≡ get_or t.times x None)
      (times_of g f x) (times_tree g f has x below).faults
      (λ p is_on.
      let here = (lines.times x below sooner).value p is_on in
      (here, hold.sends x below sent sooner p _ is_on.stands (here ∙ has_time g order frozen s t run x below on)));
}

-- ---- other frozen times

-- given: trees along an order, in one scenario
-- `rows`: the rows of the items; `s`: a scenario; `i`, `f`: a place of the order and the trees up to it
module _ (g : Graph) (order : List ℕ) (topological : IsTopological g order) (rows : List (List Column)) (s : Scenario)
    (i : ℕ) (f : ForestState) where
  -- lines for one run are lines for any other that agrees with it before the place
  lines_same : (t u : Times) → AgreeBefore g order t u (i * phases g) → Lines g order rows s t i f →
      Lines g order rows s u i f
  -- line by line: what stands before the place has the same times in both runs
  lines_same t u agreed lines = record {
    times = λ x below sooner. subst (λ (o : Option ℕ). HasValueFrom s (carried g order rows s x) o (times_of g f x))
        (agreed.items x below (item_before g order topological s t u i agreed x below sooner))
        (lines.times x below sooner);
    ends = λ q below sooner. subst
        (λ (o : Option ℕ). HasValueFrom s (carried_at_end g order rows s q) o (ends_of g f q))
        (agreed.ends q below (end_before g order topological s t u i agreed q sooner)) (lines.ends q below sooner);
    ready = λ node below waited. let line = lines.ready node below waited in record {
      time = line.time;
      is = ready_same g order topological s t u i agreed node line.time line.is;
      has_value = line.has_value;
    };
    free = λ node below waited. let line = lines.free node below waited in record {
      time = line.time;
      is = free_same g order topological s t u i agreed node line.time line.is;
      has_value = line.has_value;
    };
  }

  -- lines under some frozen times are lines under others that agree with them for items before the place
  pub lines_over : (frozen others : List (Option ℕ)) →
      ((x : ℕ) → x < item_count g → place order (producer g x) < i → get_or frozen x None ≡ get_or others x None) →
      ((t : Times) → IsRun g order frozen s t → Lines g order rows s t i f) → (u : Times) → IsRun g order others s u →
      Lines g order rows s u i f
  lines_over frozen others same lines u run =
      let old_run = a_run g order frozen s topological in
      lines_same old_run.0 u (agree_before g order topological s old_run.0 u frozen others old_run.1 run (i * phases g)
      (λ x below sooner. same x below
      (earlier_place (place order (producer g x)) i (phase (item_at g x)) (phases g) sooner)))
      (lines old_run.0 old_run.1)

-- ---- the first trees

-- given: bare trees, in one scenario with its run
-- `f`, `bare`, `has`: trees of the graph in which nothing is found yet; `rows`, `s`, `t`: rows, a scenario and its
-- times
module _ (g : Graph) (order : List ℕ) (f : ForestState) (bare : IsBareForest g f) (has : HasTrees g f)
    (rows : List (List Column)) (s : Scenario) (t : Times) where
  -- at the first place each node is ready from 0 on, and nothing is said of it
  ready_first : (node : ℕ) → node < length g.nodes → IsReadyLine g order rows s t 0 node (ready_of g f node)
  -- no process stands before the first place, so 0 is the least time at which all of them have ended
  ready_first node below = record {
    time = 0;
    is = record {
      ends = λ q k before. absurd (omega (arith, before));
      heard = λ q c k before. absurd (omega (arith, before));
      least = λ b x y. omega arith;
    };
    has_value =
        agrees_weaker s (ready_of g f node) [] _ (λ z. z ≡ 0) (λ z. z ≡ 0)
        (λ literal in_none. absurd (Contains-nil literal in_none)) (λ z equal. equal)
        (agrees_constant s 0 g.faults (ready_of g f node) (λ z. z ≡ 0) refl
        (constant_0 (ready_at g f node) (All-get_or (IsReadyFirst g.faults) f.ready node (At (no_tree g.faults))
        (omega (arith, below, has.ready)) bare.ready)));
  }
    where
      -- what says at the beginning when a node is ready has the time 0 in each scenario
      constant_0 : (r : Ready) → IsReadyFirst g.faults r → IsConstant 0 g.faults (ready_by g f r)
      constant_0 (After q) none = absurd none
      constant_0 (At t) is = is

  -- the slots of each node are free from 0 on, and nothing is said of them
  free_first : (node : ℕ) → node < length g.nodes → IsFreeLine g order rows s t 0 node (free_of g f node)
  free_first node below = record {
    time = 0;
    is = record { above = λ y has. absurd (let sooner = has.1 in omega (arith, sooner)); least = λ b has. omega arith };
    has_value =
        agrees_weaker s (free_of g f node) [] _ (λ z. z ≡ 0) (λ z. z ≡ 0)
        (λ literal in_none. absurd (Contains-nil literal in_none)) (λ z equal. equal)
        (agrees_constant s 0 g.faults (free_of g f node) (λ z. z ≡ 0) refl
        (All-get_or (IsConstant 0 g.faults) f.free node (no_tree g.faults) (omega (arith, below, has.free)) bare.free));
  }

  -- bare trees give the lines of the run up to the place 0, before any process
  pub lines_first : Lines g order rows s t 0 f
  lines_first = record {
    times = λ x l before. absurd (omega (arith, before));
    ends = λ q l before. absurd (omega (arith, before));
    ready = λ node below w. ready_first node below;
    free = λ node below q. free_first node below;
  }

-- before any process is gone over, no frozen time is set
pub settled_first : (g : Graph) (order : List ℕ) → AreSettledOf g order (IsEarlier g order 0) (nothing_frozen g)
settled_first g order = record {
  count = length-replicate {A = Option ℕ} (item_count g) None;
  each = λ x l is before. absurd (omega (arith, before));
  others = λ x no. none_frozen g x;
  low = record { low = λ x time l has_time. absurd (none-some time (sym (none_frozen g x) ∙ has_time)) };
}

-- bare trees are grown up to the place 0
pub grown_first : (g : Graph) (order : List ℕ) (f : ForestState) → HasTrees g f → IsBareForest g f →
    IsGrown g order 0 (nothing_frozen g) f
grown_first g order f has bare = record {
  trees = has;
  unsent = λ x big below is.
      All-get_or (IsConstant None g.faults) f.times x (no_tree g.faults) (omega (arith, below, has.times)) bare.times;
  settled = settled_first g order;
  lines = λ rows hold s law t run. lines_first g order f bare has rows s t;
}
