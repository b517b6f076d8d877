-- The trees of a process that begins, as the code finds them: the graph, the guards and the order that it reads are
-- the ones that the contract speaks of.
use Rattle.std.proofs.Common.{ℕ, ◌<◌, ◌≤◌, ◌≡◌, Bool, List, All, set, length-set, get_or, get_or-set_same}
use Rattle.std.proofs.Common.{get_or-set_other, Option, length, arith, refl, sym, ap, ◌∙◌, subst, inl, inr}
use Rattle.std.proofs.lemmas.Bool.{cases_eq}
use Rattle.std.proofs.lemmas.List.Elements.{All-set}
use Rattle.cpg_base.specs.Graph.{Graph, process_at, process_count, condition_count, edge_count, node_of, inputs}
use Rattle.cpg_base.specs.Order.{place}
use Rattle.cpg_base.proofs.Inputs.{inputs_parts}
use Rattle.cpg_rules.specs.Guards.{Guards, tree_of}
use Rattle.cpg_rules.specs.Trees.{TestsBelow}
use Rattle.cpg_order.specs.Guard.{Guard, IsGuardOf}
use Rattle.cpg_rules.specs.Admission.{IsAdmitted}
use Rattle.cpg_table.proofs.NodeRows.{all_below}
use Rattle.cpg_tree.specs.Tree.{TreeState}
use Rattle.cpg_tree.specs.GraphTrees.{IsTree}
use Rattle.cpg_expand.specs.Begun.{IsBegunBy}
use Rattle.cpg_expand.specs.Earlier.{AreAlong}
use Rattle.cpg_expand.specs.Ending.{IsEndTree, IsReadyAfter, goes_on}
use Rattle.cpg_expand.specs.Forest.{ForestState, HasTrees, IsWait}
use Rattle.cpg_tree.specs.GraphTrees.{no_tree}
use Rattle.cpg_expand.specs.declared.forest.Ready.{Ready}
use Rattle.cpg_expand.specs.declared.forest.Ready.TheVariants.{After, At}
use Rattle.cpg_expand.specs.Guarded.{IsActiveTree, LeadsBelow}
use Rattle.cpg_expand.specs.Latest.{IsLatestStart}
use Rattle.cpg_expand.specs.Waited.{IsReadyIfWaited}
use Rattle.cpg_expand.proofs.Leads.{leads_below}

-- ---- what is asked of a guard and of inputs

-- given: the guards of an admitted graph, and another name of the graph
-- `h`, `same`: the graph as the code reads it, which is g
module _ (g : Graph) (order : List ℕ) (guards : Guards) (admitted : IsAdmitted g order guards) (h : Graph)
    (same : h ≡ g) where
  -- the graph has at most 32 conditions
  pub few_here : condition_count h ≤ 32
  few_here = subst (λ (k : Graph). condition_count k ≤ 32) (sym same) admitted.well_formed.few_conditions

  -- a guard that tests conditions below the guards' number tests conditions of the graph
  pub tests_here : (found : Guards) → found ≡ guards → (guard : Guard) → TestsBelow found.conditions guard →
      TestsBelow (condition_count h) guard
  tests_here found is guard below = subst (λ n. TestsBelow n guard)
      (ap (λ (x : Guards). x.conditions) is ∙ admitted.guards.conditions ∙ ap condition_count (sym same)) below

  -- the leaves of a process's guard lead to edges of the graph
  pub leads_here : (p : ℕ) → p < process_count g → (guard : Guard) → guard ≡ tree_of guards p →
      LeadsBelow (edge_count h) guard
  leads_here p below guard is = subst (λ (k : Graph). LeadsBelow (edge_count k) guard) (sym same)
      (leads_below g order admitted.topological p below guard
      (subst (IsGuardOf g order p) (sym is) (admitted.guards.trees p below)))

-- the guards of an admitted graph and an order of its processes are what the code asks for
pub along_here : (g : Graph) (urgency : List ℕ) (guards : Guards) → IsAdmitted g urgency guards → (h : Graph) → h ≡ g →
    (found : Guards) → found ≡ guards →
    (order : List ℕ) →
    length order ≡ process_count g → AreAlong h found order
-- what an admitted graph and its guards have in common is what `AreAlong` asks for; h and `found` are other names of
-- them
along_here g urgency guards admitted h same found is order long = subst (λ (k : Graph). AreAlong k found order)
    (sym same) (subst (λ (x : Guards). AreAlong g x order) (sym is) (record {
      few = admitted.well_formed.few_conditions;
      trees = admitted.guards.count;
      conditions = admitted.guards.conditions;
      places = long;
    }))

-- the inputs of a process are edges of the graph
pub inputs_here : (h : Graph) (p : ℕ) (edges : List ℕ) → edges ≡ inputs h p → All (λ e. e < edge_count h) edges
inputs_here h p edges is =
    all_below (edge_count h) (edge_count h) edges (inputs h p) refl is (λ e is_input. (inputs_parts h p e is_input).0)

-- the latest start that is found by what the code reads (the graph k, `other`, `found`, `at` and `es`) is that by the
-- graph h, the order, the guards, the node and the inputs `edges`, which are the same
pub latest_as : (f : ForestState) (from p : ℕ) (active : TreeState Bool) (latest : Option ℕ) (h k : Graph) → k ≡ h →
    (order other : List ℕ) → other ≡ order →
    (guards found : Guards) →
    found ≡ guards → (node at : ℕ) → at ≡ node → (edges es : List ℕ) → es ≡ edges →
    IsLatestStart k other found f at from (place other p) (process_at k p).release es active latest →
    IsLatestStart h order guards f node from (place order p) (process_at h p).release edges active latest
-- each of the five is replaced by its equal in turn
latest_as f from p active latest h k same order other in_order guards found is node at there edges es into start =
    subst (λ (g : Graph).
    IsLatestStart g order guards f node from (place order p) (process_at g p).release edges active latest) same
    (subst (λ o. IsLatestStart k o guards f node from (place o p) (process_at k p).release edges active latest) in_order
    (subst (λ (x : Guards).
    IsLatestStart k other x f node from (place other p) (process_at k p).release edges active latest) is
    (subst (λ n. IsLatestStart k other found f n from (place other p) (process_at k p).release edges active latest)
    there
    (subst (λ ds. IsLatestStart k other found f at from (place other p) (process_at k p).release ds active latest) into
    start))))

-- ---- what is put

-- what is put for the node's readiness is of the graph: the process itself, or a tree
ready_waits : (g : Graph) (p : ℕ) (r : Ready) → p < process_count g → IsReadyAfter g p r → IsWait g r
ready_waits g p (After q) below is_p = subst (λ n. n < process_count g) (sym is_p) below
ready_waits g p (At t) below is = is

-- if `times`, `ends` and `ready` are put for p's start, its end and its node, the forest `new` still has a tree for
-- each item, process and node
pub has_begun : (g : Graph) (f new : ForestState) (p node : ℕ) (times ends : TreeState (Option ℕ)) (ready : Ready) →
    p < process_count g → node ≡ node_of g p → HasTrees g f →
    IsTree g times →
    IsTree g ends → IsReadyAfter g p ready →
    new ≡ record {
      times = set f.times p times;
      ends = set f.ends p ends;
      ready = set f.ready node ready;
      free = f.free;
      wide = f.wide;
    } → HasTrees g new
-- each list keeps its length and gets one more tree of the graph; a node that is ready after a process is the one
-- just put, or one of before
has_begun g f new p node times ends ready below at has of_times of_ends of_ready is =
    subst (HasTrees g) (sym is) (record {
      times = length-set f.times p times ∙ has.times;
      ends = length-set f.ends p ends ∙ has.ends;
      ready = length-set f.ready node ready ∙ has.ready;
      free = has.free;
      all_times = All-set (IsTree g) f.times p times of_times has.all_times;
      all_ends = All-set (IsTree g) f.ends p ends of_ends has.all_ends;
      all_ready = All-set (IsWait g) f.ready node ready (ready_waits g p ready below of_ready) has.all_ready;
      all_free = has.all_free;
      own = λ n q within after_q. elim (cases_eq n node) [
        | inl here ↦
            let there : After q ≡ ready =
            sym after_q ∙ ap (λ m. get_or (set f.ready node ready) m (At (no_tree g.faults))) here ∙
            get_or-set_same f.ready node ready (At (no_tree g.faults)) (omega (arith, within, here, has.ready)) in
            let same : q ≡ p = subst (IsReadyAfter g p) (sym there) of_ready in
            ap (node_of g) same ∙ sym at ∙ sym here
        | inr other ↦ has.own n q within (sym (get_or-set_other f.ready node n ready (At (no_tree g.faults)) other)
            ∙ after_q)
      ];
    })

-- trees for the activity, the start, the end and the readiness, each put in its place, are what is found of a process
-- before it sends
pub begun_made : (how : Graph → Guard → TreeState Bool → TreeState (Option ℕ) → Type 0) (g h : Graph) → h ≡ g →
    (order : List ℕ) (p : ℕ) (guard found : Guard) → found ≡ guard → (node : ℕ) →
    node ≡ node_of h p →
    (old new : ForestState) (chooser : TreeState Bool) → IsTree h chooser → IsActiveTree h.faults found chooser →
    (start : TreeState (Option ℕ)) → how h found chooser start →
    (end : TreeState (Option ℕ)) → IsEndTree h p start end → (ready : Ready) → IsReadyAfter h p ready →
    IsReadyIfWaited h order old p found chooser end (goes_on end ready) →
    new ≡ record {
      times = set old.times p start;
      ends = set old.ends p end;
      ready = set old.ready node ready;
      free = old.free;
      wide = old.wide;
    } →
    IsBegunBy (how g guard) g order p guard old new chooser
begun_made how g h same order p guard found the_guard node there old new chooser chooser_tree actives start starts end
    ends ready ready_after readies is =
    -- by the graph's and the guard's other names
    subst (λ k. IsBegunBy (how k guard) k order p guard old new chooser) same
    (subst (λ t. IsBegunBy (how h t) h order p t old new chooser) the_guard (record {
      chooser_tree = chooser_tree;
      actives = actives;
      start = start;
      starts = starts;
      end = end;
      ends = ends;
      ready = ready;
      ready_after = ready_after;
      readies = readies;
      -- the trees are put in their places
      is = is ∙ ap (λ n. record {
        times = set old.times p start;
        ends = set old.ends p end;
        ready = set old.ready n ready;
        free = old.free;
        wide = old.wide;
      }) there;
    }))
