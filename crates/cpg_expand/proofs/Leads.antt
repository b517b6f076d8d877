-- The leaves of a guard are activations of its process, so they lead to inputs of the graph.
use Rattle.std.proofs.Common.{ℕ, ◌+◌, ◌<◌, ◌≡◌, Bool, true, false, if◌then◌else◌, List, [], ◌∷◌, length, filter, get_or}
use Rattle.std.proofs.Common.{set, Contains, arith, refl, sym, ap, ◌∙◌, subst, get_or-set_same}
use Rattle.std.proofs.Common.{get_or-set_other}
use Rattle.std.specs.List.{list_all}
use Rattle.std.proofs.lemmas.List.{length-set, length-replicate}
use Rattle.std.specs.Prelude.{replicate}
use Rattle.cpg_base.specs.Graph.{Graph, process_at, process_count, condition_count, edge_count, inputs, process_of}
use Rattle.cpg_base.specs.Activity.{activation, activation_by, by_first, live}
use Rattle.cpg_base.specs.declared.activation.Activation.TheVariants.{Inactive, Plain}
use Rattle.cpg_base.proofs.Inputs.{inputs_parts}
use Rattle.cpg_base.proofs.Lists.{Contains-first, Contains-filter_parts}
use Rattle.cpg_order.specs.Guard.{Guard, Leaf, Test, outcome_at, IsOrderedFrom, IsGuardOf}
use Rattle.cpg_order.specs.Urgency.{IsTopological}
use Rattle.cpg_base.specs.Order.{place}
use Rattle.cpg_order.proofs.Acyclic.{activation_is}
use Rattle.cpg_expand.specs.Guarded.{IsByBelow, LeadsBelow}

-- ---- an activation that names an input names one of the graph

-- if all the edges are below n, so is the first one, which the activation names
first_below : (n : ℕ) (es : List ℕ) → ((e : ℕ) → Contains es e → e < n) → IsByBelow n (by_first es)
first_below n [] below = tt
first_below n (e ∷ es) below = below e (Contains-first e es)

-- an activation that waits for all inputs, or is inactive, names no edge, so none that isn't below n
all_below : (n : ℕ) (b : Bool) → IsByBelow n (if b then Plain else Inactive)
all_below n true = tt
all_below n false = tt

-- if all the inputs are below n, so is the edge that the activation names, if it names one
by_below : (n : ℕ) (join : Bool) (es : List ℕ) (live : ℕ → Bool) → ((e : ℕ) → Contains es e → e < n) →
    IsByBelow n (activation_by join es live)
by_below n join [] live below = tt
by_below n true (e ∷ es) live below =
    first_below n (filter live (e ∷ es)) (λ d listed. below d (Contains-filter_parts live (e ∷ es) d listed).0)
by_below n false (e ∷ es) live below = all_below n (list_all live (e ∷ es))

-- if the activation of a process in an outcome names an edge, that is one of the graph
activation_below : (g : Graph) (order : List ℕ) → IsTopological g order → (o : List Bool) (p : ℕ) →
    p < process_count g →
    IsByBelow (edge_count g) (activation g o p)
activation_below g order topological o p below =
    subst (IsByBelow (edge_count g)) (sym (activation_is g order topological o p (omega (arith, below))))
    (by_below (edge_count g) (process_at g p).join (inputs g p) (live g o) (λ e c. (inputs_parts g p e c).0))

-- ---- each leaf is come to

-- `n` is the number of edges
module _ (g : Graph) (order : List ℕ) (n : ℕ) where
  -- both outcomes have the same values of conditions whose processes stand before the place k
  abbrev SameBefore : ℕ → List Bool → List Bool → Type 0
  SameBefore k o other = (d : ℕ) → place order (process_of g d) < k → get_or other d false ≡ get_or o d false

  -- the outcomes that agree with this one before the place k lead the guard to edges below n
  abbrev LeadsFrom : ℕ → Guard → List Bool → Type 0
  LeadsFrom k guard o = (other : List Bool) → length other ≡ condition_count g → SameBefore k o other →
      IsByBelow n (outcome_at guard other)

  -- if that is so for an outcome, each edge that a leaf of the guard names is below n
  leads_from : (k : ℕ) (guard : Guard) → IsOrderedFrom g order k guard → (o : List Bool) →
      length o ≡ condition_count g → LeadsFrom k guard o →
      LeadsBelow n guard
  -- by induction on the guard: each side is taken for the outcome in which the tested condition has the value that
  -- leads there
  leads_from k (Leaf a) ordered o long leads = leads o long (λ d listed. refl)
  leads_from k (Test c off on) ordered o long leads = (
    leads_from (place order (process_of g c) + 1) off ordered.2 (set o c false) (length-set o c false ∙ long)
        (λ other far same. subst (λ (b : Bool). IsByBelow n (if b then outcome_at on other else outcome_at off other))
        (here false other same) (leads other far (earlier false other same))),
    leads_from (place order (process_of g c) + 1) on ordered.3 (set o c true) (length-set o c true ∙ long)
        (λ other far same. subst (λ (b : Bool). IsByBelow n (if b then outcome_at on other else outcome_at off other))
        (here true other same) (leads other far (earlier true other same))),
  )
    where
      -- an outcome that agrees with one in which c is set has this value of c
      here : (b : Bool) (other : List Bool) → SameBefore (place order (process_of g c) + 1) (set o c b) other →
          get_or other c false ≡ b
      here b other same = same c (omega arith) ∙ get_or-set_same o c b false (omega (arith, ordered.0, long))

      -- and it agrees with the one before c's place, since the test there is of an earlier condition
      earlier : (b : Bool) (other : List Bool) → SameBefore (place order (process_of g c) + 1) (set o c b) other →
          SameBefore k o other
      earlier b other same d before = same d (omega (arith, before, ordered.1)) ∙ get_or-set_other o c d b false
          (λ same_q. absurd (let at = ap (λ q. place order (process_of g q)) same_q in
          omega (arith, before, ordered.1, at)))

-- each edge that a leaf of a process's guard names is one of the graph
pub leads_below : (g : Graph) (order : List ℕ) → IsTopological g order → (p : ℕ) → p < process_count g →
    (guard : Guard) → IsGuardOf g order p guard →
    LeadsBelow (edge_count g) guard
leads_below g order topological p below guard is = leads_from g order (edge_count g) 0 guard is.ordered
    (replicate (condition_count g) false) (length-replicate {A = Bool} (condition_count g) false)
    (λ other long same.
    subst (IsByBelow (edge_count g)) (sym (is.is other long)) (activation_below g order topological other p below))
