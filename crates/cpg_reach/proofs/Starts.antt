-- What starts depend on, as the code finds it: from a frozen process, or from what came before on the node.
use Rattle.std.proofs.Common.{ℕ, ◌<◌, ◌≡◌, Bool, true, false, cond, List, [], ◌++◌, get_or, map, sym, ap, ◌∙◌}
use Rattle.std.specs.List.{flat_map}
use Rattle.std.proofs.lemmas.List.{get_or_default}
use Rattle.cpg_base.specs.Graph.{Graph, process_count, process_at, node_of, inputs, value_variable}
use Rattle.cpg_base.specs.declared.process.Process.{Process}
use Rattle.cpg_order.specs.Deciding.{conditions_of}
use Rattle.cpg_order.specs.Reach.{Reach, is_in, input_reach}
use Rattle.cpg_order.specs.Elements.{SameElements}
use Rattle.cpg_reach.specs.Variables.{Adds}
use Rattle.cpg_reach.specs.Walked.{heard_by, start_by}
use Rattle.cpg_reach.proofs.Adding.{same_after}

-- a process that is read from the graph is frozen as the graph says
pub frozen_at : (g : Graph) (p : ℕ) (ps : List Process) (q : Process) (b : Bool) → ps ≡ g.processes →
    p < process_count g → (get_or ps p q).frozen ≡ b →
    (process_at g p).frozen ≡ b
frozen_at g p ps q b is within e =
    ap (λ (x : Process). x.frozen) (get_or_default g.processes p _ q within)
    ∙ ap (λ xs. (get_or xs p q).frozen) (sym is) ∙ e

-- given: reaches, by node what later starts wait for, and a process
module _ (g : Graph) (r : Reach) (known : List (List ℕ)) (p : ℕ) where
  -- what the start depends on, by whether the process is frozen
  abbrev by_test : Bool → List ℕ
  by_test b = cond b (map value_variable (conditions_of g p)) (get_or known (node_of g p) []
      ++ heard_by g r (node_of g p) (conditions_of g p) ++ flat_map (input_reach g r) (inputs g p))

  -- a frozen start depends on the values of the conditions that decide the process
  pub start_frozen : (xs : List ℕ) → (process_at g p).frozen ≡ true →
      SameElements xs (map value_variable (conditions_of g p)) →
      SameElements xs (start_by g r known p)
  start_frozen xs holds same v = same v ∙ ap (λ b. is_in (by_test b) v) (sym holds)

  -- any other start depends on what its node waited for, on what it hears, and on its inputs
  pub start_plain : (a b c : List ℕ) (node : ℕ) → (process_at g p).frozen ≡ false → node ≡ node_of g p →
      a ≡ get_or known node [] →
      Adds a (heard_by g r node (conditions_of g p)) b →
      Adds b (flat_map (input_reach g r) (inputs g p)) c → SameElements c (start_by g r known p)
  -- one after another: what was known, what is heard and the inputs are added
  start_plain a b c node fails n is heard ins v =
      same_after b (get_or known node [] ++ heard_by g r node (conditions_of g p))
      (flat_map (input_reach g r) (inputs g p)) c
      (same_after a (get_or known node []) (heard_by g r node (conditions_of g p)) b
      (λ u. ap (λ xs. is_in xs u) is) heard) ins v
      ∙ ap (λ m. is_in (get_or known m [] ++ heard_by g r m (conditions_of g p)
      ++ flat_map (input_reach g r) (inputs g p)) v) n
      ∙ ap (λ t. is_in (by_test t) v) (sym fails)
