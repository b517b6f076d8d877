-- The ends of the walk along the order: before the first place no row is made and nothing is carried on, after the last
-- place all rows are made.
use Rattle.std.proofs.Common.{◌≡◌, ◌∙◌, ℕ, zero, suc, Bool, true, false, ltb, ◌&&◌, ◌==◌, List, [], ◌∷◌, length, get_or}
use Rattle.std.proofs.Common.{map, replicate, Option, arith, refl, sym, ap, subst, le-ltb}
use Rattle.std.proofs.lemmas.List.{length-map, length-replicate, get_or-replicate}
use Rattle.cpg_base.specs.Numbers.{numbers_below}
use Rattle.cpg_base.specs.Graph.{Graph, process_count, item_count, home, is_sent, producer}
use Rattle.cpg_base.proofs.Lists.{filter_none}
use Rattle.cpg_base.specs.Scenario.{Scenario}
use Rattle.cpg_order.specs.Urgency.{IsTopological}
use Rattle.cpg_base.specs.Order.{place}
use Rattle.cpg_order.proofs.Moments.{producer_in_range}
use Rattle.cpg_base.proofs.Places.{place_in_order}
use Rattle.cpg_cube.specs.declared.literal.Literal.{Literal}
use Rattle.cpg_table.specs.Shape.{items_of}
use Rattle.cpg_table.specs.Table.{Row}
use Rattle.cpg_cube.specs.declared.column.Column.{Column}
use Rattle.cpg_list.specs.Made.{AreCubesOf, AreCarried, AreMade, IsBefore, passed_by, queued_by, node_before}
use Rattle.cpg_list.specs.Made.{sent_before}
use Rattle.cpg_run.specs.Found.{columns_of_rows}
use Rattle.cpg_run.specs.Rows.{IsCubeOf, AreRows}
use Rattle.cpg_list.proofs.CodeCubes.{whole_cube}
use Rattle.cpg_list.proofs.CodeMade.{count_of}

-- a row without columns
abbrev pub blank : ℕ → Row
blank x = record { item = x; columns = [] }

-- the blank rows of some items are rows of those items, in their order
items_blank : (xs : List ℕ) → items_of (map blank xs) ≡ xs
-- by induction on the list
items_blank [] = refl
items_blank (x ∷ xs) = ap (λ ys. x ∷ ys) (items_blank xs)

-- every row is without columns, one past the end too
columns_blank : (xs : List ℕ) (i : ℕ) → get_or (columns_of_rows (map blank xs)) i [] ≡ []
columns_blank [] i = refl
columns_blank (x ∷ xs) zero = refl
columns_blank (x ∷ xs) (suc i) = columns_blank xs i

-- b && false is false
and_false : (b : Bool) → (b && false) ≡ false
and_false true = refl
and_false false = refl

module _ (g : Graph) (order : List ℕ) where
  -- before the first place no item is done, so blank rows are what has to be made
  pub none_made : (urgency : List ℕ) (frozen : List (Option ℕ)) (rows : List Row) →
      rows ≡ map blank (numbers_below (item_count g)) →
      AreMade g urgency order frozen (IsBefore g order 0) rows
  none_made urgency frozen rows is = record {
    items = ap items_of is ∙ items_blank (numbers_below (item_count g));
    each = λ x l h. absurd (omega (arith, h));
    none = λ x h. ap (λ (rs : List Row). get_or (columns_of_rows rs) x []) is
        ∙ columns_blank (numbers_below (item_count g)) x;
  }

  -- before the first place nothing has been sent
  none_sent : (node : ℕ) → sent_before g order node 0 ≡ []
  none_sent node = filter_none (λ y. is_sent g y && (home g y == node) && ltb (place order (producer g y)) 0)
      (numbers_below (item_count g))
      (λ y j. ap (λ b. is_sent g y && (home g y == node) && b) (le-ltb (place order (producer g y)) 0 (omega arith))
      ∙ and_false (is_sent g y && (home g y == node)))

  -- if there are no literals in any scenario, cubes without literals are the cubes of them
  wholes : (k : ℕ) (scenarios : List Scenario) (literals : Scenario → List Literal) (cubes : List (List Literal)) →
      ((s : Scenario) → literals s ≡ []) →
      cubes ≡ replicate (length scenarios) [] →
      AreCubesOf k scenarios literals cubes
  wholes k scenarios literals cubes none is = record {
    count = ap length is ∙ length-replicate (length scenarios) [];
    each = λ i d l. subst (λ ls. IsCubeOf k ls (get_or cubes i [])) (sym (none (get_or scenarios i d)))
        (subst (IsCubeOf k []) (sym (ap (λ cs. get_or cs i []) is ∙ get_or-replicate (length scenarios) i [] [] l))
        (whole_cube k));
  }

  -- before the first place no process and no item has left anything, so each node's cubes are without literals
  pub none_carried : (rows : List (List Column)) (scenarios : List Scenario) (known sent : List (List (List Literal))) →
      known ≡ replicate (length g.nodes) (replicate (length scenarios) []) →
      sent ≡ replicate (length g.nodes) (replicate (length scenarios) [])
      → AreCarried g order rows scenarios 0 known sent
  none_carried rows scenarios known sent e f = record {
    known_count = ap length e ∙ length-replicate (length g.nodes) (replicate (length scenarios) []);
    sent_count = ap length f ∙ length-replicate (length g.nodes) (replicate (length scenarios) []);
    carries = λ node l.
        wholes g.faults scenarios (passed_by g rows (node_before g order node 0)) (get_or known node []) (λ s. refl)
        (ap (λ cs. get_or cs node []) e
        ∙ get_or-replicate (length g.nodes) node (replicate (length scenarios) []) [] l);
    queues = λ node l. wholes g.faults scenarios (queued_by g order rows (sent_before g order node 0))
        (get_or sent node []) (λ s. ap (λ ys. queued_by g order rows ys s) (none_sent node))
        (ap (λ cs. get_or cs node []) f
        ∙ get_or-replicate (length g.nodes) node (replicate (length scenarios) []) [] l);
  }

  -- after the last place each item has its row, since its process is before that place
  pub all_rows : (topological : IsTopological g order) (urgency : List ℕ) (frozen : List (Option ℕ)) (rows : List Row) →
      AreMade g urgency order frozen (IsBefore g order (process_count g)) rows →
      AreRows g urgency order frozen (columns_of_rows rows)
  all_rows topological urgency frozen rows are = record {
    count = length-map rows (λ (r : Row). r.columns) ∙ count_of rows (item_count g) are.items;
    each = λ x within. are.each x within (place_in_order (process_count g) order topological.all (producer g x)
        (omega (arith, producer_in_range g order topological x within)));
  }
