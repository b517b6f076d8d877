-- Trees that say where and when a process sends its items.
use Rattle.std.specs.Prelude.{ℕ, ◌≡◌, ◌&&◌, Bool, true, false, List, [], ◌∷◌, ◌++◌, Option, Some, None, map, get_or}
use Rattle.std.specs.Prelude.{if◌then◌else◌}
use Rattle.cpg_base.specs.Graph.{Graph, source, edge_at, condition_of, item_at, producer}
use Rattle.cpg_base.specs.Activity.{active, live, item_active}
use Rattle.cpg_base.specs.Numbers.{same_bool}
use Rattle.cpg_bus.specs.Share.{ShareState}
use Rattle.cpg_order.specs.Reach.{source_value}
use Rattle.cpg_base.specs.Scenario.{Scenario}
use Rattle.cpg_run.specs.Carried.{number_known, sent_by_value}
use Rattle.cpg_cube.specs.declared.literal.Literal.{Literal}
use Rattle.cpg_tree.specs.Space.{HasAtMostFaults}
use Rattle.cpg_tree.specs.Tree.{TreeState}
use Rattle.cpg_expand.specs.Agreeing.{HasValueFrom}
use Rattle.cpg_expand.specs.Guarded.{value_known}
use Rattle.cpg_tree_times.specs.Values.{slot_from}
use Rattle.cpg_tree.specs.Later.{time_later}

-- In scenarios of at most k faults, t is true where `active` is and condition c has the value `wanted`. Its path
-- follows from the literals by which the value b of `active` is known (`by_active`) and, where b is true, from c's
-- value.
abbrev pub IsTestedTree : ℕ → ℕ → Bool → TreeState Bool → TreeState Bool → Type 0
IsTestedTree k c wanted active t =
    (s : Scenario) → HasAtMostFaults k s → (b : Bool) (by_active : List Literal) → HasValueFrom s by_active b active →
    HasValueFrom s (by_active ++ (if b then value_known s c ∷ [] else []))
    (b && same_bool wanted (get_or s.values c false)) t

-- The condition that an edge asks for, and the value. The edge has a `when` or none, and its source a condition or
-- none; without either of them nothing is asked.
abbrev pub asked_by : Option Bool → Option ℕ → Option (ℕ × Bool)
asked_by None condition = None
asked_by (Some wanted) None = None
asked_by (Some wanted) (Some condition) = Some (condition, wanted)

-- what edge e asks for besides that its source is active: a condition of the source and its value, or nothing
abbrev pub asked : Graph → ℕ → Option (ℕ × Bool)
asked g e = asked_by (edge_at g e).when (condition_of g (source g e))

-- t is true where edge e is live, if `chooser` says where its source is active. Its path follows from the literals by
-- which that is known (`by_chooser`) and, where the source is active, from the value that e asks for.
abbrev pub IsLiveTree : Graph → ℕ → TreeState Bool → TreeState Bool → Type 0
IsLiveTree g e chooser t = (s : Scenario) → HasAtMostFaults g.faults s → (by_chooser : List Literal) →
    HasValueFrom s by_chooser (active g s.values (source g e)) chooser →
    HasValueFrom s (by_chooser ++ (if active g s.values (source g e) then map (number_known s) (source_value g e) else []))
    (live g s.values e) t

-- t is true where item x is sent, if `chooser` says where its producer is active. Its path follows from the literals by
-- which that is known (`by_chooser`) and, where the producer is active, from the value that decides whether x is sent.
abbrev pub IsGoesTree : Graph → ℕ → TreeState Bool → TreeState Bool → Type 0
IsGoesTree g x chooser t = (s : Scenario) → HasAtMostFaults g.faults s → (by_chooser : List Literal) →
    HasValueFrom s by_chooser (active g s.values (producer g x)) chooser →
    HasValueFrom s (by_chooser ++ (if active g s.values (producer g x) then sent_by_value g s x else []))
    (item_active g s.values (item_at g x)) t

-- t says when an item is sent, in scenarios of at most k faults: where it goes (`goes`), in the first free slot of
-- `share` at its producer's end (`end`) or later, and never elsewhere; `free` says from when on slots are free. The
-- literals `by_goes`, `by_end` and `by_free` say whether it goes (b), when its producer ends (x) and from when on slots
-- are free (y).
abbrev pub IsSentTree : ℕ → ShareState → TreeState Bool → TreeState (Option ℕ) → TreeState ℕ → TreeState (Option ℕ) →
    Type 0
IsSentTree k share goes end free t =
    (s : Scenario) → HasAtMostFaults k s → (b : Bool) (by_goes by_end by_free : List Literal) (x : Option ℕ) (y : ℕ) →
    HasValueFrom s by_goes b goes →
    (b ≡ true → HasValueFrom s by_end x end × HasValueFrom s by_free y free) →
    HasValueFrom s (by_goes ++ (if b then by_end ++ by_free else [])) (if b then slot_from share y x else None) t

-- t says from when on slots are free after an item, in scenarios of at most k faults: where it goes (`goes`), `turn`,
-- which is a round, after its time (`sent`), and elsewhere as `free` says. The literals `by_goes` say whether it goes
-- (b), `by_time` its time (x) or that of `free` (w), and v is the time that t has.
abbrev pub IsFreeTree : ℕ → ℕ → TreeState Bool → TreeState (Option ℕ) → TreeState ℕ → TreeState ℕ → Type 0
IsFreeTree k turn goes sent free t = (s : Scenario) → HasAtMostFaults k s →
    (b : Bool) (by_goes by_time : List Literal) (x : Option ℕ) (w v : ℕ) → HasValueFrom s by_goes b goes →
    (b ≡ true → HasValueFrom s by_time x sent × (v ≡ time_later turn x)) →
    (b ≡ false → HasValueFrom s by_time w free × (v ≡ w)) → HasValueFrom s (by_goes ++ by_time) v t
