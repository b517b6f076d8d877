-- The least scenario in which a bound isn't told: it is what the cubes where it is told leave of a column's cube.
use Rattle.std.proofs.Common.{ℕ, ◌≡◌, Bool, true, false, not, ◌&&◌, ◌||◌, List, [], Option, Some, None, sym, ap, ◌∙◌}
use Rattle.std.specs.Bool.{OnFalse}
use Rattle.std.specs.Prelude.{IfSome, IfNone, IsTrue, is_some}
use Rattle.std.specs.List.{list_any}
use Rattle.std.proofs.lemmas.Bool.{not-false, or_right}
use Rattle.cpg_base.specs.Graph.{Graph}
use Rattle.cpg_base.proofs.First.{first_same}
use Rattle.cpg_base.specs.First.{IsFirst}
use Rattle.cpg_base.specs.Scenario.{Scenario, IsScenario, IsLeast}
use Rattle.cpg_cover.specs.Cover.{is_left}
use Rattle.cpg_cube.specs.Cube.{matches}
use Rattle.cpg_cube.specs.declared.literal.Literal.{Literal}
use Rattle.cpg_violation.proofs.Tests.{off_where, same_where}

-- the cube of a column, and cubes where a bound is told
module _ (g : Graph) (order : List ℕ) (cube : List Literal) (told : List (List Literal)) where
  -- the answer `o` of the search is the least scenario that the cubes `told` leave of the cube
  pub first_left : (o : Option Scenario) →
      IfNone o ((s : Scenario) → IsScenario g s → matches cube s ≡ true → list_any (λ b. matches b s) told ≡ true)
      → IfSome o (IsLeast g order (λ s. IsTrue (matches cube s && not (list_any (λ b. matches b s) told)))) →
      IsFirst g order (is_left told cube) o
  first_left None none some =
      λ s i. off_where (matches cube s) (not (list_any (λ b. matches b s) told)) (λ m. ap not (none s i m))
  first_left (Some s) none some = some

  -- whether the bound is told by all that the node hears, in a scenario
  module _ (facts : Scenario → Bool) where
    -- if the cubes match exactly where it is told, and the bound leaves out some number (`free` is false), the least
    -- scenario that they leave is the least in which it isn't told
    pub untold_first : (free : Bool) (o : Option Scenario) → free ≡ false →
        ((s : Scenario) → IsScenario g s → matches cube s ≡ true → list_any (λ b. matches b s) told ≡ facts s)
        → IsFirst g order (is_left told cube) o → IsFirst g order (λ s. matches cube s && not (free || facts s)) o
    untold_first free o fails is is_first = first_same g order (is_left told cube) (λ s. matches cube s
        && not (free || facts s)) o
        (λ s i. same_where (matches cube s) (not (list_any (λ b. matches b s) told)) (not (free || facts s))
        (λ m. ap not (is s i m ∙ sym (ap (λ t. t || facts s) fails)))) is_first

-- a list of cubes that is empty at first, in a scenario
module _ (start : List (List Literal)) (s : Scenario) where
  -- if first the cubes of what the own ends tell are added and then those of what is heard, one of them matches exactly
  -- if the node is told
  pub told_all : (first last own heard all : Bool) → start ≡ [] → first ≡ (list_any (λ b. matches b s) start || own) →
      last ≡ (first || heard) → all ≡ (own || heard) → last ≡ all
  told_all first last own heard all none e f is =
      f ∙ ap (λ x. x || heard) (e ∙ ap (λ xs. list_any (λ b. matches b s) xs || own) none) ∙ sym is

-- what the heard rows tell (`heard`) is told (`all`)
pub told_heard : (own heard all : Bool) → all ≡ (own || heard) → heard ≡ true → all ≡ true
told_heard own heard all is holds = is ∙ or_right own heard holds

-- if a bound is told (`facts`) wherever the cube matches, there is no scenario of the cube in which it isn't; it
-- needn't be told if it is `free`
pub untold_nowhere : (g : Graph) (cube : List Literal) (facts : Scenario → Bool) (free : Bool) →
    ((s : Scenario) → IsScenario g s → matches cube s ≡ true → facts s ≡ true) →
    (s : Scenario) →
    IsScenario g s → (matches cube s && not (free || facts s)) ≡ false
untold_nowhere g cube facts free h s lawful =
    off_where (matches cube s) (not (free || facts s)) (λ m. ap not (or_right free (facts s) (h s lawful m)))

-- what a node's own ends tell (`own`) is told (`all`)
pub own_told : (free first own heard all : Bool) → first ≡ own → all ≡ (own || heard) → first ≡ true →
    (free || all) ≡ true
own_told free first own heard all f is holds = or_right free all (is ∙ ap (λ x. x || heard) (sym f ∙ holds))

-- what follows from what a false answer guarantees is guaranteed by it, too
pub fewer_left : {A B : Type 0} (left : Bool) → (A → B) → OnFalse left A → OnFalse left B
fewer_left false f a = f a
fewer_left true f a = tt

-- if the search `o` finds no scenario of the cube that the cubes `told` leave, and `facts` say something wherever one
-- of these matches, they say it wherever the cube does
pub left_nowhere : (g : Graph) (order : List ℕ) (cube : List Literal) (told : List (List Literal)) (o : Option Scenario)
    (facts : Scenario → Bool)
    → ((s : Scenario) → IsScenario g s → matches cube s ≡ true →
    list_any (λ b. matches b s) told ≡ true → facts s ≡ true)
    → IsFirst g order (is_left told cube) o →
    OnFalse (is_some o) ((s : Scenario) → IsScenario g s → matches cube s ≡ true → facts s ≡ true)
left_nowhere g order cube told None facts h is_first = λ s i m. h s i m (not-false (list_any (λ b. matches b s) told)
    (sym (ap (λ t. t && not (list_any (λ b. matches b s) told)) m) ∙ is_first s i))
left_nowhere g order cube told (Some least) facts h is_first = tt
