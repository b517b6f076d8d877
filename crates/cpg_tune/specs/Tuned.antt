-- What tuning finds: the best parts, a judge's answer for each fault number, and how many faults are tolerated.
use Rattle.std.specs.Prelude.{ℕ, ◌+◌, ◌≡◌, ◌<◌, Bool, true, false, if◌then◌else◌, List, [], ◌∷◌, Option, Some, None}
use Rattle.std.specs.Prelude.{length, get_or}
use Rattle.cpg_base.specs.declared.limits.TheConstants.{MOST_FAULTS}
use Rattle.cpg_base.specs.Graph.{Graph}
use Rattle.cpg_rules.specs.FaultNumber.{with_fault_number}
use Rattle.cpg_tune.specs.declared.judge.Judged.{Judged}
use Rattle.cpg_tune.specs.declared.judge.Judged.TheVariants.{Worst, Late, Wide}
use Rattle.cpg_tune.specs.Best.{best_parts}
use Rattle.cpg_tune.specs.Asked.{row_graph}

-- what tuning a graph returns
pub record Tuning : Type 0 where
  -- the best number of parts of each process
  pub parts : List ℕ
  -- what the judge says of the graph with these parts and 0 faults, 1 fault, and so on
  pub rows : List Judged
  -- the greatest fault number that is accepted, if one is
  pub tolerates : Option ℕ

-- whether the judge accepts the graph: nothing is late, and no item is too wide
abbrev pub is_accepted : Judged → Bool
is_accepted (Worst finish) = true
is_accepted (Late finish) = false
is_accepted (Wide item) = false

-- the answer for a fault number; if there is no such row, one that isn't accepted (`Wide 0`)
abbrev pub row_at : List Judged → ℕ → Judged
row_at rows faults = get_or rows faults (Wide 0)

-- the place of the last accepted row, if `faults` is the place of the first row here, and `found` that of the last
-- accepted row before it
abbrev pub tolerated_from : ℕ → Option ℕ → List Judged → Option ℕ
tolerated_from faults found [] = found
tolerated_from faults found (row ∷ rows) =
    tolerated_from (faults + 1) (if is_accepted row then Some faults else found) rows

-- the greatest fault number whose row is accepted, and None if none is
abbrev pub tolerated : List Judged → Option ℕ
tolerated rows = tolerated_from 0 None rows

-- one answer for each of `count` fault numbers, from 0 on: that for the graph with this number in place of its own
pub record AreAnswers (answers : Graph → Judged → Type 0) (g : Graph) (count : ℕ) (judged : List Judged) : Type 0 where
  -- there are `count` answers
  pub long : length judged ≡ count
  -- each is an answer for the graph with its own fault number
  pub each : (faults : ℕ) → faults < count → answers (with_fault_number g faults) (row_at judged faults)

-- one row for each of `count` fault numbers, from 0 on: the judge's answer for the graph with its best parts and that
-- number
pub record AreRows (answers : Graph → Judged → Type 0) (g : Graph) (count : ℕ) (rows : List Judged) : Type 0 where
  -- there are `count` rows
  pub long : length rows ≡ count
  -- each is an answer for the graph of its row
  pub each : (faults : ℕ) → faults < count → answers (row_graph g faults) (row_at rows faults)

-- the tuning of a graph by a judge who may give these answers
pub record IsTuning (answers : Graph → Judged → Type 0) (g : Graph) (t : Tuning) : Type 0 where
  -- the parts are the best ones of the graph's processes
  pub parts : t.parts ≡ best_parts g
  -- there is a row for each fault number from 0 to MOST_FAULTS
  pub rows : AreRows answers g (MOST_FAULTS + 1) t.rows
  -- the greatest fault number whose row is accepted
  pub tolerates : t.tolerates ≡ tolerated t.rows

-- the row at this place is accepted, and no row after it is; or, for None, no row is accepted at all
abbrev pub IsGreatestAccepted : List Judged → Option ℕ → Type 0
IsGreatestAccepted rows None = (faults : ℕ) → faults < length rows → is_accepted (row_at rows faults) ≡ false
IsGreatestAccepted rows (Some found) = (found < length rows) × (is_accepted (row_at rows found) ≡ true)
    × ((faults : ℕ) → found < faults → faults < length rows → is_accepted (row_at rows faults) ≡ false)
