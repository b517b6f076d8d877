-- Joins of columns: two made one, and a walk over sorted columns that makes neighbours one.
use Rattle.std.proofs.Common.{ℕ, ◌+◌, ◌<◌, ◌≤◌, ◌≡◌, ◌≢◌, ◌⊎◌, Bool, true, false, cond, ◌==◌, List, [], ◌∷◌, length}
use Rattle.std.proofs.Common.{map, filter, Contains, All, Equal, arith, refl, sym, ap, ◌∙◌, subst, ⊎_elim, inl}
use Rattle.std.proofs.Common.{inr, eqb-true}
use Rattle.std.specs.Ordering.{is_eq}
use Rattle.std.proofs.lemmas.Bool.{and_parts}
use Rattle.std.proofs.lemmas.List.Elements.{All-cons, All-head, All-tail}
use Rattle.cpg_base.specs.Graph.{Graph, process_count, IsVariable}
use Rattle.cpg_base.proofs.Lists.{Contains-first, Contains-rest, Contains-cases}
use Rattle.cpg_base.specs.Scenario.{Scenario}
use Rattle.cpg_cube.specs.declared.literal.Literal.{Literal}
use Rattle.cpg_cube.specs.Cube.{matches, low_in, high_in}
use Rattle.cpg_cube.specs.declared.column.Column.{Column}
use Rattle.cpg_cube.specs.Column.{times_in}
use Rattle.cpg_merging.specs.Merged.{IsWider}
use Rattle.cpg_merging.specs.Merging.{without, beside_cmp, is_followed, joined, walked, IsJoinOf, TouchAt}
use Rattle.cpg_merging.proofs.MergingCubes.{without-low, without-high}
use Rattle.cpg_merging.proofs.MergingPairs.{IsGood, wider_itself, wider_through, wider_first, wider_second, apart}
use Rattle.cpg_merging.proofs.MergingPairs.{either, matches_first, matches_second, good_both}
use Rattle.cpg_merging.proofs.MergingOrder.{beside_equal, equal_from}

-- the cube of each column is good
abbrev pub AreGood : Graph → List Column → Type 0
AreGood g columns = All (λ c. IsGood g c.cube) columns

-- ---- lists

-- given: the graph that the columns are of
module _ (g : Graph) where
  -- columns are a join of themselves
  pub joins_itself : (columns : List Column) → IsJoinOf g columns columns
  joins_itself columns =
      record { times = λ s lawful. refl; held = λ e member. (e, member, refl, wider_itself g.faults e.cube) }

  -- a join of a join is a join
  pub joins_through : (a b c : List Column) → IsJoinOf g a b → IsJoinOf g b c → IsJoinOf g a c
  joins_through a b c b_of_a c_of_b = record {
    times = λ s lawful. c_of_b.times s lawful ∙ b_of_a.times s lawful;
    held = λ e member.
        let in_b = b_of_a.held e member in
        let in_c = c_of_b.held in_b.0 in_b.1 in
        (in_c.0, in_c.1, in_c.2 ∙ in_b.2, wider_through g.faults in_c.0.cube in_b.0.cube e.cube in_c.3 in_b.3);
  }

  -- two lists that give a scenario the same times do so with a column c in front of both
  times_cons : (c : Column) (a b : List Column) (s : Scenario) → times_in a s ≡ times_in b s →
      times_in (c ∷ a) s ≡ times_in (c ∷ b) s
  times_cons c a b s same_times = go (matches c.cube s)
    where
      -- by whether the column in front matches: then both lists begin with its time
      go : (m : Bool) →
          map (λ (x : Column). x.time)
          (cond m (c ∷ filter (λ x. matches x.cube s) a) (filter (λ x. matches x.cube s) a))
          ≡ map (λ (x : Column). x.time)
          (cond m (c ∷ filter (λ x. matches x.cube s) b) (filter (λ x. matches x.cube s) b))
      go true = ap (λ ts. c.time ∷ ts) same_times
      go false = same_times

  -- if b is a join of a, it is one with a column c in front of both
  pub joins_cons : (c : Column) (a b : List Column) → IsJoinOf g a b → IsJoinOf g (c ∷ a) (c ∷ b)
  -- the new first column is held by itself, and any other by the column that holds it in the join
  joins_cons c a b b_of_a = record {
    times = λ s lawful. times_cons c b a s (b_of_a.times s lawful);
    held = λ e member. ⊎_elim
        (λ (is_c : c ≡ e). (
          c,
          Contains-first c b,
          ap (λ (z : Column). z.time) is_c,
          subst (λ (z : Column). IsWider g.faults c.cube z.cube) is_c (wider_itself g.faults c.cube),
        ))
        (λ (in_a : Contains a e). let holder = b_of_a.held e in_a in
        (holder.0, Contains-rest c b holder.0 holder.1, holder.2, holder.3))
        (Contains-cases c a e member);
  }

-- ---- one join

-- a column d that follows c has c's time and literals on other variables, and its range of v begins right behind c's
pub followed_parts : (k v : ℕ) (c d : Column) → is_followed k v c d ≡ true →
    (beside_cmp v c d ≡ Equal) × (high_in k c.cube v + 1 ≡ low_in d.cube v)
followed_parts k v c d follows =
    let parts = and_parts (is_eq (beside_cmp v c d)) (high_in k c.cube v + 1 == low_in d.cube v) follows in
    (equal_from (beside_cmp v c d) parts.0, eqb-true (high_in k c.cube v + 1) (low_in d.cube v) parts.1)

-- cubes with the same literals on other variables than v have the same ranges of these
pub ranges_beside : (k v : ℕ) (a b : List Literal) → without v a ≡ without v b → (u : ℕ) → u ≢ v →
    (low_in a u ≡ low_in b u) × (high_in k a u ≡ high_in k b u)
ranges_beside k v a b same_others u other = (
  sym (without-low v a u other) ∙ ap (λ ls. low_in ls u) same_others ∙ without-low v b u other,
  sym (without-high v k a u other) ∙ ap (λ ls. high_in k ls u) same_others ∙ without-high v k b u other,
)

-- if d follows c at v, the two touch there
pub touch_of : (k v : ℕ) (c d : Column) → is_followed k v c d ≡ true → TouchAt k v c.cube d.cube
touch_of k v c d follows =
    let parts = followed_parts k v c d follows in
    record { others = ranges_beside k v c.cube d.cube (beside_equal v c d parts.0).1; next = parts.1 }

-- a column d that follows c has c's time
pub time_of : (k v : ℕ) (c d : Column) → is_followed k v c d ≡ true → c.time ≡ d.time
time_of k v c d follows = (beside_equal v c d (followed_parts k v c d follows).0).0

-- One column gives the times of two that never match together, if it matches just where one of them does. `a`, `b` and
-- `m` say whether the two and the one match.
times_of_one : (t : ℕ) (rest : List ℕ) (a b m : Bool) → (a ≡ true → b ≡ true → ⊥) →
    (m ≡ true → (a ≡ true) ⊎ (b ≡ true)) → (a ≡ true → m ≡ true) →
    (b ≡ true → m ≡ true) →
    cond m (t ∷ rest) rest ≡ cond a (t ∷ cond b (t ∷ rest) rest) (cond b (t ∷ rest) rest)
times_of_one t rest true true m never_both some_one from_a from_b = absurd (never_both refl refl)
times_of_one t rest true false m never_both some_one from_a from_b = ap (λ z. cond z (t ∷ rest) rest) (from_a refl)
times_of_one t rest false true m never_both some_one from_a from_b = ap (λ z. cond z (t ∷ rest) rest) (from_b refl)
times_of_one t rest false false true never_both some_one from_a from_b =
    ⊎_elim (λ (wrong : false ≡ true). cc) (λ (wrong : false ≡ true). cc) (some_one refl)
times_of_one t rest false false false never_both some_one from_a from_b = refl

-- the times of a list in a scenario are those of the rest, after the first one's if that matches
pub times_first : (c : Column) (ds : List Column) (s : Scenario) →
    times_in (c ∷ ds) s ≡ cond (matches c.cube s) (c.time ∷ times_in ds s) (times_in ds s)
times_first c ds s = go (matches c.cube s)
  where
    -- by whether the column in front matches: then its time is the first
    go : (m : Bool) →
        map (λ (x : Column). x.time)
        (cond m (c ∷ filter (λ x. matches x.cube s) ds) (filter (λ x. matches x.cube s) ds))
        ≡ cond m (c.time ∷ times_in ds s) (times_in ds s)
    go true = refl
    go false = refl

-- given: a variable of the graph
module _ (g : Graph) (few : process_count g ≤ 128) (v : ℕ) (known : IsVariable g v) where
  -- given: two good columns, the second of which follows the first
  module _ (c d : Column) (good_c : IsGood g c.cube) (good_d : IsGood g d.cube)
      (follows : is_followed g.faults v c d ≡ true) where
    -- the two columns touch at the variable
    touch : TouchAt g.faults v c.cube d.cube
    touch = touch_of g.faults v c d follows

    -- the column made of the two is good
    pub good_joined : IsGood g (joined g.faults v c d).cube
    good_joined = good_both g few v c.cube d.cube good_c good_d touch

    -- the two made one, before the others, are a join of the two and the others
    pub joins_two : (ds : List Column) → IsJoinOf g (c ∷ d ∷ ds) (joined g.faults v c d ∷ ds)
    -- `times`: in each scenario the joined column matches exactly where c or d does, at their time. `held`: c and d
    -- lie within the joined column, any other column within itself
    joins_two ds = record {
      -- the times are the same: the joined column matches what either of the two matches
      times = λ s lawful.
          times_first (joined g.faults v c d) ds s
          ∙ times_of_one c.time (times_in ds s) (matches c.cube s) (matches d.cube s)
          (matches (joined g.faults v c d).cube s)
          (apart g few v c.cube d.cube good_c good_d touch s lawful known)
          (either g few v c.cube d.cube good_c good_d touch s lawful known)
          (matches_first g few v c.cube d.cube good_c good_d touch s lawful)
          (matches_second g few v c.cube d.cube good_c good_d touch s lawful)
          ∙ ap (λ t. cond (matches c.cube s) (c.time ∷ cond (matches d.cube s) (t ∷ times_in ds s) (times_in ds s))
          (cond (matches d.cube s) (t ∷ times_in ds s) (times_in ds s)))
          (time_of g.faults v c d follows)
          ∙ ap (λ ts. cond (matches c.cube s) (c.time ∷ ts) ts) (sym (times_first d ds s))
          ∙ sym (times_first c (d ∷ ds) s);
      -- each column from before lies within one of those after: the first and the second within the joined one
      held = λ e member. ⊎_elim
          (λ (is_c : c ≡ e). (
            joined g.faults v c d,
            Contains-first (joined g.faults v c d) ds,
            ap (λ (z : Column). z.time) is_c,
            subst (λ (z : Column). IsWider g.faults (joined g.faults v c d).cube z.cube) is_c
                (wider_first g few v c.cube d.cube good_c good_d touch),
          ))
          (λ (in_rest : Contains (d ∷ ds) e). ⊎_elim
          (λ (is_d : d ≡ e). (
            joined g.faults v c d,
            Contains-first (joined g.faults v c d) ds,
            time_of g.faults v c d follows ∙ ap (λ (z : Column). z.time) is_d,
            subst (λ (z : Column). IsWider g.faults (joined g.faults v c d).cube z.cube) is_d
                (wider_second g few v c.cube d.cube good_c good_d touch),
          ))
          (λ (in_ds : Contains ds e).
          (e, Contains-rest (joined g.faults v c d) ds e in_ds, refl, wider_itself g.faults e.cube))
          (Contains-cases d ds e in_rest))
          (Contains-cases c (d ∷ ds) e member);
    }

  -- ---- all joins of sorted columns

  -- `left` is what a walk over good columns leaves of them
  pub record Walked (columns left : List Column) : Type 0 where
    -- `left` is a join of the columns
    pub joins : IsJoinOf g columns left
    -- the cubes of `left` are good
    pub good : AreGood g left
    -- `left` has fewer columns than these, or is the same list
    pub fewer : (length left < length columns) ⊎ (left ≡ columns)

  -- a walk over good columns gives good columns that are a join of them: fewer ones, or the same
  pub walk : (c : Column) (ds : List Column) → AreGood g (c ∷ ds) → Walked (c ∷ ds) (walked g.faults v c ds)
  walk c [] all_good = record { joins = joins_itself g (c ∷ []); good = all_good; fewer = inr refl }
  -- by induction on the columns; `go` takes the case of whether d follows c
  walk c (d ∷ ds) all_good = go (is_followed g.faults v c d) refl
      (λ good.
      walk (joined g.faults v c d) ds (All-cons (λ (x : Column). IsGood g x.cube) (joined g.faults v c d) ds good
      (All-tail (λ (x : Column). IsGood g x.cube) d ds
      (All-tail (λ (x : Column). IsGood g x.cube) c (d ∷ ds) all_good))))
      (walk d ds (All-tail (λ (x : Column). IsGood g x.cube) c (d ∷ ds) all_good))
    where
      -- the first column's cube is good
      good_c : IsGood g c.cube
      good_c = All-head (λ (x : Column). IsGood g x.cube) c (d ∷ ds) all_good

      -- the second column's cube is good
      good_d : IsGood g d.cube
      good_d = All-head (λ (x : Column). IsGood g x.cube) d ds
          (All-tail (λ (x : Column). IsGood g x.cube) c (d ∷ ds) all_good)

      -- with the walk from the joined column, and that from d: the one that applies gives the whole
      go : (b : Bool) → is_followed g.faults v c d ≡ b →
          (IsGood g (joined g.faults v c d).cube →
          Walked (joined g.faults v c d ∷ ds) (walked g.faults v (joined g.faults v c d) ds)) →
          Walked (d ∷ ds) (walked g.faults v d ds) →
          Walked (c ∷ d ∷ ds) (cond b (walked g.faults v (joined g.faults v c d) ds) (c ∷ walked g.faults v d ds))
      -- d follows c: the two are made one, which makes the columns fewer
      go true follows from_joined from_d =
          let walked_on = from_joined (good_joined c d good_c good_d follows) in
          record {
            joins = joins_through g (c ∷ d ∷ ds) (joined g.faults v c d ∷ ds)
                (walked g.faults v (joined g.faults v c d) ds) (joins_two c d good_c good_d follows ds) walked_on.joins;
            good = walked_on.good;
            fewer = inl (⊎_elim
                (λ (less : length (walked g.faults v (joined g.faults v c d) ds) < length (joined g.faults v c d ∷ ds)).
                omega arith)
                (λ (same : walked g.faults v (joined g.faults v c d) ds ≡ joined g.faults v c d ∷ ds).
                let same_length = ap length same in
                omega arith)
                walked_on.fewer);
          }
      -- d doesn't follow c: c stays as it is
      go false not_followed from_joined from_d = record {
        joins = joins_cons g c (d ∷ ds) (walked g.faults v d ds) from_d.joins;
        good = All-cons (λ (x : Column). IsGood g x.cube) c (walked g.faults v d ds) good_c from_d.good;
        fewer = ⊎_elim (λ (less : length (walked g.faults v d ds) < length (d ∷ ds)). inl (omega arith))
            (λ (same : walked g.faults v d ds ≡ d ∷ ds). inr (ap (λ xs. c ∷ xs) same)) from_d.fewer;
      }
