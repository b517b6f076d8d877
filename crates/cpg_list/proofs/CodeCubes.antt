-- Cubes that are narrowed by literals: if a cube is that of some literals, the narrowed one is that of those and these, in
-- any order.
use Rattle.std.proofs.Common.{◌≡◌, ◌≢◌, ◌∙◌, ℕ, ◌<◌, ◌≤◌, max, min, List, [], ◌∷◌, ◌++◌, get_or, Contains, All, arith}
use Rattle.std.proofs.Common.{refl, sym, ap, ap₂, inl, inr, subst, append_assoc}
use Rattle.std.proofs.lemmas.Bool.{cases_eq}
use Rattle.std.proofs.lemmas.List.{append-nil}
use Rattle.std.proofs.lemmas.List.Elements.{Contains-append_left, Contains-append_right, Contains-append_cases}
use Rattle.std.proofs.lemmas.List.Elements.{Contains-get_or}
use Rattle.cpg_base.proofs.Lists.{Contains-first, Contains-rest, Contains-cases, Contains-nil}
use Rattle.cpg_base.proofs.Pairs.{AllPairs-nil}
use Rattle.cpg_cube.specs.Cube.{IsRising, low_in, high_in}
use Rattle.cpg_base.specs.Variable.{top}
use Rattle.cpg_cube.specs.Narrow.{meet_literal, narrowed_by}
use Rattle.cpg_cube.specs.declared.literal.Literal.{Literal}
use Rattle.cpg_cube.proofs.Narrowed.{low-other, low-same, high-other, high-same}
use Rattle.cpg_cube.proofs.Narrow.{narrowed-before, narrowed-here, narrowed-after, rising-narrowed}
use Rattle.cpg_cube.proofs.Narrow.{variables_of_narrowed}
use Rattle.cpg_cube.proofs.Ranges.{rising_rest, rising_first}
use Rattle.cpg_run.proofs.CubesOf.{cube_within}
use Rattle.cpg_run.proofs.Hearing.{low_kept, high_kept, high_kept_top, kept_low_below, kept_high_above, kept_grows}
use Rattle.cpg_table.specs.Heard.{kept_low, kept_high}
use Rattle.cpg_list.specs.Learning.{Within}
use Rattle.cpg_list.specs.Narrowing.{met, IsNarrowed}
use Rattle.cpg_run.specs.Rows.{IsCubeOf}

-- ---- the lows and highs of literals and one more

-- given: two lists of literals and a variable
module _ (xs ys : List Literal) (v : ℕ) where
  -- the low that two lists leave together is the greater of theirs: it bounds the lows of each list, and is bounded by both
  kept_low-append : kept_low (xs ++ ys) v ≡ max (kept_low xs v) (kept_low ys v)
  kept_low-append = omega (
    arith,
    kept_low_below (xs ++ ys) v (max (kept_low xs v) (kept_low ys v))
        (λ m there is. elim (Contains-append_cases xs ys m there) [
          | inl among ↦ omega (arith, low_kept xs v m among is)
          | inr among ↦ omega (arith, low_kept ys v m among is)
        ]),
    kept_low_below xs v (kept_low (xs ++ ys) v)
        (λ m there is. low_kept (xs ++ ys) v m (Contains-append_left xs ys m there) is),
    kept_low_below ys v (kept_low (xs ++ ys) v)
        (λ m there is. low_kept (xs ++ ys) v m (Contains-append_right xs ys m there) is),
  )

  -- the high that two lists leave together is the lesser of theirs, in the same way
  kept_high-append : (k : ℕ) → kept_high k (xs ++ ys) v ≡ min (kept_high k xs v) (kept_high k ys v)
  kept_high-append k = omega (
    arith,
    kept_high_above (xs ++ ys) v k (min (kept_high k xs v) (kept_high k ys v)) (omega (arith, high_kept_top xs v k))
        (λ m there is. elim (Contains-append_cases xs ys m there) [
          | inl among ↦ omega (arith, high_kept xs v k m among is)
          | inr among ↦ omega (arith, high_kept ys v k m among is)
        ]),
    kept_high_above xs v k (kept_high k (xs ++ ys) v) (high_kept_top (xs ++ ys) v k)
        (λ m there is. high_kept (xs ++ ys) v k m (Contains-append_left xs ys m there) is),
    kept_high_above ys v k (kept_high k (xs ++ ys) v) (high_kept_top (xs ++ ys) v k)
        (λ m there is. high_kept (xs ++ ys) v k m (Contains-append_right xs ys m there) is),
  )

-- the only element of a list of one
only : (l m : Literal) → Contains (l ∷ []) m → l ≡ m
only l m there = elim (Contains-cases l [] m there) [ inl e ↦ e | inr among ↦ absurd (Contains-nil m among) ]

-- given: a literal and the bound k on faults
module _ (k : ℕ) (l : Literal) where
  -- the low that one literal leaves on its variable is its own
  one_low : kept_low (l ∷ []) l.variable ≡ l.low
  one_low = omega (
    arith,
    low_kept (l ∷ []) l.variable l (Contains-first l []) refl,
    kept_low_below (l ∷ []) l.variable l.low (λ m there e. omega (arith, ap (λ (x : Literal). x.low) (only l m there))),
  )

  -- the high that one literal leaves on its variable is its own, if it isn't past the greatest number
  one_high : l.high ≤ top k l.variable → kept_high k (l ∷ []) l.variable ≡ l.high
  one_high at_most = omega (
    arith,
    high_kept (l ∷ []) l.variable k l (Contains-first l []) refl,
    kept_high_above (l ∷ []) l.variable k l.high at_most
        (λ m there e. omega (arith, ap (λ (x : Literal). x.high) (only l m there))),
  )

  -- on another variable one literal leaves the low 0
  none_low : (v : ℕ) → l.variable ≢ v → kept_low (l ∷ []) v ≡ 0
  none_low v differ = omega (
    arith,
    kept_low_below (l ∷ []) v 0 (λ m there e. absurd (differ (ap (λ (x : Literal). x.variable) (only l m there) ∙ e))),
  )

  -- on another variable one literal leaves the greatest number as the high
  none_high : (v : ℕ) → l.variable ≢ v → kept_high k (l ∷ []) v ≡ top k v
  none_high v differ = omega (
    arith,
    high_kept_top (l ∷ []) v k,
    kept_high_above (l ∷ []) v k (top k v) (omega arith)
        (λ m there e. absurd (differ (ap (λ (x : Literal). x.variable) (only l m there) ∙ e))),
  )

-- each literal of a narrowed cube is on the variable of some literal of the cube, or on that of the literal it is narrowed by
spoken_narrowed : (l : Literal) (cube : List Literal) (x : Literal) → Contains (narrowed_by l cube) x →
    (y : Literal) × Contains (cube ++ l ∷ []) y × (y.variable ≡ x.variable)
spoken_narrowed l cube x there = elim (variables_of_narrowed l cube x there) [
  | inl e ↦ (l, Contains-append_right cube (l ∷ []) l (Contains-first l []), e)
  | inr r ↦ (r.0, Contains-append_left cube (l ∷ []) r.0 r.1, r.2)
]

-- ---- cubes of literals

module _ (k : ℕ) where
  -- the cube without literals is that of no literals
  pub whole_cube : IsCubeOf k [] []
  whole_cube = record {
    rising = AllPairs-nil (λ (l m : Literal). l.variable < m.variable);
    spoken = λ l there. absurd (Contains-nil l there);
    low = λ v. refl;
    high = λ v. refl;
  }

  -- If a cube is that of some known literals, narrowed by one more it is that of those and this one. On the literal's variable
  -- both ranges are met; on any other the range is as before.
  narrowed_cube : (known cube : List Literal) (l : Literal) → l.high ≤ top k l.variable → IsCubeOf k known cube →
      IsCubeOf k (known ++ l ∷ []) (narrowed_by l cube)
  narrowed_cube known cube literal at_most is = record {
    rising = rising-narrowed literal cube is.rising;
    -- each literal of the narrowed cube is on a variable that one of the given literals is on
    spoken = λ x there.
        let known_or_one = spoken_narrowed literal cube x there in
        elim (Contains-append_cases cube (literal ∷ []) known_or_one.0 known_or_one.1) [
          | inl in_cube ↦ let spoken_before = is.spoken known_or_one.0 in_cube in (
            spoken_before.0,
            Contains-append_left known (literal ∷ []) spoken_before.0 spoken_before.1,
            spoken_before.2 ∙ known_or_one.2,
          )
          | inr is_one ↦ (
            known_or_one.0,
            Contains-append_right known (literal ∷ [])
                known_or_one.0 is_one,
            known_or_one.2,
          )
        ];
    -- the low at the literal's variable, and at another one
    low = λ v. elim (cases_eq literal.variable v) [
      | inl e ↦ subst (λ u. low_in (narrowed_by literal cube) u ≡ kept_low (known ++ literal ∷ []) u) e
          (omega (
            arith,
            low-same k literal cube is.rising,
            is.low literal.variable,
            kept_low-append known (literal ∷ []) literal.variable,
            one_low k literal,
          ))
      | inr differ ↦ omega (
        arith,
        low-other k literal cube v differ,
        is.low v,
        kept_low-append known (literal ∷ []) v,
        none_low k literal v differ,
      )
    ];
    -- the high at the literal's variable, and at another one
    high = λ v. elim (cases_eq literal.variable v) [
      | inl e ↦ subst (λ u. high_in k (narrowed_by literal cube) u ≡ kept_high k (known ++ literal ∷ []) u) e
          (omega (
            arith,
            high-same k literal cube is.rising at_most,
            is.high literal.variable,
            kept_high-append known (literal ∷ []) literal.variable k,
            one_high k literal at_most,
          ))
      | inr differ ↦ omega (
        arith,
        high-other k literal cube v differ,
        is.high v,
        kept_high-append known (literal ∷ []) v k,
        none_high k literal v differ,
        high_kept_top known v k,
      )
    ];
  }

  -- a cube that is narrowed by literals one after another is the cube of its own and of these: by induction on them
  met_cube : (known cube literals : List Literal) → ((l : Literal) → Contains literals l → l.high ≤ top k l.variable) →
      IsCubeOf k known cube →
      IsCubeOf k (known ++ literals) (met cube literals)
  met_cube known cube [] each is = subst (λ xs. IsCubeOf k xs cube) (sym (append-nil known)) is
  met_cube known cube (l ∷ ls) each is =
      subst (λ xs. IsCubeOf k xs (met (narrowed_by l cube) ls)) (append_assoc known (l ∷ []) ls)
      (met_cube (known ++ l ∷ []) (narrowed_by l cube) ls (λ m there. each m (Contains-rest l ls m there))
      (narrowed_cube known cube l (each l (Contains-first l ls)) is))

  -- a cube met with literals, none of whose highs is past the greatest number of its variable, is narrowed by them
  pub met_narrowed : (literals cube : List Literal) →
      ((l : Literal) → Contains literals l → l.high ≤ top k l.variable) →
      IsNarrowed k literals cube (met cube literals)
  met_narrowed literals cube each = record { by = λ known is. met_cube known cube literals each is }

  -- a cube of some literals is that of others too, if each of the one list is in the other: the ranges that both leave are the
  -- same
  pub same_literals : (xs ys cube : List Literal) → Within xs ys → Within ys xs → IsCubeOf k xs cube →
      IsCubeOf k ys cube
  same_literals xs ys cube to from is = record {
    rising = is.rising;
    spoken = λ l there. let spoken_by = is.spoken l there in (spoken_by.0, to spoken_by.0 spoken_by.1, spoken_by.2);
    low = λ v. omega (arith, is.low v, (kept_grows k xs ys to v).0, (kept_grows k ys xs from v).0);
    high = λ v. omega (arith, is.high v, (kept_grows k xs ys to v).1, (kept_grows k ys xs from v).1);
  }

  -- a cube narrowed by no literals is the same
  pub narrowed_none : (cube : List Literal) → IsNarrowed k [] cube cube
  narrowed_none cube = record { by = λ known is. met_cube known cube [] (λ l there. absurd (Contains-nil l there)) is }

  -- narrowing by some literals and then by others narrows by all of them
  pub narrowed_then : (xs ys a b c : List Literal) → IsNarrowed k xs a b → IsNarrowed k ys b c →
      IsNarrowed k (xs ++ ys) a c
  narrowed_then xs ys a b c by_xs by_ys = record {
    by = λ known is.
        subst (λ ls. IsCubeOf k ls c) (append_assoc known xs ys) (by_ys.by (known ++ xs) (by_xs.by known is));
  }

  -- a cube narrowed by some literals is narrowed by others too, if each of the one list is in the other
  pub narrowed_same : (xs ys a b : List Literal) → Within xs ys → Within ys xs → IsNarrowed k xs a b →
      IsNarrowed k ys a b
  narrowed_same xs ys a b to from narrowed = record {
    by = λ known is. same_literals (known ++ xs) (known ++ ys) b
        (λ l there. elim (Contains-append_cases known xs l there) [
          | inl among ↦ Contains-append_left known ys l among
          | inr i ↦ Contains-append_right known ys l (to l i)
        ])
        (λ l there. elim (Contains-append_cases known ys l there) [
          | inl among ↦ Contains-append_left known xs l among
          | inr i ↦ Contains-append_right known xs l (from l i)
        ])
        (narrowed.by known is);
  }

-- ---- two rising cubes are met by one walk through both

-- a rising cube met with any literals has rising variables: by induction on the literals
pub rising_met : (a b : List Literal) → IsRising a → IsRising (met a b)
rising_met a [] rising = rising
rising_met a (m ∷ ms) rising = rising_met (narrowed_by m a) ms (rising-narrowed m a rising)

-- a first literal on a lower variable than all of the second cube stays first: by induction on the second cube
met-first : (l : Literal) (ls b : List Literal) → ((m : Literal) → Contains b m → l.variable < m.variable) →
    met (l ∷ ls) b ≡ l ∷ met ls b
met-first l ls [] each = refl
met-first l ls (m ∷ ms) each = ap (λ c. met c ms) (narrowed-after m l ls (each m (Contains-first m ms)))
    ∙ met-first l (narrowed_by m ls) ms (λ x there. each x (Contains-rest m ms x there))

-- the cube without literals met with a rising one is that one: by induction on it
pub met-nil : (b : List Literal) → IsRising b → met [] b ≡ b
met-nil [] rising = refl
met-nil (m ∷ ms) rising =
    met-first m [] ms (λ x there. rising_first m x ms rising there)
    ∙ ap (λ c. m ∷ c) (met-nil ms (rising_rest m ms rising))

-- given: two cubes of literals, l and those behind it (`ls`), and m and those behind it (`ms`), of which the second rises
module _ (l : Literal) (ls : List Literal) (m : Literal) (ms : List Literal) (r : IsRising (m ∷ ms)) where
  -- if the first cube's first literal is on the lower variable, it comes first
  pub met-before : l.variable < m.variable → met (l ∷ ls) (m ∷ ms) ≡ l ∷ met ls (m ∷ ms)
  met-before less = met-first l ls (m ∷ ms) (λ x there. elim (Contains-cases m ms x there) [
    | inl s ↦ omega (arith, less, ap (λ (y : Literal). y.variable) s)
    | inr among ↦ omega (arith, less, rising_first m x ms r among)
  ])

  -- if both first literals are on one variable, their meet comes first
  pub met-here : l.variable ≡ m.variable → met (l ∷ ls) (m ∷ ms) ≡ meet_literal m l ∷ met ls ms
  met-here is = ap (λ c. met c ms) (narrowed-here m l ls (sym is))
      ∙ met-first (meet_literal m l) ls ms (λ x there. omega (arith, is, rising_first m x ms r there))

  -- if the second cube's first literal is on the lower variable, it comes first
  pub met-after : m.variable < l.variable → met (l ∷ ls) (m ∷ ms) ≡ m ∷ met (l ∷ ls) ms
  met-after less = ap (λ c. met c ms) (narrowed-before m l ls less)
      ∙ met-first m (l ∷ ls) ms (λ x there. rising_first m x ms r there)

-- ---- a cube met with another cube

-- a rising cube, none of whose highs is past the greatest number of its variable, is the cube of its own literals
pub rising_cube : (k : ℕ) (b : List Literal) → IsRising b → ((l : Literal) → Contains b l → l.high ≤ top k l.variable) →
    IsCubeOf k b b
rising_cube k b rising each = subst (IsCubeOf k b) (met-nil b rising) ((met_narrowed k b [] each).by [] (whole_cube k))

-- A cube met with the cube b of some literals is narrowed by those literals. It is narrowed by the literals of b, which leave
-- the same ranges and are on the same variables.
pub cube_narrowed : (k : ℕ) (literals b cube : List Literal) → IsCubeOf k literals b →
    IsNarrowed k literals cube (met cube b)
cube_narrowed k literals b cube is =
    -- b is also the cube of its own literals, so it leaves the ranges that the given literals leave
    let highs = cube_within k literals b is in
    let own = rising_cube k b is.rising highs in
    record {
      by = λ known was.
          let narrowed = (met_narrowed k b cube highs).by known was in
          record {
            rising = narrowed.rising;
            -- a literal is on a variable of a known literal, or on one of b and so of the given ones
            spoken = λ l there.
                let spoken_by = narrowed.spoken l there in
                elim (Contains-append_cases known b spoken_by.0 spoken_by.1) [
                  | inl in_known ↦ (spoken_by.0, Contains-append_left known literals spoken_by.0 in_known, spoken_by.2)
                  | inr in_own ↦ let spoken_before = is.spoken spoken_by.0 in_own in (
                    spoken_before.0,
                    Contains-append_right known literals spoken_before.0 spoken_before.1,
                    spoken_before.2 ∙ spoken_by.2,
                  )
                ];
            -- lows and highs are those of the known literals with those of b, which are those of the given ones
            low = λ v. omega (
              arith,
              narrowed.low v,
              kept_low-append known b v,
              own.low v,
              is.low v,
              kept_low-append known literals v,
            );
            high = λ v. omega (
              arith,
              narrowed.high v,
              kept_high-append known b v k,
              own.high v,
              is.high v,
              kept_high-append known literals v k,
            );
          };
    }

-- ---- a literal that can be pushed

-- each literal before a place of a rising list is on a lower variable than the one at the place: by induction on those before
front_lower : (xs : List Literal) (l : Literal) (rest : List Literal) → IsRising (xs ++ l ∷ rest) → (m : Literal) →
    Contains xs m →
    m.variable < l.variable
front_lower [] l rest rising m there = absurd (Contains-nil m there)
front_lower (x ∷ xs) l rest rising m there = elim (Contains-cases x xs m there) [
  | inl e ↦ subst (λ (y : Literal). y.variable < l.variable) e
      (rising_first x l (xs ++ l ∷ rest) rising (Contains-append_right xs (l ∷ rest) l (Contains-first l rest)))
  | inr among ↦ front_lower xs l rest (rising_rest x (xs ++ l ∷ rest) rising) m among
]

-- all literals before a place of a rising list are on lower variables than the one at the place
pub all_lower : (xs : List Literal) (l : Literal) (rest : List Literal) → IsRising (xs ++ l ∷ rest) →
    All (λ m. m.variable < l.variable) xs
all_lower xs l rest rising = λ k d within. front_lower xs l rest rising (get_or xs k d) (Contains-get_or xs k d within)

-- ---- on the way through two cubes, up to the literal l of the one and m of the other

-- given: the literals of two rising cubes (`all_ones`, `all_others`), the cube that is met of them so far (`cube`), and
-- those that are left of each (`ones`, `others`).
-- `rises`: the whole rises. `rest`: what is left of the second cube rises. `all`: the whole is the cube so far and then
-- what is left of both, met. `one`, `other`: the first literal that is left of each, and those behind it.
module _ (start cube all_ones all_others ones others : List Literal) (l : Literal) (ls : List Literal) (m : Literal)
    (ms : List Literal)
    (rises : IsRising (start ++ met all_ones all_others)) (rest : IsRising others)
    (all : start ++ met all_ones all_others ≡ cube ++ met ones others)
    (one : ones ≡ l ∷ ls) (other : others ≡ m ∷ ms) where
  -- what is left of the second cube rises, seen by its first literal
  rest_rises : IsRising (m ∷ ms)
  rest_rises = subst IsRising other rest

  -- `all`, with the first literals that are left of each
  here : start ++ met all_ones all_others ≡ cube ++ met (l ∷ ls) (m ∷ ms)
  here = all ∙ ap₂ (λ a b. cube ++ met a b) one other

  -- the next literal x moves from what is left to the cube so far
  push : (x : Literal) (new left : List Literal) → met (l ∷ ls) (m ∷ ms) ≡ x ∷ left → new ≡ cube ++ x ∷ [] →
      start ++ met all_ones all_others ≡ new ++ left
  push x new left e is =
      here ∙ ap (λ c. cube ++ c) e ∙ sym (append_assoc cube (x ∷ []) left) ∙ ap (λ c. c ++ left) (sym is)

  -- the literals so far are on variables below that of the next literal x, as the whole rises
  lower : (x : Literal) (left : List Literal) → met (l ∷ ls) (m ∷ ms) ≡ x ∷ left →
      All (λ y. y.variable < x.variable) cube
  lower x left is = all_lower cube x left (subst IsRising (here ∙ ap (λ c. cube ++ c) is) rises)

  -- if the first cube's literal is on the lower variable, it is above all that were added
  pub lower_before : l.variable < m.variable → All (λ y. y.variable < l.variable) cube
  lower_before less = lower l (met ls (m ∷ ms)) (met-before l ls m ms rest_rises less)

  -- if the second cube's literal is on the lower variable, it is above all that were added
  pub lower_after : m.variable < l.variable → All (λ y. y.variable < m.variable) cube
  lower_after less = lower m (met (l ∷ ls) ms) (met-after l ls m ms rest_rises less)

  -- if both are on one variable, that is above all that were added
  pub lower_here : l.variable ≡ m.variable → All (λ y. y.variable < l.variable) cube
  lower_here is = lower (meet_literal m l) (met ls ms) (met-here l ls m ms rest_rises is)

  -- once the first cube's literal is added, the whole is the new cube and then what is left of both, met
  pub push_before : (new : List Literal) → l.variable < m.variable → new ≡ cube ++ l ∷ [] →
      start ++ met all_ones all_others ≡ new ++ met ls others
  push_before new less is =
      push l new (met ls (m ∷ ms)) (met-before l ls m ms rest_rises less) is ∙ ap (λ b. new ++ met ls b) (sym other)

  -- once the second cube's literal is added, the whole is the new cube and then what is left of both, met
  pub push_after : (new : List Literal) → m.variable < l.variable → new ≡ cube ++ m ∷ [] →
      start ++ met all_ones all_others ≡ new ++ met ones ms
  push_after new less is =
      push m new (met (l ∷ ls) ms) (met-after l ls m ms rest_rises less) is ∙ ap (λ a. new ++ met a ms) (sym one)

  -- once the meet of both literals is added, the whole is the new cube and then what is left of both, met
  pub push_here : (new : List Literal) → l.variable ≡ m.variable → new ≡ cube ++ meet_literal m l ∷ [] →
      start ++ met all_ones all_others ≡ new ++ met ls ms
  push_here new same is = push (meet_literal m l) new (met ls ms) (met-here l ls m ms rest_rises same) is

-- what is left of a rising list behind its first literal rises
pub rising_left : (ls : List Literal) (l : Literal) (left : List Literal) → IsRising ls → ls ≡ l ∷ left → IsRising left
rising_left ls l left rising is = rising_rest l left (subst IsRising is rising)

-- if nothing is left of the first cube, what is left of both, met, is the rest of the second
pub nothing_left : (ls : List Literal) → IsRising ls → (none : List Literal) → none ≡ [] → met none ls ≡ ls
nothing_left ls rising none is = ap (λ a. met a ls) is ∙ met-nil ls rising
