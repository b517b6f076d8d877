-- Shared parts make the trees that the definitions compose, and keep what was made before. In the lemmas a, b, c and d
-- are the shared parts after more and more are made, and n and m are numbers of parts.
use Rattle.std.proofs.Common.{ℕ, zero, suc, ◌<◌, ◌≡◌, Bool, true, false, not, ◌==◌, if◌then◌else◌, List, [], ◌∷◌}
use Rattle.std.proofs.Common.{length, set, replicate, Option, Some, None, refl, sym, ap, ap₂, ◌∙◌, subst}
use Rattle.std.proofs.Common.{length-set}
use Rattle.std.proofs.lemmas.List.Elements.{All-set}
use Rattle.cpg_base.specs.Graph.{Graph}
use Rattle.cpg_order.specs.Guard.{Guard}
use Rattle.cpg_rules.specs.declared.shared.SharedPart.{SharedPart}
use Rattle.cpg_rules.specs.declared.steps.Input.{Input}
use Rattle.cpg_rules.specs.Steps.{ActivationStep}
use Rattle.cpg_rules.specs.Composing.{input_tree, met, with_later, composed, composed_along}
use Rattle.cpg_rules.specs.Apart.{are_both_live, union_with, union, is_apart, are_apart}
use Rattle.cpg_rules.specs.Sharing.{Sharing, tree_at, Extends, Makes, MakesUnion, trees_of, AreRoots, AreTreesOf}
use Rattle.cpg_rules.proofs.Sharing.{extends_both, makes_extends, same_trees, roots_stay, map_set}

-- roots that all are one part stand for the same tree, once for each process
pub seeded : (parts : List SharedPart) (count n : ℕ) (roots : List ℕ) (t : Guard) → roots ≡ replicate count n →
    tree_at parts n ≡ t →
    trees_of parts roots ≡ replicate count t
seeded parts count n roots t n_is is = ap (trees_of parts) n_is ∙ go count
  where
    -- by induction on the number of copies
    go : (k : ℕ) → trees_of parts (replicate k n) ≡ replicate k t
    go zero = refl
    go (suc k) = ap₂ (λ u us. u ∷ us) is (go k)

-- ---- the tree of a process

-- if there are later inputs, the first tree is met with theirs
first_with : (join : Bool) (ranks : List ℕ) (left : List Input) (first later : Guard) → (length left == 0) ≡ false →
    with_later join ranks left first later ≡ met join ranks first later
first_with join ranks [] first later is_false = cc
first_with join ranks (i ∷ is) first later is_false = refl

-- given: the roots of some processes, and inputs that begin with one
-- `are`: each process has a root among the parts of a. `all`: the inputs are the first one and those left.
module _ (g : Graph) (join : Bool) (a b c d : Sharing) (count : ℕ) (roots : List ℕ) (are : AreRoots a.parts count roots)
    (input : Input) (left inputs : List Input) (all : inputs ≡ input ∷ left) where
  -- the tree of the first input and that of the later inputs make the tree of all inputs
  pub composed_more : (length left == 0) ≡ false → (n m r : ℕ) →
      Makes a b (input_tree g join (trees_of a.parts roots) input) n
      → Makes b c (composed g join b.ranks (trees_of b.parts roots) left) m
      → Makes c d (met join c.ranks (tree_at c.parts n) (tree_at c.parts m)) r
      → Makes a d (composed g join a.ranks (trees_of a.parts roots) inputs) r
  composed_more some n m r first later last =
      let whole = makes_extends a b c (input_tree g join (trees_of a.parts roots) input) n first later.more in
      let more = later.is ∙ ap₂ (λ ranks trees. composed g join ranks trees left) first.more.ranks
      (same_trees a b roots first.more are.within) in
      record {
        more = extends_both a c d whole.more last.more;
        within = last.within;
        is = last.is ∙ ap (λ ranks. met join ranks (tree_at c.parts n) (tree_at c.parts m)) whole.more.ranks
            ∙ ap₂ (met join a.ranks) whole.is more
            ∙ sym (first_with join a.ranks left (input_tree g join (trees_of a.parts roots) input)
            (composed g join a.ranks (trees_of a.parts roots) left) some)
            ∙ ap (composed g join a.ranks (trees_of a.parts roots)) (sym all);
      }

-- ---- along the steps

-- given: roots of the processes, and a part n that is made with the tree t of process p
module _ (a b : Sharing) (count p n : ℕ) (roots : List ℕ) (t : Guard) (are : AreRoots a.parts count roots)
    (made : Makes a b t n) where
  -- the root of one more process is set
  pub step_roots : AreRoots b.parts count (set roots p n)
  step_roots = record {
    all = length-set roots p n ∙ are.all;
    within = All-set (λ m. m < length b.parts) roots p n made.within (roots_stay a b count roots made.more are).within;
  }

  -- with the new root the process has the new tree
  pub step_trees : trees_of b.parts (set roots p n) ≡ set (trees_of a.parts roots) p t
  step_trees = map_set b.parts roots p n ∙ ap₂ (λ ts u. set ts p u) (same_trees a b roots made.more are.within) made.is

-- After one more step the trees are those of the rest of the steps.
-- The step's own values take the place of the definition's one by one; `step_trees` says that one root is set.
pub step_along : (g : Graph) (a b : Sharing) (count p n : ℕ) (roots : List ℕ) (are : AreRoots a.parts count roots)
    (join : Bool) (inputs : List Input)
    (made : Makes a b (composed g join a.ranks (trees_of a.parts roots) inputs) n)
    (steps rest : List ActivationStep) (step : ActivationStep) → steps ≡ step ∷ rest → p ≡ step.process →
    join ≡ step.join → inputs ≡ step.inputs
    → composed_along g a.ranks steps (trees_of a.parts roots)
    ≡ composed_along g b.ranks rest (trees_of b.parts (set roots p n))
step_along g a b count p n roots are join inputs made steps rest step all process joins ins =
    ap (λ ss. composed_along g a.ranks ss (trees_of a.parts roots)) all
    ∙ ap (λ q. composed_along g a.ranks rest (set (trees_of a.parts roots) q
    (composed g step.join a.ranks (trees_of a.parts roots) step.inputs))) (sym process)
    ∙ ap₂ (λ j is. composed_along g a.ranks rest
    (set (trees_of a.parts roots) p (composed g j a.ranks (trees_of a.parts roots) is))) (sym joins) (sym ins)
    ∙ ap (composed_along g a.ranks rest)
    (sym (step_trees a b count p n roots (composed g join a.ranks (trees_of a.parts roots) inputs) are made))
    ∙ ap (λ ranks. composed_along g ranks rest (trees_of b.parts (set roots p n))) (sym made.more.ranks)

-- ---- the inputs of a join

-- the tree of inputs with one more before them
abbrev with_first : List ℕ → Guard → Option Guard → Option Guard
with_first ranks first None = None
with_first ranks first (Some later) = if are_both_live ranks first later then None
    else Some (met true ranks first later)

-- the tree of all inputs is that of the later ones with the first before it
union_first : (ranks : List ℕ) (left : List Input) (first : Guard) (x : Option Guard) → (length left == 0) ≡ false →
    with_first ranks first x ≡ union_with ranks left first x
union_first ranks [] first x is_false = cc
union_first ranks (i ∷ is) first None is_false = refl
union_first ranks (i ∷ is) first (Some later) is_false = refl

-- given: inputs with more than one element, and the part that was made of the first
-- `are`: each process has a root among the parts of a. `all`, `some`: more inputs follow the first. `made`: n is the
-- part of the first one's tree.
module _ (g : Graph) (a b c : Sharing) (count : ℕ) (roots : List ℕ) (are : AreRoots a.parts count roots) (input : Input)
    (left inputs : List Input) (all : inputs ≡ input ∷ left)
    (some : (length left == 0) ≡ false) (n : ℕ)
    (made : Makes a b (input_tree g true (trees_of a.parts roots) input) n) where
  -- the tree of the first, and of the later ones
  abbrev its : Guard
  its = input_tree g true (trees_of a.parts roots) input

  -- the union of the other inputs, with the parts so far
  abbrev later : Option Guard
  later = union g b.ranks (trees_of b.parts roots) left

  -- the tree of the later inputs is the one by the parts from before, since parts are only added
  later_is : later ≡ union g a.ranks (trees_of a.parts roots) left
  later_is = ap₂ (λ ranks trees. union g ranks trees left) made.more.ranks (same_trees a b roots made.more are.within)

  -- with the first input it is the union of all
  whole_is : with_first a.ranks its later ≡ union g a.ranks (trees_of a.parts roots) inputs
  whole_is = union_first a.ranks left its later some ∙ ap (union_with a.ranks left its) later_is
      ∙ ap (union g a.ranks (trees_of a.parts roots)) (sym all)

  -- if the later inputs have no tree, all inputs have none
  none_later : (x : Option Guard) → MakesUnion b c x None → MakesUnion a c (with_first a.ranks its x) None
  none_later None h = extends_both a b c made.more h
  none_later (Some t) h = absurd h

  -- if the later inputs have no tree, all inputs have none
  pub union_none : (y : Option ℕ) → y ≡ None → MakesUnion b c (union g b.ranks (trees_of b.parts roots) left) y →
      MakesUnion a c (union g a.ranks (trees_of a.parts roots) inputs) None
  union_none y same h = subst (λ x. MakesUnion a c x None) whole_is
      (none_later later (subst (MakesUnion b c later) same h))

  -- given: the part m that the tree of the later inputs is in
  module _ (m : ℕ) where
    -- whether two trees are live at once is asked of their parts
    same_live : (t : Guard) (second : Makes b c t m) →
        are_both_live a.ranks its t ≡ are_both_live c.ranks (tree_at c.parts n) (tree_at c.parts m)
    same_live t second =
        let whole = makes_extends a b c its n made second.more in
        sym (ap₂ (are_both_live a.ranks) whole.is second.is)
        ∙ ap (λ ranks. are_both_live ranks (tree_at c.parts n) (tree_at c.parts m)) (sym whole.more.ranks)

    -- if the first tree is live at once with a later one, there is no tree of all inputs
    live_later : (x : Option Guard) → MakesUnion b c x (Some m) →
        are_both_live c.ranks (tree_at c.parts n) (tree_at c.parts m) ≡ true →
        MakesUnion a c (with_first a.ranks its x) None
    live_later None h live = absurd h
    live_later (Some t) h live = subst (λ v. MakesUnion a c (if v then None else Some (met true a.ranks its t)) None)
        (sym (same_live t h ∙ live)) (extends_both a b c made.more h.more)

    -- if the first input is live at once with a later one, the inputs have no tree
    pub union_live : (y : Option ℕ) → y ≡ Some m → MakesUnion b c (union g b.ranks (trees_of b.parts roots) left) y →
        are_both_live c.ranks (tree_at c.parts n) (tree_at c.parts m) ≡ true
        → MakesUnion a c (union g a.ranks (trees_of a.parts roots) inputs) None
    union_live y is h live =
        subst (λ x. MakesUnion a c x None) whole_is (live_later later (subst (MakesUnion b c later) is h) live)

    -- given: a part r in which the first tree and the later ones meet, as `last` says
    module _ (d : Sharing) (r : ℕ) (last : Makes c d (met true c.ranks (tree_at c.parts n) (tree_at c.parts m)) r) where
      -- if the first tree and the later ones are never live at once, the part where they meet is the union
      apart_later : (x : Option Guard) → MakesUnion b c x (Some m) →
          are_both_live c.ranks (tree_at c.parts n) (tree_at c.parts m) ≡ false →
          MakesUnion a d (with_first a.ranks its x) (Some r)
      apart_later None h apart = absurd h
      apart_later (Some t) h apart =
          let whole = makes_extends a b c its n made h.more in
          subst (λ v. MakesUnion a d (if v then None else Some (met true a.ranks its t)) (Some r))
          (sym (same_live t h ∙ apart)) (record {
            more = extends_both a c d whole.more last.more;
            within = last.within;
            is = last.is ∙ ap (λ ranks. met true ranks (tree_at c.parts n) (tree_at c.parts m)) whole.more.ranks
                ∙ ap₂ (met true a.ranks) whole.is h.is;
          })

      -- if the first input is never live at once with a later one, both trees make the tree of all inputs
      pub union_apart : (y : Option ℕ) → y ≡ Some m → MakesUnion b c (union g b.ranks (trees_of b.parts roots) left) y →
          are_both_live c.ranks (tree_at c.parts n) (tree_at c.parts m) ≡ false
          → MakesUnion a d (union g a.ranks (trees_of a.parts roots) inputs) (Some r)
      union_apart y is h apart =
          subst (λ x. MakesUnion a d x (Some r)) whole_is (apart_later later (subst (MakesUnion b c later) is h) apart)

-- making a union only adds parts, whether there is a union or not
pub union_extends : (a b : Sharing) (x : Option Guard) (y : Option ℕ) → MakesUnion a b x y → Extends a b
union_extends a b None None h = h
union_extends a b None (Some n) h = absurd h
union_extends a b (Some t) None h = absurd h
union_extends a b (Some t) (Some n) h = h.more

-- the first input is apart from the later ones exactly if it isn't live at once with their union
apart_first : (g : Graph) (a b c : Sharing) (roots : List ℕ) (first : Guard) (n m : ℕ) (x : Option Guard) →
    MakesUnion a b x (Some m) →
    Makes b c first n
    → not (are_both_live c.ranks (tree_at c.parts n) (tree_at c.parts m)) ≡ is_apart a.ranks first x
apart_first g a b c roots first n m None h made = absurd h
apart_first g a b c roots first n m (Some t) h made =
    let whole = makes_extends a b c t m h made.more in
    ap not (ap (λ ranks. are_both_live ranks (tree_at c.parts n) (tree_at c.parts m)) whole.more.ranks
    ∙ ap₂ (are_both_live a.ranks) made.is whole.is)

-- The inputs are apart exactly if the first is never live at once with a later one.
-- The later ones have a tree, so no two of them are live at once.
pub apart_more : (g : Graph) (a b c : Sharing) (count : ℕ) (roots : List ℕ) (are : AreRoots a.parts count roots)
    (input : Input) (left inputs : List Input) (all : inputs ≡ input ∷ left)
    (n m : ℕ) (y : Option ℕ) → y ≡ Some m → MakesUnion a b (union g a.ranks (trees_of a.parts roots) left) y →
    Makes b c (input_tree g true (trees_of b.parts roots) input) n
    → not (are_both_live c.ranks (tree_at c.parts n) (tree_at c.parts m))
    ≡ are_apart g a.ranks (trees_of a.parts roots) inputs
apart_more g a b c count roots are input left inputs all n m y is h made =
    apart_first g a b c roots (input_tree g true (trees_of b.parts roots) input) n m
    (union g a.ranks (trees_of a.parts roots) left)
    (subst (MakesUnion a b (union g a.ranks (trees_of a.parts roots) left)) is h) made
    ∙ ap (λ trees. is_apart a.ranks (input_tree g true trees input) (union g a.ranks (trees_of a.parts roots) left))
    (same_trees a b roots (union_extends a b (union g a.ranks (trees_of a.parts roots) left) y h) are.within)
    ∙ ap (are_apart g a.ranks (trees_of a.parts roots)) (sym all)

-- a union that was made stays when parts are added
pub union_stays : (a b c : Sharing) (x : Option Guard) (y : Option ℕ) → MakesUnion a b x y → Extends b c →
    MakesUnion a c x y
union_stays a b c None None h e = extends_both a b c h e
union_stays a b c None (Some n) h e = absurd h
union_stays a b c (Some t) None h e = absurd h
union_stays a b c (Some t) (Some n) h e = makes_extends a b c t n h e

-- the trees of guards stay when parts are added
pub trees_stay : (g : Graph) (a b : Sharing) (roots : List ℕ) (count : ℕ) → Extends a b → AreRoots a.parts count roots →
    AreTreesOf g (trees_of a.parts roots) →
    AreTreesOf g (trees_of b.parts roots)
trees_stay g a b roots count more are of = subst (AreTreesOf g) (sym (same_trees a b roots more are.within)) of
