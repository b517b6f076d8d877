-- A play that came to its end has done what is due, and this is orderly.
use Rattle.std.proofs.Common.{ℕ, suc, ◌≡◌, ◌<◌, ◌∙◌, Bool, true, false, not, cond, ◌==◌, List, [], ◌∷◌, ◌++◌, All}
use Rattle.std.proofs.Common.{AllPairs, Contains, IsPermutation, filter, get_or, length, refl, sym, ap, subst}
use Rattle.std.proofs.Common.{arith}
use Rattle.std.specs.List.{flat_map}
use Rattle.std.specs.Prelude.{IsTrue}
use Rattle.std.proofs.lemmas.List.Concat.{flat_map-cons}
use Rattle.std.proofs.lemmas.List.Elements.{All-cons, All-nil}
use Rattle.std.proofs.lemmas.List.Kept.{AllPairs-cons}
use Rattle.std.proofs.lemmas.List.Sorted.{list_any-IsPermutation, sum_by-IsPermutation, Contains-permutation}
use Rattle.std.proofs.lemmas.List.Sorted.{IsPermutation-append, IsPermutation-refl, IsPermutation-sym}
use Rattle.std.proofs.lemmas.List.Sums.{length-filter}
use Rattle.cpg_base.specs.Graph.{Graph, producer}
use Rattle.cpg_base.specs.Numbers.{is_below, numbers_below}
use Rattle.cpg_base.proofs.Below.{below_one_way, not_below_transitive}
use Rattle.cpg_base.proofs.Lists.{Contains-first, Contains-rest, numbers-Contains}
use Rattle.cpg_base.proofs.Pairs.{AllPairs-nil, AllPairs-rest}
use Rattle.cpg_base.proofs.Sorted.{inserted, sorted, permutation_sorted}
use Rattle.cpg_base.specs.Scenario.{Scenario}
use Rattle.cpg_node.specs.Dispatcher.{Act, Ended}
use Rattle.cpg_cluster.specs.Cluster.{Cluster, Done, answer}
use Rattle.cpg_cluster.specs.Correct.{IsCorrect, IsDue, FollowsDue, ArePlannedEnds, IsOrderly, IsStartAct, IsSendAct}
use Rattle.cpg_cluster.specs.Correct.{all_asked, asked_of, due_key, end_key, ends_asked, gives_end, gives_input}
use Rattle.cpg_cluster.specs.Driving.{AllDone}
use Rattle.cpg_cluster.specs.Laws.{PlaysThatEndAreAlike}
use Rattle.cpg_cluster.specs.Playing.{Playing, IsPlaying}
use Rattle.cpg_cluster.specs.Whole.{IsWholePlay, all_acts}
use Rattle.cpg_cluster.proofs.Plays.{valid_tables_are_correct}
use Rattle.cpg_cluster.proofs.Ends.{valid_tables_end_as_planned}

-- ---- a sort by keys

-- given keys by which a list is to be sorted
module _ {X : Type 0} (key : X → List ℕ) where
  -- whether an element may come before another: the other's key is not below its own
  abbrev pub precedes : X → X → Bool
  precedes x y = not (is_below (key y) (key x))

  -- the key of the second isn't below that of the first
  abbrev InOrder : X → X → Type 0
  InOrder a b = is_below (key b) (key a) ≡ false

  -- if a fact holds of x and of all elements, it holds of all once x is inserted; by induction on `ys`
  all_inserted : (P : X → Type 0) (x : X) (ys : List X) → P x → All P ys → All P (inserted precedes x ys)
  all_inserted P x [] p all = All-cons P x [] p all
  all_inserted P x (y ∷ ys) p all = go (precedes x y) (all_inserted P x ys p (λ k d l. all (suc k) d (omega arith)))
    where
      -- whether x comes before y or further on
      go : (b : Bool) → All P (inserted precedes x ys) → All P (cond b (x ∷ y ∷ ys) (y ∷ inserted precedes x ys))
      go true ih = All-cons P x (y ∷ ys) p all
      go false ih = All-cons P y (inserted precedes x ys) (all 0 y (omega arith)) ih

  -- a list that is in order stays so once x is inserted; by induction on `ys`
  in_order_inserted : (x : X) (ys : List X) → AllPairs InOrder ys → AllPairs InOrder (inserted precedes x ys)
  in_order_inserted x [] ordered = AllPairs-cons InOrder x [] (All-nil (InOrder x)) (AllPairs-nil InOrder)
  in_order_inserted x (y ∷ ys) ordered =
      go (is_below (key y) (key x)) refl (in_order_inserted x ys (AllPairs-rest InOrder y ys ordered))
    where
      -- y comes before all that follow it
      after : All (InOrder y) ys
      after = λ k d l. ordered 0 (suc k) d (omega arith) (omega arith)

      -- whether x comes before y, and so before all, or further on
      go : (b : Bool) → is_below (key y) (key x) ≡ b → AllPairs InOrder (inserted precedes x ys) →
          AllPairs InOrder (cond (not b) (x ∷ y ∷ ys) (y ∷ inserted precedes x ys))
      go false is ih = AllPairs-cons InOrder x (y ∷ ys) (All-cons (InOrder x) y ys is
          (λ k d l. not_below_transitive (key x) (key y) (key (get_or ys k d)) is (after k d l))) ordered
      go true is ih = AllPairs-cons InOrder y (inserted precedes x ys)
          (all_inserted (InOrder y) x ys (below_one_way (key y) (key x) is) after) ih

  -- a sorted list is in the order of its keys; by induction on the list
  pub in_order_sorted : (xs : List X) → AllPairs (λ a b. is_below (key b) (key a) ≡ false) (sorted precedes xs)
  in_order_sorted [] = AllPairs-nil InOrder
  in_order_sorted (x ∷ xs) = in_order_inserted x (sorted precedes xs) (in_order_sorted xs)

-- ---- what is done in another order is as orderly

-- if h gives what f gives in another order, for each element, so it does for all together; by induction on `xs`
pieces_permuted : {X : Type 0} (f h : ℕ → List X) (xs : List ℕ) →
    ((x : ℕ) → Contains xs x → IsPermutation (f x) (h x)) →
    IsPermutation (flat_map f xs) (flat_map h xs)
pieces_permuted f h [] each = IsPermutation-refl []
pieces_permuted f h (x ∷ xs) each =
    subst (λ ys. IsPermutation ys (flat_map h (x ∷ xs))) (sym (flat_map-cons f x xs))
    (subst (λ ys. IsPermutation (f x ++ flat_map f xs) ys) (sym (flat_map-cons h x xs))
    (IsPermutation-append (f x) (h x) (flat_map f xs) (flat_map h xs) (each x (Contains-first x xs))
    (pieces_permuted f h xs (λ y there. each y (Contains-rest x xs y there)))))

-- of a list `xs` and the same list in another order, `ys`, as many elements pass test `p`
length_filter_permuted : {X : Type 0} (p : X → Bool) (xs ys : List X) → IsPermutation xs ys →
    length (filter p ys) ≡ length (filter p xs)
length_filter_permuted p xs ys same =
    length-filter p ys ∙ sum_by-IsPermutation (λ x. cond (p x) 1 0) xs ys same ∙ sym (length-filter p xs)

-- given the same acts in two orders
module _ (g : Graph) (s : Scenario) (xs ys : List Act) (same : IsPermutation xs ys) where
  -- an act of the second order is one of the first
  back : (a : Act) → Contains ys a → Contains xs a
  back a there = Contains-permutation ys xs a (IsPermutation-sym xs ys same) there

  -- a start of the second order is one of the first
  starts_back : (a : Act) → IsStartAct g ys a → IsStartAct g xs a
  starts_back a is_start = (back a is_start.0, is_start.1)

  -- a send of the second order is one of the first
  sends_back : (a : Act) → IsSendAct g ys a → IsSendAct g xs a
  sends_back a is_send = (back a is_send.0, is_send.1)

  -- acts that are orderly are so in another order, as each clause is of single acts, of pairs, or of how many there are
  pub orderly_permuted : IsOrderly g s xs → IsOrderly g s ys
  orderly_permuted o = record {
    once = λ x l. length_filter_permuted (λ (a : Act). a.item == x) xs ys same ∙ o.once x l;
    released = λ a is_start. o.released a (starts_back a is_start);
    inputs = λ a e is_start c.
        subst IsTrue (list_any-IsPermutation (gives_input g s e a.time) xs ys same)
        (o.inputs a e (starts_back a is_start) c);
    processors = λ a b m n. o.processors a b (starts_back a m) (starts_back b n);
    produced = λ a is_send. subst IsTrue (list_any-IsPermutation (gives_end g s (producer g a.item) a.time) xs ys same)
        (o.produced a (sends_back a is_send));
    slots = λ a is_send. o.slots a (sends_back a is_send);
    unshared = λ a b m n. o.unshared a b (sends_back a m) (sends_back b n);
    in_time = λ a is_start. o.in_time a (starts_back a is_start);
  }

-- ---- a play that came to its end

-- given a play in which every node is done
module _ (p : Playing) (playing : IsPlaying p) (done : AllDone p.graph p.cluster) where
  -- the acts that are due on a node, sorted
  abbrev acts_due : ℕ → List Act
  acts_due node = sorted (precedes (due_key p.graph)) (asked_of p.tables p.world.scenario node)

  -- these are all of them, in their order
  due : (node : ℕ) → IsDue p.graph p.tables p.world.scenario node (acts_due node)
  due node = record {
    all = permutation_sorted (precedes (due_key p.graph)) (asked_of p.tables p.world.scenario node);
    in_order =
        in_order_sorted (due_key p.graph) (asked_of p.tables p.world.scenario node);
  }

  -- the ends that are due on a node, sorted by time
  abbrev ends_due : ℕ → List (ℕ × Ended)
  ends_due node = sorted (precedes end_key) (ends_asked p.graph p.tables p.world.scenario node)

  -- these are all of them, in their order
  planned : (node : ℕ) → ArePlannedEnds p.graph p.tables p.world.scenario node (ends_due node)
  planned node = record {
    all = permutation_sorted (precedes end_key) (ends_asked p.graph p.tables p.world.scenario node);
    in_order =
        in_order_sorted end_key (ends_asked p.graph p.tables p.world.scenario node);
  }

  -- the tables are valid, so every play is correct
  correct : IsCorrect p.graph p.tables
  correct = valid_tables_are_correct p.graph p.tables playing.formed playing.shape playing.valid

  -- in this play each node follows what is due
  follows : FollowsDue p.graph p.tables p.world.scenario p.cluster
  follows = subst (FollowsDue p.graph p.tables p.world.scenario) playing.played.is
      (correct.plays p.world playing.played.turns playing.world)

  -- each node has done what is due on it
  pub acts_are_due : (node : ℕ) → node < length p.graph.nodes → get_or p.cluster.acts node [] ≡ acts_due node
  acts_are_due node within = follows.whole node (acts_due node) within (due node) (done node within)

  -- each node has reached the ends that are due
  pub ends_are_due : (node : ℕ) → node < length p.graph.nodes → get_or p.cluster.ends node [] ≡ ends_due node
  ends_are_due node within =
      let whole = (valid_tables_end_as_planned p.graph p.tables playing.formed playing.shape playing.valid).whole
      p.world playing.played.turns node (ends_due node) playing.world within (planned node) in
      subst (λ (c : Cluster). answer p.graph c node ≡ Done → get_or c.ends node [] ≡ ends_due node) playing.played.is
      whole (done node within)

  -- the acts of each node are what is due on it
  acts_done : (node : ℕ) → node < length p.graph.nodes →
      IsDue p.graph p.tables p.world.scenario node (get_or p.cluster.acts node [])
  acts_done node within = subst (IsDue p.graph p.tables p.world.scenario node)
      (sym (acts_are_due node within)) (due node)

  -- the ends of each node are the planned ones
  ends_done : (node : ℕ) → node < length p.graph.nodes →
      ArePlannedEnds p.graph p.tables p.world.scenario node (get_or p.cluster.ends node [])
  ends_done node within =
      subst (ArePlannedEnds p.graph p.tables p.world.scenario node) (sym (ends_are_due node within)) (planned node)

  -- The play is whole. What was done on all nodes is what is due on them in another order, so it is orderly.
  pub done_whole : IsWholePlay p.graph p.tables p.world p.cluster
  done_whole = record {
    played = playing.played;
    acts = acts_done;
    ends = ends_done;
    orderly = orderly_permuted p.graph p.world.scenario (all_asked p.graph p.tables p.world.scenario)
        (all_acts p.graph p.cluster)
        (pieces_permuted (asked_of p.tables p.world.scenario) (λ node. get_or p.cluster.acts node [])
        (numbers_below (length p.graph.nodes))
        (λ node there. (acts_done node (numbers-Contains (length p.graph.nodes) node there)).all))
        (correct.orderly p.world.scenario playing.world.scenario);
  }

-- the same for a play of which the state at the beginning is known too, as nothing else changes
pub whole_play : (old new : Playing) → new ≡ record old { cluster = new.cluster } → IsPlaying new →
    AllDone old.graph new.cluster →
    IsWholePlay old.graph old.tables old.world new.cluster
whole_play old new same playing done = subst (λ (p : Playing). IsWholePlay p.graph p.tables p.world new.cluster) same
    (done_whole new playing
    (subst (λ (g : Graph). AllDone g new.cluster) (sym (ap (λ (p : Playing). p.graph) same)) done))

-- Two plays of one world that came to their ends did the same: what is due, sorted, which doesn't depend on the play.
pub plays_that_end_are_alike : PlaysThatEndAreAlike
plays_that_end_are_alike p other one two done over = record {
  acts = λ node within. acts_are_due p one done node within
      ∙ sym (acts_are_due (record p { cluster = other }) two over node within);
  ends = λ node within. ends_are_due p one done node within
      ∙ sym (ends_are_due (record p { cluster = other }) two over node within);
}
