-- Choices: nodes are asked one after another until one takes its turn.
use Rattle.std.proofs.Common.{◌≡◌, ℕ, zero, suc, ◌+◌, ◌<◌, ◌≤◌, ◌%◌, true, false, List, [], ◌∷◌, length, drop, get_or}
use Rattle.std.proofs.Common.{set, refl, sym, ap, ap₂, ◌∙◌, arith, true≢false, drop-cons, add-one}
use Rattle.std.specs.Prelude.{sum_by}
use Rattle.std.proofs.lemmas.List.{length-map}
use Rattle.std.proofs.lemmas.List.Sums.{sum_by-set}
use Rattle.std.proofs.lemmas.List.FromFn.{length-range_with_len}
use Rattle.cpg_base.specs.Graph.{Graph}
use Rattle.cpg_base.specs.Numbers.{numbers_below}
use Rattle.cpg_base.proofs.Lists.{get_or-map-below}
use Rattle.cpg_node.specs.Dispatcher.{Dispatcher, next}
use Rattle.cpg_cluster.specs.Cluster.{World, Cluster, Answer, Took, Waits, Done, step_by, step, answer, dispatcher_at}
use Rattle.cpg_cluster.specs.Playing.{Playing, stepped}
use Rattle.cpg_cluster.specs.Driving.{circle, Choice, chosen, choose}
use Rattle.cpg_node.specs.Instants.{instants_left}

-- if node `a` gets a dispatcher `d` with fewer instants left than its own, all nodes together have fewer left; `e` is
-- only the default of the look-up
pub nearer_set : (nodes : List Dispatcher) (a : ℕ) (d e : Dispatcher) → a < length nodes →
    instants_left d < instants_left (get_or nodes a e) →
    sum_by instants_left (set nodes a d) < sum_by instants_left nodes
nearer_set nodes a d e within less = omega (arith, sum_by-set instants_left nodes a d e within, less)

-- the node that is asked at a place of the circle
pub circle_at : (nodes first i : ℕ) → i < nodes →
    drop i (circle nodes first) ≡ ((first + i) % nodes) ∷ drop (i + 1) (circle nodes first)
circle_at nodes first i less =
    let long : i < length (circle nodes first) =
    omega (arith, less, length-map (numbers_below nodes) (λ i. (first + i) % nodes), length-range_with_len 0 nodes) in
    drop-cons (circle nodes first) i 0 long ∙ ap₂ ◌∷◌ (get_or-map-below (λ i. (first + i) % nodes) nodes i 0 less)
    (ap (λ m. drop m (circle nodes first)) (sym (add-one i)))

-- A choice round the circle after `asked` asks without a turn, of which `waits` were answered by waiting: what is left
-- of it leads to the same state, with those waits to the same number of waits, and takes a turn exactly if the whole
-- does.
pub record IsChoosing (g : Graph) (w : World) (c : Cluster) (nodes first asked waits : ℕ) : Type 0 where
  -- what is left leads to the same state
  pub cluster : (choose g w c (drop asked (circle nodes first))).cluster ≡ (choose g w c (circle nodes first)).cluster
  -- the waits so far and those of what is left are those of the whole choice
  pub waits' : waits + (choose g w c (drop asked (circle nodes first))).waits
      ≡ (choose g w c (circle nodes first)).waits
  -- what is left takes a turn exactly if the whole choice does
  pub took : (choose g w c (drop asked (circle nodes first))).took ≡ (choose g w c (circle nodes first)).took
  -- no more nodes answered by waiting than were asked
  pub few : waits ≤ asked

-- before the first ask, with nobody asked and nobody waiting, all of the choice from node `first` on is left
pub choosing_none : (g : Graph) (w : World) (c : Cluster) (nodes first : ℕ) → IsChoosing g w c nodes first 0 0
choosing_none g w c nodes first = record { cluster = refl; waits' = omega arith; took = refl; few = omega arith }

-- given a choice under way, in which not all nodes have been asked
module _ (g : Graph) (w : World) (c : Cluster) (nodes first asked waits : ℕ)
    (choosing : IsChoosing g w c nodes first asked waits) (l : asked < nodes) where
  -- what is left of the choice goes on as the next node answers
  here : (ans : Answer) → answer g c ((first + asked) % nodes) ≡ ans →
      choose g w c (drop asked (circle nodes first)) ≡ chosen g w c ((first + asked) % nodes) ans
      (choose g w c (drop (asked + 1) (circle nodes first)))
  here ans is = ap (choose g w c) (circle_at nodes first asked l)
      ∙ ap (λ ans. chosen g w c ((first + asked) % nodes) ans (choose g w c (drop (asked + 1) (circle nodes first)))) is

  -- if the next node waits, the rest of the choice is left, with one more wait
  pub choosing_waits : (b : ℕ) → answer g c ((first + asked) % nodes) ≡ Waits b →
      IsChoosing g w c nodes first (asked + 1) (waits + 1)
  choosing_waits b is = let one = here (Waits b) is in record {
    cluster = sym (ap (λ (r : Choice). r.cluster) one) ∙ choosing.cluster;
    waits' = omega (arith, ap (λ (r : Choice). r.waits) one, choosing.waits');
    took = sym (ap (λ (r : Choice). r.took) one) ∙ choosing.took;
    few = omega (arith, choosing.few);
  }

  -- if the next node is done, the rest of the choice is left
  pub choosing_done : answer g c ((first + asked) % nodes) ≡ Done → IsChoosing g w c nodes first (asked + 1) waits
  choosing_done is_done = let one = here Done is_done in record {
    cluster = sym (ap (λ (r : Choice). r.cluster) one) ∙ choosing.cluster;
    waits' = omega (arith, ap (λ (r : Choice). r.waits) one, choosing.waits');
    took = sym (ap (λ (r : Choice). r.took) one) ∙ choosing.took;
    few = omega (arith, choosing.few);
  }

  -- if the next node takes its turn, the choice ends with its step and the waits so far
  pub chosen_took : answer g c ((first + asked) % nodes) ≡ Took →
      ((choose g w c (circle nodes first)).cluster ≡ step g w c ((first + asked) % nodes)) ×
      ((choose g w c (circle nodes first)).waits ≡ waits)
  chosen_took takes = let one = here Took takes in (
    sym choosing.cluster ∙ ap (λ (r : Choice). r.cluster) one,
    let more_waits = ap (λ (r : Choice). r.waits) one in omega (arith, more_waits, choosing.waits'),
  )

-- nothing is left of `xs` after `n` elements, if it has no more
drop_all : {X : Type 0} (n : ℕ) (xs : List X) → length xs ≤ n → drop n xs ≡ []
drop_all zero [] at_most = refl
drop_all (suc n) [] at_most = refl
drop_all zero (x ∷ xs) at_most = absurd (omega arith)
drop_all (suc n) (x ∷ xs) at_most = drop_all n xs (omega arith)

-- if `asked` nodes, which are all, were asked without a turn and `waits` of them waited, the choice leaves state `c` as
-- it was, has these waits and takes no turn
pub chosen_none : (g : Graph) (w : World) (c : Cluster) (nodes first asked waits : ℕ) →
    IsChoosing g w c nodes first asked waits → nodes ≤ asked →
    ((choose g w c (circle nodes first)).cluster ≡ c) × ((choose g w c (circle nodes first)).waits ≡ waits) ×
    ((choose g w c (circle nodes first)).took ≡ false)
chosen_none g w c nodes first asked waits choosing at_most =
    let none = ap (choose g w c) (drop_all asked (circle nodes first) (omega
    (arith, at_most, length-map (numbers_below nodes) (λ i. (first + i) % nodes), length-range_with_len 0 nodes))) in (
      sym choosing.cluster ∙ ap (λ (r : Choice). r.cluster) none,
      (let more_waits = ap (λ (r : Choice). r.waits) none in omega (arith, more_waits, choosing.waits')),
      sym choosing.took ∙ ap (λ (r : Choice). r.took) none,
    )

-- The steps of a choice, as code takes them.

-- if node `a` answers that it waits on `b`, asking it leaves state `c` as it was
still_waits : (g : Graph) (w : World) (c : Cluster) (a b : ℕ) → Waits b ≡ answer g c a → step g w c a ≡ c
still_waits g w c a b is = λ i. step_by g w c a (sym is i) (next (dispatcher_at c a))

-- if node `a` answers that it is done, asking it leaves state `c` as it was
still_done : (g : Graph) (w : World) (c : Cluster) (a : ℕ) → Done ≡ answer g c a → step g w c a ≡ c
still_done g w c a is = λ i. step_by g w c a (sym is i) (next (dispatcher_at c a))

-- given the play before a choice, as it is after some asks, and after the next ask
module _ (old now new : Playing) (nodes first asked waits : ℕ) (count : nodes ≡ length old.graph.nodes)
    (same : now ≡ old) (stepped' : new ≡ stepped now ((first + asked) % nodes))
    (choosing : IsChoosing old.graph old.world old.cluster nodes first asked waits) (l : asked < nodes) where
  -- an answer in the state after the asks is one in the state before the choice
  answered : (ans : Answer) → ans ≡ answer now.graph now.cluster ((first + asked) % nodes) →
      ans ≡ answer old.graph old.cluster ((first + asked) % nodes)
  answered ans is = is ∙ ap (λ (p : Playing). answer p.graph p.cluster ((first + asked) % nodes)) same

  -- if the next node takes its turn, the play is as the choice leaves it
  pub took_state : Took ≡ answer now.graph now.cluster ((first + asked) % nodes) → new ≡ record old
      { cluster = (choose old.graph old.world old.cluster (circle (length old.graph.nodes) first)).cluster }
  took_state is = stepped' ∙ ap (λ (p : Playing). stepped p ((first + asked) % nodes)) same
      ∙ ap (λ (c : Cluster). record old { cluster = c })
      (sym (chosen_took old.graph old.world old.cluster nodes first asked waits choosing l (sym (answered Took is))).0
      ∙ ap (λ n. (choose old.graph old.world old.cluster (circle n first)).cluster) count)

  -- if the next node takes its turn, as many nodes waited as in the choice
  pub took_waits : Took ≡ answer now.graph now.cluster ((first + asked) % nodes) →
      waits ≡ (choose old.graph old.world old.cluster (circle (length old.graph.nodes) first)).waits
  took_waits is =
      sym (chosen_took old.graph old.world old.cluster nodes first asked waits choosing l (sym (answered Took is))).1 ∙
      ap (λ n. (choose old.graph old.world old.cluster (circle n first)).waits) count

  -- if the next node waits, the play stays and the choice goes on with one more wait
  pub waits_more : (b : ℕ) → Waits b ≡ answer now.graph now.cluster ((first + asked) % nodes) →
      (new ≡ old) × IsChoosing old.graph old.world old.cluster nodes first (asked + 1) (waits + 1)
  waits_more b is = (
    stepped' ∙ ap (λ (p : Playing). stepped p ((first + asked) % nodes)) same
        ∙ ap (λ (c : Cluster). record old { cluster = c })
        (still_waits old.graph old.world old.cluster ((first + asked) % nodes) b (answered (Waits b) is)),
    choosing_waits old.graph old.world old.cluster nodes first asked waits choosing l b (sym (answered (Waits b) is)),
  )

  -- if the next node is done, the play stays and the choice goes on
  pub done_more : Done ≡ answer now.graph now.cluster ((first + asked) % nodes) →
      (new ≡ old) × IsChoosing old.graph old.world old.cluster nodes first (asked + 1) waits
  done_more is = (
    stepped' ∙ ap (λ (p : Playing). stepped p ((first + asked) % nodes)) same
        ∙ ap (λ (c : Cluster). record old { cluster = c })
        (still_done old.graph old.world old.cluster ((first + asked) % nodes) (answered Done is)),
    choosing_done old.graph old.world old.cluster nodes first asked waits choosing l (sym (answered Done is)),
  )

-- given a choice in which every node was asked
module _ (old now : Playing) (nodes first asked waits : ℕ) (count : nodes ≡ length old.graph.nodes) (same : now ≡ old)
    (choosing : IsChoosing old.graph old.world old.cluster nodes first asked waits)
    (l : nodes ≤ asked) where
  -- the play is as the choice leaves it
  pub none_state : now ≡ record old
      { cluster = (choose old.graph old.world old.cluster (circle (length old.graph.nodes) first)).cluster }
  none_state = same ∙ ap (λ (c : Cluster). record old { cluster = c })
      (sym (chosen_none old.graph old.world old.cluster nodes first asked waits choosing l).0
      ∙ ap (λ n. (choose old.graph old.world old.cluster (circle n first)).cluster) count)

  -- as many nodes waited as in the choice
  pub none_waits : waits ≡ (choose old.graph old.world old.cluster (circle (length old.graph.nodes) first)).waits
  none_waits = sym (chosen_none old.graph old.world old.cluster nodes first asked waits choosing l).1
      ∙ ap (λ n. (choose old.graph old.world old.cluster (circle n first)).waits) count

  -- nobody took a turn
  pub none_took : (choose old.graph old.world old.cluster (circle (length old.graph.nodes) first)).took ≡ true → ⊥
  none_took holds = true≢false (sym holds
      ∙ ap (λ n. (choose old.graph old.world old.cluster (circle n first)).took) (sym count)
      ∙ (chosen_none old.graph old.world old.cluster nodes first asked waits choosing l).2)
