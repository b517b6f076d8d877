-- The order of a trace: the derived order of the code keeps it, and if no two events have the same key there is just one
-- such order, and one text.
use Rattle.std.proofs.Common.{◌≡◌, ◌≢◌, ℕ, ◌+◌, Bool, true, false, not, ◌&&◌, List, ◌++◌, get_or, flat_map, AllPairs}
use Rattle.std.proofs.Common.{IsPermutation, Ordering, Less, Equal, Greater, arith, refl, sym, ap, ◌∙◌}
use Rattle.std.proofs.Common.{true≢false}
use Rattle.std.specs.Ordering.{nat_cmp, is_lt, ordering_then}
use Rattle.std.specs.Cmp.{IsStrictWeakOrder}
use Rattle.std.specs.Cmp.Lexicographic.{slice_cmp}
use Rattle.std.specs.List.Sorted.{IsSorted}
use Rattle.std.proofs.lemmas.Cmp.{nat_list_cmp_total}
use Rattle.std.proofs.lemmas.List.Sorted.{ranks_by, sorted_far}
use Rattle.std.proofs.lemmas.Map.Keys.{IsDistinct-from_apart, IsDistinct-IsPermutation, apart_from_distinct}
use Rattle.cpg_base.specs.Graph.{Graph}
use Rattle.cpg_base.specs.Numbers.{is_below}
use Rattle.cpg_base.proofs.Below.{below_one_way, below_total}
use Rattle.cpg_base.proofs.Sorted.{one_order}
use Rattle.cpg_node.specs.Dispatcher.{Act, Ended}
use Rattle.cpg_show.specs.contracts.event.EventKindOrd.TheImpl as kind_ord
use Rattle.cpg_show.specs.contracts.event.TraceEventOrd.TheImpl as event_ord
use Rattle.cpg_show.specs.declared.event.EventKind.TheVariants.{End, Send, Start}
use Rattle.cpg_show.specs.TraceEvents.{EventKind, TraceEvent, AreToldInOrder, all_events, kind_key, event_key}
use Rattle.cpg_show.specs.TraceText.{IsTraceText, event_line, finish_line}

-- a comparison by `o` and then by `p` that isn't less stays so with `q` for `p`, if `q` isn't less whenever `p` isn't
then_weaker : (o p q : Ordering) → (is_lt p ≡ false → is_lt q ≡ false) → is_lt (ordering_then o p) ≡ false →
    is_lt (ordering_then o q) ≡ false
then_weaker Less p q weaker not_less = not_less
then_weaker Equal p q weaker not_less = weaker not_less
then_weaker Greater p q weaker not_less = not_less

-- a comparison that isn't less stays so if nothing more is compared
then_equal : (o : Ordering) → is_lt o ≡ false → is_lt (ordering_then o Equal) ≡ false
then_equal Less not_less = not_less
then_equal Equal not_less = not_less
then_equal Greater not_less = not_less

-- a kind that isn't less by the derived order hasn't a lower key; the derived order goes on to compare the fault count and
-- the value, which keys leave out
kind_order : (d e : EventKind) → is_lt ((kind_ord.ghosts).cmp d e) ≡ false → is_below (kind_key d) (kind_key e) ≡ false
kind_order (End p f v) (End q g w) not_less = then_weaker (nat_cmp p q) _ Equal (λ _. refl) not_less
kind_order (End p f v) (Send y) not_less = not_less
kind_order (End p f v) (Start q) not_less = not_less
kind_order (Send x) (End q g w) not_less = refl
kind_order (Send x) (Send y) not_less = then_equal (nat_cmp x y) not_less
kind_order (Send x) (Start q) not_less = not_less
kind_order (Start p) (End q g w) not_less = refl
kind_order (Start p) (Send y) not_less = refl
kind_order (Start p) (Start q) not_less = then_equal (nat_cmp p q) not_less

-- if event `a` isn't less than `b` by the derived order, it hasn't a lower key: time, node and kind are compared in
-- this order
event_order : (a b : TraceEvent) → is_lt ((event_ord.ghosts).cmp a b) ≡ false →
    is_below (event_key a) (event_key b) ≡ false
event_order a b not_less = then_weaker (nat_cmp a.time b.time) _ _
    (then_weaker (nat_cmp a.node b.node) ((kind_ord.ghosts).cmp a.kind b.kind)
    (slice_cmp nat_cmp (kind_key a.kind) (kind_key b.kind)) (kind_order a.kind b.kind)) not_less

-- whether one event comes before another in a trace
abbrev is_event_below : TraceEvent → TraceEvent → Bool
is_event_below a b = is_below (event_key a) (event_key b)

-- the order by keys is a strict weak order, as that of lists of numbers is
is_total : IsStrictWeakOrder is_event_below
is_total = ranks_by nat_list_cmp_total event_key

-- events that are sorted by the derived order are in the order of a trace
pub in_order : (events : List TraceEvent) → IsSorted (event_ord.ghosts).cmp events →
    AllPairs (λ a b. is_below (event_key b) (event_key a) ≡ false) events
in_order events up i j d i_before_j j_inside = sorted_far is_event_below is_total events
    (λ k e m n. event_order (get_or events (k + 1) e) (get_or events k e) (up k e m n)) i j d (omega arith) j_inside

-- ---- if no two events have one key there is one order, and one text

-- whether neither of two events comes before the other
abbrev is_tied : TraceEvent → TraceEvent → Bool
is_tied a b = not (is_event_below a b) && not (is_event_below b a)

-- neither `x` nor `y` is neither `y` nor `x`
and_flips : (x y : Bool) → (not x && not y) ≡ (not y && not x)
and_flips true true = refl
and_flips true false = refl
and_flips false true = refl
and_flips false false = refl

-- if `x` and `y` aren't both false, their negations aren't both true
not_both : (x y : Bool) → (x ≡ false → y ≡ false → ⊥) → (not x && not y) ≡ false
not_both true y apart = refl
not_both false true apart = refl
not_both false false apart = absurd (apart refl refl)

-- if the negations of `x` and `y` aren't both true, and `y` is false, then `x` is true
before_from : (x y : Bool) → (not x && not y) ≡ false → y ≡ false → x ≡ true
before_from true y one y_false = refl
before_from false true one y_false = absurd (true≢false y_false)
before_from false false one y_false = absurd (true≢false one)

-- if no two events of `xs` have the same key, those of `xs` in order, `ys`, rise: of two, neither is after and not both
-- are tied
rises : (xs ys : List TraceEvent) → AllPairs (λ a b. event_key a ≢ event_key b) xs → IsPermutation xs ys →
    AllPairs (λ a b. is_below (event_key b) (event_key a) ≡ false) ys →
    AllPairs (λ a b. is_event_below a b ≡ true) ys
rises xs ys apart permuted up i j d i_before_j j_inside =
    before_from (is_event_below (get_or ys i d) (get_or ys j d)) (is_event_below (get_or ys j d) (get_or ys i d))
    (apart_from_distinct is_tied ys i j d
    (IsDistinct-IsPermutation is_tied (λ a b. and_flips (is_event_below a b) (is_event_below b a)) xs ys permuted
    (IsDistinct-from_apart is_tied xs (λ m n e m_before_n n_inside.
    not_both (is_event_below (get_or xs m e) (get_or xs n e)) (is_event_below (get_or xs n e) (get_or xs m e))
    (λ m_not_first n_not_first. apart m n e m_before_n n_inside
    (below_total (event_key (get_or xs m e)) (event_key (get_or xs n e)) m_not_first n_not_first)))))
    i_before_j j_inside)
    (up i j d i_before_j j_inside)

-- if no two events have the same key, two lists `xs` and `ys` of all events in order are equal
one_events : (g : Graph) (acts : List (List Act)) (ends : List (List (ℕ × Ended))) (xs ys : List TraceEvent) →
    AllPairs (λ a b. event_key a ≢ event_key b) (all_events g acts ends) →
    AreToldInOrder g acts ends xs → AreToldInOrder g acts ends ys → xs ≡ ys
one_events g acts ends xs ys apart a b = one_order (λ a b. is_event_below a b ≡ true)
    (λ x y x_first y_first. true≢false (sym y_first ∙ below_one_way (event_key x) (event_key y) x_first))
    (all_events g acts ends) xs ys a.all b.all (rises (all_events g acts ends) xs apart a.all a.in_order)
    (rises (all_events g acts ends) ys apart b.all b.in_order)

-- if no two events have the same key, a trace has one text
pub one_text : (g : Graph) (lengths : List ℕ) (acts : List (List Act)) (ends : List (List (ℕ × Ended)))
    (text other : List ℕ) →
    AllPairs (λ a b. event_key a ≢ event_key b) (all_events g acts ends)
    → IsTraceText g lengths acts ends text → IsTraceText g lengths acts ends other → text ≡ other
one_text g lengths acts ends text other apart (xs, a, t) (ys, b, u) =
    t ∙ ap (λ events. flat_map (event_line g lengths) events ++ finish_line g ends)
    (one_events g acts ends xs ys apart a b) ∙ sym u
