-- Turns below a limit: their instants rise, so that none is left after as many as the limit.
use Rattle.std.proofs.Common.{◌≡◌, ℕ, zero, suc, ◌+◌, ◌<◌, ◌≤◌, true, cond, Option, Some, None, refl, sym, ap, ◌∙◌}
use Rattle.std.proofs.Common.{subst, arith, inl, inr, ◌⊎◌, lt-ltb, ltb-true, le-ltb}
use Rattle.std.specs.Prelude.{IfSome}
use Rattle.std.proofs.lemmas.Bool.{cases_lt}
use Rattle.std.proofs.lemmas.Option.{none-some, same_Some}
use Rattle.cpg_node.specs.Dispatcher.{Dispatcher, next, is_after}
use Rattle.cpg_node.specs.Instants.{instants_left}
use Rattle.cpg_node.proofs.Next.{next_is}
use Rattle.cpg_live.specs.Stream.{NodeProgress, take_turn, instant_below, turn_if, turn_below, turns_below, turned}
use Rattle.cpg_live.specs.Told.{after_last}
use Rattle.cpg_live.specs.Feeding.{IsTurned, AreFewTurns}

-- The instants after the last turn.

-- a time after the last turn is not before the first instant after it
pub floor_after : (last : Option ℕ) (t : ℕ) → is_after last t ≡ true → after_last last ≤ t
floor_after None t e = omega arith
floor_after (Some l) t e = omega (arith, ltb-true l t e)

-- a time from the first instant after the last turn on is after it
pub after_floor : (last : Option ℕ) (t : ℕ) → after_last last ≤ t → is_after last t ≡ true
after_floor None t h = refl
after_floor (Some l) t h = lt-ltb l t (omega arith)

-- the next instant `t` of dispatcher `d` isn't before what follows its last turn
next_floor : (d : Dispatcher) (t : ℕ) → next d ≡ Some t → after_last d.last ≤ t
next_floor d t e = floor_after d.last t (next_is d t e).after

-- an instant below a limit, or none
pub record Below (limit : ℕ) (o : Option ℕ) : Type 0 where
  -- there is an instant, and it is before the limit
  pub time : ℕ
  pub is : o ≡ Some time
  pub less : time < limit
  -- so `instant_below` gives it
  pub found : instant_below limit o ≡ Some time

-- no instant is below a limit
pub record NotBelow (limit : ℕ) (o : Option ℕ) : Type 0 where
  -- the instant, if there is one, isn't before the limit
  pub past : IfSome o (λ time. limit ≤ time)
  -- so `instant_below` gives none
  pub none : instant_below limit o ≡ None

-- an instant is below a limit, or is not
pub below_or_not : (limit : ℕ) (o : Option ℕ) → Below limit o ⊎ NotBelow limit o
below_or_not limit None = inr (record { past = tt; none = refl })
below_or_not limit (Some t) = elim (cases_lt t limit) [
  | inl l ↦ inl (record { time = t; is = refl; less = l; found = ap (λ b. cond b (Some t) None) (lt-ltb t limit l) })
  | inr g ↦ inr (record { past = g; none = ap (λ b. cond b (Some t) None) (le-ltb t limit g) })
]

-- an instant that `instant_below` gives is the given one, and below the limit
pub found_is : (limit : ℕ) (o : Option ℕ) (t : ℕ) → instant_below limit o ≡ Some t → (o ≡ Some t) × (t < limit)
found_is limit o t found = elim (below_or_not limit o) [
  | inl below ↦ let same : below.time ≡ t = same_Some below.time t (sym below.found ∙ found) in
      (below.is ∙ ap Some same, omega (arith, same, below.less))
  | inr not_below ↦ absurd (none-some t (sym not_below.none ∙ found))
]

-- if no instant of node `p` is below the limit, more turns, `n`, change nothing
pub still : (n limit : ℕ) (p : NodeProgress) → instant_below limit (next p.dispatcher) ≡ None →
    turns_below n limit p ≡ p
unfolding turns_below
still zero limit p e = refl
still (suc n) limit p e = ap (λ o. turns_below n limit (turn_if p o)) e ∙ still n limit p e

-- if `n` turns of node `p` are enough to come to the limit, one more changes nothing; by induction on `n`, as instants rise
no_more : (n limit : ℕ) (p : NodeProgress) → limit ≤ n + after_last p.dispatcher.last →
    turns_below n limit p ≡ turns_below (suc n) limit p
unfolding turns_below
no_more zero limit p h = elim (below_or_not limit (next p.dispatcher)) [
  | inl b ↦ absurd (omega (arith, h, b.less, next_floor p.dispatcher b.time b.is))
  | inr n ↦ sym (ap (turn_if p) n.none)
]
no_more (suc n) limit p h = elim (below_or_not limit (next p.dispatcher)) [
  | inl b ↦ no_more n limit (turn_below limit p)
      (subst (λ (q : NodeProgress). limit ≤ n + after_last q.dispatcher.last) (sym (ap (turn_if p) b.found))
      (omega (arith, h, next_floor p.dispatcher b.time b.is)))
  | inr m ↦ ap (λ o. turns_below n limit (turn_if p o)) m.none ∙ still n limit p m.none
      ∙ sym (ap (λ o. turns_below (suc n) limit (turn_if p o)) m.none ∙ still (suc n) limit p m.none)
]

-- a turn of node `p` at `t`, below the limit, is one of all turns below it: the step of a loop
pub turned_next : (limit : ℕ) (p : NodeProgress) (t : ℕ) → instant_below limit (next p.dispatcher) ≡ Some t →
    turned limit (take_turn t p) ≡ turned limit p
unfolding turns_below
turned_next zero p t e = absurd (omega (arith, (found_is zero (next p.dispatcher) t e).1))
turned_next (suc m) p t e =
    sym (no_more m (suc m) (take_turn t p) (omega arith)) ∙ sym (ap (λ o. turns_below m (suc m) (turn_if p o)) e)

-- a loop of turns ends when no instant is below the limit
pub turned_last : (limit : ℕ) (p : NodeProgress) → instant_below limit (next p.dispatcher) ≡ None → turned limit p ≡ p
turned_last limit p e = still limit limit p e

-- after `n` turns of node `p`, if they are enough, no instant is left below the limit; by induction on `n`: each turn
-- is at a later instant, and so needs one less
turns_end : (n limit : ℕ) (p : NodeProgress) → limit ≤ n + after_last p.dispatcher.last →
    IsTurned (turns_below n limit p).dispatcher limit
unfolding turns_below
turns_end zero limit p h = elim (below_or_not limit (next p.dispatcher)) [
  | inl b ↦ absurd (omega (arith, h, b.less, next_floor p.dispatcher b.time b.is))
  | inr n ↦ n.past
]
turns_end (suc n) limit p h = elim (below_or_not limit (next p.dispatcher)) [
  | inl b ↦ turns_end n limit (turn_below limit p)
      (subst (λ (q : NodeProgress). limit ≤ n + after_last q.dispatcher.last) (sym (ap (turn_if p) b.found))
      (omega (arith, h, next_floor p.dispatcher b.time b.is)))
  | inr m ↦ subst (λ (q : NodeProgress). IsTurned q.dispatcher limit) (sym (still (suc n) limit p m.none)) m.past
]

-- after all turns below a limit, the next instant is not below it
pub turned_end : (limit : ℕ) (p : NodeProgress) → IsTurned (turned limit p).dispatcher limit
turned_end limit p = turns_end limit limit p (omega arith)

-- after `n` turns below the limit, the last turn of node `p` is before the limit, if it was
turns_after : (n limit : ℕ) (p : NodeProgress) → is_after p.dispatcher.last limit ≡ true →
    is_after (turns_below n limit p).dispatcher.last limit ≡ true
unfolding turns_below
turns_after zero limit p h = h
turns_after (suc n) limit p h = elim (below_or_not limit (next p.dispatcher)) [
  | inl b ↦
      turns_after n limit (turn_below limit p) (subst (λ (q : NodeProgress). is_after q.dispatcher.last limit ≡ true)
      (sym (ap (turn_if p) b.found)) (lt-ltb b.time limit b.less))
  | inr m ↦ subst (λ (q : NodeProgress). is_after q.dispatcher.last limit ≡ true) (sym (still (suc n) limit p m.none)) h
]

-- turns below a limit leave the last turn before the limit, if it was
pub turned_after : (limit : ℕ) (p : NodeProgress) → is_after p.dispatcher.last limit ≡ true →
    is_after (turned limit p).dispatcher.last limit ≡ true
turned_after limit p h = turns_after limit limit p h

-- `n` turns leave the table of node `p` as it is
turns_table : (n limit : ℕ) (p : NodeProgress) → (turns_below n limit p).dispatcher.table ≡ p.dispatcher.table
unfolding turns_below
turns_table zero limit p = refl
turns_table (suc n) limit p = turns_table n limit (turn_below limit p) ∙ kept (instant_below limit (next p.dispatcher))
  where
    -- by whether there is a turn to take
    kept : (o : Option ℕ) → (turn_if p o).dispatcher.table ≡ p.dispatcher.table
    kept None = refl
    kept (Some t) = refl

-- turns below a limit leave the table as it is
pub turned_table : (limit : ℕ) (p : NodeProgress) → (turned limit p).dispatcher.table ≡ p.dispatcher.table
turned_table limit p = turns_table limit limit p

-- if the next instant after `n` turns of node `p` is `t`, its turn makes `n + 1`
pub turns_more : (n limit : ℕ) (p : NodeProgress) (t : ℕ) →
    instant_below limit (next (turns_below n limit p).dispatcher) ≡ Some t →
    take_turn t (turns_below n limit p) ≡ turns_below (suc n) limit p
unfolding turns_below
turns_more zero limit p t e = sym (ap (turn_if p) e)
turns_more (suc n) limit p t e = turns_more n limit (turn_below limit p) t e

-- before the first turn no turn has been taken
pub few_none : (limit : ℕ) (p : NodeProgress) → AreFewTurns limit p p
unfolding turns_below
few_none limit p = record { turns = 0; few = omega arith; is = refl }

-- with the next turn, at `t`, which leaves fewer instants, the turns that a loop has taken from `before` on lead to `after`,
-- and stay within the bound
pub few_next : (limit : ℕ) (before now after : NodeProgress) (t : ℕ) → AreFewTurns limit before now →
    instant_below limit (next now.dispatcher) ≡ Some t →
    after ≡ take_turn t now →
    instants_left after.dispatcher < instants_left now.dispatcher →
    AreFewTurns limit before after
few_next limit before now after t h e is less = record {
  turns = suc h.turns;
  few = omega (arith, h.few, less);
  is = is ∙ ap (take_turn t) h.is ∙ turns_more h.turns limit before t
      (ap (λ (p : NodeProgress). instant_below limit (next p.dispatcher)) (sym h.is) ∙ e);
}

-- no turn is below 0
pub turned_zero : (p : NodeProgress) → turned 0 p ≡ p
unfolding turns_below
turned_zero p = refl
