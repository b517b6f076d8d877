-- A literal is heard if its low and its high are, as far as they leave out a number.
use Rattle.std.proofs.Common.{ℕ, ◌≡◌, ◌==◌, Bool, true, false, cond, List, [], ◌∷◌, filter, flat_map, get_or, map}
use Rattle.std.proofs.Common.{Contains, refl, sym, subst, arith, inl, inr, le-leb, ne_eqb, max}
use Rattle.std.specs.Prelude.{nat_le}
use Rattle.std.proofs.lemmas.Bool.{and_from, and_parts, cases_eq, cases_lt, cond-false, lt-leb}
use Rattle.std.proofs.lemmas.List.Elements.{Contains-append_cases, Contains-append_left, Contains-append_right}
use Rattle.cpg_base.specs.Graph.{Graph}
use Rattle.cpg_base.specs.Variable.{top}
use Rattle.cpg_base.proofs.Lists.{Contains-cases, Contains-first, Contains-flat_map, Contains-flat_map_parts}
use Rattle.cpg_base.proofs.Lists.{Contains-nil, least_bound}
use Rattle.cpg_cube.specs.declared.literal.Literal.{Literal}
use Rattle.cpg_table.specs.Heard.{facts, is_heard, kept_high, kept_low}
use Rattle.cpg_table.specs.Table.{NodeTable}
use Rattle.cpg_cube.specs.declared.column.Column.{Column}
use Rattle.cpg_check_quick.specs.Bounds.{bounds_of, high_of, low_of, unknown_bounds}
use Rattle.cpg_check_quick.specs.Hearing.{IsAllHeard, IsHeardIn}
use Rattle.cpg_check_quick.specs.HeardRows.{AreToldIn, IsToldIn}

-- in a list that is empty if `b` holds, and has only `x` otherwise, each element `y` is `x`
one_of : {X : Type 0} (b : Bool) (x y : X) → Contains (cond b [] (x ∷ [])) y → x ≡ y
one_of true x y there = absurd (Contains-nil y there)
one_of false x y there = elim (Contains-cases x [] y there) [ inl e ↦ e | inr here ↦ absurd (Contains-nil y here) ]

-- a list that is empty if `b` holds, and has only `x` otherwise, has `x` if `b` doesn't hold
one_there : {X : Type 0} (b : Bool) (x : X) → b ≡ false → Contains (cond b [] (x ∷ [])) x
one_there b x fails = subst (λ xs. Contains xs x) (sym (cond-false b [] (x ∷ []) fails)) (Contains-first x [])

-- literal `l`, one of a list, implies each of its own bounds `w`, its low and its high
bound_wider : (k : ℕ) (literals : List Literal) (l w : Literal) → Contains literals l → Contains (bounds_of k l) w →
    IsToldIn literals w
bound_wider k literals l w there among = elim (Contains-append_cases (low_of k l) (high_of k l) w among) [
  | inl low ↦ subst (IsToldIn literals)
      (one_of (l.low == 0) (record { variable = l.variable; low = l.low; high = max l.high (top k l.variable) }) w low)
      (record { by = l; there = there; variable = refl; low = omega arith; high = omega arith })
  | inr high ↦ subst (IsToldIn literals)
      (one_of (nat_le (top k l.variable) l.high) (record { variable = l.variable; low = 0; high = l.high }) w high)
      (record { by = l; there = there; variable = refl; low = omega arith; high = omega arith })
]

-- an element `x` of `xs` is in a list that is empty if `b` holds, and `xs` otherwise, if `b` doesn't hold
unknown_there : {X : Type 0} (b : Bool) (xs : List X) (x : X) → b ≡ false → Contains xs x → Contains (cond b [] xs) x
unknown_there b xs x fails there = subst (λ ys. Contains ys x) (sym (cond-false b [] xs fails)) there

-- each element `x` of a list that is empty if `b` holds, and `xs` otherwise, is one of `xs`
unknown_parts : {X : Type 0} (b : Bool) (xs : List X) (x : X) → Contains (cond b [] xs) x → Contains xs x
unknown_parts true xs x there = absurd (Contains-nil x there)
unknown_parts false xs x there = there

-- each bound `w` that is listed for some literals is implied by one of them
bounds_wider : (k : ℕ) (known : List Bool) (literals : List Literal) (w : Literal) →
    Contains (flat_map (unknown_bounds k known) literals) w →
    IsToldIn literals w
bounds_wider k known literals w listed =
    let from = Contains-flat_map_parts (unknown_bounds k known) literals w listed in
    bound_wider k literals from.0 w from.1
    (unknown_parts (get_or known from.0.variable false) (bounds_of k from.0) w from.2)

-- `known` are the literals that a node has learnt, which imply the low and the high of literal `l`
module _ (k : ℕ) (known : List Literal) (l : Literal)
    (heard : (w : Literal) → Contains (bounds_of k l) w → is_heard k known w ≡ true) where
  -- the greatest low that is kept is at least the literal's: that is 0, or it is a bound that is heard
  low_heard : nat_le l.low (kept_low known l.variable) ≡ true
  low_heard = elim (cases_eq l.low 0) [
    | inl none ↦ le-leb l.low (kept_low known l.variable) (omega (arith, none))
    | inr some ↦
        let bound : Literal = record { variable = l.variable; low = l.low; high = max l.high (top k l.variable) } in
        (and_parts _ _ (heard bound
        (Contains-append_left (low_of k l) (high_of k l) bound (one_there (l.low == 0) bound (ne_eqb l.low 0 some))))).0
  ]

  -- the least high that is kept is at most the literal's: that leaves out no number, or it is a bound that is heard
  high_heard : nat_le (kept_high k known l.variable) l.high ≡ true
  high_heard = elim (cases_lt l.high (top k l.variable)) [
    | inl below ↦
        let bound : Literal = record { variable = l.variable; low = 0; high = l.high } in
        (and_parts _ _ (heard bound (Contains-append_right (low_of k l) (high_of k l) bound
        (one_there (nat_le (top k l.variable) l.high) bound (lt-leb (top k l.variable) l.high below))))).1
    | inr free ↦ le-leb (kept_high k known l.variable) l.high
        (omega (
          arith,
          free,
          least_bound (top k l.variable)
              (map (λ (l : Literal). l.high) (filter (λ (m : Literal). m.variable == l.variable) known)),
        ))
  ]

  -- so the literal is heard
  bound_heard : is_heard k known l ≡ true
  bound_heard = and_from _ _ low_heard high_heard

-- a column, marks of known variables, and the bounds of the column's literals on other variables
module _ (g : Graph) (tables : List NodeTable) (node : ℕ) (c : Column) (known : List Bool) (wanted : List Literal)
    (is : wanted ≡ flat_map (unknown_bounds g.faults known) c.cube) where
  -- some literal of the column implies each of these bounds
  pub all_wider : AreToldIn c.cube wanted
  all_wider w h = bounds_wider g.faults known c.cube w (subst (λ ws. Contains ws w) is h)

  -- if each literal `l` of the column that is on a known variable is heard, and each of these bounds, then all literals
  -- of the column are
  pub column_heard :
      ((l : Literal) → Contains c.cube l → get_or known l.variable false ≡ true → IsHeardIn g tables node c l) →
      ((l : Literal) → Contains wanted l → IsHeardIn g tables node c l) →
      IsAllHeard g tables node c
  column_heard own heard l h s law m = go (get_or known l.variable false) refl
    where
      -- by whether the literal's variable is known: it is heard by that, or by its bounds
      go : (b : Bool) → get_or known l.variable false ≡ b → is_heard g.faults (facts g tables node s c.time) l ≡ true
      go true equal = own l h equal s law m
      go false same =
          bound_heard g.faults (facts g tables node s c.time) l
          (λ w there. heard w (subst (λ ws. Contains ws w) (sym is)
          (Contains-flat_map (unknown_bounds g.faults known) c.cube l w h
          (unknown_there (get_or known l.variable false) (bounds_of g.faults l) w same there))) s law m)
