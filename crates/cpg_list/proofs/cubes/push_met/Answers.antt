-- Proof of `push_met`: adds to a cube the literals of two cubes in the order of their variables; of two literals on one
-- variable it adds what both allow.
use Rattle.std.proofs.Common.{◌≡◌, ◌∙◌, ◌++◌, ◌∷◌, [], List, length, refl, sym, ap, subst, arith}
use Rattle.cpg_cube.specs.Cube.{IsRising}
use Rattle.cpg_cube.specs.declared.literal.Literal.{Literal}
use Rattle.cpg_list.proofs.CodeCubes.{lower_before, lower_after, lower_here, push_before, push_after, push_here}
use Rattle.cpg_list.proofs.CodeCubes.{rising_left, nothing_left}
use Rattle.cpg_list.proofs.cubes.push_met.Goals as goal

-- a list of length 0 is empty
nothing : (xs : List Literal) → length xs ≡ 0 → xs ≡ []
nothing [] e = refl
nothing (x ∷ xs) e = absurd (omega arith)

-- the first cube's literal is on the lower variable, which is above all that were added
pub push-requires : goal.push-requires
push-requires c = record {
  last = lower_before c.args.cube.now c.loop-one.cube c.args.first.now c.args.second.now c.loop-one.ones.now
      c.loop-one.others.now
      c.in-Some.one.now c.in-Some.ones_left.now c.in-Some-split_first.other.now c.in-Some-split_first.others_left.now
      c.requires.both c.loop-one.invariant.second c.loop-one.invariant.all c.in-Some.ensures.cases.0
      c.in-Some-split_first.ensures.cases.0 c.if-one-other.true;
}

-- the first cube's literal is added, and the rest of both cubes is still to be met
pub loop-one-preserved-then-one-other : goal.loop-one-preserved-then-one-other
loop-one-preserved-then-one-other c = record {
  first = rising_left c.loop-one.ones.now c.in-Some.one.now c.in-Some.ones_left.now c.loop-one.invariant.first
      c.in-Some.ensures.cases.0;
  second = c.loop-one.invariant.second;
  all = push_before c.args.cube.now c.loop-one.cube c.args.first.now c.args.second.now c.loop-one.ones.now
      c.loop-one.others.now
      c.in-Some.one.now c.in-Some.ones_left.now c.in-Some-split_first.other.now c.in-Some-split_first.others_left.now
      c.requires.both c.loop-one.invariant.second c.loop-one.invariant.all c.in-Some.ensures.cases.0
      c.in-Some-split_first.ensures.cases.0
      c.push.new.self c.if-one-other.true c.in_ok-push.ensures.pushed;
}

-- the second cube's literal is on the lower variable, which is above all that were added
pub push-requires-then-other-one : goal.push-requires-then-other-one
push-requires-then-other-one c = record {
  last = lower_after c.args.cube.now c.loop-one.cube c.args.first.now c.args.second.now c.loop-one.ones.now
      c.loop-one.others.now
      c.in-Some.one.now c.in-Some.ones_left.now c.in-Some-split_first.other.now c.in-Some-split_first.others_left.now
      c.requires.both c.loop-one.invariant.second c.loop-one.invariant.all c.in-Some.ensures.cases.0
      c.in-Some-split_first.ensures.cases.0 c.if-other-one.true;
}

-- the second cube's literal is added, and the rest of both cubes is still to be met
pub loop-one-preserved-then-other-one : goal.loop-one-preserved-then-other-one
loop-one-preserved-then-other-one c = record {
  first = c.loop-one.invariant.first;
  second = rising_left c.loop-one.others.now c.in-Some-split_first.other.now c.in-Some-split_first.others_left.now
      c.loop-one.invariant.second c.in-Some-split_first.ensures.cases.0;
  all = push_after c.args.cube.now c.loop-one.cube c.args.first.now c.args.second.now c.loop-one.ones.now
      c.loop-one.others.now
      c.in-Some.one.now c.in-Some.ones_left.now c.in-Some-split_first.other.now c.in-Some-split_first.others_left.now
      c.requires.both c.loop-one.invariant.second c.loop-one.invariant.all c.in-Some.ensures.cases.0
      c.in-Some-split_first.ensures.cases.0
      c.push-then-other-one.new.self c.if-other-one.true c.in_ok-push-2.ensures.pushed;
}

-- both literals are on one variable, which is above all that were added
pub push-requires-else-other-one : goal.push-requires-else-other-one
push-requires-else-other-one c =
    -- neither variable is below the other, so they are one
    let same_variable : c.in-Some.one.now.variable ≡ c.in-Some-split_first.other.now.variable =
    omega (arith, c.if-one-other.false, c.if-other-one.false) in
    let variable_is : c.both.result.variable ≡ c.in-Some.one.now.variable = ap (λ (x : Literal).
    x.variable) c.both.ensures in
    record {
      last = λ k d h. omega (
        arith,
        variable_is,
        lower_here c.args.cube.now c.loop-one.cube c.args.first.now c.args.second.now c.loop-one.ones.now
            c.loop-one.others.now
            c.in-Some.one.now c.in-Some.ones_left.now c.in-Some-split_first.other.now
            c.in-Some-split_first.others_left.now
            c.requires.both c.loop-one.invariant.second c.loop-one.invariant.all c.in-Some.ensures.cases.0
            c.in-Some-split_first.ensures.cases.0 same_variable k d h,
      );
    }

-- both are met and added, and the rest of both cubes is still to be met
pub loop-one-preserved : goal.loop-one-preserved
loop-one-preserved c =
    -- neither variable is below the other, so they are one
    let same_variable : c.in-Some.one.now.variable ≡ c.in-Some-split_first.other.now.variable =
    omega (arith, c.if-one-other.false, c.if-other-one.false) in
    record {
      first = rising_left c.loop-one.ones.now c.in-Some.one.now c.in-Some.ones_left.now c.loop-one.invariant.first
          c.in-Some.ensures.cases.0;
      second = rising_left c.loop-one.others.now c.in-Some-split_first.other.now c.in-Some-split_first.others_left.now
          c.loop-one.invariant.second c.in-Some-split_first.ensures.cases.0;
      all = push_here c.args.cube.now c.loop-one.cube c.args.first.now c.args.second.now c.loop-one.ones.now
          c.loop-one.others.now
          c.in-Some.one.now c.in-Some.ones_left.now c.in-Some-split_first.other.now
          c.in-Some-split_first.others_left.now
          c.requires.both c.loop-one.invariant.second c.loop-one.invariant.all c.in-Some.ensures.cases.0
          c.in-Some-split_first.ensures.cases.0
          c.push-else-other-one.new.self same_variable
          (c.in_ok-push-3.ensures.pushed ∙ ap (λ x. c.loop-one.cube ++ x ∷ []) c.both.ensures);
    }

-- no literal of the first cube is left, so the rest of the second follows the cube so far, and rises with it
pub push_all-requires : goal.push_all-requires
push_all-requires c =
    let none = nothing c.loop-one.ones.now (omega (arith, c.in_default.ensures.cases)) in
    let follows = c.loop-one.invariant.all ∙ ap (λ x. c.loop-one.cube ++ x)
    (nothing_left c.loop-one.others.now c.loop-one.invariant.second c.loop-one.ones.now none) in
    subst IsRising follows c.requires.both

-- no literal of the first cube is left, so what is left of the two, met, is just the rest of the second
pub returns-in_default : goal.returns-in_default
returns-in_default c =
    let none = nothing c.loop-one.ones.now (omega (arith, c.in_default.ensures.cases)) in
    c.in_ok-push_all.ensures ∙ sym (c.loop-one.invariant.all ∙ ap (λ x. c.loop-one.cube ++ x)
    (nothing_left c.loop-one.others.now c.loop-one.invariant.second c.loop-one.ones.now none))
