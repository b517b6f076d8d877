-- Proof of `mark_all`, which marks the variables of literals.
use Rattle.std.proofs.Common.{rules, ◌<◌, get_or, slice_set, take, length, true, false, ap, arith}
use Rattle.cpg_base.specs.Numbers.{same_bool}
use Rattle.cpg_cube.specs.declared.literal.Literal.{Literal}
use Rattle.cpg_cover.proofs.FewestLaws.{all_one_more, all_still_marked, now_marked, still_marked}
use Rattle.cpg_cover.proofs.parting.mark_all.Goals as goal

-- with the next literal's variable marked, one literal more is on marked variables
pub loop-literal-preserved : goal.loop-literal-preserved
loop-literal-preserved c =
    let blank : Literal = record { variable = 0; low = 0; high = 0 } in
    let literals = c.args.literals.now in
    let place = c.loop-literal.literal-index in
    let literal = get_or literals place blank in
    let marks = c.loop-literal.marks in
    let later = slice_set marks literal.variable true in
    let invariant = c.loop-literal.invariant in
    let within : literal.variable < length marks = search rules in
    record {
      -- a mark that is there stays
      kept = λ v on. still_marked marks literal.variable v (invariant.kept v on);
      -- so the marks of the literals before stay, and that of the next one is made
      marked = all_one_more (λ m. same_bool (get_or later m.variable false) true) literals place blank (omega arith)
          (all_still_marked marks later (take place literals)
          (λ v on. still_marked marks literal.variable v on) invariant.marked)
          (ap (λ b. same_bool b true) (now_marked marks literal.variable within));
    }
