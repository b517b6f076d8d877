-- Proof of `set_lengths`, which sets each length that is given; before, each is the longest of its process.
use Rattle.std.proofs.Common.{ℕ, ◌+◌, ◌≡◌, true, List, length, get_or, sym, ap, ap₂, subst, ◌∙◌, arith}
use Rattle.std.proofs.lemmas.List.{length-map, get_or-set_other}
use Rattle.std.proofs.lemmas.List.FromFn.{length-range_with_len}
use Rattle.toml.specs.View.{table_view}
use Rattle.cpg_base.specs.Graph.{process_count}
use Rattle.cpg_base.specs.Duration.{duration}
use Rattle.cpg_base.proofs.Lists.{get_or-map-below}
use Rattle.cpg_scenario.specs.File.{count_of, length_given, length_or, is_length_if}
use Rattle.cpg_scenario.proofs.Filling.{FilledTo, filled_first, filled_next, filled_all, below_next, all_pass}
use Rattle.cpg_scenario.proofs.Filling.{one_fails}
use Rattle.cpg_scenario.proofs.reading.set_lengths.Goals as goal

-- at the start no length is filled in, and all lengths are full
pub loop-process-init : goal.loop-process-init
loop-process-init c =
    let longest =
    λ (q : ℕ). duration c.args.problem.now q (count_of c.args.problem.now (table_view c.args.document.now) q) in
    record {
      kept = λ q l. absurd (omega arith);
      filled = filled_first _ (process_count c.args.problem.now) 0 c.args.lengths.now
          (ap length c.requires ∙ length-map _ _ ∙ length-range_with_len 0 (process_count c.args.problem.now));
      full = λ q k l. ap (λ (xs : List ℕ). get_or xs q 0) c.requires
          ∙ get_or-map-below longest (process_count c.args.problem.now) q 0 l;
    }

-- this length isn't from 1 to the full one, so the lengths aren't kept
pub returns-in_default-clause-kept : goal.returns-in_default-clause-kept
returns-in_default-clause-kept c =
    let more = c.loop-process-test.true in
    let longest =
    λ (q : ℕ). duration c.args.problem.now q (count_of c.args.problem.now (table_view c.args.document.now) q) in
    let given = length_given c.args.problem.now (table_view c.args.document.now) in
    sym (one_fails (λ q. is_length_if (longest q) (given q)) (process_count c.args.problem.now) c.loop-process.process
    (omega (arith, ap length c.processes.ensures.processes))
    (ap₂ is_length_if
    (sym (c.length_of-longest.ensures ∙ c.loop-process.invariant.full c.loop-process.process (omega arith)
    (omega (arith, ap length c.processes.ensures.processes))))
    (sym c.length_given.ensures)
    ∙ c.in_default.ensures.none))

-- one more execution has its length, and the later ones are still full
pub loop-process-preserved : goal.loop-process-preserved
loop-process-preserved c =
    let more = c.loop-process-test.true in
    let longest =
    λ (q : ℕ). duration c.args.problem.now q (count_of c.args.problem.now (table_view c.args.document.now) q) in
    let given = length_given c.args.problem.now (table_view c.args.document.now) in
    -- the longest that the execution may last is its duration with its faults
    let is = c.length_of-longest.ensures ∙ c.loop-process.invariant.full c.loop-process.process (omega arith)
    (omega (arith, ap length c.processes.ensures.processes)) in
    -- the lengths so far are kept and filled in, and the others are full
    record {
      kept = below_next (λ q. is_length_if (longest q) (given q) ≡ true) c.loop-process.process
          c.loop-process.invariant.kept
          (ap₂ is_length_if (sym is) (sym c.length_given.ensures) ∙ c.in-Some.ensures.some.1);
      filled = subst (λ (xs : List ℕ). FilledTo (λ q. length_or (longest q) (given q))
          (process_count c.args.problem.now) 0 (c.loop-process.process + 1) xs)
          (sym c.set.ensures)
          (filled_next (λ q. length_or (longest q) (given q))
          (process_count c.args.problem.now) 0 c.loop-process.process c.loop-process.lengths c.in-Some.length
          (omega (arith, ap length c.processes.ensures.processes))
          (c.in-Some.ensures.some.0 ∙ ap₂ length_or is c.length_given.ensures)
          c.loop-process.invariant.filled);
      full = λ q k l. ap (λ (xs : List ℕ). get_or xs q 0) c.set.ensures
          ∙ get_or-set_other c.loop-process.lengths c.loop-process.process q c.in-Some.length 0 (λ e. omega arith)
          ∙ c.loop-process.invariant.full q (omega arith) l;
    }

-- each length has been in range, so the lengths are kept
pub returns-clause-kept : goal.returns-clause-kept
returns-clause-kept c =
    let done = c.loop-process-test.false in
    sym (all_pass (λ q.
    is_length_if (duration c.args.problem.now q (count_of c.args.problem.now (table_view c.args.document.now) q))
    (length_given c.args.problem.now (table_view c.args.document.now) q)) (process_count c.args.problem.now)
    (λ q l. c.loop-process.invariant.kept q (omega (arith, ap length c.processes.ensures.processes))))

-- all lengths are filled in, so these are the lengths of the document
pub returns-clause-lengths : goal.returns-clause-lengths
returns-clause-lengths c =
    let done = c.loop-process-test.false in
    filled_all
    (λ q. length_or (duration c.args.problem.now q (count_of c.args.problem.now (table_view c.args.document.now) q))
    (length_given c.args.problem.now (table_view c.args.document.now) q))
    (process_count c.args.problem.now) 0 c.loop-process.process c.loop-process.lengths
    (omega (arith, ap length c.processes.ensures.processes)) c.loop-process.invariant.filled
