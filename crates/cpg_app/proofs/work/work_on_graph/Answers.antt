-- Proof of `work_on_graph`, which returns the output of a command that has a graph file alone, or why it stops.
use Rattle.std.proofs.Common.{subst}
use Rattle.cpg_inputs.specs.declared.inputs.Inputs.{Inputs}
use Rattle.cpg_inputs.specs.Inputs.{AreInputs}
use Rattle.cpg_app.proofs.Worked.{of_compile, of_show, of_tune, stops_compile, stops_memory, stops_show}
use Rattle.cpg_app.proofs.work.work_on_graph.Goals as goal

-- `show` puts out the text of the tables
pub returns-in-Show-clause-output : goal.returns-in-Show-clause-output
returns-in-Show-clause-output c command values are = of_show command values c.text_of.result c.args.graph
    (subst (λ purpose. AreInputs command values (Inputs.Graph c.args.graph purpose)) c.in-Show.is are)
    c.text_of.ensures.text

-- the halt by which the compile fails is one of `show`
pub returns-in-Show-clause-halt : goal.returns-in-Show-clause-halt
returns-in-Show-clause-halt c command values are = stops_show command values c.text_of.result c.args.graph
    (subst (λ purpose. AreInputs command values (Inputs.Graph c.args.graph purpose)) c.in-Show.is are)
    c.text_of.ensures.halt

-- `compile` puts out the pack
pub returns-in-Compile-clause-output : goal.returns-in-Compile-clause-output
returns-in-Compile-clause-output c command values are = of_compile command values c.pack_of.result c.args.graph
    (subst (λ purpose. AreInputs command values (Inputs.Graph c.args.graph purpose)) c.in-Compile.is are)
    c.pack_of.ensures.pack

-- the halt by which the compile fails is one of `compile`
pub returns-in-Compile-clause-halt : goal.returns-in-Compile-clause-halt
returns-in-Compile-clause-halt c command values are = stops_compile command values c.pack_of.result c.args.graph
    (subst (λ purpose. AreInputs command values (Inputs.Graph c.args.graph purpose)) c.in-Compile.is are)
    c.pack_of.ensures.halt

-- `tune` puts out the tuning
pub returns-in-Tune-clause-output : goal.returns-in-Tune-clause-output
returns-in-Tune-clause-output c command values are = of_tune command values c.tune_admitted.result c.args.graph
    (subst (λ purpose. AreInputs command values (Inputs.Graph c.args.graph purpose)) c.in-Tune.is are)
    c.tune_admitted.ensures.text

-- tuning stops only as memory runs out
pub returns-in-Tune-clause-halt : goal.returns-in-Tune-clause-halt
returns-in-Tune-clause-halt c command values are =
    stops_memory command values c.tune_admitted.result c.tune_admitted.ensures.halt
