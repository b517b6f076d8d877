-- Proof of `read_scenario`, which reads the bytes of a scenario file for a graph and returns its scenario and the
-- lengths of its executions.
use Rattle.std.proofs.Common.{◌∙◌, sym}
use Rattle.std.proofs.lemmas.Bool.{false≢true}
use Rattle.cpg_scenario.proofs.FileLaws.{file_of-read, file_of-refused}
use Rattle.cpg_scenario.proofs.reading.read_scenario.Goals as goal

-- the bytes spell a document, so what they give is what its table gives
pub returns-in-Ok-clause-file : goal.returns-in-Ok-clause-file
returns-in-Ok-clause-file c memory = c.read_played.ensures.document memory
    ∙ sym (file_of-read c.args.problem.now c.args.bytes.now _ c.in-Ok.ensures.ok.0 c.in-Ok.ensures.ok.1)

-- memory hasn't run out, so the bytes spell no document, and the file is rejected for that
pub returns-else-is_memory-clause-file : goal.returns-else-is_memory-clause-file
returns-else-is_memory-clause-file c memory = sym (file_of-refused c.args.problem.now c.args.bytes.now
    (c.in-Err.ensures.refused (λ h. false≢true (c.if-is_memory.ensures.1 h))))
