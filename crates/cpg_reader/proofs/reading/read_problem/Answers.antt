-- Proof of `read_problem`, which reads the bytes of a graph file and returns the graph that they say.
use Rattle.std.proofs.Common.{◌∙◌, sym}
use Rattle.std.proofs.lemmas.Bool.{false≢true}
use Rattle.cpg_reader.proofs.DocumentLaws.{problem_of-read, problem_of-refused, answer-is}
use Rattle.cpg_reader.proofs.reading.read_problem.Goals as goal

-- the bytes spell a document, so what they say is what its members say
pub returns-in-Ok : goal.returns-in-Ok
returns-in-Ok c memory = answer-is _ _ c.read_members.ensures memory
    ∙ sym (problem_of-read c.args.bytes.now _ c.in-Ok.ensures.ok.0 c.in-Ok.ensures.ok.1)

-- memory hasn't run out, so the bytes spell no document, and they are refused for that
pub returns-else-is_memory : goal.returns-else-is_memory
returns-else-is_memory c memory =
    sym (problem_of-refused c.args.bytes.now (c.in-Err.ensures.refused (λ h. false≢true (c.if-is_memory.ensures.1 h))))
