-- Proof of `show_and_compile_agree`: what `show` printed and what `compile` wrote for a graph are of one admitted
-- graph.
use Rattle.cpg_app.proofs.Joined.{show_and_compile_agree}
use Rattle.cpg_app.proofs.show_and_compile_agree.Goals as goal

-- `show_and_compile_agree` of `Joined` proves this law
pub returns : goal.returns
returns c = show_and_compile_agree
