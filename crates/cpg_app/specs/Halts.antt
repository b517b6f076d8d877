-- The halt of a run whose compile fails.
use Rattle.cpg_rules.specs.Admission.{Admission}
use Rattle.cpg_core.specs.declared.fault.CompileFault.{CompileFault}
use Rattle.cpg_refusal.specs.declared.halt.Halt.{Halt}
use Rattle.cpg_refusal.specs.declared.halt.Halt.TheVariants.{Late, TooWide, Memory}

-- the halt says what the compile's fault says: the graph is too wide or late, or memory ran out
abbrev pub halt_of_compile : Admission → CompileFault → Halt
halt_of_compile a (CompileFault.TooWide x) = TooWide a x
halt_of_compile a (CompileFault.Late s p time) = Late a s p time
halt_of_compile a CompileFault.OutOfMemory = Memory
