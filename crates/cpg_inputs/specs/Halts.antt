-- The halt of a run whose log is rejected, or whose memory runs out as the log is read.
use Rattle.cpg_log.specs.declared.fault.LogFault.{LogFault}
use Rattle.cpg_refusal.specs.declared.halt.Refusal.TheVariants.{BadLog}
use Rattle.cpg_refusal.specs.declared.halt.Halt.{Halt}
use Rattle.cpg_refusal.specs.declared.halt.Halt.TheVariants.{Refused, Memory}

-- the halt says what the log's fault says: the first bad line, or that memory ran out
abbrev pub halt_of_log : LogFault → Halt
halt_of_log (LogFault.Bad line) = Refused (BadLog line)
halt_of_log LogFault.OutOfMemory = Memory
