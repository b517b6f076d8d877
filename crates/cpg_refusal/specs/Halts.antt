-- Why a run halts, by the fault that a layer answers with. Out of memory becomes `Memory`, words that form no command
-- become `Words`, and every other fault becomes a refusal.
use Rattle.cpg_base.specs.Graph.{Graph}
use Rattle.cpg_words.specs.declared.fault.WordsFault.{WordsFault}
use Rattle.cpg_reader.specs.declared.place.ReadFault.{ReadFault}
use Rattle.cpg_codec.specs.declared.fault.PackFault.{PackFault}
use Rattle.cpg_scenario.specs.declared.fault.ScenarioFault.{ScenarioFault}
use Rattle.cpg_rules.specs.declared.admission.RuleFault.{RuleFault}
use Rattle.cpg_hyper.specs.declared.part.HyperFault.{HyperFault}
use Rattle.cpg_refusal.specs.declared.halt.Refusal.TheVariants.{NotToml, BadField, DoubleName, UnknownName, OverLimit}
use Rattle.cpg_refusal.specs.declared.halt.Refusal.TheVariants.{Cycle, TwoAlternatives, NoSlot, TooBig, BadOrder}
use Rattle.cpg_refusal.specs.declared.halt.Refusal.TheVariants.{BadPack, BadScenario, TooManyTracks, NoHypergraph}
use Rattle.cpg_refusal.specs.declared.halt.Halt.{Halt}
use Rattle.cpg_refusal.specs.declared.halt.Halt.TheVariants.{Words, Refused, Memory}

-- why a run halts whose command can't be read
abbrev pub halt_of_words : WordsFault → Halt
halt_of_words WordsFault.Bad = Words
halt_of_words WordsFault.OutOfMemory = Memory

-- why a run halts whose graph file can't be read
abbrev pub halt_of_reading : ReadFault → Halt
halt_of_reading ReadFault.NotToml = Refused NotToml
halt_of_reading (ReadFault.BadField place) = Refused (BadField place)
halt_of_reading (ReadFault.DoubleName place) = Refused (DoubleName place)
halt_of_reading (ReadFault.UnknownName place) = Refused (UnknownName place)
halt_of_reading (ReadFault.OverLimit what) = Refused (OverLimit what)
halt_of_reading ReadFault.OutOfMemory = Memory

-- why a run halts whose pack can't be read
abbrev pub halt_of_pack : PackFault → Halt
halt_of_pack (PackFault.BadPack length) = Refused (BadPack length)
halt_of_pack PackFault.OutOfMemory = Memory

-- why a run halts whose scenario file can't be read
abbrev pub halt_of_scenario : ScenarioFault → Halt
halt_of_scenario (ScenarioFault.Bad cause) = Refused (BadScenario cause)
halt_of_scenario ScenarioFault.OutOfMemory = Memory

-- why a run halts whose graph isn't admitted
abbrev pub halt_of_rules : Graph → RuleFault → Halt
halt_of_rules g (RuleFault.Cycle walk) = Refused (Cycle g walk)
halt_of_rules g RuleFault.TooManyTracks = Refused TooManyTracks
halt_of_rules g (RuleFault.TwoAlternatives p s) = Refused (TwoAlternatives g p s)
halt_of_rules g (RuleFault.NoSlot node) = Refused (NoSlot g node)
halt_of_rules g (RuleFault.TooBig e) = Refused (TooBig e)
halt_of_rules g (RuleFault.BadOrder p) = Refused (BadOrder g p)
halt_of_rules g RuleFault.OutOfMemory = Memory

-- why a run halts whose parts have no graph of several periods together: a refusal keeps the fault
abbrev pub halt_of_parts : HyperFault → Halt
halt_of_parts (HyperFault.Range p) = Refused (NoHypergraph (HyperFault.Range p))
halt_of_parts (HyperFault.Differ p) = Refused (NoHypergraph (HyperFault.Differ p))
halt_of_parts (HyperFault.Over p) = Refused (NoHypergraph (HyperFault.Over p))
halt_of_parts HyperFault.Period = Refused (NoHypergraph HyperFault.Period)
halt_of_parts (HyperFault.Count what) = Refused (NoHypergraph (HyperFault.Count what))
halt_of_parts (HyperFault.LongName p) = Refused (NoHypergraph (HyperFault.LongName p))
halt_of_parts (HyperFault.Order p) = Refused (NoHypergraph (HyperFault.Order p))
halt_of_parts HyperFault.OutOfMemory = Memory
