-- The head that is read, from its parts in code.
use Rattle.cpg_head.specs.Head.{Head}
use Rattle.cpg_codec.specs.Spelling.{written_by}
use Rattle.cpg_codec.specs.Grammar.{head_from}
use Rattle.cpg_codec.specs.declared.head_reading.HeadParts.{HeadParts}

-- the head of parts in code, which keep the extras of version 2 in a list beside the processes
abbrev pub head_of_parts : HeadParts → Head
head_of_parts p = head_from p.version p.faults p.nodes.items (written_by p.processes.items p.extras.items) p.edges.items
