-- A head's bytes, grouped as the code puts them.
use Rattle.std.proofs.Common.{◌≡◌, ℕ, List, ◌++◌, length, append_assoc}
use Rattle.std.specs.List.{flat_map}
use Rattle.std.specs.Int.{w16, w32, w64, to_be_bytes}
use Rattle.cpg_head.specs.Head.{Head, version_of}
use Rattle.cpg_codec.specs.Spelling.{Written, written, magic, byte, bit, name_bytes, extra_bytes, process_bytes}
use Rattle.cpg_codec.specs.Spelling.{edge_bytes, head_bytes}

-- five pieces, grouped as the code puts those of a process
five : (a b c d e : List ℕ) → a ++ b ++ c ++ d ++ e ≡ a ++ ((b ++ c) ++ (d ++ e))
five a b c d e = simp append_assoc

-- the bytes of a process: its name; its node and flag; its times and what version 2 adds
pub process_parts : (w : Written) → process_bytes w ≡ name_bytes w.process.name ++
    ((byte w.process.node ++ byte (bit w.process.condition))
    ++ (flat_map (to_be_bytes w64) w.process.times ++ extra_bytes w.extra))
process_parts w = five (name_bytes w.process.name) (byte w.process.node) (byte (bit w.process.condition))
    (flat_map (to_be_bytes w64) w.process.times) (extra_bytes w.extra)

-- nine pieces, grouped as the code puts those of a head
nine : (a b c d e f g h i : List ℕ) →
    a ++ b ++ c ++ d ++ e ++ f ++ g ++ h ++ i ≡ (a ++ (b ++ (c ++ d))) ++ (e ++ (f ++ (g ++ (h ++ i))))
nine a b c d e f g h i = simp append_assoc

-- the bytes of a head: its first numbers; then the names of the nodes, the processes and the edges
pub head_parts : (h : Head)
    → head_bytes h ≡ (to_be_bytes w32 magic ++ (byte (version_of h) ++ (byte h.faults ++ byte (length h.nodes)))) ++
    (flat_map name_bytes h.nodes ++ (byte (length h.processes)
    ++ (flat_map process_bytes (written h) ++ (to_be_bytes w16 (length h.edges) ++ flat_map edge_bytes h.edges))))
head_parts h = nine (to_be_bytes w32 magic) (byte (version_of h)) (byte h.faults) (byte (length h.nodes))
    (flat_map name_bytes h.nodes) (byte (length h.processes))
    (flat_map process_bytes (written h)) (to_be_bytes w16 (length h.edges)) (flat_map edge_bytes h.edges)
