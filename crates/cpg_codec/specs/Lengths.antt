-- How long a pack is at most.
use Rattle.std.specs.Prelude.{◌≤◌, length}
use Rattle.cpg_table.specs.Lawful.{Tables}
use Rattle.cpg_codec.specs.Packs.{AreLawful}
use Rattle.cpg_codec.specs.Spelling.{spelling}

-- no spelling is longer than 268,435,456 bytes, which is 2^28
abbrev pub AllShort : Type 0
AllShort = (t : Tables) → AreLawful t → length (spelling t) ≤ 268435456
