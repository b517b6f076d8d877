-- The numbers by which the rules of valid tables are named.
use Rattle.std.specs.Prelude.{ℕ}
use Rattle.cpg_table.specs.declared.rule.Rule.{Rule}
use Rattle.cpg_table.specs.declared.rule.Rule.TheVariants.{Activity, Single, Present, Heard, Inputs, Processor, Slot}
use Rattle.cpg_table.specs.declared.rule.Rule.TheVariants.{Frozen, Due, Hears}

-- the number after the V: from 1 for V1 to 10 for V10
abbrev pub number_of_rule : Rule → ℕ
number_of_rule Activity = 1
number_of_rule Single = 2
number_of_rule Present = 3
number_of_rule Heard = 4
number_of_rule Inputs = 5
number_of_rule Processor = 6
number_of_rule Slot = 7
number_of_rule Frozen = 8
number_of_rule Due = 9
number_of_rule Hears = 10
