-- What follows from a test also has what follows from that.
use Rattle.std.proofs.Common.{Bool, true, false}
use Rattle.std.specs.Bool.{OnFalse, OnTrue}

-- if a fact that a test shows implies another, the test shows that one too
pub of_true : {P Q : Type 0} (b : Bool) → OnTrue b P → (P → Q) → OnTrue b Q
of_true true passes f = f passes
of_true false passes f = cc

-- what follows from what a false test guarantees is guaranteed too
pub of_false : {P Q : Type 0} (b : Bool) → OnFalse b P → (P → Q) → OnFalse b Q
of_false true passes f = cc
of_false false passes f = f passes
