-- If a reading gave something, each of its steps did.
use Rattle.std.proofs.Common.{◌≡◌, Ok}
use Rattle.cpg_reader.specs.Reading.{Reading, ◌>>=◌, ◌>>◌}
use Rattle.cpg_reader.proofs.Steps.{then-parts, bind-parts}

-- if a reading step `a` and the one that takes its value, `next`, gave `y`, each of them gave something; the goal `G`
-- may use both
pub opened : {T U G : Type 0} (a : Reading T) (next : T → Reading U) (y : U) → (a >>= next) ≡ Ok y →
    ((x : T) → a ≡ Ok x → next x ≡ Ok y → G) → G
opened a next y h go = let parts = bind-parts a next y h in go parts.0 parts.1 parts.2

-- if two reading steps `a` and `b` in a row gave `y`, each of them gave something; the goal `G` may use both
pub passed_on : {T U G : Type 0} (a : Reading T) (b : Reading U) (y : U) → (a >> b) ≡ Ok y →
    ((x : T) → a ≡ Ok x → b ≡ Ok y → G) → G
passed_on a b y h go = let parts = then-parts a b y h in go parts.0 parts.1 parts.2
