-- The cube of a path that is narrowed in place.
use Rattle.std.specs.Prelude.{◌<◌, List, All}
use Rattle.cpg_cube.specs.Cube.{IsRising}
use Rattle.cpg_cube.specs.declared.literal.Literal.{Literal}

-- the cube has at most one literal for each of 256 variables
pub record IsPath (cube : List Literal) : Type 0 where
  -- the variables rise from literal to literal
  pub rising : IsRising cube
  -- each variable is a byte
  pub small : All (λ l. l.variable < 256) cube
