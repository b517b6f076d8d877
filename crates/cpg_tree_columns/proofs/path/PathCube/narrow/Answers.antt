-- Proof of `PathCube::narrow`, which narrows the cube by a literal, and returns that step, with which `exchange` and
-- `restore` undo it.
use Rattle.std.proofs.Common.{◌≡◌, ◌<◌, ◌∙◌, ℕ, All, length, arith, sym, ap, subst, rules}
use Rattle.std.specs.Vec.{vec_len}
use Rattle.cpg_cube.specs.declared.literal.Literal.{Literal}
use Rattle.cpg_tree_columns.specs.Path.{IsPath}
use Rattle.cpg_tree_columns.proofs.PathRoom.{few_below, path_narrowed}
use Rattle.cpg_tree_columns.proofs.path.PathCube.narrow.Goals as goal

-- all literals are on lower variables than this one, so there is room for it
pub put_last-requires-clause-room : goal.put_last-requires-clause-room
put_last-requires-clause-room c =
    let v = c.args.literal.variable in
    let xs = c.self.inside.literals.items in
    let small : v < 256 = search rules in
    let under : All (λ (l : Literal). l.variable < v) xs =
    subst (All (λ (l : Literal). l.variable < v)) c.as_slice.ensures.value c.if-is_above.ensures in
    let long : length xs ≡ vec_len c.self.inside.literals = search rules in
    omega (arith, few_below xs v c.self.invariant.0.rising under, small, long, c.self.invariant.1)

-- the cube with the literal behind all others is a path, and the room stays
pub invariant_of-self : goal.invariant_of-self
invariant_of-self c =
    let small : c.args.literal.variable < 256 = search rules in (
      subst IsPath (sym c.put_last.ensures.narrowed)
          (path_narrowed c.args.literal small c.self.inside.literals.items c.self.invariant.0),
      omega (arith, c.put_last.ensures.capacity, c.self.invariant.1),
    )

-- the cube with the literal in its place is a path, and the room stays
pub invariant_of-self-2 : goal.invariant_of-self-2
invariant_of-self-2 c =
    let small : c.args.literal.variable < 256 = search rules in (
      subst IsPath (sym c.narrow_between.ensures.narrowed)
          (path_narrowed c.args.literal small c.self.inside.literals.items c.self.invariant.0),
      c.narrow_between.ensures.capacity,
    )
