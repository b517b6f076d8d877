-- The names that the proofs by hand share, and the machine's value of a struct whose one field holds nothing.
pub use Rattle.std.proofs.Common.{List, [], ◌∷◌, refl}
pub use Rattle.std.proofs.raw_atomic.Walks.{proved}
pub use mir.Syntax.{named}
pub use mir.Val.{Val, vstruct, vcons, vnil, vunit}
pub use contract.Running.{tables}
pub use types.Kit.{‵, raw, ◌⊛◌, ◌$◌, ◌∵◌, !, qed, done, move, keep, split, fjoin, fpack, suffices}
pub use types.Part.{agg}
pub use types.Run.{enter, returns, no_more, and_then, unit_lit}
pub use types.ByLocal.{alloc_all, pass_all, free_all, look_at, sets}
pub use denote.Builtin.{u8, RefOf, SliceRefOf}
pub use denote.Exit.{yes}
pub use denote.RattleType.{owns}
pub use denote.Ref.{shr_vals, shr_Tells}
pub use denote.Slice.{shr_slice_vals, shr_slice_Tells, shr_slice_Lawful}
pub use denote.Signature.{plain, named_lft, types_at}
pub use denote.Steps.{nothing, owned}
pub use denote.Struct.Laws.{makes}
pub use denote.Triple.Entry.{alive}
pub use denote.Triple.Walked.{says, Stays, stay_dropped, walk_of, ends_at, Goes-dropped}

-- a struct of one field that holds nothing, as the machine has it
abbrev pub empty : Val
empty = vstruct (vcons vunit vnil)
