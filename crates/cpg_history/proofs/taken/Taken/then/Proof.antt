-- `then` makes the struct, and picks the bytes of its clause. Assumes `Logic`.
use Rattle.std.proofs.Common.{ℕ, ◌++◌, ◌≡◌}
use base.Fml.{fsep, ftrue}
use Rattle.cpg_history.proofs.Walks.{List, [], ◌∷◌, refl, proved, named, ‵, raw, ◌⊛◌, ◌$◌, ◌∵◌, !, qed, done, move}
use Rattle.cpg_history.proofs.Walks.{keep, split, fjoin, fpack, suffices, agg, enter, returns, no_more, and_then}
use Rattle.cpg_history.proofs.Walks.{unit_lit, alloc_all, pass_all, free_all, look_at, sets, u8, RefOf, SliceRefOf, yes}
use Rattle.cpg_history.proofs.Walks.{owns, shr_vals, shr_Tells, shr_slice_vals, shr_slice_Tells, shr_slice_Lawful}
use Rattle.cpg_history.proofs.Walks.{plain, types_at, nothing, owned, makes, alive, says, Stays, stay_dropped, walk_of}
use Rattle.cpg_history.proofs.Walks.{ends_at, Goes-dropped, empty, vunit}
use Rattle.cpg_history.specs.contracts.taken.Taken.{the_row as R}
use Rattle.cpg_history.specs.contracts.taken.Taken.TheInside as inside
use Rattle.cpg_history.specs.contracts.taken.Taken.TheInside.TheFields as fields
use Rattle.cpg_history.specs.contracts.taken.Taken.then as f
use Rattle.cpg_history.specs.declared.taken.Taken.TheInside.{Inside}
use Rattle.cpg_history.proofs.taken.Taken.then.Statement.{statement}
use Rattle.cpg_history.proofs.taken.Taken.then.Code as code

-- neither of the two arguments, which are references, has to be dropped
abbrev stayed : Stays f.ended.signature.params f.ended.kept
stayed = (stay_dropped _ yes, (stay_dropped _ yes, tt))

-- `then` keeps its contract in every model of the machine
pub then_spec : {M : Type 1} → statement M
then_spec 𝓤 𝓛 𝓜 𝓡 wired =
    let clauses = f.clauses 𝓛 𝓜.mem 𝓡.returns in let W = walk_of 𝓛 f.ended stayed clauses in
    proved 𝓛 f.ended stayed clauses 𝓜 𝓡 (
      Goes-dropped 𝓛 2 (RefOf (0 ∷ []) tt (plain (λ _. R)) (λ _. tt)) yes (λ κs x w. refl),
      (Goes-dropped 𝓛 2 (SliceRefOf (1 ∷ []) tt (plain (λ _. u8)) (λ _. tt)) yes (λ κs x w. refl), tt),
    )
    f.Key.name code.function (code.unfolded 𝓤 𝓛.H 𝓜 𝓡 wired)
    (λ κs. (shr_vals, (shr_slice_vals, tt)))
    (λ κs. (shr_Tells (named 0) κs.0 R, (shr_slice_Tells (named 1) κs.1.0 u8, tt))) (λ κs qs bounds a _ are.
    let arguments : W.Ghost = ((κs, qs, bounds, a, (shr_vals a.0, (shr_slice_vals a.1.0, tt))), tt) in
    -- the bytes that were taken, and the piece behind them
    let bytes : List ℕ = a.0.now ++ a.1.0.now in
    let seen : (inner : Inside) × ((inner.bytes ≡ bytes) × Unit {0}) =
    (record { made = tt; bytes = bytes }, (refl, tt)) in
    -- the machine's steps: it enters, makes the struct of one empty field, returns it, and frees what it allocated
    qed 𝓛 ((raw (alive 𝓛 f.signature κs qs) ⊛ ‵ (owns (types_at f.signature.params κs) a arguments.0.4))
    ∷ raw ((clauses κs a).requires tt) ∷ []) ∵
    keep ! (0 ∷ []) $ split ! $ keep ! (0 ∷ []) $
    enter ! _ _ _ _ _ $ alloc_all !
    (λ l. pass_all ! refl ((tt, tt), (((shr_slice_Lawful 𝓛 (named 1) κs.1.0 u8).typed a.1.0 _ are.1.0).0, tt)) $
    sets ! (agg ! (and_then ! (unit_lit !) (no_more !))) refl (tt, (tt, tt)) $
    returns ! (look_at ! 0 refl) $ free_all ! refl $
    -- what is returned has to be a struct with this list of bytes
    suffices ! _ (ends_at 𝓛 f.ended stayed clauses arguments empty bytes (tt, (tt, tt)) (tt, (tt, tt))) $ says ! refl $
    nothing ! $ nothing ! $ owned ! fields.the_row _ (makes fields.the_type (λ _ _. tt, tt) 𝓛)
    (record { made = tt }) (empty ∷ []) (
      (vunit ∷ [], tt),
      (refl, (refl, tt)),
    ) $ fjoin ! $ fjoin ! $
    -- what it stands for is `seen`
    fpack ! _ (λ x. fsep (inside.the_row.own_val x.0 (empty ∷ [])) ftrue) seen $
    nothing ! $ nothing ! $ fjoin ! $ nothing ! $ fjoin ! $ move ! (2 ∷ 0 ∷ 1 ∷ []) $ done !))
