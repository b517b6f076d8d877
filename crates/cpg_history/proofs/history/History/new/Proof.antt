-- `new` makes the struct, and picks no fetches for it. Assumes `Logic`.
use Rattle.std.proofs.Common.{◌≡◌}
use base.Fml.{fsep, ftrue}
use Rattle.cpg_history.proofs.Walks.{List, [], ◌∷◌, refl, proved, ‵, raw, ◌⊛◌, ◌$◌, ◌∵◌, !, qed, done, move, keep}
use Rattle.cpg_history.proofs.Walks.{split, fjoin, fpack, suffices, agg, enter, returns, no_more, and_then, unit_lit}
use Rattle.cpg_history.proofs.Walks.{alloc_all, pass_all, free_all, look_at, sets, owns, types_at, nothing, owned}
use Rattle.cpg_history.proofs.Walks.{makes, alive, says, Stays, walk_of, ends_at, empty, vunit}
use Rattle.cpg_history.specs.Fetch.{Fetch}
use Rattle.cpg_history.specs.contracts.history.History.TheInside as inside
use Rattle.cpg_history.specs.contracts.history.History.TheInside.TheFields as fields
use Rattle.cpg_history.specs.contracts.history.History.new as f
use Rattle.cpg_history.specs.declared.history.History.TheInside.{Inside}
use Rattle.cpg_history.proofs.history.History.new.Statement.{statement}
use Rattle.cpg_history.proofs.history.History.new.Code as code

-- there is no argument to drop
abbrev stayed : Stays f.ended.signature.params f.ended.kept
stayed = tt

-- `new` keeps its contract in every model of the machine
pub new_spec : {M : Type 1} → statement M
new_spec 𝓤 𝓛 𝓜 𝓡 wired =
    let clauses = f.clauses 𝓛 𝓜.mem 𝓡.returns in let W = walk_of 𝓛 f.ended stayed clauses in
    proved 𝓛 f.ended stayed clauses 𝓜 𝓡 tt
    f.Key.name code.function (code.unfolded 𝓤 𝓛.H 𝓜 𝓡 wired)
    (λ κs. tt) (λ κs. tt) (λ κs qs bounds a _ are.
    let arguments : W.Ghost = ((κs, qs, bounds, a, tt), tt) in
    -- the history of the new struct is empty
    let past : List Fetch = [] in
    let seen : (inner : Inside) × ((inner.fetches ≡ past) × Unit {0}) =
    (record { made = tt; fetches = past }, (refl, tt)) in
    -- the machine's steps: it enters, makes the struct of one empty field, returns it, and frees what it allocated
    qed 𝓛 ((raw (alive 𝓛 f.signature κs qs) ⊛ ‵ (owns (types_at f.signature.params κs) a tt))
    ∷ raw ((clauses κs a).requires tt) ∷ []) ∵
    keep ! (0 ∷ []) $ split ! $ keep ! (0 ∷ []) $
    enter ! _ _ _ _ _ $ alloc_all ! (λ l. pass_all ! refl tt $
    sets ! (agg ! (and_then ! (unit_lit !) (no_more !))) refl (tt, (tt, tt)) $
    returns ! (look_at ! 0 refl) $ free_all ! refl $
    -- what is returned has to be a struct with this history
    suffices ! _ (ends_at 𝓛 f.ended stayed clauses arguments empty past tt tt) $ says ! refl $
    nothing ! $ nothing ! $ owned ! fields.the_row _ (makes fields.the_type (λ _ _. tt, tt) 𝓛)
    (record { made = tt }) (empty ∷ []) (
      (vunit ∷ [], tt),
      (refl, (refl, tt)),
    ) $ fjoin ! $ fjoin ! $
    -- what it stands for is `seen`
    fpack ! _ (λ x. fsep (inside.the_row.own_val x.0 (empty ∷ [])) ftrue) seen $
    nothing ! $ move ! (2 ∷ 0 ∷ 1 ∷ []) $ done !))
