-- When a call of a shelf can have failed while a stream was followed.
use Rattle.std.proofs.Common.{ℕ, ◌≡◌, ◌∙◌, true, true≢false, List, [], ◌∷◌, refl, sym, ap}
use Rattle.cpg_history.specs.Fetch.{Fetch}
use Rattle.cpg_io.specs.State.{SinkState}
use Rattle.cpg_head.specs.Head.{Head}
use Rattle.cpg_table.specs.Table.{NodeTable}
use Rattle.cpg_live.specs.declared.following.Broken.{Broken}
use Rattle.cpg_live.specs.declared.following.Broken.TheVariants.{Shelf, Sink, Refused}
use Rattle.cpg_live.specs.Following.{Breaks, Completes, IsStreamed}

-- the newest fetch, or d if there is none
head_or : Fetch → List Fetch → Fetch
head_or d [] = d
head_or d (f ∷ fs) = f

-- equal histories have equal newest fetches
same_head : (f e : Fetch) (fs es : List Fetch) → f ∷ fs ≡ e ∷ es → f ≡ e
unfolding head_or
same_head f e fs es is = ap (head_or f) is

-- if a stream was followed to its close, no call of its fetch failed: the newest fetch is the stream's, which completed
pub closed_sound : (h : Head) (table : NodeTable) (name : List ℕ) (past now : List Fetch) (start : List ℕ)
    (old new : SinkState) →
    IsStreamed (Completes h table) name past now start old new →
    (fetch : Fetch) (before : List Fetch) → now ≡ fetch ∷ before → fetch.failed ≡ true → ⊥
closed_sound h table name past now start old new is_streamed fetch before is failed =
    true≢false (sym failed
    ∙ (ap (λ (f : Fetch). f.failed) (same_head fetch is_streamed.fetch before past (sym is ∙ is_streamed.history_is))
    ∙ is_streamed.is.1.sound))

-- if a call of a stream's fetch failed, the shelf broke the stream off; if the sink or a record did, no call failed
pub failed_rose : (P : Type 0) (h : Head) (table : NodeTable) (name : List ℕ) (past now : List Fetch) (start : List ℕ)
    (old new : SinkState) (broken : Broken) →
    IsStreamed (λ s. Breaks h table s broken) name past now start old new →
    (broken ≡ Shelf → P) → (fetch : Fetch) (before : List Fetch) → now ≡ fetch ∷ before → fetch.failed ≡ true → P
failed_rose P h table name past now start old new Shelf is_streamed rose fetch before is failed = rose refl
failed_rose P h table name past now start old new Sink is_streamed rose fetch before is failed =
    absurd (true≢false (sym failed
    ∙ (ap (λ (f : Fetch). f.failed) (same_head fetch is_streamed.fetch before past (sym is ∙ is_streamed.history_is))
    ∙ is_streamed.is.1.sound)))
failed_rose P h table name past now start old new (Refused fault) is_streamed rose fetch before is failed =
    absurd (true≢false (sym failed
    ∙ (ap (λ (f : Fetch). f.failed) (same_head fetch is_streamed.fetch before past (sym is ∙ is_streamed.history_is))
    ∙ is_streamed.is.1.sound)))
