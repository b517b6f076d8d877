-- The fetch of a stream, by what was followed of it.
use Rattle.std.proofs.Common.{ℕ, ◌≡◌, List, ◌∷◌}
use Rattle.std.specs.Prelude.{Result, Ok, Err, MatchResult}
use Rattle.cpg_history.specs.Fetch.{Fetch}
use Rattle.cpg_io.specs.State.{SinkState}
use Rattle.cpg_live.specs.Following.{IsStreamed, Stream}
use Rattle.cpg_live.specs.declared.following.Broken.{Broken}

-- following a stream adds one fetch to the history, whether it came to the close or broke off
pub fetch_of : (Is : Stream → Type 0) (Breaks : Broken → Stream → Type 0) (name : List ℕ) (past now : List Fetch)
    (start : List ℕ) (old new : SinkState) (result : Result Unit Broken) →
    MatchResult result (λ _. IsStreamed Is name past now start old new)
    (λ broken. IsStreamed (Breaks broken) name past now start old new) → (fetch : Fetch) × (now ≡ fetch ∷ past)
fetch_of Is Breaks name past now start old new (Ok done) match_result = (match_result.fetch, match_result.history_is)
fetch_of Is Breaks name past now start old new (Err broken) match_result = (match_result.fetch, match_result.history_is)
