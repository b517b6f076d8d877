-- A log: the acts of all nodes up to a time, as a file names them.
use Rattle.std.specs.Prelude.{ℕ, ◌^◌, ◌≡◌, ◌≢◌, ◌≤◌, ◌<◌, Bool, true, ◌&&◌, ◌||◌, ◌==◌, nat_lt, if◌then◌else◌, List, []}
use Rattle.std.specs.Prelude.{◌∷◌, ◌++◌, codes, map, get_or, Option, Some, None, All, AllPairs}
use Rattle.std.specs.Fmt.{decimal}
use Rattle.cpg_base.specs.Graph.{Graph, process_count, item_count, item_at, is_sent, home}
use Rattle.cpg_label.specs.Labels.{labels_of}
use Rattle.cpg_label.specs.ItemText.{done_text}
pub use Rattle.cpg_log.specs.declared.log.Logged.{Logged}

-- the time up to which the log goes, and its acts
pub record Log : Type 0 where
  -- the time up to which it names all acts
  pub until : ℕ
  -- the acts up to then, in the order of the file
  pub acts : List Logged

-- whether x is the number of something that a node starts or sends: a process, a message between two nodes or, if there
-- are at least two nodes, a broadcast
abbrev pub is_act : Graph → ℕ → Bool
is_act g x = nat_lt x (process_count g) || (nat_lt x (item_count g) && is_sent g x)

-- the text of item x: its node, and what that does, in the words of a trace
abbrev pub act_text : Graph → ℕ → List ℕ
act_text g x = get_or g.nodes (home g x) [] ++ codes " " ++ done_text (labels_of g) (item_at g x)

-- the line of an act: its time, its node, and what is done
abbrev pub act_line : Graph → Logged → List ℕ
act_line g l = decimal l.time ++ codes " " ++ act_text g l.item

-- the first line of a log, which says up to what time it goes
abbrev pub until_line : ℕ → List ℕ
until_line until = codes "until " ++ decimal until

-- the lines of a log: its first line, and one for each act
abbrev pub log_lines : Graph → Log → List (List ℕ)
log_lines g log = until_line log.until ∷ map (act_line g) log.acts

-- an act may be in a log up to the time `until`: a node starts or sends its item, by then
pub record IsActBy (g : Graph) (until : ℕ) (l : Logged) : Type 0 where
  -- some node starts or sends the item
  pub item : is_act g l.item ≡ true
  -- it does so by the time
  pub time : l.time ≤ until

-- a log goes up to a time below 2^60, its acts may be in such a log, and no two of them are of one item
pub record IsLog (g : Graph) (log : Log) : Type 0 where
  -- the log goes up to a time below 2^60
  pub until : log.until < 2 ^ 60
  -- its acts are by then, of items that nodes start or send
  pub acts : All (IsActBy g log.until) log.acts
  -- no two of them are of one item
  pub apart : AllPairs (λ a b. a.item ≢ b.item) log.acts

-- the time at which a log's acts name item x; None if they don't
abbrev pub logged_time : List Logged → ℕ → Option ℕ
logged_time [] x = None
logged_time (l ∷ ls) x = if l.item == x then Some l.time else logged_time ls x
