-- Which files are logs, and the first line that makes a file none.
use Rattle.std.specs.Prelude.{ℕ, ◌^◌, ◌+◌, ◌≡◌, ◌≢◌, ◌<◌, List, [], ◌∷◌, ◌++◌, None, true, take, length, get_or}
use Rattle.cpg_base.specs.Graph.{Graph, home}
use Rattle.cpg_base.specs.Name.{IsName}
use Rattle.cpg_log.specs.Lines.{lines}
use Rattle.cpg_log.specs.Log.{Log, Logged, IsLog, IsActBy, log_lines, until_line, is_act, act_text, act_line}
use Rattle.cpg_log.specs.Log.{logged_time}

-- a file is that of a lawful log: it has its lines
pub record IsLogOf (g : Graph) (bytes : List ℕ) (log : Log) : Type 0 where
  -- the log is lawful
  pub lawful : IsLog g log
  -- the lines of the file are those of the log
  pub spelled : lines bytes ≡ log_lines g log

-- `place` is the number, from 0, of the first line that makes a file no log: the lines up to it are no log's, and those
-- before it, if there are any, are one's. If the file is empty it is 0
pub record IsBadLine (g : Graph) (ls : List (List ℕ)) (place : ℕ) : Type 0 where
  -- the lines up to this one, with it, are those of no log
  pub none : (log : Log) → IsLog g log → take (place + 1) ls ≢ log_lines g log
  -- if it isn't the first, the lines before it are those of a log
  pub before : place ≢ 0 → (log : Log) × IsLog g log × (take place ls ≡ log_lines g log)

-- Line by line.

-- a log may go on with an act: the act may be in it, and it doesn't name the act's item yet
pub record MayGoOn (g : Graph) (log : Log) (l : Logged) : Type 0 where
  -- a log up to that time may have the act
  pub act : IsActBy g log.until l
  -- the log doesn't name its item yet
  pub new : logged_time log.acts l.item ≡ None

-- there is no first line, or it doesn't say up to what time a log goes
abbrev pub LackTime : List (List ℕ) → Type 0
LackTime ls = (until : ℕ) (rest : List (List ℕ)) → until < 2 ^ 60 → ls ≢ until_line until ∷ rest

-- the nodes of the items below n have well-formed names
abbrev pub HaveNames : Graph → ℕ → Type 0
HaveNames g n = (x : ℕ) → x < n → IsName (get_or g.nodes (home g x) [])

-- a text is that of item x, which some node starts or sends and the log doesn't name yet
pub record IsNew (g : Graph) (log : Log) (text : List ℕ) (x : ℕ) : Type 0 where
  -- some node starts or sends item x
  pub item : is_act g x ≡ true
  -- the log doesn't name it yet
  pub new : logged_time log.acts x ≡ None
  -- the text is what a log has for this act
  pub spelled : text ≡ act_text g x

-- a line is that of an act that a log may go on with, and `new` is the log with this act added
pub record GoesOn (g : Graph) (old : Log) (line : List ℕ) (new : Log) : Type 0 where
  -- the act of the line
  pub act : Logged
  -- the line is that of the act
  pub spelled : line ≡ act_line g act
  -- the log may go on with it
  pub may : MayGoOn g old act
  -- the act is added at the end
  pub added : new ≡ record { until = old.until; acts = old.acts ++ act ∷ [] }

-- the first line of some bytes is that of an act that the log may go on with, and `new` is the log with this act added;
-- `rest` are the bytes after the line
pub record IsLineRead (g : Graph) (old : Log) (bytes : List ℕ) (new : Log) (rest : List ℕ) : Type 0 where
  -- the first line
  pub line : List ℕ
  -- the bytes are this line and the lines of the rest
  pub first : lines bytes ≡ line ∷ lines rest
  -- fewer bytes are left, so reading line by line ends
  pub shorter : length rest < length bytes
  -- the line adds its act to the log
  pub goes_on : GoesOn g old line new

-- the first line of some bytes is of no act that the log may go on with. It is the line `place` of its file, as the first
-- line and one for each act so far come before it
pub record IsLineStrange (g : Graph) (log : Log) (bytes : List ℕ) (place : ℕ) : Type 0 where
  -- the first line
  pub line : List ℕ
  -- the bytes after it
  pub rest : List ℕ
  -- the bytes are this line and the lines of the rest
  pub first : lines bytes ≡ line ∷ lines rest
  -- lines are counted from 0, and line 0 has no act
  pub here : place ≡ length log.acts + 1
  -- it is the line of no act that the log may go on with
  pub strange : (l : Logged) → MayGoOn g log l → line ≢ act_line g l

-- the first line of a file opens a log, which has no act yet; `rest` are the bytes after it
pub record IsOpened (bytes : List ℕ) (log : Log) (rest : List ℕ) : Type 0 where
  -- the log goes up to a time below 2^60
  pub until : log.until < 2 ^ 60
  -- it has no act yet
  pub none : log.acts ≡ []
  -- the first line says that time
  pub first : lines bytes ≡ until_line log.until ∷ lines rest
