-- A file that stops a run, by what the shelf reports of it.
use Rattle.std.proofs.Common.{ℕ, ◌≡◌, ◌≤◌, Option, Some, length, refl, arith, inl, inr}
use Rattle.std.specs.Prelude.{◌⊎◌, Ok, Err}
use Rattle.cpg_base.specs.Graph.{Graph}
use Rattle.cpg_history.specs.Fetch.{Fetch}
use Rattle.cpg_io.specs.State.{ShelfState, given_count}
use Rattle.cpg_words.specs.Parts.{Text}
use Rattle.cpg_reader.specs.declared.place.ReadFault.{ReadFault}
use Rattle.cpg_reader.specs.Document.{problem_of}
use Rattle.cpg_rules.specs.Admission.{Admission}
use Rattle.cpg_table.specs.Lawful.{Tables}
use Rattle.cpg_codec.specs.declared.fault.PackFault.{PackFault}
use Rattle.cpg_codec.specs.Packs.{IsBadPack}
use Rattle.cpg_codec.specs.Spelling.{spelling}
use Rattle.cpg_log.specs.Lines.{lines}
use Rattle.cpg_log.specs.Log.{Log}
use Rattle.cpg_log.specs.Reading.{IsBadLine, IsLogOf}
use Rattle.cpg_log.specs.declared.fault.LogFault.{LogFault}
use Rattle.cpg_scenario.specs.File.{file_of}
use Rattle.cpg_scenario.specs.declared.fault.ScenarioFault.{ScenarioFault}
use Rattle.cpg_scenario.specs.declared.reading.Played.{Played}
use Rattle.cpg_refusal.specs.declared.halt.Halt.{Halt}
use Rattle.cpg_refusal.specs.declared.halt.Halt.TheVariants.{Memory}
use Rattle.cpg_inputs.specs.declared.kind.FileKind.{FileKind}
use Rattle.cpg_inputs.specs.declared.kind.FileKind.TheVariants.{GraphFile, PartFile, PackFile, ScenarioFile, LogFile}
use Rattle.cpg_inputs.specs.Files.{file, limit_of, long_of}
use Rattle.cpg_inputs.specs.Reading.{IsWhole, StopsAt, IsLong as IsLongFile, IsUnread as IsUnreadFile}
use Rattle.cpg_inputs.specs.Says.{AreAdmitted, AreFaulty, AreOfNone, AreSpelled, ArePlayed, AreLogged}
use Rattle.cpg_shelf_laws.specs.Causes.{Admits, IsFaulty, IsLong, IsUnread, Says, SaysLog, SaysPlayed, Spells}
use Rattle.cpg_shelf_laws.specs.Causes.{StopsAdmission, StopsLog, StopsPack, StopsPlayed, StopsReading, seen}
use Rattle.cpg_shelf_laws.proofs.Fetched.{IsLast, TellsAs, more, tells_long, tells_whole, told_says, told_short}

-- ---- what files say

-- bytes within the limit that say an admitted graph say it as the shelf reports them
pub admits : (told : Option Text) (given : Text) (a : Admission) → TellsAs told given →
    length given ≤ limit_of GraphFile → AreAdmitted given a → Admits told a
admits told given a alike short are_admitted = record {
  says = (
    told_short told given _ alike short,
    told_says told given (λ bytes. problem_of bytes ≡ Ok a.graph) alike
        are_admitted.says,
  );
  admitted = are_admitted.admitted;
}

-- bytes within the limit that say a graph say it as the shelf reports them
pub says : (told : Option Text) (given : Text) (g : Graph) → TellsAs told given → length given ≤ limit_of GraphFile →
    problem_of given ≡ Ok g → Says told g
says told given g alike short is_ok =
    (told_short told given _ alike short, told_says told given (λ bytes. problem_of bytes ≡ Ok g) alike is_ok)

-- bytes within the limit that spell tables spell them as the shelf reports them
pub spells : (told : Option Text) (given : Text) (t : Tables) → TellsAs told given → length given ≤ limit_of PackFile →
    AreSpelled given t → Spells told t
spells told given t alike short are_spelled = record {
  lawful = are_spelled.lawful;
  short = told_short told given _ alike short;
  spelled = told_says told given (λ bytes. bytes ≡ spelling t) alike are_spelled.spelled;
}

-- bytes within the limit that say what is played, `p`, say it as the shelf reports them
pub says_scenario : (told : Option Text) (given : Text) (g : Graph) (p : Played) → TellsAs told given →
    length given ≤ limit_of ScenarioFile → ArePlayed given g p →
    SaysPlayed told g p
says_scenario told given g p alike short are_played =
    (told_short told given _ alike short, told_says told given (λ bytes. file_of g bytes ≡ Ok p) alike are_played.says)

-- bytes within the limit that are a log `l` of a graph are so as the shelf reports them
pub says_acts : (told : Option Text) (given : Text) (g : Graph) (l : Log) → TellsAs told given →
    length given ≤ limit_of LogFile → AreLogged given g l →
    SaysLog told g l
says_acts told given g l alike short are_logged =
    (told_short told given _ alike short, told_says told given (λ bytes. IsLogOf g bytes l) alike are_logged.says)

-- ---- why the last file stops a run

-- given the last fetch of a run, and a name
module _ (old new : ShelfState) (f : Fetch) (is : IsLast old new f) (name : Text) where
  -- if it gave no more than a limit, the count of its bytes isn't more
  within : (limit : ℕ) → length f.given ≤ limit → given_count new ≤ limit
  within limit short = let count = is.count in omega (arith, count, short)

  -- if the file wasn't read, as the shelf failed, the count of faults rose
  unread : (kind : FileKind) (halt : Halt) → IsUnreadFile (file kind name) f halt → IsUnread (seen old new) halt
  unread kind halt unread_file = record { halt_is = unread_file.halt_is; rose = is.rose unread_file.failed }

  -- a file that is too long is so as the shelf reports it
  long : (kind : FileKind) (halt : Halt) → IsLongFile (file kind name) f halt →
      IsLong (limit_of kind) (long_of kind) (seen old new) (old.stands name) halt
  long kind halt is_long_file = record {
    halt_is = is_long_file.halt_is;
    given = (let count = is.count in let over = is_long_file.over in omega (arith, count, over));
    most = (let count = is.count in let over = is_long_file.over in omega (arith, count, over));
    long = tells_long old.stands (file kind name) f is_long_file.of
        (more (length f.given) (limit_of kind) is_long_file.over) is.agrees;
  }

  -- a whole file is what the shelf reports
  tells : (kind : FileKind) → IsWhole (file kind name) f → TellsAs (old.stands name) f.given
  tells kind is_whole = tells_whole old.stands (file kind name) f is_whole is.agrees

  -- a graph file that is faulty as it was given is faulty as the shelf reports it
  faulty : (halt : Halt) (short : length f.given ≤ limit_of GraphFile) → TellsAs (old.stands name) f.given →
      AreFaulty f.given halt →
      IsFaulty (seen old new) (old.stands name) halt
  faulty halt short alike are_faulty = record {
    fault = are_faulty.fault;
    halt_is = are_faulty.halt_is;
    within = λ other. within (limit_of GraphFile) short;
    first = λ other. (
      told_short (old.stands name) f.given _ alike short,
      told_says (old.stands name) f.given (λ bytes. problem_of bytes ≡ Err are_faulty.fault) alike are_faulty.first,
    );
  }

  -- the halt that memory ran out is one of reading a graph file
  no_graph : (halt : Halt) → halt ≡ Memory → IsFaulty (seen old new) (old.stands name) halt
  no_graph halt same = record {
    fault = ReadFault.OutOfMemory;
    halt_is = same;
    within = λ other. absurd (other refl);
    first = λ other. absurd (other refl);
  }

  -- if a part's file stops the run, its reading stops by the earlier contract, too; by why it stops
  pub stops_part : (g : Option Graph) (halt : Halt) → StopsAt g (file PartFile name) f halt →
      StopsReading (seen old new) (old.stands name) halt
  stops_part g halt (inl u) = inl (unread PartFile halt u)
  stops_part g halt (inr (inl l)) = inr (inl (long PartFile halt l))
  stops_part g halt (inr (inr (inl r))) = inr (inr (faulty halt r.whole.short (tells PartFile r.whole) r.refuses))
  stops_part g halt (inr (inr (inr w))) = inr (inr (no_graph halt w.halt_is))

  -- a graph file that is rejected as it was given is rejected as the shelf reports it: it is faulty, or its graph isn't
  -- admitted
  refused_graph : (halt : Halt) (short : length f.given ≤ limit_of GraphFile) → TellsAs (old.stands name) f.given →
      (AreFaulty f.given halt ⊎ AreOfNone f.given halt) →
      StopsAdmission (seen old new) (old.stands name) halt
  refused_graph halt short alike (inl x) = inl (inr (inr (faulty halt short alike x)))
  refused_graph halt short alike (inr x) = inr (
    x.graph,
    says (old.stands name) f.given x.graph alike short x.says,
    record { stops = x.breaks; within = within (limit_of GraphFile) short },
  )

  -- if a graph file stops the run, it does by the earlier contract, too; by why it stops
  pub stops_graph : (g : Option Graph) (halt : Halt) → StopsAt g (file GraphFile name) f halt →
      StopsAdmission (seen old new) (old.stands name) halt
  stops_graph g halt (inl u) = inl (inl (unread GraphFile halt u))
  stops_graph g halt (inr (inl l)) = inl (inr (inl (long GraphFile halt l)))
  stops_graph g halt (inr (inr (inl r))) = refused_graph halt r.whole.short (tells GraphFile r.whole) r.refuses
  stops_graph g halt (inr (inr (inr w))) = inl (inr (inr (no_graph halt w.halt_is)))

  -- if a pack stops the run, it does by the earlier contract, too; by why it stops
  pub stops_pack : (g : Option Graph) (halt : Halt) → StopsAt g (file PackFile name) f halt →
      StopsPack (seen old new) (old.stands name) halt
  stops_pack g halt (inl u) = inl (unread PackFile halt u)
  stops_pack g halt (inr (inl l)) = inr (inl (long PackFile halt l))
  stops_pack g halt (inr (inr (inl r))) =
      let alike = tells PackFile r.whole in
      inr (inr (record {
        fault = PackFault.BadPack r.refuses.length;
        halt_is = r.refuses.halt_is;
        within = λ other. within (limit_of PackFile) r.whole.short;
        shows = (
          told_short (old.stands name) f.given _ alike r.whole.short,
          told_says (old.stands name) f.given (λ bytes. IsBadPack bytes r.refuses.length) alike r.refuses.bad,
        );
      }))
  stops_pack g halt (inr (inr (inr w))) =
      inr (inr (record { fault = PackFault.OutOfMemory; halt_is = w.halt_is; within = λ other. absurd (other refl); shows = tt }))

  -- if a scenario file stops the run, it does by the earlier contract, too; by why it stops
  pub stops_scenario : (g : Graph) (halt : Halt) → StopsAt (Some g) (file ScenarioFile name) f halt →
      StopsPlayed (seen old new) (old.stands name) g halt
  stops_scenario g halt (inl u) = inl (unread ScenarioFile halt u)
  stops_scenario g halt (inr (inl l)) = inr (inl (long ScenarioFile halt l))
  stops_scenario g halt (inr (inr (inl r))) =
      let alike = tells ScenarioFile r.whole in
      inr (inr (record {
        fault = r.refuses.fault;
        halt_is = r.refuses.halt_is;
        within = λ other. within (limit_of ScenarioFile) r.whole.short;
        first = λ other. (
          told_short (old.stands name) f.given _ alike r.whole.short,
          told_says (old.stands name) f.given (λ bytes. file_of g bytes ≡ Err r.refuses.fault) alike r.refuses.first,
        );
      }))
  stops_scenario g halt (inr (inr (inr w))) =
      inr (inr (record { fault = ScenarioFault.OutOfMemory; halt_is = w.halt_is; within = λ other. absurd (other refl); first = λ other. absurd (other refl) }))

  -- if a log stops the run, it does by the earlier contract, too; by why it stops
  pub stops_log : (g : Graph) (halt : Halt) → StopsAt (Some g) (file LogFile name) f halt →
      StopsLog (seen old new) (old.stands name) g halt
  stops_log g halt (inl u) = inl (unread LogFile halt u)
  stops_log g halt (inr (inl l)) = inr (inl (long LogFile halt l))
  stops_log g halt (inr (inr (inl r))) =
      let alike = tells LogFile r.whole in
      inr (inr (record {
        fault = LogFault.Bad r.refuses.line;
        halt_is = r.refuses.halt_is;
        within = λ other. within (limit_of LogFile) r.whole.short;
        shows = (
          told_short (old.stands name) f.given _ alike r.whole.short,
          told_says (old.stands name) f.given (λ bytes. IsBadLine g (lines bytes) r.refuses.line) alike r.refuses.bad,
        );
      }))
  stops_log g halt (inr (inr (inr w))) = inr (inr
      (record { fault = LogFault.OutOfMemory; halt_is = w.halt_is; within = λ other. absurd (other refl); shows = tt }))
