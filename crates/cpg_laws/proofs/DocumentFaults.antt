-- The faults of a graph file are those of its document, and the first of them is reported.
use Rattle.std.proofs.Common.{◌≡◌, ◌↔◌, ℕ, List, [], ◌∷◌, ◌++◌, Option, Some, None, Ok, Err, Contains, refl, sym, ap}
use Rattle.std.proofs.Common.{◌∙◌, subst, inl, inr}
use Rattle.std.proofs.lemmas.List.Elements.{Contains-append_left, Contains-append_right}
use Rattle.toml.specs.Data.{Members}
use Rattle.cpg_base.proofs.Lists.{Contains-first, Contains-cases, Contains-nil}
use Rattle.cpg_reader.specs.declared.place.ReadFault.{ReadFault}
use Rattle.cpg_reader.specs.declared.place.ReadFault.TheVariants.{NotToml, BadField, DoubleName, UnknownName, OverLimit}
use Rattle.cpg_reader.specs.declared.place.ReadFault.TheVariants.{OutOfMemory}
use Rattle.cpg_base.specs.Graph.{Graph}
use Rattle.cpg_reader.specs.Reading.{Reading}
use Rattle.cpg_reader.specs.Shape.{read_raw}
use Rattle.cpg_reader.specs.Document.{members_if, document_of, problem_of}
use Rattle.cpg_laws.specs.GraphFiles.{field_faults, limit_faults, double_faults, unknown_faults, graph_faults}
use Rattle.cpg_laws.specs.GraphFiles.{document_faults, faults_of, IsFirst}
use Rattle.cpg_laws.specs.Refusals.{IsFirstOf}
use Rattle.cpg_laws.specs.DocumentFaults.{document, HasGoodFields, IsFaultOf, IsFaultIn, IsFaulty}
use Rattle.cpg_laws.specs.DocumentFaults.{FilesAreRefusedByDocument}
use Rattle.cpg_laws.proofs.GraphFiles.{fields_first, graph_files_show_first_faults}
use Rattle.cpg_laws.proofs.Refusals.{refusals_are_first}
use Rattle.cpg_laws.proofs.DocumentValues.{graph_in, graph_is}
use Rattle.cpg_laws.proofs.FaultLists.{Each, each_contained, each_joined, each_weaker}
use Rattle.cpg_laws.proofs.FieldFaults.{IsBad, fields_are_bad, bad_field_there, good_fields, fields_are_good}
use Rattle.cpg_laws.proofs.LimitFaults.{IsOver, limits_over, limit_there}
use Rattle.cpg_laws.proofs.NameFaults.{IsTwice, doubles_stand, double_there, IsNameless, unknowns_stand, unknown_there}

-- ---- one document

-- given a document, as its members
module _ (ms : Members) where
  -- if its fields are good, it is read as the graph of its values
  read_is : HasGoodFields ms → read_raw ms ≡ Ok (graph_in ms)
  read_is good =
      let (g, is_read) = subst (λ faults. IsFirst faults (read_raw ms)) (good_fields ms good) (fields_first ms) in
      is_read ∙ ap Ok (graph_is ms g is_read)

  -- Each listed fault of the graph is one of the document.
  -- List by list: limits, double names, unknown names.
  graph_is_faulty : HasGoodFields ms → Each (IsFaultOf ms) (graph_faults (Ok (graph_in ms)))
  graph_is_faulty good =
      each_joined (IsFaultOf ms) (limit_faults (graph_in ms))
      (double_faults (graph_in ms) ++ unknown_faults (graph_in ms))
      (each_weaker (IsOver ms) (IsFaultOf ms) (λ fault over. subst (IsFaultOf ms) (sym over.1) (good, over.2))
      (limit_faults (graph_in ms)) (limits_over ms good))
      (each_joined (IsFaultOf ms) (double_faults (graph_in ms)) (unknown_faults (graph_in ms))
      (each_weaker (IsTwice ms) (IsFaultOf ms) (λ fault twice. subst (IsFaultOf ms) (sym twice.1) (good, twice.2))
      (double_faults (graph_in ms)) (doubles_stand ms good))
      (each_weaker (IsNameless ms) (IsFaultOf ms)
      (λ fault nameless. subst (IsFaultOf ms) (sym nameless.1) (good, nameless.2))
      (unknown_faults (graph_in ms)) (unknowns_stand ms good)))

  -- each fault that is listed after the field faults is one of the document
  rest_is_faulty : (faults : List ReadFault) → field_faults ms ≡ faults → IsFirst faults (read_raw ms) →
      Each (IsFaultOf ms) (graph_faults (read_raw ms))
  rest_is_faulty [] none is_first = let good = fields_are_good ms none in
      subst (λ r. Each (IsFaultOf ms) (graph_faults r)) (sym (read_is good)) (graph_is_faulty good)
  rest_is_faulty (fault ∷ faults) is is_first = subst (λ r. Each (IsFaultOf ms) (graph_faults r)) (sym is_first) tt

  -- each listed fault is one of the document
  document_is_faulty : Each (IsFaultOf ms) (document_faults (Ok ms))
  document_is_faulty = each_joined (IsFaultOf ms) (field_faults ms) (graph_faults (read_raw ms))
      (each_weaker (IsBad ms) (IsFaultOf ms) (λ fault bad. subst (IsFaultOf ms) (sym bad.1) bad.2) (field_faults ms)
      (fields_are_bad ms))
      (rest_is_faulty (field_faults ms) refl (fields_first ms))

  -- a listed fault of the graph is listed for the document
  in_graph : HasGoodFields ms → (fault : ReadFault) → Contains (graph_faults (Ok (graph_in ms))) fault →
      Contains (document_faults (Ok ms)) fault
  in_graph good fault within = Contains-append_right (field_faults ms) (graph_faults (read_raw ms)) fault
      (subst (λ r. Contains (graph_faults r) fault) (sym (read_is good)) within)

  -- a listed fault of names is listed for the document
  in_names : HasGoodFields ms → (fault : ReadFault) →
      Contains (double_faults (graph_in ms) ++ unknown_faults (graph_in ms)) fault →
      Contains (document_faults (Ok ms)) fault
  in_names good fault within = in_graph good fault (Contains-append_right (limit_faults (graph_in ms))
      (double_faults (graph_in ms) ++ unknown_faults (graph_in ms)) fault within)

  -- Each fault of the document is listed.
  -- By the kind of the fault, which has its part of the list.
  fault_there : (fault : ReadFault) → IsFaultOf ms fault → Contains (document_faults (Ok ms)) fault
  fault_there NotToml faulty = absurd faulty
  fault_there (BadField at) faulty =
      Contains-append_left (field_faults ms) (graph_faults (read_raw ms)) (BadField at) (bad_field_there ms at faulty)
  fault_there (OverLimit what) faulty = in_graph faulty.0 (OverLimit what)
      (Contains-append_left (limit_faults (graph_in ms)) (double_faults (graph_in ms) ++ unknown_faults (graph_in ms))
      (OverLimit what) (limit_there ms faulty.0 what faulty.1))
  fault_there (DoubleName at) faulty =
      in_names faulty.0 (DoubleName at) (Contains-append_left (double_faults (graph_in ms))
      (unknown_faults (graph_in ms)) (DoubleName at) (double_there ms faulty.0 at faulty.1))
  fault_there (UnknownName at) faulty =
      in_names faulty.0 (UnknownName at) (Contains-append_right (double_faults (graph_in ms))
      (unknown_faults (graph_in ms)) (UnknownName at) (unknown_there ms faulty.0 at faulty.1))
  fault_there OutOfMemory faulty = absurd faulty

-- ---- one file

-- the listed faults of a document, or of none, are the faults in it
faults_are : (o : Option Members) (fault : ReadFault) →
    Contains (document_faults (members_if o)) fault ↔ IsFaultIn o fault
faults_are None fault = (
  λ within. elim (Contains-cases NotToml [] fault within) [
    | inl same ↦ sym same
    | inr rest ↦ absurd (Contains-nil fault rest)
  ],
  λ same. subst (λ f. Contains (NotToml ∷ []) f) (sym same) (Contains-first NotToml []),
)
faults_are (Some ms) fault =
    (each_contained (IsFaultOf ms) (document_faults (Ok ms)) (document_is_faulty ms) fault, fault_there ms fault)

-- the listed faults of a file are its faults
file_faults_are : (bytes : List ℕ) (fault : ReadFault) → Contains (faults_of bytes) fault ↔ IsFaulty bytes fault
unfolding document_of
file_faults_are bytes fault = faults_are (document bytes) fault

-- if `P` and `Q` hold of the same faults, the first fault of which `P` holds is the first of which `Q` does
first_by : (P Q : ReadFault → Type 0) → ((fault : ReadFault) → P fault → Q fault) →
    ((fault : ReadFault) → Q fault → P fault) → (fault : ReadFault) → IsFirstOf P fault →
    IsFirstOf Q fault
first_by P Q there back fault is_first = record {
  stands = there fault is_first.stands;
  kinds = λ other holds. is_first.kinds other (back other holds);
  places = λ other holds. is_first.places other (back other holds);
}

-- a reading is refused with one fault
same_fault : {T : Type 0} (r : Reading T) (fault other : ReadFault) → r ≡ Err fault → r ≡ Err other → fault ≡ other
same_fault r fault other by_fault by_other = cc

-- if a reading `r` shows the first of some faults, it succeeds exactly if there are none
read_where : {T : Type 0} (faults : List ReadFault) (r : Reading T) → IsFirst faults r →
    ((x : T) × (r ≡ Ok x)) ↔ ((fault : ReadFault) → Contains faults fault → ⊥)
read_where [] r told = (λ is_read fault within. Contains-nil fault within, λ none. told)
read_where (f ∷ faults) r told =
    (λ is_read. absurd (let ok = is_read.1 in cc), λ none. absurd (none f (Contains-first f faults)))

-- given the bytes of a file
module _ (bytes : List ℕ) where
  -- each listed fault is one of the file
  there : (fault : ReadFault) → Contains (faults_of bytes) fault → IsFaulty bytes fault
  there fault = (file_faults_are bytes fault).0

  -- each fault of the file is listed
  back : (fault : ReadFault) → IsFaulty bytes fault → Contains (faults_of bytes) fault
  back fault = (file_faults_are bytes fault).1

  -- the file is refused by the first of its faults
  first_is_told : (fault : ReadFault) → (problem_of bytes ≡ Err fault) ↔ IsFirstOf (IsFaulty bytes) fault
  first_is_told fault =
      let (told, first) = (refusals_are_first bytes).first fault in (
        λ refused. first_by (Contains (faults_of bytes)) (IsFaulty bytes) there back fault (told refused),
        λ is_first. first (first_by (IsFaulty bytes) (Contains (faults_of bytes)) back there fault is_first),
      )

  -- the file is read as a graph exactly if it has no fault
  read_is_faultless : ((g : Graph) × (problem_of bytes ≡ Ok g)) ↔ ((fault : ReadFault) → IsFaulty bytes fault → ⊥)
  read_is_faultless =
      let (faultless, read) = read_where (faults_of bytes) (problem_of bytes) (graph_files_show_first_faults bytes) in (
        λ is_read fault faulty. faultless is_read fault (back fault faulty),
        λ none. read (λ fault within. none fault (there fault within)),
      )

-- A graph file is rejected by the first fault of its document.
-- The listed faults are those of the document, and the refusal is the first of these.
pub files_are_refused_by_document : FilesAreRefusedByDocument
files_are_refused_by_document bytes = record {
  faults = file_faults_are bytes;
  first = first_is_told bytes;
  one = λ fault other is_first other_first.
      same_fault (problem_of bytes) fault other ((first_is_told bytes fault).1 is_first)
      ((first_is_told bytes other).1 other_first);
  read = read_is_faultless bytes;
}
