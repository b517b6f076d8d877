-- V5 at one column: it is broken where the release, a live input, or the end of the producer comes only after the
-- column's time.
use Rattle.std.proofs.Common.{ℕ, ◌+◌, ◌<◌, ◌≤◌, ◌≡◌, Bool, true, false, cond, not, ◌&&◌, ◌||◌, ◌==◌, List, filter}
use Rattle.std.proofs.Common.{Contains, Option, refl, sym, ap, ◌∙◌, arith, lt-ltb, le-ltb}
use Rattle.std.specs.Prelude.{nat_lt}
use Rattle.std.specs.List.{list_any}
use Rattle.std.proofs.Math.Bool.{and_assoc, and_comm}
use Rattle.cpg_base.specs.Activity.{active, live, item_active}
use Rattle.cpg_base.specs.Bus.{slot_length}
use Rattle.cpg_base.specs.Duration.{duration}
use Rattle.cpg_base.specs.Graph.{Graph, process_count, edge_count, item_count, item_at, message_item, producer, home}
use Rattle.cpg_base.specs.Graph.{inputs, is_message, process_at, source, target}
use Rattle.cpg_base.specs.Numbers.{numbers_below}
use Rattle.cpg_base.proofs.Items.{item_at-start, item_at-message, producer_within}
use Rattle.cpg_base.proofs.Lists.{same_any, Contains-filter_parts, numbers-Contains}
use Rattle.cpg_base.specs.Scenario.{Scenario, IsScenario, fault_of}
use Rattle.cpg_base.specs.First.{IsFirst}
use Rattle.cpg_order.proofs.Acyclic.{source_in_order}
use Rattle.cpg_base.proofs.First.{first_same}
use Rattle.cpg_rules.specs.Guards.{Guards}
use Rattle.cpg_cube.specs.Cube.{matches}
use Rattle.cpg_cube.specs.declared.literal.Literal.{Literal}
use Rattle.cpg_rules.specs.Admission.{IsAdmitted}
use Rattle.cpg_table.specs.Table.{NodeTable, columns_of}
use Rattle.cpg_cube.specs.declared.column.Column.{Column}
use Rattle.cpg_table.specs.Valid.{ends_of, arrivals_of, is_by, input_is_there, breaks_inputs_of}
use Rattle.cpg_table.specs.declared.rule.Rule.{Rule}
use Rattle.cpg_violation.specs.Violation.{AllHold, row_rules}
use Rattle.cpg_violation.proofs.Matching.{active_where}
use Rattle.cpg_violation.proofs.LiveEdges.{live_tested}
use Rattle.cpg_violation.proofs.Tests.{with_true, same_where}
use Rattle.cpg_violation.proofs.Columnwise.{any_filter}
use Rattle.cpg_violation.proofs.Moments.{made, waits}
use Rattle.cpg_check_time.specs.declared.delays.Delay.TheVariants.{Execution, Slot}
use Rattle.cpg_check_time.specs.Columns.{breaks_column}
use Rattle.cpg_check_time.specs.Delays.{is_late}
use Rattle.cpg_check_time.specs.Inputs.{is_asked, is_input_late, lacks_input}
use Rattle.cpg_check_time.proofs.Seeking.{both_any}
use Rattle.cpg_check_time.proofs.Waits.{late_where}

-- ---- live edges

-- an edge `e` is live exactly if its source is active and has the value that it asks for
live_asked : {g : Graph} {order : List ℕ} {guards : Guards} → IsAdmitted g order guards → (s : Scenario) →
    IsScenario g s → (e : ℕ) →
    e < edge_count g →
    live g s.values e ≡ (active g s.values (source g e) && is_asked g e s)
live_asked {g} {order} {guards} admitted s lawful e is_edge =
    live_tested g order admitted.topological guards admitted.guards s.values lawful.values e is_edge

-- given: tables of an admitted graph that keep V1 to V3, and a scenario
module _ {g : Graph} {order : List ℕ} {guards : Guards} (admitted : IsAdmitted g order guards) (tables : List NodeTable)
    (rules : AllHold g tables row_rules) (s : Scenario)
    (lawful : IsScenario g s) where
  -- process `p` is active and hasn't ended by a time exactly if one of its columns is late
  end_late : (p : ℕ) → p < process_count g → (time : ℕ) →
      (active g s.values p && not (is_by time (ends_of g tables s p)))
      ≡ list_any (λ d. is_late g (Execution p) time d s) (columns_of tables p)
  end_late p is_process time =
      ap (λ i. item_active g s.values i && not (is_by time (ends_of g tables s p))) (sym (item_at-start g p is_process))
      ∙ late_where g tables s lawful p (omega arith) rules (λ start. start + duration g p (fault_of s p)) time

  -- input `e` is live and isn't there by a time exactly if it is late
  input_late : (e : ℕ) → e < edge_count g → (time : ℕ) →
      (live g s.values e && not (input_is_there g tables s time e)) ≡ is_input_late g tables time e s
  input_late e is_edge time = go (is_message g e) refl
    where
      -- by the kind of the input: a message by its arrivals, any other by the ends of its source
      go : (b : Bool) → is_message g e ≡ b →
          (live g s.values e
          && not (is_by time (cond b (arrivals_of g tables s (message_item g e)) (ends_of g tables s (source g e)))))
          ≡ cond b (list_any (λ d. is_late g (Slot (slot_length g (home g (message_item g e)))) time d s)
          (columns_of tables (message_item g e)))
          (is_asked g e s
          && list_any (λ d. is_late g (Execution (source g e)) time d s) (columns_of tables (source g e)))
      go true message =
          -- a message is sent exactly if its edge is live, and is late if its columns are
          let sent : item_active g s.values (item_at g (message_item g e)) ≡ live g s.values e =
          ap (item_active g s.values) (item_at-message g e is_edge) ∙ ap (λ b. b && live g s.values e) message in
          ap (λ b. b && not (is_by time (arrivals_of g tables s (message_item g e)))) (sym sent)
          ∙ late_where g tables s lawful (message_item g e) (omega arith) rules
          (λ start. start + slot_length g (home g (message_item g e))) time
      go false not_message =
          -- another input is live if its source is active and asked for, and late if the source's columns end late
          ap (λ b. b && not (is_by time (ends_of g tables s (source g e))))
          (live_asked admitted s lawful e is_edge ∙ and_comm (active g s.values (source g e)) (is_asked g e s))
          ∙ and_assoc (is_asked g e s) (active g s.values (source g e))
          (not (is_by time (ends_of g tables s (source g e))))
          ∙ ap (λ b. is_asked g e s && b)
          (end_late (source g e) (source_in_order g order admitted.topological e is_edge) time)

  -- ---- the rule at a start

  -- given: a column of a start
  module _ (p : ℕ) (is_process : p < process_count g) (c : Column) where
    -- the column breaks V5 exactly where it matches and is before the release or a live input isn't there
    at_start : breaks_column Rule.Inputs g tables p c s ≡
        (matches c.cube s && (nat_lt c.time (process_at g p).release
        || list_any (λ e. not (input_is_there g tables s c.time e)) (filter (live g s.values) (inputs g p))))
    at_start = ap (λ i. matches c.cube s && breaks_inputs_of g tables s c.time i) (item_at-start g p is_process)

    -- a column before the release breaks V5 wherever it matches
    too_early : c.time < (process_at g p).release → matches c.cube s ≡ breaks_column Rule.Inputs g tables p c s
    too_early early = with_true (matches c.cube s) true refl ∙
        sym (at_start ∙ ap (λ b. matches c.cube s
        && (b || list_any (λ e. not (input_is_there g tables s c.time e)) (filter (live g s.values) (inputs g p))))
        (lt-ltb c.time (process_at g p).release early))

    -- a column that isn't before the release breaks V5 exactly where it matches and one of the inputs is late
    inputs_only : (process_at g p).release ≤ c.time →
        list_any (λ e. lacks_input g tables c e s) (inputs g p) ≡ breaks_column Rule.Inputs g tables p c s
    -- whether the column matches is asked once; an input is live and not there exactly if it is late; and the release
    -- has come
    inputs_only released =
        both_any (matches c.cube s) (λ e. is_input_late g tables c.time e s) (inputs g p)
        ∙ ap (λ b. matches c.cube s && b)
        (sym (any_filter (λ e. not (input_is_there g tables s c.time e)) (live g s.values) (inputs g p)
        ∙ same_any (λ e. live g s.values e && not (input_is_there g tables s c.time e))
        (λ e. is_input_late g tables c.time e s) (inputs g p)
        (λ e member. input_late e (numbers-Contains (edge_count g) e
        (Contains-filter_parts (λ e. target g e == p) (numbers_below (edge_count g)) e member).0) c.time)))
        ∙ sym (at_start ∙ ap (λ b. matches c.cube s
        && (b || list_any (λ e. not (input_is_there g tables s c.time e)) (filter (live g s.values) (inputs g p))))
        (le-ltb c.time (process_at g p).release released))

  -- ---- the rule at a send

  -- given: a column of a send
  module _ (x : ℕ) (is_item : x < item_count g) (send : process_count g ≤ x) (c : Column)
      (member : Contains (columns_of tables x) c) where
    -- the column breaks V5 exactly where it matches and some column of the producer ends late: where it matches, the
    -- producer is active
    at_send : (matches c.cube s && list_any (λ d. is_late g (Execution (producer g x)) c.time d s)
        (columns_of tables (producer g x))) ≡ breaks_column Rule.Inputs g tables x c s
    at_send =
        same_where (matches c.cube s) (list_any (λ d. is_late g (Execution (producer g x)) c.time d s)
        (columns_of tables (producer g x))) (not (is_by c.time (ends_of g tables s (producer g x))))
        (λ matched. sym (end_late (producer g x) (producer_within g admitted.well_formed x is_item) c.time)
        ∙ ap (λ b. b && not (is_by c.time (ends_of g tables s (producer g x))))
        (made g s x is_item send (active_where g tables s lawful x is_item rules c member matched)))
        ∙ ap (λ b. matches c.cube s && b) (sym (waits g s x is_item send tables c.time))

-- ---- an input by its kind

-- given: a column of a start, and an input of its process
module _ (g : Graph) (order : List ℕ) (tables : List NodeTable) (c : Column) (e : ℕ) (o : Option Scenario) where
  -- some column of the input's message arrives after the column's time
  abbrev frame_late : Scenario → Bool
  frame_late s = list_any (λ d. is_late g (Slot (slot_length g (home g (message_item g e)))) c.time d s)
      (columns_of tables (message_item g e))

  -- some column of the input's source ends after the column's time
  abbrev source_late : Scenario → Bool
  source_late s = list_any (λ d. is_late g (Execution (source g e)) c.time d s) (columns_of tables (source g e))

  -- if the input is a message, the least scenario in which its frame is late is the least that lacks the input
  pub lacks_frame : is_message g e ≡ true → IsFirst g order (λ s. matches c.cube s && frame_late s) o →
      IsFirst g order (lacks_input g tables c e) o
  lacks_frame message is_first = first_same g order (λ s. matches c.cube s && frame_late s) (lacks_input g tables c e) o
      (λ s _. sym (ap (λ b. matches c.cube s && cond b (frame_late s) (is_asked g e s && source_late s)) message))
      is_first

  -- if the input isn't a message, the least scenario in which the source has the asked value and ends late is the least
  -- that lacks the input
  pub lacks_source : is_message g e ≡ false → (part : List Literal) →
      ((s : Scenario) → matches part s ≡ (matches c.cube s && is_asked g e s)) →
      IsFirst g order (λ s. matches part s && source_late s) o → IsFirst g order (lacks_input g tables c e) o
  lacks_source not_message part is is_first =
      first_same g order (λ s. matches part s && source_late s) (lacks_input g tables c e) o
      (λ s _. ap (λ b. b && source_late s) (is s) ∙ and_assoc (matches c.cube s) (is_asked g e s) (source_late s)
      ∙ sym (ap (λ b. matches c.cube s && cond b (frame_late s) (is_asked g e s && source_late s)) not_message))
      is_first

-- ---- the least scenario

-- given: tables of an admitted graph that keep V1 to V3, a column, and the answer of a search
module _ {g : Graph} {order : List ℕ} {guards : Guards} (admitted : IsAdmitted g order guards) (tables : List NodeTable)
    (rules : AllHold g tables row_rules) (x : ℕ) (c : Column)
    (o : Option Scenario) where
  -- before the release of a start, the least scenario that the column matches is the least in which it breaks V5
  pub first_released : x < process_count g → c.time < (process_at g x).release → IsFirst g order (matches c.cube) o →
      IsFirst g order (breaks_column Rule.Inputs g tables x c) o
  first_released is_start early is_first =
      first_same g order (matches c.cube) (breaks_column Rule.Inputs g tables x c) o
      (λ s lawful. too_early admitted tables rules s lawful x is_start c early) is_first

  -- from the release of a start on, the least scenario in which the column lacks one of the inputs is the least in
  -- which it breaks V5
  pub first_input : x < process_count g → (process_at g x).release ≤ c.time →
      IsFirst g order (λ s. list_any (λ e. lacks_input g tables c e s) (inputs g x)) o →
      IsFirst g order (breaks_column Rule.Inputs g tables x c) o
  first_input is_start released is_first =
      first_same g order (λ s. list_any (λ e. lacks_input g tables c e s) (inputs g x))
      (breaks_column Rule.Inputs g tables x c) o
      (λ s lawful. inputs_only admitted tables rules s lawful x is_start c released) is_first

  -- for a send, the least scenario in which the column matches and the producer ends late is the least in which the
  -- column breaks V5
  pub first_send : x < item_count g → process_count g ≤ x → Contains (columns_of tables x) c →
      IsFirst g order (λ s. matches c.cube s
      && list_any (λ d. is_late g (Execution (producer g x)) c.time d s) (columns_of tables (producer g x))) o →
      IsFirst g order (breaks_column Rule.Inputs g tables x c) o
  first_send is_item send member is_first = first_same g order (λ s. matches c.cube s
      && list_any (λ d. is_late g (Execution (producer g x)) c.time d s) (columns_of tables (producer g x)))
      (breaks_column Rule.Inputs g tables x c) o
      (λ s lawful. at_send admitted tables rules s lawful x is_item send c member) is_first
