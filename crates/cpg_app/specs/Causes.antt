-- Why a command's work stops, given what its files say.
use Rattle.std.specs.Prelude.{ℕ, ◌≡◌, ◌⊎◌, List, Option, None, Err, position}
use Rattle.std.specs.Str.{bytes_eq}
use Rattle.cpg_words.specs.Parts.{Text}
use Rattle.cpg_words.specs.declared.command.Command.{Command}
use Rattle.cpg_words.specs.declared.command.Command.TheVariants.{Show, Compile, Check, Play, Node, Trial, Live, Hyper}
use Rattle.cpg_words.specs.declared.command.Command.TheVariants.{Tune, Audit}
use Rattle.cpg_rules.specs.Admission.{Admission}
use Rattle.cpg_head.specs.Head.{Head}
use Rattle.cpg_table.specs.Lawful.{Tables}
use Rattle.cpg_table.specs.declared.fault.Fault.{Fault}
use Rattle.cpg_violation.specs.Heads.{IsFirstDifference, IsHeadFor}
use Rattle.cpg_violation.specs.declared.heads.HeadPart.{HeadPart}
use Rattle.cpg_check.specs.Verdict.{IsFirstFault}
use Rattle.cpg_hyper.specs.declared.part.Part.{Part}
use Rattle.cpg_hyper.specs.declared.part.HyperFault.{HyperFault}
use Rattle.cpg_hyper.specs.Refusals.{ShowsUnrolled}
use Rattle.cpg_core.specs.declared.fault.CompileFault.{CompileFault}
use Rattle.cpg_core.specs.Compilation.{ShowsCompileFault}
use Rattle.cpg_refusal.specs.declared.halt.Refusal.TheVariants.{OtherGraph, UnknownNode}
use Rattle.cpg_refusal.specs.declared.halt.Halt.{Halt}
use Rattle.cpg_refusal.specs.declared.halt.Halt.TheVariants.{Refused, Unsafe, Memory}
use Rattle.cpg_refusal.specs.Halts.{halt_of_parts}
use Rattle.cpg_inputs.specs.Says.{Value}
use Rattle.cpg_inputs.specs.Shapes.{OnGraph, OnJudged, OnLogged, OnParts, OnPlayed, OnTables}
use Rattle.cpg_app.specs.Halts.{halt_of_compile}

-- the compile of a graph fails: the graph is late or too wide, or memory runs out; the halt says so
pub record IsUncompiled (a : Admission) (halt : Halt) : Type 0 where
  -- how the compile fails
  pub fault : CompileFault
  -- the halt that reports it
  pub halt_is : halt ≡ halt_of_compile a fault
  -- the graph is late or too wide as the fault says; this asks nothing if the fault is that memory ran out
  pub shows : ShowsCompileFault a.graph a.order fault

-- the tables are another graph's, and the halt says the first part of their head that differs
pub record IsOtherGraph (a : Admission) (t : Tables) (halt : Halt) : Type 0 where
  -- the part of the head that the halt says
  pub part : HeadPart
  pub halt_is : halt ≡ Refused (OtherGraph part)
  -- it differs from the graph's, and every part before it is the same
  pub first : IsFirstDifference a.graph t.head part

-- the tables have the graph's head and break a rule, and the halt says the first violation
pub record IsUnsafe (a : Admission) (t : Tables) (halt : Halt) : Type 0 where
  -- the violation that the halt says
  pub fault : Fault
  pub halt_is : halt ≡ Unsafe a fault
  pub head : IsHeadFor a.graph t.head
  -- the first violation of V1 to V9 or, if these hold, of V10
  pub first : IsFirstFault a.graph a.order t.nodes fault

-- a check of tables for a graph stops with this halt: the tables are another graph's, or break a rule
abbrev pub StopsVerdict : Admission → Tables → Halt → Type 0
StopsVerdict a t halt = IsOtherGraph a t halt ⊎ IsUnsafe a t halt

-- the number of the first node that has this name, or `None` if no node has it
abbrev pub first_named : Head → Text → Option ℕ
first_named h name = position (λ node. bytes_eq node name) h.nodes

-- no node of the tables has the name, and the halt says so
pub record StopsNaming (t : Tables) (name : Text) (halt : Halt) : Type 0 where
  pub halt_is : halt ≡ Refused UnknownNode
  pub none : first_named t.head name ≡ None

-- the parts give no graph of all their instances, or memory runs out; the halt says so
pub record IsNotUnrolled (parts : List Part) (halt : Halt) : Type 0 where
  -- why there is none
  pub fault : HyperFault
  pub halt_is : halt ≡ halt_of_parts fault
  -- the parts have this fault, or memory ran out
  pub shows : ShowsUnrolled parts (Err fault)

-- a command's work on what its files say may stop with this halt; that memory runs out is mostly left to `OrMemory`
abbrev pub StopsWork : Command → List Value → Halt → Type 0
StopsWork (Show graph) values halt = OnGraph values (λ a. IsUncompiled a halt)
StopsWork (Compile graph) values halt = OnGraph values (λ a. IsUncompiled a halt)
StopsWork (Check graph pack) values halt = OnJudged values (λ a t. StopsVerdict a t halt)
StopsWork (Play graph pack scenario turns) values halt = OnPlayed values (λ a t p. StopsVerdict a t halt)
StopsWork (Node pack name) values halt = OnTables values (λ t. StopsNaming t name halt)
StopsWork (Trial number) values halt = ⊥
StopsWork (Live pack name stream) values halt = OnTables values (λ t. StopsNaming t name halt)
StopsWork (Hyper pairs) values halt = OnParts pairs values (λ parts. IsNotUnrolled parts halt)
StopsWork (Tune graph) values halt = ⊥
StopsWork (Audit graph pack log) values halt = OnLogged values (λ a t l. StopsVerdict a t halt)

-- the halt is one of these, or says that memory ran out
abbrev pub OrMemory : (Halt → Type 0) → Halt → Type 0
OrMemory Stops halt = Stops halt ⊎ (halt ≡ Memory)
