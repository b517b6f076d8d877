-- Definitions read all fields of an element in one row of steps, and code reads some of them in a function of its own.
-- Both give the same.
use Rattle.std.proofs.Common.{◌≡◌, ℕ, ℤ, pos, Bool, false, Option, List, [], ◌∷◌, Ok, Err, refl}
use Rattle.toml.specs.Data.{Members, as_integer, as_bool}
use Rattle.cpg_reader.specs.declared.place.Table.TheVariants as tables
use Rattle.cpg_reader.specs.declared.place.Key.TheVariants.{Faults, Deadline, Node, Slot, Process, Edge, Order, Name}
use Rattle.cpg_reader.specs.declared.place.Key.TheVariants.{Bytes, Wcet, Parts, Alpha, Chi, Mu, Join, Frozen, Release}
use Rattle.cpg_reader.specs.declared.place.Key.TheVariants.{From, To, When}
use Rattle.cpg_reader.specs.declared.shape.RawWork.{RawWork}
use Rattle.cpg_reader.specs.declared.shape.RawLink.{RawLink}
use Rattle.cpg_reader.specs.Reading.{Reading, pure, ◌>>=◌, ◌>>◌}
use Rattle.cpg_reader.specs.Rows.{DocumentRow, read_name, read_integer, integer_or, flag_or, optional, as_names}
use Rattle.cpg_reader.specs.Rows.{read_array, only}
use Rattle.cpg_reader.specs.Shape.{read_process, read_work, process_with, read_edge, read_link, edge_with, Tops}
use Rattle.cpg_reader.specs.Shape.{read_lists, read_tops, read_elements, read_raw}

-- Reading the fields of a process one by one and then going on is reading them as its work and then going on with that.
-- By the first step that fails, if one does.
after_work : {T : Type 0} (wcet_at : Reading ℤ) (parts_at : Reading ℤ) (alpha_at : Reading ℤ) (chi_at : Reading ℤ)
    (mu_at : Reading ℤ) (join_at : Reading Bool) (frozen_at : Reading Bool)
    (release_at : Reading ℤ) (deadline_at : Reading (Option ℤ)) (end : Reading (Unit {0})) (next : RawWork → Reading T)
    → (wcet_at >>= (λ wcet. parts_at >>= (λ parts. alpha_at >>=
    (λ alpha. chi_at >>= (λ chi. mu_at >>= (λ mu. join_at >>=
    (λ join. frozen_at >>= (λ frozen. release_at >>=
    (λ release. deadline_at >>= (λ deadline. end >> next
    (record { wcet = wcet; parts = parts; alpha = alpha; chi = chi; mu = mu; join = join; frozen = frozen; release = release; deadline = deadline }))))))))))) ≡
    ((wcet_at >>= (λ wcet. parts_at >>= (λ parts. alpha_at >>=
    (λ alpha. chi_at >>= (λ chi. mu_at >>= (λ mu. join_at >>=
    (λ join. frozen_at >>= (λ frozen. release_at >>=
    (λ release. deadline_at >>= (λ deadline. end >> pure
    (record { wcet = wcet; parts = parts; alpha = alpha; chi = chi; mu = mu; join = join; frozen = frozen; release = release; deadline = deadline })))))))))))
    >>= next)
after_work (Err fault) parts_at alpha_at chi_at mu_at join_at frozen_at release_at deadline_at end next = refl
after_work (Ok wcet) (Err fault) alpha_at chi_at mu_at join_at frozen_at release_at deadline_at end next = refl
after_work (Ok wcet) (Ok parts) (Err fault) chi_at mu_at join_at frozen_at release_at deadline_at end next = refl
after_work (Ok wcet) (Ok parts) (Ok alpha) (Err fault) mu_at join_at frozen_at release_at deadline_at end next = refl
after_work (Ok wcet) (Ok parts) (Ok alpha) (Ok chi) (Err fault) join_at frozen_at release_at deadline_at end next = refl
after_work (Ok wcet) (Ok parts) (Ok alpha) (Ok chi) (Ok mu) (Err fault) frozen_at release_at deadline_at end next = refl
after_work (Ok wcet) (Ok parts) (Ok alpha) (Ok chi) (Ok mu) (Ok join) (Err fault) release_at deadline_at end next = refl
after_work (Ok wcet) (Ok parts) (Ok alpha) (Ok chi) (Ok mu) (Ok join) (Ok frozen) (Err fault) deadline_at end next =
    refl
after_work (Ok wcet) (Ok parts) (Ok alpha) (Ok chi) (Ok mu) (Ok join) (Ok frozen) (Ok release) (Err fault) end next =
    refl
after_work (Ok wcet) (Ok parts) (Ok alpha) (Ok chi) (Ok mu) (Ok join) (Ok frozen) (Ok release) (Ok deadline)
    (Err fault) next = refl
after_work (Ok wcet) (Ok parts) (Ok alpha) (Ok chi) (Ok mu) (Ok join) (Ok frozen) (Ok release) (Ok deadline)
    (Ok done) next = refl

-- once its two names are read, a process is read by reading its work
pub process-parts : (row : DocumentRow) (name node : List ℕ) → read_name row Name ≡ Ok name →
    read_name row Node ≡ Ok node →
    read_process row ≡ (read_work row >>= (λ work. pure (process_with name node work)))
unfolding read_process read_work
process-parts row name node is_name is_node = rw (is_name, is_node)
    (after_work (read_integer row Wcet) (integer_or (pos 1) row Parts) (integer_or (pos 0) row Alpha)
    (integer_or (pos 0) row Chi) (integer_or (pos 0) row Mu)
    (flag_or false row Join) (flag_or false row Frozen) (integer_or (pos 0) row Release)
    (optional as_integer row Deadline)
    (only (Name ∷ Node ∷ Wcet ∷ Parts ∷ Alpha ∷ Chi ∷ Mu ∷ Join ∷ Frozen ∷ Release ∷ Deadline ∷ []) row)
    (λ work. pure (process_with name node work)))

-- Reading the fields of an edge one by one and then going on is reading them as its link and then going on with that.
-- By the first step that fails, if one does.
after_link : {T : Type 0} (bytes_at : Reading ℤ) (when_at : Reading (Option Bool)) (frozen_at : Reading Bool)
    (end : Reading (Unit {0})) (next : RawLink → Reading T)
    → (bytes_at >>= (λ bytes. when_at >>=
    (λ when. frozen_at >>= (λ frozen. end >> next (record { bytes = bytes; when = when; frozen = frozen }))))) ≡
    ((bytes_at >>= (λ bytes. when_at >>= (λ when.
    frozen_at >>= (λ frozen. end >> pure (record { bytes = bytes; when = when; frozen = frozen }))))) >>= next)
after_link (Err fault) when_at frozen_at end next = refl
after_link (Ok bytes) (Err fault) frozen_at end next = refl
after_link (Ok bytes) (Ok when) (Err fault) end next = refl
after_link (Ok bytes) (Ok when) (Ok frozen) (Err fault) next = refl
after_link (Ok bytes) (Ok when) (Ok frozen) (Ok done) next = refl

-- once its two names are read, an edge is read by reading its link
pub edge-parts : (row : DocumentRow) (from to : List ℕ) → read_name row From ≡ Ok from → read_name row To ≡ Ok to →
    read_edge row ≡ (read_link row >>= (λ link. pure (edge_with from to link)))
unfolding read_edge read_link
edge-parts row from to is_from is_to = rw (is_from, is_to)
    (after_link (integer_or (pos 1) row Bytes) (optional as_bool row When) (flag_or false row Frozen)
    (only (From ∷ To ∷ Bytes ∷ When ∷ Frozen ∷ []) row)
    (λ link. pure (edge_with from to link)))

-- Reading what the keys of the top have one by one and then going on is reading it as one record and then going on
-- with that. By the first step that fails, if one does.
after_top : {T : Type 0} (faults_at : Reading ℤ) (deadline_at : Reading ℤ) (nodes_at : Reading (List Members))
    (slots_at : Reading (List Members)) (processes_at : Reading (List Members))
    (edges_at : Reading (List Members)) (order_at : Reading (Option (List (List ℕ)))) (end : Reading (Unit {0}))
    (next : Tops → Reading T)
    → (faults_at >>= (λ faults. deadline_at >>=
    (λ deadline. nodes_at >>= (λ nodes. slots_at >>=
    (λ slots. processes_at >>= (λ processes. edges_at >>=
    (λ edges. order_at >>= (λ order. end >> next (record { faults = faults; deadline = deadline; nodes = nodes; slots = slots; processes = processes; edges = edges; order = order }))))))))) ≡
    ((faults_at >>= (λ faults. deadline_at >>=
    (λ deadline. nodes_at >>= (λ nodes. slots_at >>=
    (λ slots. processes_at >>= (λ processes. edges_at >>=
    (λ edges. order_at >>= (λ order. end >> pure (record { faults = faults; deadline = deadline; nodes = nodes; slots = slots; processes = processes; edges = edges; order = order }))))))))) >>=
    next)
after_top (Err fault) deadline_at nodes_at slots_at processes_at edges_at order_at end next = refl
after_top (Ok faults) (Err fault) nodes_at slots_at processes_at edges_at order_at end next = refl
after_top (Ok faults) (Ok deadline) (Err fault) slots_at processes_at edges_at order_at end next = refl
after_top (Ok faults) (Ok deadline) (Ok nodes) (Err fault) processes_at edges_at order_at end next = refl
after_top (Ok faults) (Ok deadline) (Ok nodes) (Ok slots) (Err fault) edges_at order_at end next = refl
after_top (Ok faults) (Ok deadline) (Ok nodes) (Ok slots) (Ok processes) (Err fault) order_at end next = refl
after_top (Ok faults) (Ok deadline) (Ok nodes) (Ok slots) (Ok processes) (Ok edges) (Err fault) end next = refl
after_top (Ok faults) (Ok deadline) (Ok nodes) (Ok slots) (Ok processes) (Ok edges) (Ok order) (Err fault) next = refl
after_top (Ok faults) (Ok deadline) (Ok nodes) (Ok slots) (Ok processes) (Ok edges) (Ok order) (Ok done) next = refl

-- a document is read by reading the keys of its top, and then the elements of its lists
pub graph-parts : (ms : Members) →
    read_raw ms ≡ (read_tops (record { table = tables.Top; index = 0; members = ms }) >>= read_elements)
unfolding read_raw read_tops read_lists read_elements
graph-parts ms =
    let top : DocumentRow = record { table = tables.Top; index = 0; members = ms } in
    after_top (read_integer top Faults) (read_integer top Deadline) (read_array top Node) (read_array top Slot)
    (read_array top Process) (read_array top Edge) (optional as_names top Order)
    (only (Faults ∷ Deadline ∷ Node ∷ Slot ∷ Process ∷ Edge ∷ Order ∷ []) top) read_elements
