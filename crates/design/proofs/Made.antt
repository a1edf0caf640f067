-- What is emitted for a sound design is its code.
use Rattle.std.proofs.Common.{◌≡◌, ℕ, zero, suc, ◌+◌, ⊎_elim, List, [], ◌∷◌, ◌++◌, length, get_or, map, Some, refl, sym, ap, ◌∙◌, subst, arith, length-append, zero-add}
use Rattle.std.proofs.lemmas.List.{append-nil}
use Rattle.std.specs.Prelude.{slice_get}
use Rattle.std.specs.List.{All}
use Rattle.model.specs.Design as model
use Rattle.model.specs.Turns.{whole}
use Rattle.model.specs.Design.{size, all_statements, first_place, all_of}
use Rattle.design.specs.declared.tree.Process.{Process}
use Rattle.design.specs.declared.extents.Extent.{Extent}
use Rattle.design.specs.DesignTrees.{process_of}
use Rattle.design.specs.Sound.{IsSound, AreSoundStatements}
use Rattle.design.specs.CodePlaces.{statement_count, end_place}
use Rattle.design.specs.Compiled.{Compiled, design_of}
use Rattle.design.specs.Meaning.{IsCompiled}
use Rattle.design.specs.Extents.{all_extents, extents, IsMeasured}
use Rattle.design.specs.Emit.{Emitted, nothing_yet, with_bodies, starts_of, end_nodes, all_code}
use Rattle.design.proofs.Growing.{Grows}
use Rattle.design.proofs.Placed.{Leads}
use Rattle.design.proofs.Fine.{code_of, FineAt}
use Rattle.design.proofs.Ends.{AreSoundProcesses, length_bodies, done_bodies, starts_there, length_starts, length_ends, done_ends}
use Rattle.design.proofs.Reading.{AreOps, bodies_ops}
use Rattle.design.proofs.Measured.{length_extents, measured_processes}

sound_each : (widths : List ℕ) (ps : List model.Process) → All (λ p. AreSoundStatements widths p.body) ps → AreSoundProcesses widths ps
sound_each widths [] h = tt
sound_each widths (p ∷ ps) h = (h 0 p (omega arith), sound_each widths ps (λ k d lt. h (suc k) d (omega arith)))

-- the table has as many entries as there are statements
pub length_all_extents : (place : ℕ) (ps : List model.Process) → length (all_extents place ps) ≡ length (all_statements ps)
length_all_extents place [] = refl
length_all_extents place (p ∷ ps) =
    omega (arith, length-append (extents place p.body) (all_extents (place + size p.body) ps), length-append (all_of p.body) (all_statements ps), length_extents place p.body, length_all_extents (place + size p.body) ps)

-- and has each statement's extent
pub table_measured : (table : List Extent) (ps : List model.Process) → table ≡ all_extents 0 ps → IsMeasured table 0 ps
table_measured table ps e = measured_processes table 0 ps ([], e ∙ sym (append-nil (all_extents 0 ps)))

pub length_processes : (ps : List Process) → length (map process_of ps) ≡ length ps
length_processes [] = refl
length_processes (p ∷ ps) = ap suc (length_processes ps)

get_map : (ps : List Process) (k : ℕ) (d : Process) → get_or (map process_of ps) k (process_of d) ≡ process_of (get_or ps k d)
get_map [] k d = refl
get_map (p ∷ ps) zero d = refl
get_map (p ∷ ps) (suc k) d = get_map ps k d

-- the statements of the program's tree are sound
pub sound_trees : (widths : List ℕ) (ps : List Process) → All (λ p. AreSoundStatements widths p.body) (map process_of ps) → All (λ p. AreSoundStatements widths (process_of p).body) ps
sound_trees widths ps h k d lt =
    subst (λ q. AreSoundStatements widths q.body) (get_map ps k d) (h k (process_of d) (omega (arith, length_processes ps)))

-- the code of a design, from what was emitted for it
pub compiled : (code : Compiled) (e : Emitted) → IsSound (design_of code) → length code.names ≡ length code.widths
    → e ≡ with_bodies code.widths (statement_count (design_of code)) nothing_yet (design_of code).processes
    → code.nodes ≡ e.nodes ++ end_nodes (design_of code).processes code.starts
    → code.ops ≡ e.ops → code.shown ≡ e.shown → code.controls ≡ e.controls
    → code.starts ≡ starts_of 0 (statement_count (design_of code)) (design_of code).processes
    → IsCompiled code
compiled code e sound named emitted nodes ops shown controls starts =
    let design = design_of code in
    let ps = design.processes in
    let count = statement_count design in
    let each = sound_each code.widths ps sound.statements in
    let zero_end : count ≡ end_place design 0 = omega arith in
    let grown : Grows (with_bodies code.widths count nothing_yet ps) (code_of code) =
    subst (λ x. Grows x (code_of code)) emitted
    (record { nodes = (end_nodes ps code.starts, nodes); ops = ([], ops ∙ sym (append-nil e.ops)); shown = ([], shown ∙ sym (append-nil e.shown)); controls = ([], controls ∙ sym (append-nil e.controls)) }) in
    let long : length e.nodes ≡ count = ap (λ x. length x.nodes) emitted ∙ length_bodies code.widths count nothing_yet ps ∙ zero-add count in
    let many : length ps ≡ length code.processes = length_processes code.processes in
    let begun : length code.starts ≡ length ps = ap length starts ∙ length_starts 0 count ps in
    let at : (k place : ℕ) → slice_get code.starts k ≡ Some place → Leads design k place (whole design k) =
    λ k place is. subst (λ m. Leads design m place (whole design m)) (zero-add k) (starts_there design ps [] 0 count refl refl zero_end k place (ap (λ l. slice_get l k) (sym starts) ∙ is)) in
    let ends = done_ends code e ps refl nodes long at in
    record {
      sound = sound;
      named = named;
      count = ap length nodes ∙ length-append e.nodes (end_nodes ps code.starts) ∙ omega (arith, long, many, length_ends ps code.starts begun);
      fine = λ p place n lt own is.
          ⊎_elim
          (λ h. done_bodies code ps [] count nothing_yet refl zero_end refl each grown p (omega arith) (omega (arith, many)) place h.0 h.1 n is)
          (λ h. subst (λ k. FineAt code p k) (sym h) (ends p) n is)
          own;
      ops = subst (λ l. AreOps code.widths l) (sym (ops ∙ ap (λ x. x.ops) emitted)) (bodies_ops code.widths count nothing_yet ps each (λ k d lt. absurd (omega arith)));
      begins = begun ∙ many;
      starts = λ p place is. let l = at p place is in (l.own, l.left);
    }

-- the same, from the code of its processes
pub made : (code : Compiled) → IsSound (design_of code) → length code.names ≡ length code.widths
    → code_of code ≡ all_code code.widths (statement_count (design_of code)) (design_of code).processes
    → code.starts ≡ starts_of 0 (statement_count (design_of code)) (design_of code).processes
    → IsCompiled code
made code sound named all starts =
    let ps = (design_of code).processes in
    let e = with_bodies code.widths (statement_count (design_of code)) nothing_yet ps in
    compiled code e sound named refl
    (ap (λ x. x.nodes) all ∙ ap (λ l. e.nodes ++ end_nodes ps l) (sym starts)) (ap (λ x. x.ops) all) (ap (λ x. x.shown) all) (ap (λ x. x.controls) all) starts

-- the place behind all statements is as far as the table reaches
pub behind_all : (table : List Extent) (ps : List model.Process) (count : ℕ) → table ≡ all_extents 0 ps → count ≡ length table → count ≡ length (all_statements ps)
behind_all table ps count tabled counted = counted ∙ ap length tabled ∙ length_all_extents 0 ps

-- where processes begin, where nothing stands before them
pub begun_there : (e0 : Emitted) (ps : List model.Process) (count total : ℕ) (starts : List ℕ) → e0 ≡ nothing_yet → count ≡ total
    → starts ≡ starts_of (length e0.nodes) count ps → starts ≡ starts_of 0 total ps
begun_there e0 ps count total starts none long is =
    is ∙ ap (λ k. starts_of (length e0.nodes) k ps) long ∙ ap (λ x. starts_of (length x.nodes) total ps) none

-- and their code
pub all_there : (widths : List ℕ) (e0 e e1 : Emitted) (ps : List model.Process) (count total : ℕ) (starts : List ℕ) → e0 ≡ nothing_yet → count ≡ total
    → starts ≡ starts_of 0 total ps → e ≡ with_bodies widths count e0 ps → e1 ≡ record e { nodes = e.nodes ++ end_nodes ps starts }
    → e1 ≡ all_code widths total ps
all_there widths e0 e e1 ps count total starts none long begun emitted ended =
    ended
    ∙ ap (λ (x : Emitted). record x { nodes = x.nodes ++ end_nodes ps starts }) (emitted ∙ ap (λ k. with_bodies widths k e0 ps) long ∙ ap (λ x. with_bodies widths total x ps) none)
    ∙ ap (λ l. record (with_bodies widths total nothing_yet ps) { nodes = (with_bodies widths total nothing_yet ps).nodes ++ end_nodes ps l }) begun
