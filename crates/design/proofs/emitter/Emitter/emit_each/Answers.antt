use Rattle.std.proofs.Common.{length, map, refl, sym, ap, ◌∙◌, subst}
use Rattle.design.specs.DesignTrees.{process_of}
use Rattle.design.specs.Extents.{IsMeasured}
use Rattle.design.specs.Emit.{Emitted}
use Rattle.design.specs.Emitter.{emitted_of}
use Rattle.design.proofs.Ends.{length_starts}
use Rattle.design.proofs.Made.{sound_trees, table_measured, length_processes, behind_all, begun_there, all_there}
use Rattle.design.proofs.emitter.Emitter.emit_each.Goals as goal

pub emit_bodies-requires-clause-sound : goal.emit_bodies-requires-clause-sound
emit_bodies-requires-clause-sound c = sound_trees c.args.widths.now c.args.processes.now c.requires.sound.statements

pub emit_bodies-requires-clause-measured : goal.emit_bodies-requires-clause-measured
emit_bodies-requires-clause-measured c =
    let ps = map process_of c.args.processes.now in
    subst (λ n. IsMeasured c.args.table.now n ps) (sym (ap (λ (e : Emitted). length e.nodes) c.requires.empty)) (table_measured c.args.table.now ps c.requires.tabled)

pub emit_ends-requires : goal.emit_ends-requires
emit_ends-requires c =
    ap length (c.deref.ensures.value ∙ c.in_ok-starts.ensures.starts)
    ∙ length_starts (length c.args.self.now.nodes.items) (length c.args.table.now) (map process_of c.args.processes.now)
    ∙ length_processes c.args.processes.now

pub returns-clause-starts : goal.returns-clause-starts
returns-clause-starts c =
    let ps = map process_of c.args.processes.now in
    begun_there (emitted_of c.args.self.now) ps (length c.args.table.now) _ c.in_ok-starts.starts.items c.requires.empty
    (behind_all c.args.table.now ps (length c.args.table.now) c.requires.tabled refl) c.in_ok-starts.ensures.starts

pub returns-clause-code : goal.returns-clause-code
returns-clause-code c =
    let ps = map process_of c.args.processes.now in
    let e0 = emitted_of c.args.self.now in
    let long = behind_all c.args.table.now ps (length c.args.table.now) c.requires.tabled refl in
    let begun = begun_there e0 ps (length c.args.table.now) _ c.in_ok-starts.starts.items c.requires.empty long c.in_ok-starts.ensures.starts in
    c.give_back.ensures
    ∙ all_there c.args.widths.now e0 (emitted_of c.emit_bodies.new.self) _ ps (length c.args.table.now) _ c.deref.result.now c.requires.empty long
    (c.deref.ensures.value ∙ begun) c.in_ok-starts.ensures.code c.in_ok-emit_ends.ensures
