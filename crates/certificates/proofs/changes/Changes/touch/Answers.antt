-- A change of one of these registers is found, unless the masks have no bit in common.
use Rattle.std.proofs.Common.{map, ◌==◌, ◌∙◌, ap, sym}
use Rattle.std.specs.List.{list_any}
use Rattle.model.specs.Turns.{contains}
use Rattle.footprints.specs.Footprints.{changed_registers}
use Rattle.certificates.specs.declared.changes.NotedChange.{NotedChange}
use Rattle.certificates.specs.Changes.{register_change_of}
use Rattle.certificates.specs.Masks.{has_number, meet}
use Rattle.certificates.proofs.Masks.{any_changed, none_in_both, touched_is}
use Rattle.certificates.proofs.changes.Changes.touch.Goals as goal

pub returns-then-may_meet : goal.returns-then-may_meet
returns-then-may_meet c =
    c.is_any_among.ensures ∙ ap (λ cs. list_any (λ (d : NotedChange). contains c.args.registers.now d.register) cs) c.as_slice.ensures
    ∙ sym (touched_is c.self.inside.list c.args.registers.now) ∙ ap (λ cs. meet (changed_registers cs) c.args.registers.now) c.self.view_is

pub returns-else-may_meet : goal.returns-else-may_meet
returns-else-may_meet c =
    let cs = c.self.inside.list in
    let registers = c.args.registers.now in
    c.if-may_meet.false
    ∙ sym (none_in_both (changed_registers (map register_change_of cs)) registers
    (λ n there. c.may_meet.ensures (has_number (λ (d : NotedChange). d.register) cs) (contains registers) c.mask.ensures c.mask-2.ensures c.if-may_meet.false n (sym (any_changed (λ q. q == n) cs) ∙ there)))
    ∙ ap (λ ds. meet (changed_registers ds) registers) c.self.view_is
