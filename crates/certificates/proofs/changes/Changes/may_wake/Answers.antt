-- A change that may wake somebody is found, unless the masks have no bit in common.
use Rattle.std.proofs.Common.{map, ◌==◌, ◌∙◌, ap, sym}
use Rattle.std.specs.List.{list_any}
use Rattle.model.specs.Design.{Trigger}
use Rattle.certificates.specs.declared.changes.NotedChange.{NotedChange}
use Rattle.footprints.specs.Footprints.{changed_registers}
use Rattle.certificates.specs.Masks.{has_number, registers_of}
use Rattle.certificates.specs.Changes.{register_change_of, may_wake, may_wake_any}
use Rattle.certificates.proofs.Tests.{any_mapped}
use Rattle.certificates.proofs.Masks.{any_changed, none_in_both, may_wake_is, wake_none}
use Rattle.certificates.proofs.changes.Changes.may_wake.Goals as goal

pub returns-then-may_meet : goal.returns-then-may_meet
returns-then-may_meet c =
    let ts = c.args.triggers.now in
    c.may_any_wake.ensures ∙ ap (λ cs. list_any (λ (d : NotedChange). may_wake ts (register_change_of d)) cs) c.as_slice.ensures
    ∙ sym (may_wake_is ts c.self.inside.list) ∙ ap (λ cs. may_wake_any ts cs) c.self.view_is

pub returns-else-may_meet : goal.returns-else-may_meet
returns-else-may_meet c =
    let ts = c.args.triggers.now in
    let cs = c.self.inside.list in
    c.if-may_meet.false
    ∙ sym (wake_none (map register_change_of cs) ts
    (none_in_both (changed_registers (map register_change_of cs)) (registers_of ts)
    (λ n there.
    any_mapped (λ q. q == n) (λ (t : Trigger). t.1) ts
    ∙ c.may_meet.ensures (has_number (λ (d : NotedChange). d.register) cs) (has_number (λ (t : Trigger). t.1) ts) c.mask.ensures c.mask-2.ensures c.if-may_meet.false n (sym (any_changed (λ q. q == n) cs) ∙ there))))
    ∙ ap (λ ds. may_wake_any ts ds) c.self.view_is
