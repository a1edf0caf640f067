-- All entries and the end are told, or the entries before the fault and the fault.
use Rattle.std.proofs.Common.{rules}
use Rattle.explain.proofs.Ends.{of_entries_if, no_replay_if}
use Rattle.explain.proofs.Sending.{told_none, told_all_if, told_fault_if}
use Rattle.explain.proofs.telling.explain_from_start.Goals as goal

pub explain_all-requires : goal.explain_all-requires
explain_all-requires g c =
    (search rules, told_none c.args.telling.now c.args.entries.now c.args.explainer.now (g.W.Write.contents c.args.out.now) _ c.requires.code c.requires.behind c.requires.entries c.new-text.ensures.items)

pub returns-in-Ok-clause-told : goal.returns-in-Ok-clause-told
returns-in-Ok-clause-told g c =
    told_all_if _ c.args.telling.now c.args.entries.now c.explain_all.new.explainer _ _ _ c.explain_all.new.text.items c.tell_end.ensures.ended c.in-Ok.ensures.told

pub returns-in-Ok-clause-stopped : goal.returns-in-Ok-clause-stopped
returns-in-Ok-clause-stopped g c = no_replay_if _ _ c.tell_end.ensures.own

pub returns-in-Ok-clause-own : goal.returns-in-Ok-clause-own
returns-in-Ok-clause-own g c = of_entries_if _ c.tell_end.ensures.own

pub returns-clause-stopped : goal.returns-clause-stopped
returns-clause-stopped g c =
    told_fault_if _ c.in-Err.fault c.args.telling.now c.args.entries.now c.explain_all.new.explainer _ _ _ c.explain_all.new.text.items c.tell_fault.ensures.refused
    c.in-Err.ensures.stopped
