-- One entry more is told, or the fault of the journal.
use Rattle.std.proofs.Common.{◌∙◌, ap, ℕ, List, ◌++◌}
use Rattle.explain.proofs.EntryText.{told_same}
use Rattle.explain.proofs.Sending.{told_more, stopped_if}
use Rattle.explain.proofs.telling.explain_entry.Goals as goal

pub returns-in-Ok-tell-clause-told : goal.returns-in-Ok-tell-clause-told
returns-in-Ok-tell-clause-told c = λ start now to.
    let last = c.last.ensures in
    let line = told_same c.args.telling.now _ _ _ _ _ _ _ _ last.number last.entry last.account last.finishes in
    told_more c.args.telling.now c.args.entries.now c.args.at _ c.args.explainer.now c.explain_next.new.explainer start now c.args.text.now.items c.tell.new.text.items
    c.requires.inside c.in-Ok.ensures.told c.explain_next.ensures.code (c.in-Ok-tell.ensures ∙ ap (λ (l : List ℕ). c.args.text.now.items ++ l) line) to

pub returns-in-Err-clause-stopped : goal.returns-in-Err-clause-stopped
returns-in-Err-clause-stopped c = λ start now to.
    stopped_if c.args.telling.now c.args.entries.now c.args.at c.args.explainer.now c.explain_next.new.explainer start now c.args.text.now.items c.in-Err.fault
    c.in-Err.ensures.fault c.in-Err.ensures.at c.in-Err.ensures.state to
