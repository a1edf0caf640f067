-- The entry at the place is taken, and its line is put.
use Rattle.std.proofs.Common.{◌∙◌, ap, ℕ, List, ◌++◌}
use Rattle.explain.proofs.EntryText.{line_put, line_same}
use Rattle.explain.proofs.entry_text.push_next.Goals as goal

pub returns-in-Ok-push_entry-clause-put : goal.returns-in-Ok-push_entry-clause-put
returns-in-Ok-push_entry-clause-put c =
    let last = c.last.ensures in
    let line = line_same c.args.names.now _ _ _ _ _ _ _ _ last.number last.entry last.account last.finishes in
    line_put c.args.names.now c.args.entries.now c.args.place _ c.args.explainer.now c.explain_next.new.explainer c.args.text.now.items c.push_entry.new.text.items c.requires.inside
    c.requires.code c.in-Ok.ensures.told c.explain_next.ensures.code (c.in-Ok-push_entry.ensures ∙ ap (λ (l : List ℕ). c.args.text.now.items ++ l) line)
