-- What is read of the journal's text, and at its end, is what is shown.
use Rattle.std.proofs.Common.{◌≡◌, ◌∙◌, [], List, ℕ, ap, sym}
use Rattle.std.specs.Cmp.Lexicographic.{same_text}
use Rattle.loosejournals.specs.declared.observed.SeenJournal.{SeenJournal}
use Rattle.wavetexts.specs.Reading.{ReadText, read_on, text_with, unread}
use Rattle.lawful.proofs.ArrangedTexts.{first_read, not_other}
use Rattle.lawful.proofs.ArrangedWays.{end_with, rest_reads}
use Rattle.lawful.proofs.arranged_journals.is_seen_so.Goals as goal

pub returns-clause-text : goal.returns-clause-text
returns-clause-text c = λ yes.
    let registers = c.args.registers in
    let text = c.args.found.now.text.items in
    let read : text_with c.in_ok-done.done.items c.read.new.self ≡ read_on registers unread text =
    first_read registers c.new-tail.result c.read.new.self c.in_ok-done.done.items c.deref.result.now text c.new-tail.ensures (c.deref.ensures.value ∙ ap (λ (s : SeenJournal). s.text.items) c.found.view_is) c.in_ok-done.ensures in
    let same : c.as_slice.result.now ≡ c.as_slice-2.result.now = same_text c.as_slice.result.now c.as_slice-2.result.now (not_other _ c.if-ne.ensures) in
    sym c.as_slice-2.ensures.value ∙ (sym same ∙ (c.as_slice.ensures.value ∙ ap (λ (t : ReadText). t.done) read))

pub returns-clause-end : goal.returns-clause-end
returns-clause-end c = λ yes.
    let registers = c.args.registers in
    let found = c.args.found.now in
    let read : text_with c.in_ok-done.done.items c.read.new.self ≡ read_on registers unread found.text.items =
    first_read registers c.new-tail.result c.read.new.self c.in_ok-done.done.items c.deref.result.now found.text.items c.new-tail.ensures (c.deref.ensures.value ∙ ap (λ (s : SeenJournal). s.text.items) c.found.view_is) c.in_ok-done.ensures in
    sym (c.is_same.ensures.0 yes)
    ∙ end_with _ _ _ _ (ap (λ (s : SeenJournal). s.end.end) c.found.view_is)
    (rest_reads registers (read_on registers unread found.text.items) c.read.new.self c.in_ok-done.done.items c.in_ok-seen.seen.items c.deref-2.result.now found.end.seen read (c.deref-2.ensures.value ∙ ap (λ (s : SeenJournal). s.end.seen) c.found.view_is) c.in_ok-seen.ensures)
