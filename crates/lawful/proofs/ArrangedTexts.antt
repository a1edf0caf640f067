-- What orders before an observer say of the journals that are shown, with the lines of each time in order.
use Rattle.std.proofs.Common.{◌≡◌, ℕ, List, [], ◌∷◌, ◌++◌, Option, Some, None, Result, Ok, Err, Bool, true, false, not, refl, sym, ap, ◌∙◌, subst}
use Rattle.std.specs.Prelude.{IfOk, IfSome}
use Rattle.std.specs.List.{All, Any}
use Rattle.std.proofs.lemmas.List.Elements.{All-weaker}
use Rattle.model.specs.declared.entry.Entry.{Entry}
use Rattle.model.specs.declared.end.Limits.{Limits}
use Rattle.model.specs.Texts.{IsWithinLimits}
use Rattle.design.specs.Compiled.{Compiled, design_of}
use Rattle.explore.specs.declared.Shown.{Shown}
use Rattle.looseruns.specs.ObservedJournals.{SeenEnd}
use Rattle.looseruns.proofs.LooseCovering.{any_of_map}
use Rattle.observers.specs.declared.observing.Observing.{Observing}
use Rattle.observers.specs.Observers.{observer_of}
use Rattle.loosejournals.specs.FoundJournals.{IsSeenJournal}
use Rattle.loosejournals.specs.declared.observed.SeenJournal.{SeenJournal}
use Rattle.wavetexts.specs.Reading.{ReadText, read_on, text_with, unread}
use Rattle.wavetexts.specs.declared.reading.TextTail.{TextTail}
use Rattle.wavetexts.proofs.ReadTexts.{read_in_two}
use Rattle.arrangedruns.specs.ArrangedRuns.{arranged_end}
use Rattle.lawful.specs.ArrangedNodes.{IsArrangedAmong, IsArrangedJournalOf, IsArrangedText, IsArrangementOf, registers_seen}
use Rattle.lawful.specs.Journals.{HasLawfulJournal, texts_and_ends}

-- a text in order for good, and an end with the rest, are the arrangement of what was read
pub is_arrangement : (registers : ℕ) (text : List ℕ) (end : SeenEnd) (arranged : List ℕ) (last : SeenEnd) → arranged ≡ (read_on registers unread text).done → last ≡ arranged_end registers (read_on registers unread text) end → IsArrangementOf registers text end arranged last
is_arrangement registers text end arranged last text_is end_is =
    (ap (λ l. l ++ last.seen) text_is ∙ (ap (λ (e : SeenEnd). (read_on registers unread text).done ++ e.seen) end_is ∙ read_in_two registers text end.seen), ap (λ (e : SeenEnd). e.end) end_is)

pub are_arranged : (code : Compiled) (limits : Limits) (observing : Observing) (shown : List (Shown Entry SeenEnd)) → All (HasLawfulJournal (IsArrangedJournalOf code limits observing)) shown → All (λ (s : Shown Entry SeenEnd). IsArrangedText (design_of code) limits (registers_seen observing) (observer_of observing) s.moves.items s.text.items s.end) shown
are_arranged code limits observing shown journals =
    All-weaker (HasLawfulJournal (IsArrangedJournalOf code limits observing)) (λ (s : Shown Entry SeenEnd). IsArrangedText (design_of code) limits (registers_seen observing) (observer_of observing) s.moves.items s.text.items s.end)
    (λ s journal.
    let (whole, end) = is_arrangement (registers_seen observing) journal.seen_text journal.seen_end s.text.items s.end journal.text_is journal.end_is in
    record {
      seen_text = journal.seen_text;
      seen_end = journal.seen_end;
      observed = journal.observed.lawful;
      whole_is = whole;
      end_is = end;
    }) shown journals

pub are_arranged_within : (code : Compiled) (limits : Limits) (observing : Observing) (shown : List (Shown Entry SeenEnd)) → All (HasLawfulJournal (IsArrangedJournalOf code limits observing)) shown → All (λ (s : Shown Entry SeenEnd). IsWithinLimits limits s.moves.items) shown
are_arranged_within code limits observing shown journals =
    All-weaker (HasLawfulJournal (IsArrangedJournalOf code limits observing)) (λ (s : Shown Entry SeenEnd). IsWithinLimits limits s.moves.items) (λ s journal. journal.observed.few) shown journals

-- what holds of some element holds of it in a weaker form
any_weaker : {X : Type 0} (P Q : X → Type 0) (xs : List X) → ((x : X) → P x → Q x) → Any P xs → Any Q xs
any_weaker P Q xs weaker (k, x, within, at, p) = (k, x, within, at, weaker x p)

pub shown_arranged : (registers : ℕ) (shown : List (Shown Entry SeenEnd)) (text : List ℕ) (end : SeenEnd) → IsArrangedAmong registers (texts_and_ends shown) text end → Any (λ (s : Shown Entry SeenEnd). IsArrangementOf registers text end s.text.items s.end) shown
shown_arranged registers shown text end there =
    let read = read_on registers unread text in
    any_weaker (λ (s : Shown Entry SeenEnd). (s.text.items ≡ read.done) × (s.end ≡ arranged_end registers read end)) (λ (s : Shown Entry SeenEnd). IsArrangementOf registers text end s.text.items s.end) shown
    (λ s (text_is, end_is). is_arrangement registers text end s.text.items s.end text_is end_is)
    (any_of_map (λ (s : Shown Entry SeenEnd). (s.text.items, s.end)) (λ (pair : List ℕ × SeenEnd). (pair.0 ≡ read.done) × (pair.1 ≡ arranged_end registers read end)) shown there)

-- what was read of a text by a tail of which nothing was read before
pub first_read : (registers : ℕ) (begun after : TextTail) (done given text : List ℕ) → text_with [] begun ≡ unread → given ≡ text → text_with done after ≡ read_on registers (text_with [] begun) given → text_with done after ≡ read_on registers unread text
first_read registers begun after done given text none same read =
    read ∙ (ap (λ (t : ReadText). read_on registers t given) none ∙ ap (read_on registers unread) same)

-- a test that isn't turned
pub not_other : (b : Bool) → false ≡ not b → true ≡ b
not_other true h = refl
not_other false h = cc

-- the journal beside which a text and its end stand, where these are seen so of it
pub journal_arranged : (code : Compiled) (limits : Limits) (observing : Observing) (found : SeenJournal) (registers : ℕ) (text : List ℕ) (end : SeenEnd) → registers ≡ registers_seen observing
    → text ≡ (read_on registers unread found.text.items).done → end ≡ arranged_end registers (read_on registers unread found.text.items) found.end → IsSeenJournal code limits (observer_of observing) found → IsArrangedJournalOf code limits observing text end found.journal.items
journal_arranged code limits observing found registers text end counts is last seen =
    record {
      seen_text = found.text.items;
      seen_end = found.end;
      observed = seen;
      text_is = subst (λ (n : ℕ). text ≡ (read_on n unread found.text.items).done) counts is;
      end_is = subst (λ (n : ℕ). end ≡ arranged_end n (read_on n unread found.text.items) found.end) counts last;
    }

-- the journal that is found of a run, where it is found of what was seen
pub found_arranged : {J E : Type 0} (Seen : Compiled → Limits → Type 0) (Told : Compiled → Limits → J → Type 0) (code : Compiled) (limits : Limits) (r : Result (Option J) E) → Seen code limits
    → IfOk r (λ found. IfSome found (λ j. (code : Compiled) (limits : Limits) → Seen code limits → Told code limits j)) → IfOk r (λ found. IfSome found (λ j. Told code limits j))
found_arranged Seen Told code limits (Ok None) seen told = tt
found_arranged Seen Told code limits (Ok (Some j)) seen told = told code limits seen
found_arranged Seen Told code limits (Err e) seen told = tt
