-- Entries that are told one after another, while their text is written.
use Rattle.std.proofs.Common.{Bool, ◌≡◌, ◌∙◌, ap, sym, refl, subst, ℕ, suc, ◌+◌, ◌<◌, List, [], ◌∷◌, ◌++◌, length, take, append_assoc, Option, Some, None, Result, Ok, Err, OnOk, arith}
use Rattle.std.specs.Prelude.{slice_get, slice_index_or}
use Rattle.std.specs.Io.KnownBytes.{Appends}
use Rattle.std.proofs.lemmas.List.{append-nil}
use Rattle.std.proofs.lemmas.Option.{slice_get-get_or}
use Rattle.journal.specs.Written.{IsWrittenUpTo}
use Rattle.model.specs.declared.entry.Entry.{Entry}
use Rattle.model.specs.States.{State}
use Rattle.model.specs.Runs.{Effect, is_quiet, run}
use Rattle.design.specs.Compiled.{Compiled, design_of}
use Rattle.regions.specs.Machine.{MachineView, state_at}
use Rattle.replay.specs.declared.fault.ReplayFault.{ReplayFault}
use Rattle.replay.specs.JournalFaults.{IsFaultOf}
use Rattle.explain.specs.declared.failure.ExplainFault.{ExplainFault}
use Rattle.explain.specs.declared.failure.ExplainFault.TheVariants as failures
use Rattle.explain.specs.declared.telling.ExplanationOptions.{ExplanationOptions}
use Rattle.steps.specs.Accounts.{IsAccountOf}
use Rattle.steps.specs.ExplainerStanding.{Standing, IsExplainerBehind, IsExplained}
use Rattle.explain.specs.ExplainedEnd.{AreNext, IsEndText, PutsEnd, end_text, refusal_text}
use Rattle.explain.specs.ExplainedText.{told_design, told_text, IsExplainedEntry, AreEntryTexts, TellsAll, TellsFault}
use Rattle.explain.specs.Sent.{IsNextTold, IsToldTo, IsStoppedAt, SendsEnd}
use Rattle.explain.specs.Explained.{IsFaultOfEntries, IfExplainReplay}
use Rattle.explain.proofs.Next.{next_behind, stands_there}

-- nothing was written
pub appends_none : (now : Option (List ℕ)) → Appends now now []
appends_none None = tt
appends_none (Some xs) = sym (append-nil xs)

-- one text was written, and then another
pub appends_both : (old mid new : Option (List ℕ)) (a b : List ℕ) → Appends old mid a → Appends mid new b → Appends old new (a ++ b)
appends_both None mid new a b h k = tt
appends_both (Some xs) None new a b h k = absurd h
appends_both (Some xs) (Some ys) None a b h k = absurd k
appends_both (Some xs) (Some ys) (Some zs) a b h k = k ∙ (ap (λ (t : List ℕ). t ++ b) h ∙ append_assoc xs a b)

-- the rest was written, with a text behind it
pub sent_with : (start now new : Option (List ℕ)) (told text more : List ℕ) → IsWrittenUpTo start now told text → Appends now new (text ++ more) → Appends start new (told ++ more)
sent_with start now new told text more (sent, is, sent_is) put =
    subst (λ (t : List ℕ). Appends start new t) (sym (append_assoc sent text more) ∙ ap (λ (t : List ℕ). t ++ more) (sym is))
    (appends_both start now new sent (text ++ more) sent_is put)

-- the rest was written
pub sent_off : (start now new : Option (List ℕ)) (told text text' : List ℕ) → IsWrittenUpTo start now told text → Appends now new text → text' ≡ [] → IsWrittenUpTo start new told text'
sent_off start now new told text text' (sent, is, sent_is) put empty =
    (sent ++ text, is ∙ (sym (append-nil (sent ++ text)) ∙ ap (λ (t : List ℕ). (sent ++ text) ++ t) (sym empty)), appends_both start now new sent text sent_is put)

pub sent_off_if : {X E : Type 0} (r : Result X E) (now new : Option (List ℕ)) (text text' : List ℕ) → OnOk r (Appends now new text) → OnOk r (text' ≡ [])
    → (start : Option (List ℕ)) (told : List ℕ) → IsWrittenUpTo start now told text → OnOk r (IsWrittenUpTo start new told text')
sent_off_if (Ok x) now new text text' put empty start told passes = sent_off start now new told text text' passes put empty
sent_off_if (Err e) now new text text' put empty start told passes = tt

-- a text was put behind the rest
passes_more : (start now : Option (List ℕ)) (told text line text' : List ℕ) → IsWrittenUpTo start now told text → text' ≡ text ++ line → IsWrittenUpTo start now (told ++ line) text'
passes_more start now told text line text' (sent, is, sent_is) put =
    (sent, ap (λ (t : List ℕ). t ++ line) is ∙ (append_assoc sent text line ∙ ap (λ (t : List ℕ). sent ++ t) (sym put)), sent_is)

-- the entry at a place was taken and told
pub next_told : (journal : List Entry) (at : ℕ) (d : Entry) (old new : Standing) → at < length journal → IsExplainerBehind (take at journal) old → old.position.core.entries ≡ at
    → ((j : List Entry) → IsExplainerBehind j old → IsExplained j (slice_index_or journal at d) old new) → new.position.core.entries ≡ old.position.core.entries + 1
    → IsNextTold journal at old new
next_told journal at d old new inside behind count told more = record {
  entry = slice_index_or journal at d;
  there = slice_get-get_or journal at d inside;
  told = told (take at journal) behind;
  behind = next_behind journal at d old new inside behind told;
  count = more ∙ ap (λ (n : ℕ). n + 1) count;
}

-- a machine of the design that is told has run so
ran_so : (t : ExplanationOptions) (journal : List Entry) (x : Standing) (e : Effect) → x.position.code ≡ t.names.design.now → run (design_of x.position.code) journal ≡ Some e → run (told_design t) journal ≡ Some e
ran_so t journal x e code ran = ap (λ (c : Compiled). run (design_of c) journal) (sym code) ∙ ran

-- the entry is the one at its place
pub same_entry : (journal : List Entry) (at : ℕ) (d entry : Entry) → at < length journal → slice_get journal at ≡ Some entry → slice_index_or journal at d ≡ entry
same_entry journal at d entry inside there =
    let is : slice_get journal at ≡ Some (slice_index_or journal at d) = slice_get-get_or journal at d inside in
    cc

-- the text of the entry that was told
entry_told : (t : ExplanationOptions) (journal : List Entry) (at : ℕ) (old new : Standing) (line : List ℕ) → old.position.code ≡ t.names.design.now
    → (next : IsNextTold journal at old new) → line ≡ told_text t (at + 1) next.entry new.account next.told.effect.state.finished → IsExplainedEntry t journal at line
entry_told t journal at old new line code next is = record {
  entry = next.entry;
  there = next.there;
  before = next.told.before;
  is_run = ran_so t (take at journal) old next.told.before code next.told.is_run;
  effect = next.told.effect;
  account = new.account;
  told = subst (λ (c : Compiled). IsAccountOf (design_of c) next.told.before next.entry next.told.effect new.account) code next.told.told;
  text_is = is;
}

-- the texts of one entry more
texts_more : (t : ExplanationOptions) (journal : List Entry) (at : ℕ) (texts line : List ℕ) → AreEntryTexts t journal at texts → IsExplainedEntry t journal at line → AreEntryTexts t journal (at + 1) (texts ++ line)
texts_more t journal at texts line before one =
    let next : suc at ≡ at + 1 = omega arith in
    subst (λ (n : ℕ). AreEntryTexts t journal n (texts ++ line)) next (texts, line, before, one, refl)

-- one entry more is told
pub told_more : (t : ExplanationOptions) (journal : List Entry) (at : ℕ) (d : Entry) (old new : Standing) (start now : Option (List ℕ)) (text text' : List ℕ) → at < length journal
    → IsNextTold journal at old new → new.position.code ≡ old.position.code
    → text' ≡ text ++ told_text t new.position.core.entries (slice_index_or journal at d) new.account new.position.core.finished
    → IsToldTo t journal at old start now text → IsToldTo t journal (at + 1) new start now text'
told_more t journal at d old new start now text text' inside next same put to =
    let finished : Bool = new.position.core.finished in
    let line : List ℕ = told_text t new.position.core.entries (slice_index_or journal at d) new.account finished in
    let entry_is : slice_index_or journal at d ≡ next.entry = same_entry journal at d next.entry inside next.there in
    let is : line ≡ told_text t (at + 1) next.entry new.account next.told.effect.state.finished =
    ap (λ (n : ℕ). told_text t n (slice_index_or journal at d) new.account finished) next.count
    ∙ (ap (λ (e : Entry). told_text t (at + 1) e new.account finished) entry_is
    ∙ ap (λ (s : State). told_text t (at + 1) next.entry new.account s.finished) (sym (stands_there (take at journal) next.entry old new next.told same))) in
    let so_far = to.so_far in
    record {
      code = same ∙ to.code;
      behind = next.behind;
      count = next.count;
      so_far = record {
        told = so_far.told ++ line;
        are_told = texts_more t journal at so_far.told line so_far.are_told (entry_told t journal at old new line to.code next is);
        passes = passes_more start now so_far.told text line text' so_far.passes put;
      };
    }

-- a journal is told up to its fault
stopped_at : (t : ExplanationOptions) (journal : List Entry) (at : ℕ) (old new : Standing) (start now : Option (List ℕ)) (text : List ℕ) (fault : ReplayFault)
    → IsFaultOf old.position.code journal fault → fault.entry ≡ at + 1 → state_at new.position ≡ state_at old.position
    → IsToldTo t journal at old start now text → IsStoppedAt t journal new start now text fault
stopped_at t journal at old new start now text fault is_fault number state to = record {
  is_fault = subst (λ (c : Compiled). IsFaultOf c journal fault) to.code is_fault;
  before = at;
  number_is = number;
  effect = to.behind.effect;
  is_run = ran_so t (take at journal) old to.behind.effect to.code to.behind.is_run;
  state_is = to.behind.state_is ∙ sym state;
  so_far = to.so_far;
}

pub stopped_if : (t : ExplanationOptions) (journal : List Entry) (at : ℕ) (old new : Standing) (start now : Option (List ℕ)) (text : List ℕ) (fault : ExplainFault)
    → IsFaultOfEntries old.position.code journal fault → IfExplainReplay {X = Unit {0}} (Err fault) (λ f. f.entry ≡ at + 1) → state_at new.position ≡ state_at old.position
    → IsToldTo t journal at old start now text → IfExplainReplay {X = Unit {0}} (Err fault) (IsStoppedAt t journal new start now text)
stopped_if t journal at old new start now text (failures.Read f) is_fault number state to = tt
stopped_if t journal at old new start now text (failures.Replay f) is_fault number state to = stopped_at t journal at old new start now text f is_fault number state to
stopped_if t journal at old new start now text failures.CannotWrite is_fault number state to = tt
stopped_if t journal at old new start now text failures.Memory is_fault number state to = tt

-- what is told is written, or stands in the text that isn't
pub told_sent_if : {X E : Type 0} (r : Result X E) (t : ExplanationOptions) (journal : List Entry) (at : ℕ) (x : Standing) (start mid new : Option (List ℕ)) (text text' : List ℕ)
    → ((s : Option (List ℕ)) (told : List ℕ) → IsWrittenUpTo s mid told text → OnOk r (IsWrittenUpTo s new told text'))
    → IsToldTo t journal at x start mid text → OnOk r (IsToldTo t journal at x start new text')
told_sent_if (Ok u) t journal at x start mid new text text' sent to = record {
  code = to.code;
  behind = to.behind;
  count = to.count;
  so_far = record { told = to.so_far.told; are_told = to.so_far.are_told; passes = sent start to.so_far.told to.so_far.passes };
}
told_sent_if (Err e) t journal at x start mid new text text' sent to = tt

-- at the start nothing is told
pub told_none : (t : ExplanationOptions) (journal : List Entry) (x : Standing) (now : Option (List ℕ)) (text : List ℕ) → x.position.code ≡ t.names.design.now
    → IsExplainerBehind [] x → x.position.core.entries ≡ 0 → text ≡ [] → IsToldTo t journal 0 x now now text
told_none t journal x now text code behind count empty = record {
  code = code;
  behind = behind;
  count = count;
  so_far = record { told = []; are_told = refl; passes = ([], sym empty, appends_none now) };
}

take_all : (journal : List Entry) → take (length journal) journal ≡ journal
take_all [] = refl
take_all (x ∷ xs) = ap (λ (l : List Entry). x ∷ l) (take_all xs)

-- a text says how a run stands at the same state and count
end_same : (s s' : State) (n n' : ℕ) (text : List ℕ) → s ≡ s' → n ≡ n' → IsEndText s n text → IsEndText s' n' text
end_same s s' n n' text same count h = subst (λ (x : State). IsEndText x n' text) same (subst (λ (k : ℕ). IsEndText s k text) count h)

-- a lawful journal was told to its end
pub told_all : (t : ExplanationOptions) (journal : List Entry) (x : Standing) (start now new : Option (List ℕ)) (text : List ℕ) → SendsEnd x.position text now new
    → IsToldTo t journal (length journal) x start now text → TellsAll t journal start new
told_all t journal x start now new text ended to =
    let ran : run (told_design t) journal ≡ Some to.behind.effect =
    ap (run (told_design t)) (sym (take_all journal)) ∙ ran_so t (take (length journal) journal) x to.behind.effect to.code to.behind.is_run in
    record {
      effect = to.behind.effect;
      is_run = ran;
      lines = to.so_far.told;
      are_lines = to.so_far.are_told;
      ending = ended.ending;
      is_ending = end_same (state_at x.position) to.behind.effect.state x.position.core.entries (length journal) ended.ending (sym to.behind.state_is) to.count ended.is_ending;
      grown = sent_with start now new to.so_far.told text ended.ending to.so_far.passes ended.grown;
    }

pub told_all_if : {X E : Type 0} (r : Result X E) (t : ExplanationOptions) (journal : List Entry) (x : Standing) (start now new : Option (List ℕ)) (text : List ℕ) → OnOk r (SendsEnd x.position text now new)
    → IsToldTo t journal (length journal) x start now text → OnOk r (TellsAll t journal start new)
told_all_if (Ok u) t journal x start now new text ended to = told_all t journal x start now new text ended to
told_all_if (Err e) t journal x start now new text ended to = tt

-- a journal was told up to its fault
told_fault : (t : ExplanationOptions) (journal : List Entry) (x : Standing) (start now new : Option (List ℕ)) (text : List ℕ) (fault : ReplayFault)
    → Appends now new (text ++ refusal_text t.names (state_at x.position) fault) → IsStoppedAt t journal x start now text fault → TellsFault t journal start new fault
told_fault t journal x start now new text fault put stop = record {
  is_fault = stop.is_fault;
  before = stop.before;
  number_is = stop.number_is;
  effect = stop.effect;
  is_run = stop.is_run;
  lines = stop.so_far.told;
  are_lines = stop.so_far.are_told;
  grown = subst (λ (s : State). Appends start new (stop.so_far.told ++ refusal_text t.names s fault)) (sym stop.state_is)
      (sent_with start now new stop.so_far.told text (refusal_text t.names (state_at x.position) fault) stop.so_far.passes put);
}

-- the fault that is answered is the one that was told
pub told_fault_if : {X : Type 0} (r : Result X ExplainFault) (fault : ExplainFault) (t : ExplanationOptions) (journal : List Entry) (x : Standing) (start now new : Option (List ℕ)) (text : List ℕ)
    → IfExplainReplay r (λ of. (fault ≡ failures.Replay of) × Appends now new (text ++ refusal_text t.names (state_at x.position) of))
    → IfExplainReplay {X = Unit {0}} (Err fault) (IsStoppedAt t journal x start now text) → IfExplainReplay r (TellsFault t journal start new)
told_fault_if (Ok u) fault t journal x start now new text told stop = tt
told_fault_if (Err (failures.Read f)) fault t journal x start now new text told stop = tt
told_fault_if (Err (failures.Replay f)) fault t journal x start now new text told stop =
    told_fault t journal x start now new text f told.1 (subst (λ (e : ExplainFault). IfExplainReplay {X = Unit {0}} (Err e) (IsStoppedAt t journal x start now text)) told.0 stop)
told_fault_if (Err failures.CannotWrite) fault t journal x start now new text told stop = tt
told_fault_if (Err failures.Memory) fault t journal x start now new text told stop = tt

-- how a run stands was put behind a text, with all entries that may be next
pub puts_end_if : {X E : Type 0} (r : Result X E) (s : State) (count : ℕ) (next : List Entry) (n : ℕ) (old new : List ℕ) → AreNext s next → n ≡ length next
    → OnOk r (new ≡ old ++ end_text s.finished (is_quiet s) count s.time n) → OnOk r (PutsEnd s count old new)
puts_end_if (Ok x) s count next n old new are is put = record {
  text = end_text s.finished (is_quiet s) count s.time (length next);
  is_text = record { next = next; are_next = are; text_is = refl };
  put = put ∙ ap (λ (k : ℕ). old ++ end_text s.finished (is_quiet s) count s.time k) is;
}
puts_end_if (Err e) s count next n old new are is put = tt

-- how the run stands was put behind a text, and both were written
pub ended_if : {X E : Type 0} (r : Result X E) (p q : MachineView) (text text' sent : List ℕ) (old new : Option (List ℕ)) → q ≡ p → PutsEnd (state_at q) q.core.entries text text' → sent ≡ text'
    → OnOk r (Appends old new sent) → OnOk r (SendsEnd p text old new)
ended_if (Ok x) p q text text' sent old new same puts is put = record {
  ending = puts.text;
  is_ending = subst (λ (m : MachineView). IsEndText (state_at m) m.core.entries puts.text) same puts.is_text;
  grown = subst (λ (t : List ℕ). Appends old new t) (is ∙ puts.put) put;
}
ended_if (Err e) p q text text' sent old new same puts is put = tt

-- why an entry isn't lawful was put behind a text, and both were written
pub refused_if : {X E : Type 0} (r : Result X E) (t : ExplanationOptions) (p q : MachineView) (fault : ReplayFault) (text sent : List ℕ) (old new : Option (List ℕ)) → q ≡ p
    → sent ≡ text ++ refusal_text t.names (state_at q) fault → OnOk r (Appends old new sent) → OnOk r (Appends old new (text ++ refusal_text t.names (state_at p) fault))
refused_if (Ok x) t p q fault text sent old new same is put =
    subst (λ (m : MachineView). Appends old new (text ++ refusal_text t.names (state_at m) fault)) same (subst (λ (l : List ℕ). Appends old new l) is put)
refused_if (Err e) t p q fault text sent old new same is put = tt
