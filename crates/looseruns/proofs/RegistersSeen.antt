-- An observer of registers sees the same of states that are alike.
use Rattle.std.proofs.Common.{ℕ, Bool, if◌then◌else◌, List, [], ◌∷◌, ◌++◌, flat_map, decimal, sym, ap, ◌∙◌, ◌≡◌, Option, Some, None, option_map, refl}
use Rattle.model.specs.declared.entry.Entry.{Entry}
use Rattle.model.specs.declared.entry.Entry.TheVariants.{Update, ActivateInactive, ActivateNba, ActivateMonitor, Advance}
use Rattle.model.specs.declared.entry.Refusal.TheVariants.{Finished}
use Rattle.model.specs.Design.{Design}
use Rattle.model.specs.Expressions.{Store}
use Rattle.model.specs.States.{State, start}
use Rattle.model.specs.Runs.{Effect, silent, joined, step, refusal, entry_refusal, effect}
use Rattle.model.proofs.RunLaws.{unless_some, where_none}
use Rattle.looseruns.specs.ObservedJournals.{Observer, effect_with_seen, observed_step, observed_run_from}
use Rattle.looseruns.specs.ObservedMoves.{SeesAlike}
use Rattle.looseruns.specs.ObservedEnding.{SeesOneFinish}
use Rattle.looseruns.specs.RegisterObserver.{seen_register_line, sight_mark, seen_unless_finished, RegistersAreSeenAlike, UnfinishedAreSeenAlike, UnfinishedTextIsText}
use Rattle.looseruns.proofs.ObservedParts.{same_next}

pub registers_are_seen_alike : RegistersAreSeenAlike
registers_are_seen_alike registers class s t alike =
    ap (λ (n : ℕ). sight_mark ∷ decimal n ++ 10 ∷ flat_map (λ r. seen_register_line s.store r) registers) alike.time
    ∙ ap (λ (store : Store). sight_mark ∷ decimal t.time ++ 10 ∷ flat_map (λ r. seen_register_line store r) registers) alike.store

still_alike : (observe : Observer) → SeesAlike observe → SeesAlike (seen_unless_finished observe)
still_alike observe sees class s t alike =
    ap (λ (b : Bool). if b then [] else observe s) alike.finished ∙ ap (λ (l : List ℕ). if t.finished then [] else l) (sees class s t alike)

one_finish : (observe : Observer) → SeesOneFinish (seen_unless_finished observe)
one_finish observe s t over over' =
    ap (λ (b : Bool). if b then [] else observe s) over ∙ sym (ap (λ (b : Bool). if b then [] else observe t) over')

pub unfinished_are_seen_alike : UnfinishedAreSeenAlike
unfinished_are_seen_alike observe = (still_alike observe, one_finish observe)

-- no time passes where a run has finished

seen_same : (seen seen' : List ℕ) (o : Option Effect) → ((f : Effect) → o ≡ Some f → seen ≡ seen') → option_map (effect_with_seen seen) o ≡ option_map (effect_with_seen seen') o
seen_same seen seen' None same = refl
seen_same seen seen' (Some f) same = ap (λ l. Some (effect_with_seen l f)) (same f refl)

unfinished_step : (design : Design) (observe : Observer) (s : State) (entry : Entry) → observed_step design (seen_unless_finished observe) s entry ≡ observed_step design observe s entry
unfinished_step design observe s (Entry.Turn n) = refl
unfinished_step design observe s (Update n) = refl
unfinished_step design observe s ActivateInactive = refl
unfinished_step design observe s ActivateNba = refl
unfinished_step design observe s ActivateMonitor = refl
unfinished_step design observe s (Advance time) =
    seen_same (seen_unless_finished observe s) (observe s) (step design s (Advance time))
    (λ f at_f.
    let none = (unless_some (refusal s (Advance time)) (effect design s (Advance time)) f at_f).0 in
    ap (λ (b : Bool). if b then [] else observe s) (where_none s.finished Finished (entry_refusal s (Advance time)) none).0)

unfinished_run : (design : Design) (observe : Observer) (e : Effect) (entries : List Entry) → observed_run_from design (seen_unless_finished observe) e entries ≡ observed_run_from design observe e entries
unfinished_run design observe e [] = refl
unfinished_run design observe e (entry ∷ entries) =
    same_next (λ f. observed_run_from design (seen_unless_finished observe) (joined e f) entries) (λ f. observed_run_from design observe (joined e f) entries) (observed_step design (seen_unless_finished observe) e.state entry) (observed_step design observe e.state entry)
    (unfinished_step design observe e.state entry) (λ f. unfinished_run design observe (joined e f) entries)

pub unfinished_text_is_text : UnfinishedTextIsText
unfinished_text_is_text design observe journal = ap (option_map (λ (e : Effect). e.lines)) (unfinished_run design observe (silent (start design)) journal)
