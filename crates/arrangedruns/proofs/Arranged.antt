-- Arranged loose runs: they go on alike, and what all of them show is what is observed of all lawful journals.
use Rattle.std.proofs.Common.{◌≡◌, ℕ, List, [], ◌∷◌, ◌++◌, length, Option, Some, option_map, refl, sym, ap, ◌∙◌, subst, arith}
use Rattle.std.specs.Option.{IsSomeAnd}
use Rattle.std.proofs.lemmas.Option.{option_and_then_some}
use Rattle.model.specs.declared.entry.Entry.{Entry}
use Rattle.model.specs.declared.end.Limits.{Limits}
use Rattle.model.specs.Design.{Design}
use Rattle.model.specs.States.{State, start}
use Rattle.model.specs.Runs.{Effect, silent, joined, run, EndsIn}
use Rattle.orders.specs.Alike.{IsInOrder}
use Rattle.orders.proofs.SearchLaws.{then_some}
use Rattle.orders.proofs.StatesInOrder.{start_is_in_order, run_is_in_order}
use Rattle.loose.specs.declared.transition.LooseTransition.{LooseTransition}
use Rattle.loose.specs.Loose.{AlikeIn}
use Rattle.loose.proofs.ClassEnds.{alike_in_states_end_alike}
use Rattle.loose.proofs.ClassStates.{states_in-same, states_in-sym, states_in-trans}
use Rattle.looseruns.specs.LooseRunLaws.{HoldAlike}
use Rattle.looseruns.specs.ObservedJournals.{Observer, SeenEnd, observed_run}
use Rattle.looseruns.specs.ObservedMoves.{SeesAlike, observed_move, observed_moves_from}
use Rattle.looseruns.specs.ObservedRuns.{ComesObserved, EndsHereObserved, MayEndObserved, observed_text_of_moves}
use Rattle.looseruns.proofs.Observing.{alike_in_states_observed, entries_have_observed_moves, observed_move_keeps_order}
use Rattle.looseruns.proofs.ObservedParts.{observed_came_of_more, observed_of_more, observed_run_in_order, observed_text_is}
use Rattle.looseruns.proofs.ObservedSearches.{ends_seen_alike, observed_run_is_run, printing}
use Rattle.wavetexts.specs.Reading.{ReadText, read_on, tail_of, unread}
use Rattle.wavetexts.proofs.ReadTexts.{reads_on}
use Rattle.arrangedruns.specs.ArrangedRuns.{ComeToOneArrangedNode, MayEndArranged, StandsArranged, arranged_end, arranged_runs_of, read_of_moves}
use Rattle.arrangedruns.specs.ArrangedLaws.{AlikeArrangedRunsServe, AlikeHeldArrangedAreAlike, AllArrangedShownAreAll, ArrangedEndlessIsEndless, ArrangedRunsBeginSilent, IsShownArranged}

-- texts that are read to the same, and go on by the same bytes, are read to the same
same_read : (registers : ℕ) (xs ys more others : List ℕ) → read_on registers unread xs ≡ read_on registers unread ys → more ≡ others → read_on registers unread (xs ++ more) ≡ read_on registers unread (ys ++ others)
same_read registers xs ys more others same is =
    reads_on registers unread xs more ∙ (ap (λ (t : ReadText). read_on registers t more) same ∙ (sym (reads_on registers unread ys more) ∙ ap (λ l. read_on registers unread (ys ++ l)) is))

-- from another effect in a state that is alike the same observed moves lead to one that is, and what was printed and seen is read to the same
abbrev ArrangedOnToo : ℕ → (ℕ → ℕ) → Design → Observer → Effect → Effect → Effect → List LooseTransition → Type 0
ArrangedOnToo registers class design observe e f g transitions =
    (k : Effect) × (observed_moves_from class design observe f transitions ≡ Some k) × AlikeIn class g.state k.state
    × (read_on registers unread e.lines ≡ read_on registers unread f.lines → read_on registers unread g.lines ≡ read_on registers unread k.lines)

arranged_on : (registers : ℕ) (class : ℕ → ℕ) (design : Design) (observe : Observer) (e f g : Effect) (transitions : List LooseTransition) → SeesAlike observe → IsInOrder e.state → IsInOrder f.state → AlikeIn class e.state f.state
    → observed_moves_from class design observe e transitions ≡ Some g → ArrangedOnToo registers class design observe e f g transitions
arranged_on registers class design observe e f g [] sees i j alike is =
    let same : e ≡ g = cc in
    (f, refl, rw (← same) alike, λ h. ap (λ (x : Effect). read_on registers unread x.lines) (sym same) ∙ h)
arranged_on registers class design observe e f g (transition ∷ more) sees i j alike is =
    option_and_then_some (λ x. observed_moves_from class design observe (joined e x) more) (observed_move class design observe e.state transition) g is
    (λ x at_x later.
    let (y, at_y, (printed, changes, alike')) = alike_in_states_observed class design observe e.state f.state transition x sees i j alike at_x in
    let (k, goes, near, lines) =
    arranged_on registers class design observe (joined e x) (joined f y) g more sees (observed_move_keeps_order class design observe e.state transition x i at_x) (observed_move_keeps_order class design observe f.state transition y j at_y) alike' later in (
      k,
      then_some (λ z. observed_moves_from class design observe (joined f z) more) (observed_move class design observe f.state transition) y k at_y goes,
      near,
      λ (h : read_on registers unread e.lines ≡ read_on registers unread f.lines). lines (same_read registers e.lines f.lines x.lines y.lines h printed),
    ))

-- what was read of a run's text
read_is : (registers : ℕ) (class : ℕ → ℕ) (design : Design) (limits : Limits) (observe : Observer) (i : List LooseTransition) (e : Effect) → ComesObserved class design limits observe i e → read_of_moves registers class design observe i ≡ read_on registers unread e.lines
read_is registers class design limits observe i e at = ap (read_on registers unread) (observed_text_is class design observe i e at.0)

-- one of two runs comes by the same moves to the end to which the other comes
abbrev EndsArrangedToo : ℕ → (ℕ → ℕ) → Design → Limits → Observer → List LooseTransition → List LooseTransition → List LooseTransition → SeenEnd → Type 0
EndsArrangedToo registers class design limits observe i j moves end =
    MayEndArranged registers class design limits observe (j ++ moves) end × (read_of_moves registers class design observe (j ++ moves) ≡ read_of_moves registers class design observe (i ++ moves))

arranged_runs_end_too : (registers : ℕ) (class : ℕ → ℕ) (design : Design) (limits : Limits) (observe : Observer) (i j moves : List LooseTransition) (end : SeenEnd) → SeesAlike observe → ComeToOneArrangedNode registers class design limits observe i j
    → MayEndArranged registers class design limits observe (i ++ moves) end → EndsArrangedToo registers class design limits observe i j moves end
arranged_runs_end_too registers class design limits observe i j moves end sees (e, f, at_e, at_f, same, alike) (seen_end, (g, at_g, here), is) =
    let (goes, timely) = observed_came_of_more class design limits observe i moves e g at_e at_g in
    let (k, goes', near, later) =
    arranged_on registers class design observe e f g moves sees (observed_run_in_order class design observe i e at_e.0) (observed_run_in_order class design observe j f at_f.0) alike goes in
    let at_k : ComesObserved class design limits observe (j ++ moves) k = observed_of_more class design limits observe j moves f k at_f goes' timely in
    let here' : EndsHereObserved design limits observe k seen_end =
    ends_seen_alike class design limits observe g k seen_end sees (observed_run_in_order class design observe (i ++ moves) g at_g.0) (observed_run_in_order class design observe (j ++ moves) k at_k.0) near here in
    let read : read_of_moves registers class design observe (j ++ moves) ≡ read_of_moves registers class design observe (i ++ moves) =
    read_is registers class design limits observe (j ++ moves) k at_k ∙ (sym (later same) ∙ sym (read_is registers class design limits observe (i ++ moves) g at_g)) in
    ((seen_end, (k, at_k, here'), is ∙ ap (λ (t : ReadText). arranged_end registers t seen_end) (sym read)), read)

pub alike_arranged_runs_serve : {Node : Type 0} (Holds : Node → Effect → Type 0) (tail : Node → ReadText) → AlikeArrangedRunsServe Holds tail
alike_arranged_runs_serve Holds tail registers class design limits observe i j sees alike moves end ends =
    let (ends', read) = arranged_runs_end_too registers class design limits observe i j moves end sees alike ends in
    (moves, refl, ends', ap (λ (t : ReadText). t.done) read)

-- what was read is what is in order for good, and the rest
same_parts : (t u : ReadText) → t.done ≡ u.done → tail_of t ≡ tail_of u → t ≡ u
same_parts t u done rest =
    ap (λ (d : List ℕ). record t { done = d }) done ∙ ap (λ (v : ReadText). record v { done = u.done }) rest

pub alike_held_arranged_are_alike : {Node : Type 0} (Holds : Node → Effect → Type 0) (tail : Node → ReadText) → AlikeHeldArrangedAreAlike Holds tail
alike_held_arranged_are_alike Holds tail registers class design limits observe a b i j tells one at_a at_b text =
    let e = at_a.observed.effect in
    let f = at_b.observed.effect in
    let read : read_of_moves registers class design observe i ≡ read_of_moves registers class design observe j =
    same_parts (read_of_moves registers class design observe i) (read_of_moves registers class design observe j) text (sym at_a.rest ∙ (one ∙ at_b.rest)) in
    let same : read_on registers unread e.lines ≡ read_on registers unread f.lines =
    sym (read_is registers class design limits observe i e at_a.observed.comes) ∙ (read ∙ read_is registers class design limits observe j f at_b.observed.comes) in
    let held : AlikeIn class at_a.observed.held.state at_b.observed.held.state = tells at_a.observed.held at_b.observed.held at_a.observed.holds at_b.observed.holds in
    let here : AlikeIn class e.state at_b.observed.held.state = states_in-trans class e.state at_a.observed.held.state at_b.observed.held.state at_a.observed.one_node.1 held in
    let alike : AlikeIn class e.state f.state = states_in-trans class e.state at_b.observed.held.state f.state here (states_in-sym class f.state at_b.observed.held.state at_b.observed.one_node.1) in
    (e, f, at_a.observed.comes, at_b.observed.comes, same, alike)

pub arranged_runs_begin_silent : {Node : Type 0} (Holds : Node → Effect → Type 0) (tail : Node → ReadText) → ArrangedRunsBeginSilent Holds tail
arranged_runs_begin_silent Holds tail registers class design limits observe = refl

-- the observed text and the observed end of a lawful journal are those of a loose run

abbrev EndsAt : Design → Limits → Observer → List Entry → SeenEnd → State → Type 0
EndsAt design limits observe journal end s = EndsIn design limits (length journal) s end.end × (end.seen ≡ observe s)

ends_at : (design : Design) (limits : Limits) (observe : Observer) (journal : List Entry) (f : Effect) (end : SeenEnd) → run design journal ≡ Some f → IsSomeAnd (option_map (λ (x : Effect). x.state) (run design journal)) (EndsAt design limits observe journal end)
    → EndsAt design limits observe journal end f.state
ends_at design limits observe journal f end at_f ends =
    subst (λ (o : Option Effect). IsSomeAnd (option_map (λ (x : Effect). x.state) o) (EndsAt design limits observe journal end)) at_f ends

pub all_arranged_shown_are_all : {Node : Type 0} (Holds : Node → Effect → Type 0) (tail : Node → ReadText) → AllArrangedShownAreAll Holds tail
all_arranged_shown_are_all Holds tail registers class design limits observe shown sees all journal text end is timely ends few memory =
    let (e, at_e, lines) = printing (observed_run design observe journal) text is in
    let (f, at_f, state, changes) = (observed_run_is_run design observe journal).0 e at_e in
    let (ends_so, seen) = ends_at design limits observe journal f end at_f ends in
    let begun = start_is_in_order design in
    let (transitions, k, timely', goes, alike, lines') =
    entries_have_observed_moves class design limits observe (silent (start design)) (silent (start design)) e journal sees begun begun (states_in-same class (start design)) at_e timely in
    let i = run_is_in_order design journal f at_f in
    let j = observed_run_in_order class design observe transitions k goes in
    let near : AlikeIn class f.state k.state = subst (λ s. AlikeIn class s k.state) state alike in
    let here : EndsIn design limits 0 k.state end.end =
    alike_in_states_end_alike class design limits (length journal) 0 f.state k.state end.end i j near few (λ h. omega (arith, h)) ends_so in
    let may : MayEndObserved class design limits observe transitions end = (k, (goes, timely'), ((few, memory, here), seen ∙ sees class f.state k.state near)) in
    let told : observed_text_of_moves class design observe transitions ≡ text = observed_text_is class design observe transitions k goes ∙ (sym (lines' refl) ∙ lines) in
    subst (λ t. IsShownArranged registers shown t end) told
    (all transitions (arranged_end registers (read_of_moves registers class design observe transitions) end) (end, may, refl))

pub arranged_endless_is_endless : {Node : Type 0} (Holds : Node → Effect → Type 0) (tail : Node → ReadText) → ArrangedEndlessIsEndless Holds tail
arranged_endless_is_endless Holds tail registers class design limits observe run endless =
    record {
      node = endless.node;
      stands = endless.stands.observed;
      never = λ moves end ends. endless.never moves (arranged_end registers (read_of_moves registers class design observe (run ++ moves)) end) (end, ends, refl);
    }
