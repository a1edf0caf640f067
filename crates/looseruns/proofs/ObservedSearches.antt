-- What a search of observed loose runs has to know of them, and what it says of lawful journals, whatever its nodes hold.
use Rattle.std.proofs.Common.{◌≡◌, ℕ, List, [], ◌∷◌, ◌++◌, length, Option, Some, None, option_map, refl, sym, ap, ◌∙◌, subst, arith}
use Rattle.std.specs.Option.{IsSomeAnd}
use Rattle.std.proofs.lemmas.Option.{option_and_then_some}
use Rattle.model.specs.declared.entry.Entry.{Entry}
use Rattle.model.specs.declared.entry.Entry.TheVariants.{Update, ActivateInactive, ActivateNba, ActivateMonitor, Advance}
use Rattle.model.specs.declared.end.Limits.{Limits}
use Rattle.model.specs.Design.{Design}
use Rattle.model.specs.States.{State, start}
use Rattle.model.specs.Runs.{Effect, silent, joined, step, run_from, run, EndsIn}
use Rattle.model.specs.Texts.{EndsHere}
use Rattle.orders.specs.Alike.{IsInOrder}
use Rattle.orders.proofs.SearchLaws.{then_some}
use Rattle.orders.proofs.StatesInOrder.{start_is_in_order, run_is_in_order}
use Rattle.loose.specs.declared.transition.LooseTransition.{LooseTransition}
use Rattle.loose.specs.declared.transition.LooseTransition.TheVariants.{Process, FirstOf, Change}
use Rattle.loose.specs.Loose.{AlikeIn}
use Rattle.loose.proofs.ClassEnds.{alike_in_states_end_alike}
use Rattle.loose.proofs.ClassStates.{states_in-same, states_in-sym, states_in-trans}
use Rattle.explore.specs.Search.{IsShown}
use Rattle.looseruns.specs.LooseMoves.{move, moves_from}
use Rattle.looseruns.specs.LooseRunLaws.{HoldAlike}
use Rattle.looseruns.specs.ObservedJournals.{Observer, SeesNothing, SeenEnd, seen_at, effect_with_seen, observed_step, observed_run_from, observed_run}
use Rattle.looseruns.specs.ObservedMoves.{SeesAlike, seen_at_move, observed_move, observed_moves_from}
use Rattle.looseruns.specs.ObservedRuns.{ComesObserved, EndsHereObserved, MayEndObserved, observed_text_of_moves, ComeToOneObservedNode, StandsObserved}
use Rattle.looseruns.specs.ObservedLaws.{ObservedRunIsRun, NothingSeenIsPlain, AlikeObservedRunsServe, AlikeHeldObservedAreAlike, ObservedRunsBeginSilent, AllObservedShownAreAll, ObservedEndlessIsEndless}
use Rattle.looseruns.proofs.LooseSearches.{loose_endless_is_endless}
use Rattle.looseruns.proofs.RunsOfMoves.{ends_alike_in}
use Rattle.looseruns.proofs.Observing.{unseen, one_node_observed_on, entries_have_observed_moves}
use Rattle.looseruns.proofs.ObservedParts.{observed_of_more, observed_came_of_more, observed_text_is, observed_run_in_order, observed_comes_plainly, plainly_comes_observed, nothing_before, same_next}

-- to observe changes nothing

-- an effect of journals leads to the state of another, with the same changes
abbrev IsSameBut : Effect → Effect → Type 0
IsSameBut e f = (e.state ≡ f.state) × (e.changes ≡ f.changes)

same_behind : (d e x y : Effect) → d.changes ≡ e.changes → IsSameBut x y → IsSameBut (joined d x) (joined e y)
same_behind d e x y before (state, changes) = (state, ap (λ l. l ++ x.changes) before ∙ ap (λ l. e.changes ++ l) changes)

observed_from_is : (design : Design) (observe : Observer) (d e g : Effect) (entries : List Entry) → IsSameBut d e → observed_run_from design observe d entries ≡ Some g → (h : Effect) × (run_from design e entries ≡ Some h) × IsSameBut g h
observed_from_is design observe d e g [] same is =
    let last : d ≡ g = cc in
    (e, refl, subst (λ x. IsSameBut x e) last same)
observed_from_is design observe d e g (entry ∷ entries) same is =
    option_and_then_some (λ x. observed_run_from design observe (joined d x) entries) (observed_step design observe d.state entry) g is
    (λ x at_x later.
    let (y, at_y, seen) = unseen (seen_at observe d.state entry) (step design d.state entry) x at_x in
    let both : IsSameBut x y = (ap (λ z. z.state) (sym seen), ap (λ z. z.changes) (sym seen)) in
    let (h, goes, rest) = observed_from_is design observe (joined d x) (joined e y) g entries (same_behind d e x y same.1 both) later in
    (h, then_some (λ z. run_from design (joined e z) entries) (step design e.state entry) y h (subst (λ s. step design s entry ≡ Some y) same.0 at_y) goes, rest))

from_is_observed : (design : Design) (observe : Observer) (d e h : Effect) (entries : List Entry) → IsSameBut d e → run_from design e entries ≡ Some h → (g : Effect) × (observed_run_from design observe d entries ≡ Some g) × IsSameBut g h
from_is_observed design observe d e h [] same is =
    let last : e ≡ h = cc in
    (d, refl, subst (λ x. IsSameBut d x) last same)
from_is_observed design observe d e h (entry ∷ entries) same is =
    option_and_then_some (λ y. run_from design (joined e y) entries) (step design e.state entry) h is
    (λ y at_y later.
    let here : step design d.state entry ≡ Some y = subst (λ s. step design s entry ≡ Some y) (sym same.0) at_y in
    let x : Effect = effect_with_seen (seen_at observe d.state entry) y in
    let (g, goes, rest) = from_is_observed design observe (joined d x) (joined e y) h entries (same_behind d e x y same.1 (refl, refl)) later in
    (g, then_some (λ z. observed_run_from design observe (joined d z) entries) (observed_step design observe d.state entry) x g (ap (option_map (effect_with_seen (seen_at observe d.state entry))) here) goes, rest))

pub observed_run_is_run : ObservedRunIsRun
observed_run_is_run design observe journal = (
  λ e is.
      let (f, at_f, (state, changes)) = observed_from_is design observe (silent (start design)) (silent (start design)) e journal (refl, refl) is in
      (f, at_f, state, changes),
  λ f is.
      let (e, at_e, (state, changes)) = from_is_observed design observe (silent (start design)) (silent (start design)) f journal (refl, refl) is in
      (e, at_e, state, changes),
)

-- an observer that sees nothing

nothing_at : (observe : Observer) (s : State) (entry : Entry) → SeesNothing observe → seen_at observe s entry ≡ []
nothing_at observe s (Entry.Turn n) sees = refl
nothing_at observe s (Update n) sees = refl
nothing_at observe s ActivateInactive sees = refl
nothing_at observe s ActivateNba sees = refl
nothing_at observe s ActivateMonitor sees = refl
nothing_at observe s (Advance time) sees = sees s

nothing_at_move : (observe : Observer) (s : State) (transition : LooseTransition) → SeesNothing observe → seen_at_move observe s transition ≡ []
nothing_at_move observe s (Process p) sees = refl
nothing_at_move observe s (FirstOf c) sees = refl
nothing_at_move observe s (Change entry) sees = nothing_at observe s entry sees

plain_run : (design : Design) (observe : Observer) (e : Effect) (entries : List Entry) → SeesNothing observe → observed_run_from design observe e entries ≡ run_from design e entries
plain_run design observe e [] sees = refl
plain_run design observe e (entry ∷ entries) sees =
    same_next (λ f. observed_run_from design observe (joined e f) entries) (λ f. run_from design (joined e f) entries) (observed_step design observe e.state entry) (step design e.state entry)
    (nothing_before (seen_at observe e.state entry) (step design e.state entry) (nothing_at observe e.state entry sees))
    (λ f. plain_run design observe (joined e f) entries sees)

plain_moves : (class : ℕ → ℕ) (design : Design) (observe : Observer) (e : Effect) (transitions : List LooseTransition) → SeesNothing observe → observed_moves_from class design observe e transitions ≡ moves_from class design e transitions
plain_moves class design observe e [] sees = refl
plain_moves class design observe e (transition ∷ more) sees =
    same_next (λ f. observed_moves_from class design observe (joined e f) more) (λ f. moves_from class design (joined e f) more) (observed_move class design observe e.state transition) (move class design e.state transition)
    (nothing_before (seen_at_move observe e.state transition) (move class design e.state transition) (nothing_at_move observe e.state transition sees))
    (λ f. plain_moves class design observe (joined e f) more sees)

pub nothing_seen_is_plain : NothingSeenIsPlain
nothing_seen_is_plain class design observe sees = (
  λ journal. plain_run design observe (silent (start design)) journal sees,
  λ transitions. plain_moves class design observe (silent (start design)) transitions sees,
)

-- a run may end in one of two states that are alike in classes as in the other, with the same seen there
pub ends_seen_alike : (class : ℕ → ℕ) (design : Design) (limits : Limits) (observe : Observer) (g k : Effect) (end : SeenEnd) → SeesAlike observe → IsInOrder g.state → IsInOrder k.state → AlikeIn class g.state k.state → EndsHereObserved design limits observe g end → EndsHereObserved design limits observe k end
ends_seen_alike class design limits observe g k end sees i j alike (here, seen) =
    (ends_alike_in class design limits g k end.end i j alike here, seen ∙ sees class g.state k.state alike)

-- observed loose runs that are alike serve one another

-- one of two loose runs comes by the same moves to the observed end to which the other comes
abbrev EndsToo : (ℕ → ℕ) → Design → Limits → Observer → List LooseTransition → List LooseTransition → List LooseTransition → SeenEnd → Type 0
EndsToo class design limits observe i j moves end =
    MayEndObserved class design limits observe (j ++ moves) end × (observed_text_of_moves class design observe (j ++ moves) ≡ observed_text_of_moves class design observe (i ++ moves))

observed_runs_end_too : (class : ℕ → ℕ) (design : Design) (limits : Limits) (observe : Observer) (i j moves : List LooseTransition) (end : SeenEnd) → SeesAlike observe → ComeToOneObservedNode class design limits observe i j → MayEndObserved class design limits observe (i ++ moves) end
    → EndsToo class design limits observe i j moves end
observed_runs_end_too class design limits observe i j moves end sees (e, f, at_e, at_f, node) (g, at_g, here) =
    let (goes, timely) = observed_came_of_more class design limits observe i moves e g at_e at_g in
    let (k, goes', (lines, alike)) =
    one_node_observed_on class design observe e f g moves sees (observed_run_in_order class design observe i e at_e.0) (observed_run_in_order class design observe j f at_f.0) node goes in
    let at_k : ComesObserved class design limits observe (j ++ moves) k = observed_of_more class design limits observe j moves f k at_f goes' timely in
    let here' : EndsHereObserved design limits observe k end =
    ends_seen_alike class design limits observe g k end sees (observed_run_in_order class design observe (i ++ moves) g at_g.0) (observed_run_in_order class design observe (j ++ moves) k at_k.0) alike here in
    ((k, at_k, here'), observed_text_is class design observe (j ++ moves) k at_k.0 ∙ (sym lines ∙ sym (observed_text_is class design observe (i ++ moves) g at_g.0)))

pub alike_observed_runs_serve : {Node : Type 0} (Holds : Node → Effect → Type 0) → AlikeObservedRunsServe Holds
alike_observed_runs_serve Holds class design limits observe i j sees alike moves end ends =
    let (ends', text) = observed_runs_end_too class design limits observe i j moves end sees alike ends in
    (moves, refl, ends', text)

-- runs of one observed text lead to one loose node where the nodes that stand at them hold states that are alike

same_text_alike : {Node : Type 0} (Holds : Node → Effect → Type 0) (class : ℕ → ℕ) (design : Design) (limits : Limits) (observe : Observer) (a b : Node) (i j : List LooseTransition) → HoldAlike Holds class a b → StandsObserved Holds class design limits observe a i
    → StandsObserved Holds class design limits observe b j → observed_text_of_moves class design observe i ≡ observed_text_of_moves class design observe j → ComeToOneObservedNode class design limits observe i j
same_text_alike Holds class design limits observe a b i j tells at_a at_b text =
    let e = at_a.effect in
    let f = at_b.effect in
    let lines : e.lines ≡ f.lines = sym (observed_text_is class design observe i e at_a.comes.0) ∙ (text ∙ observed_text_is class design observe j f at_b.comes.0) in
    let held : AlikeIn class at_a.held.state at_b.held.state = tells at_a.held at_b.held at_a.holds at_b.holds in
    let here : AlikeIn class e.state at_b.held.state = states_in-trans class e.state at_a.held.state at_b.held.state at_a.one_node.1 held in
    let alike : AlikeIn class e.state f.state = states_in-trans class e.state at_b.held.state f.state here (states_in-sym class f.state at_b.held.state at_b.one_node.1) in
    (e, f, at_a.comes, at_b.comes, (lines, alike))

pub alike_held_observed_are_alike : {Node : Type 0} (Holds : Node → Effect → Type 0) → AlikeHeldObservedAreAlike Holds
alike_held_observed_are_alike Holds class design limits observe a b i j tells at_a at_b text =
    same_text_alike Holds class design limits observe a b i j tells at_a at_b text

pub observed_runs_begin_silent : {Node : Type 0} (Holds : Node → Effect → Type 0) → ObservedRunsBeginSilent Holds
observed_runs_begin_silent Holds class design limits observe = refl

-- the observed text and the observed end of a lawful journal are those of a loose run

-- how a run ends that was observed, and what is seen of its last state
abbrev EndsWith : Design → Limits → Observer → List Entry → SeenEnd → State → Type 0
EndsWith design limits observe journal end s = EndsIn design limits (length journal) s end.end × (end.seen ≡ observe s)

ends_with : (design : Design) (limits : Limits) (observe : Observer) (journal : List Entry) (f : Effect) (end : SeenEnd) → run design journal ≡ Some f → IsSomeAnd (option_map (λ (x : Effect). x.state) (run design journal)) (EndsWith design limits observe journal end)
    → EndsWith design limits observe journal end f.state
ends_with design limits observe journal f end at_f ends =
    subst (λ (o : Option Effect). IsSomeAnd (option_map (λ (x : Effect). x.state) o) (EndsWith design limits observe journal end)) at_f ends

pub printing : (o : Option Effect) (text : List ℕ) → option_map (λ (x : Effect). x.lines) o ≡ Some text → (e : Effect) × (o ≡ Some e) × (e.lines ≡ text)
printing None text is = cc
printing (Some e) text is = (e, refl, cc)

pub all_observed_shown_are_all : {Node : Type 0} (Holds : Node → Effect → Type 0) → AllObservedShownAreAll Holds
all_observed_shown_are_all Holds class design limits observe shown sees all journal text end is timely ends few memory =
    let (e, at_e, lines) = printing (observed_run design observe journal) text is in
    let (f, at_f, state, changes) = (observed_run_is_run design observe journal).0 e at_e in
    let (ends_so, seen) = ends_with design limits observe journal f end at_f ends in
    let begun = start_is_in_order design in
    let (transitions, k, timely', goes, alike, lines') =
    entries_have_observed_moves class design limits observe (silent (start design)) (silent (start design)) e journal sees begun begun (states_in-same class (start design)) at_e timely in
    let i = run_is_in_order design journal f at_f in
    let j = observed_run_in_order class design observe transitions k goes in
    let near : AlikeIn class f.state k.state = subst (λ s. AlikeIn class s k.state) state alike in
    let here : EndsIn design limits 0 k.state end.end =
    alike_in_states_end_alike class design limits (length journal) 0 f.state k.state end.end i j near few (λ h. omega (arith, h)) ends_so in
    let may : MayEndObserved class design limits observe transitions end = (k, (goes, timely'), ((few, memory, here), seen ∙ sees class f.state k.state near)) in
    subst (λ t. IsShown shown t end) (observed_text_is class design observe transitions k goes ∙ (sym (lines' refl) ∙ lines)) (all transitions end may)

-- where no observed loose run comes to an end, no lawful one does

pub observed_endless_is_endless : {Node : Type 0} (Holds : Node → Effect → Type 0) → ObservedEndlessIsEndless Holds
observed_endless_is_endless Holds class design limits observe journal e transitions f at_e timely at_f alike never more g end at_g whole here =
    let (h, at_h, state) = observed_comes_plainly class design limits observe transitions f at_f in
    loose_endless_is_endless Holds class design limits journal e transitions h at_e timely at_h (subst (λ s. AlikeIn class e.state s) state alike)
    (λ moves so (k, at_k, here').
    let (x, at_x, state') = plainly_comes_observed class design limits observe (transitions ++ moves) k at_k in
    never moves (record { end = so; seen = observe x.state }) (x, at_x, (subst (λ s. EndsHere design limits (record x { state = s }) so) state' here', refl)))
    more g end at_g whole here
