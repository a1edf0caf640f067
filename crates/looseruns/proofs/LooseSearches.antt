-- What a search of loose runs has to know of them, and what it says of lawful journals, whatever its nodes hold.
use Rattle.std.proofs.Common.{◌≡◌, ℕ, List, ◌++◌, length, Option, Some, None, option_map, refl, sym, ap, ◌∙◌, subst, arith}
use Rattle.std.specs.Prelude.{option_and_then}
use Rattle.std.specs.Option.{IsSomeAnd}
use Rattle.model.specs.declared.entry.Entry.{Entry}
use Rattle.model.specs.declared.end.Limits.{Limits}
use Rattle.model.specs.declared.end.End.{End}
use Rattle.model.specs.Design.{Design}
use Rattle.model.specs.States.{start}
use Rattle.model.specs.Runs.{Effect, silent, run, run_from, EndsIn, Ends}
use Rattle.model.proofs.RunLaws.{run_from-append}
use Rattle.model.specs.Texts.{EndsHere}
use Rattle.orders.proofs.StatesInOrder.{start_is_in_order, run_is_in_order}
use Rattle.orders.proofs.TimelyRuns.{timely_after}
use Rattle.loose.specs.declared.transition.LooseTransition.{LooseTransition}
use Rattle.loose.specs.Loose.{AlikeIn}
use Rattle.loose.proofs.LooseSteps.{run_is_loose, run_from_is_loose}
use Rattle.loose.proofs.ClassEnds.{alike_in_states_end_alike}
use Rattle.loose.proofs.ClassStates.{states_in-same, states_in-sym, states_in-trans}
use Rattle.explore.specs.Search.{IsShown}
use Rattle.looseruns.specs.LooseRuns.{ComesOfMoves, MayEndLoosely, text_of_moves, ComeToOneLooseNode, StandsLoosely}
use Rattle.looseruns.specs.LooseRunLaws.{AlikeLooseRunsServe, HoldAlike, AlikeHeldRunsAreAlike, LooseRunsBeginSilent, AllLooseShownAreAll, LooseEndlessIsEndless}
use Rattle.looseruns.proofs.Moves.{one_loose_node_moves_on, loose_run_has_moves, entries_have_moves}
use Rattle.looseruns.proofs.RunsOfMoves.{comes_of_more, came_of_more, loose_text_is, moves_run_in_order, ends_alike_in}

-- loose runs that are alike serve one another

-- one of two loose runs comes by the same moves to the end to which the other comes
abbrev EndsToo : (ℕ → ℕ) → Design → Limits → List LooseTransition → List LooseTransition → List LooseTransition → End → Type 0
EndsToo class design limits i j moves end =
    MayEndLoosely class design limits (j ++ moves) end × (text_of_moves class design (j ++ moves) ≡ text_of_moves class design (i ++ moves))

loose_runs_end_too : (class : ℕ → ℕ) (design : Design) (limits : Limits) (i j moves : List LooseTransition) (end : End) → ComeToOneLooseNode class design limits i j → MayEndLoosely class design limits (i ++ moves) end → EndsToo class design limits i j moves end
loose_runs_end_too class design limits i j moves end (e, f, at_e, at_f, node) (g, at_g, here) =
    let (goes, timely) = came_of_more class design limits i moves e g at_e at_g in
    let (k, goes', (lines, alike)) =
    one_loose_node_moves_on class design e f g moves (moves_run_in_order class design i e at_e.0) (moves_run_in_order class design j f at_f.0) node goes in
    let at_k : ComesOfMoves class design limits (j ++ moves) k = comes_of_more class design limits j moves f k at_f goes' timely in
    let here' : EndsHere design limits k end =
    ends_alike_in class design limits g k end (moves_run_in_order class design (i ++ moves) g at_g.0) (moves_run_in_order class design (j ++ moves) k at_k.0) alike here in
    ((k, at_k, here'), loose_text_is class design (j ++ moves) k at_k.0 ∙ (sym lines ∙ sym (loose_text_is class design (i ++ moves) g at_g.0)))

pub alike_loose_runs_serve : {Node : Type 0} (Holds : Node → Effect → Type 0) → AlikeLooseRunsServe Holds
alike_loose_runs_serve Holds class design limits i j alike moves end ends =
    let (ends', text) = loose_runs_end_too class design limits i j moves end alike ends in
    (moves, refl, ends', text)

-- runs of one text lead to one loose node where the nodes that stand at them hold states that are alike

same_text_alike : {Node : Type 0} (Holds : Node → Effect → Type 0) (class : ℕ → ℕ) (design : Design) (limits : Limits) (a b : Node) (i j : List LooseTransition) → HoldAlike Holds class a b → StandsLoosely Holds class design limits a i
    → StandsLoosely Holds class design limits b j → text_of_moves class design i ≡ text_of_moves class design j → ComeToOneLooseNode class design limits i j
same_text_alike Holds class design limits a b i j tells at_a at_b text =
    let e = at_a.effect in
    let f = at_b.effect in
    let lines : e.lines ≡ f.lines = sym (loose_text_is class design i e at_a.comes.0) ∙ (text ∙ loose_text_is class design j f at_b.comes.0) in
    let held : AlikeIn class at_a.held.state at_b.held.state = tells at_a.held at_b.held at_a.holds at_b.holds in
    let here : AlikeIn class e.state at_b.held.state = states_in-trans class e.state at_a.held.state at_b.held.state at_a.one_node.1 held in
    let alike : AlikeIn class e.state f.state = states_in-trans class e.state at_b.held.state f.state here (states_in-sym class f.state at_b.held.state at_b.one_node.1) in
    (e, f, at_a.comes, at_b.comes, (lines, alike))

pub alike_held_runs_are_alike : {Node : Type 0} (Holds : Node → Effect → Type 0) → AlikeHeldRunsAreAlike Holds
alike_held_runs_are_alike Holds class design limits a b i j tells at_a at_b text =
    same_text_alike Holds class design limits a b i j tells at_a at_b text

pub loose_runs_begin_silent : {Node : Type 0} (Holds : Node → Effect → Type 0) → LooseRunsBeginSilent Holds
loose_runs_begin_silent Holds class design limits = refl

-- the lines and the end of a lawful journal are those of a loose run

ends_with : (design : Design) (limits : Limits) (journal : List Entry) (e : Effect) (end : End) → run design journal ≡ Some e → Ends design limits journal end → EndsIn design limits (length journal) e.state end
ends_with design limits journal e end at_e ends =
    subst (λ (o : Option Effect). IsSomeAnd (option_map (λ x. x.state) o) (λ s. EndsIn design limits (length journal) s end)) at_e ends

printing : (o : Option Effect) (text : List ℕ) → option_map (λ (x : Effect). x.lines) o ≡ Some text → (e : Effect) × (o ≡ Some e) × (e.lines ≡ text)
printing None text is = cc
printing (Some e) text is = (e, refl, cc)

pub all_loose_shown_are_all : {Node : Type 0} (Holds : Node → Effect → Type 0) → AllLooseShownAreAll Holds
all_loose_shown_are_all Holds class design limits shown all journal text end is timely ends few memory =
    let (e, at_e, lines) = printing (run design journal) text is in
    let begun = start_is_in_order design in
    let (transitions, k, same, timely', goes, (lines', alike)) =
    loose_run_has_moves class design limits (silent (start design)) (silent (start design)) e journal begun begun (refl, states_in-same class (start design)) (run_is_loose class design journal e at_e) timely in
    let i = run_is_in_order design journal e at_e in
    let j = moves_run_in_order class design transitions k goes in
    let here : EndsIn design limits 0 k.state end =
    alike_in_states_end_alike class design limits (length journal) 0 e.state k.state end i j alike few (λ h. omega (arith, h)) (ends_with design limits journal e end at_e ends) in
    let may : MayEndLoosely class design limits transitions end = (k, (goes, timely'), (few, memory, here)) in
    subst (λ t. IsShown shown t end) (loose_text_is class design transitions k goes ∙ (sym lines' ∙ lines)) (all transitions end may)

-- where no loose run comes to an end, no lawful one does

went_on : (design : Design) (i moves : List Entry) (e f : Effect) → run design i ≡ Some e → run design (i ++ moves) ≡ Some f → run_from design e moves ≡ Some f
went_on design i moves e f at_e at_f =
    sym (ap (option_and_then (λ x. run_from design x moves)) at_e) ∙ (sym (run_from-append design (silent (start design)) i moves) ∙ at_f)

pub loose_endless_is_endless : {Node : Type 0} (Holds : Node → Effect → Type 0) → LooseEndlessIsEndless Holds
loose_endless_is_endless Holds class design limits journal e transitions f at_e timely at_f alike never more g end at_g whole here =
    let i = run_is_in_order design journal e at_e in
    let j = moves_run_in_order class design transitions f at_f.0 in
    let goes = run_from_is_loose class design e g more (went_on design journal more e g at_e at_g) in
    let (moves, k, same, timely', goes', alike', lines) =
    entries_have_moves class design limits e f g more i j alike goes (timely_after limits journal more whole) in
    let at_k : ComesOfMoves class design limits (transitions ++ moves) k = comes_of_more class design limits transitions moves f k at_f goes' timely' in
    let here' : EndsHere design limits k end =
    ends_alike_in class design limits g k end (run_is_in_order design (journal ++ more) g at_g) (moves_run_in_order class design (transitions ++ moves) k at_k.0) alike' here in
    let may : MayEndLoosely class design limits (transitions ++ moves) end = (k, at_k, here') in
    never moves end may
