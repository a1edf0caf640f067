-- The parts of observed loose runs in time, where they lead, and what they are unobserved.
use Rattle.std.proofs.Common.{◌≡◌, ℕ, List, [], ◌∷◌, ◌++◌, Option, Some, None, option_map, refl, sym, ap, ◌∙◌, subst}
use Rattle.std.specs.Prelude.{option_and_then}
use Rattle.std.specs.Option.{option_map_or}
use Rattle.std.specs.List.{All}
use Rattle.std.proofs.lemmas.List.Elements.{All-head, All-tail, All-append}
use Rattle.std.proofs.lemmas.Option.{option_and_then_some}
use Rattle.model.specs.declared.entry.Entry.{Entry}
use Rattle.model.specs.declared.entry.Entry.TheVariants.{Update, ActivateInactive, ActivateNba, ActivateMonitor, Advance}
use Rattle.model.specs.declared.end.Limits.{Limits}
use Rattle.model.specs.Design.{Design}
use Rattle.model.specs.States.{State, start}
use Rattle.model.specs.Runs.{Effect, silent, joined}
use Rattle.orders.specs.Alike.{IsInOrder}
use Rattle.orders.proofs.StatesInOrder.{start_is_in_order}
use Rattle.orders.proofs.SearchLaws.{then_some}
use Rattle.loose.specs.declared.transition.LooseTransition.{LooseTransition}
use Rattle.loose.specs.declared.transition.LooseTransition.TheVariants.{Process, FirstOf, Change}
use Rattle.looseruns.specs.LooseMoves.{move, moves_from, IsTimelyMove, AreTimelyMoves}
use Rattle.looseruns.specs.LooseRuns.{ComesOfMoves}
use Rattle.looseruns.specs.ObservedJournals.{Observer, effect_with_seen}
use Rattle.looseruns.specs.ObservedMoves.{seen_at_move, observed_move, observed_moves_from, observed_moves_run, StaysInTime, PassesTimeFirst, seen_first}
use Rattle.looseruns.specs.ObservedRuns.{ComesObserved, observed_text_of_moves}
use Rattle.looseruns.proofs.Observing.{observed_move_is_move, move_is_observed, observed_moves_keep_order}
use Rattle.looseruns.proofs.RunsOfMoves.{timely_moves_after}
use Rattle.looseruns.proofs.LooseGoing.{moves_behind}

-- what comes of moves and then others is what comes of the others after what comes of the moves

moves_on : (class : ℕ → ℕ) (design : Design) (observe : Observer) (e : Effect) (xs ys : List LooseTransition) (o : Option Effect)
    → ((f : Effect) → observed_moves_from class design observe (joined e f) (xs ++ ys) ≡ option_and_then (λ g. observed_moves_from class design observe g ys) (observed_moves_from class design observe (joined e f) xs))
    → option_and_then (λ f. observed_moves_from class design observe (joined e f) (xs ++ ys)) o ≡ option_and_then (λ g. observed_moves_from class design observe g ys) (option_and_then (λ f. observed_moves_from class design observe (joined e f) xs) o)
moves_on class design observe e xs ys None later = refl
moves_on class design observe e xs ys (Some f) later = later f

pub observed_from-append : (class : ℕ → ℕ) (design : Design) (observe : Observer) (e : Effect) (xs ys : List LooseTransition) → observed_moves_from class design observe e (xs ++ ys) ≡ option_and_then (λ f. observed_moves_from class design observe f ys) (observed_moves_from class design observe e xs)
observed_from-append class design observe e [] ys = refl
observed_from-append class design observe e (x ∷ xs) ys =
    moves_on class design observe e xs ys (observed_move class design observe e.state x) (λ f. observed_from-append class design observe (joined e f) xs ys)

-- a run and what goes on from it are one run

observed_go_on : (class : ℕ → ℕ) (design : Design) (observe : Observer) (i moves : List LooseTransition) (e f : Effect) → observed_moves_run class design observe i ≡ Some e → observed_moves_from class design observe e moves ≡ Some f → observed_moves_run class design observe (i ++ moves) ≡ Some f
observed_go_on class design observe i moves e f at_e at_f =
    observed_from-append class design observe (silent (start design)) i moves ∙ (ap (option_and_then (λ x. observed_moves_from class design observe x moves)) at_e ∙ at_f)

observed_went_on : (class : ℕ → ℕ) (design : Design) (observe : Observer) (i moves : List LooseTransition) (e f : Effect) → observed_moves_run class design observe i ≡ Some e → observed_moves_run class design observe (i ++ moves) ≡ Some f → observed_moves_from class design observe e moves ≡ Some f
observed_went_on class design observe i moves e f at_e at_f =
    sym (ap (option_and_then (λ x. observed_moves_from class design observe x moves)) at_e) ∙ (sym (observed_from-append class design observe (silent (start design)) i moves) ∙ at_f)

pub observed_of_more : (class : ℕ → ℕ) (design : Design) (limits : Limits) (observe : Observer) (i moves : List LooseTransition) (e f : Effect) → ComesObserved class design limits observe i e → observed_moves_from class design observe e moves ≡ Some f → AreTimelyMoves limits moves
    → ComesObserved class design limits observe (i ++ moves) f
observed_of_more class design limits observe i moves e f (at_e, timely) at_f later =
    (observed_go_on class design observe i moves e f at_e at_f, All-append (IsTimelyMove limits) i moves timely later)

pub observed_came_of_more : (class : ℕ → ℕ) (design : Design) (limits : Limits) (observe : Observer) (i moves : List LooseTransition) (e f : Effect) → ComesObserved class design limits observe i e → ComesObserved class design limits observe (i ++ moves) f
    → (observed_moves_from class design observe e moves ≡ Some f) × AreTimelyMoves limits moves
observed_came_of_more class design limits observe i moves e f (at_e, timely) (at_f, whole) =
    (observed_went_on class design observe i moves e f at_e at_f, timely_moves_after limits i moves whole)

-- the observed text of a loose run
pub observed_text_is : (class : ℕ → ℕ) (design : Design) (observe : Observer) (i : List LooseTransition) (e : Effect) → observed_moves_run class design observe i ≡ Some e → observed_text_of_moves class design observe i ≡ e.lines
observed_text_is class design observe i e at_e = ap (λ (o : Option Effect). option_map_or (λ x. x.lines) o []) at_e

-- its events stand in order
pub observed_run_in_order : (class : ℕ → ℕ) (design : Design) (observe : Observer) (i : List LooseTransition) (e : Effect) → observed_moves_run class design observe i ≡ Some e → IsInOrder e.state
observed_run_in_order class design observe i e at_e =
    observed_moves_keep_order class design observe (silent (start design)) e i (start_is_in_order design) at_e

-- what comes of observed moves comes of them unobserved, in the same state, and the other way round

pub observed_is_plain : (class : ℕ → ℕ) (design : Design) (observe : Observer) (d e g : Effect) (transitions : List LooseTransition) → d.state ≡ e.state → observed_moves_from class design observe d transitions ≡ Some g
    → (h : Effect) × (moves_from class design e transitions ≡ Some h) × (g.state ≡ h.state)
observed_is_plain class design observe d e g [] same is =
    let last : d ≡ g = cc in
    (e, refl, ap (λ x. x.state) (sym last) ∙ same)
observed_is_plain class design observe d e g (transition ∷ more) same is =
    option_and_then_some (λ x. observed_moves_from class design observe (joined d x) more) (observed_move class design observe d.state transition) g is
    (λ x at_x later.
    let (y, at_y, seen) = observed_move_is_move class design observe d.state transition x at_x in
    let (h, goes, state) = observed_is_plain class design observe (joined d x) (joined e y) g more (ap (λ z. z.state) (sym seen)) later in
    (h, then_some (λ z. moves_from class design (joined e z) more) (move class design e.state transition) y h (subst (λ s. move class design s transition ≡ Some y) same at_y) goes, state))

pub plain_is_observed : (class : ℕ → ℕ) (design : Design) (observe : Observer) (d e h : Effect) (transitions : List LooseTransition) → d.state ≡ e.state → moves_from class design d transitions ≡ Some h
    → (g : Effect) × (observed_moves_from class design observe e transitions ≡ Some g) × (h.state ≡ g.state)
plain_is_observed class design observe d e h [] same is =
    let last : d ≡ h = cc in
    (e, refl, ap (λ x. x.state) (sym last) ∙ same)
plain_is_observed class design observe d e h (transition ∷ more) same is =
    option_and_then_some (λ x. moves_from class design (joined d x) more) (move class design d.state transition) h is
    (λ x at_x later.
    let here : move class design e.state transition ≡ Some x = subst (λ s. move class design s transition ≡ Some x) same at_x in
    let y : Effect = effect_with_seen (seen_at_move observe e.state transition) x in
    let (g, goes, state) = plain_is_observed class design observe (joined d x) (joined e y) h more refl later in
    (g, then_some (λ z. observed_moves_from class design observe (joined e z) more) (observed_move class design observe e.state transition) y g (move_is_observed class design observe e.state transition x here) goes, state))

pub observed_comes_plainly : (class : ℕ → ℕ) (design : Design) (limits : Limits) (observe : Observer) (i : List LooseTransition) (e : Effect) → ComesObserved class design limits observe i e
    → (f : Effect) × ComesOfMoves class design limits i f × (e.state ≡ f.state)
observed_comes_plainly class design limits observe i e (at_e, timely) =
    let (f, at_f, state) = observed_is_plain class design observe (silent (start design)) (silent (start design)) e i refl at_e in
    (f, (at_f, timely), state)

pub plainly_comes_observed : (class : ℕ → ℕ) (design : Design) (limits : Limits) (observe : Observer) (i : List LooseTransition) (f : Effect) → ComesOfMoves class design limits i f
    → (e : Effect) × ComesObserved class design limits observe i e × (f.state ≡ e.state)
plainly_comes_observed class design limits observe i f (at_f, timely) =
    let (e, at_e, state) = plain_is_observed class design observe (silent (start design)) (silent (start design)) f i refl at_f in
    (e, (at_e, timely), state)

-- where no time passes, nothing is seen

entry_unseen : (observe : Observer) (s : State) (entry : Entry) → StaysInTime (Change entry) → seen_at_move observe s (Change entry) ≡ []
entry_unseen observe s (Entry.Turn n) stays = refl
entry_unseen observe s (Update n) stays = refl
entry_unseen observe s ActivateInactive stays = refl
entry_unseen observe s ActivateNba stays = refl
entry_unseen observe s ActivateMonitor stays = refl
entry_unseen observe s (Advance time) stays = absurd stays

pub move_unseen : (observe : Observer) (s : State) (transition : LooseTransition) → StaysInTime transition → seen_at_move observe s transition ≡ []
move_unseen observe s (Process p) stays = refl
move_unseen observe s (FirstOf c) stays = refl
move_unseen observe s (Change entry) stays = entry_unseen observe s entry stays

pub nothing_before : (seen : List ℕ) (o : Option Effect) → seen ≡ [] → option_map (effect_with_seen seen) o ≡ o
nothing_before seen None none = refl
nothing_before seen (Some f) none = ap (λ l. Some (effect_with_seen l f)) none

pub same_next : (go go' : Effect → Option Effect) (o o' : Option Effect) → o ≡ o' → ((f : Effect) → go f ≡ go' f) → option_and_then go o ≡ option_and_then go' o'
same_next go go' None o' is same = ap (option_and_then go') is
same_next go go' (Some f) o' is same = same f ∙ ap (option_and_then go') is

pub unseen_moves : (class : ℕ → ℕ) (design : Design) (observe : Observer) (e : Effect) (transitions : List LooseTransition) → All StaysInTime transitions → observed_moves_from class design observe e transitions ≡ moves_from class design e transitions
unseen_moves class design observe e [] stay = refl
unseen_moves class design observe e (transition ∷ more) stay =
    let none = move_unseen observe e.state transition (All-head StaysInTime transition more stay) in
    same_next (λ f. observed_moves_from class design observe (joined e f) more) (λ f. moves_from class design (joined e f) more) (observed_move class design observe e.state transition) (move class design e.state transition)
    (nothing_before (seen_at_move observe e.state transition) (move class design e.state transition) none)
    (λ f. unseen_moves class design observe (joined e f) more (All-tail StaysInTime transition more stay))

-- moves after something was seen
moves_after_seen : (class : ℕ → ℕ) (design : Design) (seen : List ℕ) (e g : Effect) (moves : List LooseTransition) → moves_from class design e moves ≡ Some g → moves_from class design (effect_with_seen seen e) moves ≡ Some (effect_with_seen seen g)
moves_after_seen class design seen e g moves is =
    let d : Effect = record { state = e.state; lines = seen; changes = [] } in
    moves_behind class design d e g moves is

-- where time passes at the first transition of a way alone, or nowhere, what is seen there stands before its lines
pub seen_first_alone : (class : ℕ → ℕ) (design : Design) (observe : Observer) (s : State) (g : Effect) (way : List LooseTransition) → PassesTimeFirst way → moves_from class design (silent s) way ≡ Some g
    → observed_moves_from class design observe (silent s) way ≡ Some (effect_with_seen (seen_first observe s way) g)
seen_first_alone class design observe s g [] first is = is
seen_first_alone class design observe s g (transition ∷ more) first is =
    option_and_then_some (λ x. moves_from class design (joined (silent s) x) more) (move class design s transition) g is
    (λ x at_x later.
    let seen = seen_at_move observe s transition in
    let y : Effect = effect_with_seen seen x in
    let goes : observed_moves_from class design observe (joined (silent s) y) more ≡ Some (effect_with_seen seen g) =
    unseen_moves class design observe (joined (silent s) y) more first ∙ moves_after_seen class design seen (joined (silent s) x) g more later in
    then_some (λ z. observed_moves_from class design observe (joined (silent s) z) more) (observed_move class design observe s transition) y (effect_with_seen seen g) (move_is_observed class design observe s transition x at_x) goes)
