-- The parts of loose runs in time, and where they lead.
use Rattle.std.proofs.Common.{◌≡◌, ℕ, List, [], ◌∷◌, ◌++◌, Option, Some, None, refl, sym, ap, ◌∙◌, subst}
use Rattle.std.specs.Prelude.{option_and_then}
use Rattle.std.specs.Option.{option_map_or}
use Rattle.std.proofs.lemmas.List.Elements.{All-nil, All-cons, All-head, All-tail, All-append}
use Rattle.model.specs.declared.end.Limits.{Limits}
use Rattle.model.specs.declared.end.End.{End}
use Rattle.model.specs.Design.{Design}
use Rattle.model.specs.States.{start}
use Rattle.model.specs.Runs.{Effect, silent, joined}
use Rattle.model.specs.Texts.{EndsHere}
use Rattle.orders.specs.Alike.{IsInOrder}
use Rattle.orders.proofs.StatesInOrder.{start_is_in_order}
use Rattle.loose.specs.declared.transition.LooseTransition.{LooseTransition}
use Rattle.loose.specs.Loose.{AlikeIn}
use Rattle.loose.proofs.ClassEnds.{alike_in_states_end_alike}
use Rattle.looseruns.specs.LooseMoves.{move, moves_from, moves_run, IsTimelyMove, AreTimelyMoves}
use Rattle.looseruns.specs.LooseRuns.{ComesOfMoves, text_of_moves}
use Rattle.looseruns.proofs.Moves.{moves_keep_order}

-- what comes of moves and then others is what comes of the others after what comes of the moves

moves_on : (class : ℕ → ℕ) (design : Design) (e : Effect) (xs ys : List LooseTransition) (o : Option Effect)
    → ((f : Effect) → moves_from class design (joined e f) (xs ++ ys) ≡ option_and_then (λ g. moves_from class design g ys) (moves_from class design (joined e f) xs))
    → option_and_then (λ f. moves_from class design (joined e f) (xs ++ ys)) o ≡ option_and_then (λ g. moves_from class design g ys) (option_and_then (λ f. moves_from class design (joined e f) xs) o)
moves_on class design e xs ys None later = refl
moves_on class design e xs ys (Some f) later = later f

pub moves_from-append : (class : ℕ → ℕ) (design : Design) (e : Effect) (xs ys : List LooseTransition) → moves_from class design e (xs ++ ys) ≡ option_and_then (λ f. moves_from class design f ys) (moves_from class design e xs)
moves_from-append class design e [] ys = refl
moves_from-append class design e (x ∷ xs) ys =
    moves_on class design e xs ys (move class design e.state x) (λ f. moves_from-append class design (joined e f) xs ys)

pub timely_moves_after : (limits : Limits) (before after : List LooseTransition) → AreTimelyMoves limits (before ++ after) → AreTimelyMoves limits after
timely_moves_after limits [] after h = h
timely_moves_after limits (b ∷ before) after h =
    timely_moves_after limits before after (All-tail (IsTimelyMove limits) b (before ++ after) h)

pub timely_moves_before : (limits : Limits) (before after : List LooseTransition) → AreTimelyMoves limits (before ++ after) → AreTimelyMoves limits before
timely_moves_before limits [] after h = All-nil (IsTimelyMove limits)
timely_moves_before limits (b ∷ before) after h =
    All-cons (IsTimelyMove limits) b before (All-head (IsTimelyMove limits) b (before ++ after) h)
    (timely_moves_before limits before after (All-tail (IsTimelyMove limits) b (before ++ after) h))

pub first_part_timely : (limits : Limits) (part rest whole : List LooseTransition) → part ++ rest ≡ whole → AreTimelyMoves limits whole → AreTimelyMoves limits part
first_part_timely limits part rest whole split h = timely_moves_before limits part rest (subst (AreTimelyMoves limits) (sym split) h)

-- a run and what goes on from it are one run

pub moves_go_on : (class : ℕ → ℕ) (design : Design) (i moves : List LooseTransition) (e f : Effect) → moves_run class design i ≡ Some e → moves_from class design e moves ≡ Some f → moves_run class design (i ++ moves) ≡ Some f
moves_go_on class design i moves e f at_e at_f =
    moves_from-append class design (silent (start design)) i moves ∙ (ap (option_and_then (λ x. moves_from class design x moves)) at_e ∙ at_f)

pub moves_went_on : (class : ℕ → ℕ) (design : Design) (i moves : List LooseTransition) (e f : Effect) → moves_run class design i ≡ Some e → moves_run class design (i ++ moves) ≡ Some f → moves_from class design e moves ≡ Some f
moves_went_on class design i moves e f at_e at_f =
    sym (ap (option_and_then (λ x. moves_from class design x moves)) at_e) ∙ (sym (moves_from-append class design (silent (start design)) i moves) ∙ at_f)

pub comes_of_more : (class : ℕ → ℕ) (design : Design) (limits : Limits) (i moves : List LooseTransition) (e f : Effect) → ComesOfMoves class design limits i e → moves_from class design e moves ≡ Some f → AreTimelyMoves limits moves → ComesOfMoves class design limits (i ++ moves) f
comes_of_more class design limits i moves e f (at_e, timely) at_f later =
    (moves_go_on class design i moves e f at_e at_f, All-append (IsTimelyMove limits) i moves timely later)

pub came_of_more : (class : ℕ → ℕ) (design : Design) (limits : Limits) (i moves : List LooseTransition) (e f : Effect) → ComesOfMoves class design limits i e → ComesOfMoves class design limits (i ++ moves) f
    → (moves_from class design e moves ≡ Some f) × AreTimelyMoves limits moves
came_of_more class design limits i moves e f (at_e, timely) (at_f, whole) =
    (moves_went_on class design i moves e f at_e at_f, timely_moves_after limits i moves whole)

-- the text of a loose run
pub loose_text_is : (class : ℕ → ℕ) (design : Design) (i : List LooseTransition) (e : Effect) → moves_run class design i ≡ Some e → text_of_moves class design i ≡ e.lines
loose_text_is class design i e at_e = ap (λ (o : Option Effect). option_map_or (λ x. x.lines) o []) at_e

-- its events stand in order
pub moves_run_in_order : (class : ℕ → ℕ) (design : Design) (i : List LooseTransition) (e : Effect) → moves_run class design i ≡ Some e → IsInOrder e.state
moves_run_in_order class design i e at_e =
    moves_keep_order class design (silent (start design)) e i (start_is_in_order design) at_e

-- a run may end in one of two states that are alike in classes as in the other
pub ends_alike_in : (class : ℕ → ℕ) (design : Design) (limits : Limits) (g k : Effect) (end : End) → IsInOrder g.state → IsInOrder k.state → AlikeIn class g.state k.state → EndsHere design limits g end → EndsHere design limits k end
ends_alike_in class design limits g k end i j alike (few, memory, here) =
    (few, memory, alike_in_states_end_alike class design limits 0 0 g.state k.state end i j alike few (λ h. h) here)
