-- Runs go on alike from one node, and a search whose nodes are covered is complete.
use Rattle.std.proofs.Common.{◌≡◌, ◌≢◌, ℕ, zero, suc, ◌≤◌, List, [], ◌∷◌, ◌++◌, length, Option, Some, refl, sym, ap, ◌∙◌, arith, length-append}
use Rattle.std.specs.Prelude.{option_and_then}
use Rattle.std.specs.List.{Contains}
use Rattle.std.proofs.lemmas.Option.{option_and_then_some}
use Rattle.std.proofs.lemmas.List.Elements.{All-nil, All-cons, All-head, All-tail}
use Rattle.model.specs.declared.entry.Entry.{Entry}
use Rattle.model.specs.declared.end.Limits.{Limits}
use Rattle.model.specs.declared.end.End.{End}
use Rattle.model.specs.Design.{Design}
use Rattle.model.specs.States.{start}
use Rattle.model.specs.Runs.{Effect, silent, joined, step, run_from, IsTimely, AreTimely}
use Rattle.model.specs.Texts.{EndsHere}
use Rattle.model.proofs.RunLaws.{run_from-append}
use Rattle.orders.specs.Alike.{Alike, IsInOrder}
use Rattle.orders.specs.SearchLaws.{IsOneNode, OneNodeGoesOn, IsReachable, IsAmongVisited, EachTransitionCovers, Shows, IsComplete, CompleteShowsAll}
use Rattle.orders.proofs.StatesInOrder.{step_keeps_order, run_from_in_order, start_is_in_order, run_is_in_order}
use Rattle.orders.proofs.AlikeStates.{alike_states-same, alike_states-trans}
use Rattle.orders.proofs.AlikeSteps.{alike_states_step_alike, transition_has_one_outcome}
use Rattle.orders.proofs.TimelyRuns.{timely_transition, timely_after}
use Rattle.orders.proofs.AlikeEnds.{alike_states_end_alike}

pub then_some : (go : Effect → Option Effect) (o : Option Effect) (y k : Effect) → o ≡ Some y → go y ≡ Some k → option_and_then go o ≡ Some k
then_some go o y k is h = ap (option_and_then go) is ∙ h

-- what a run comes to from another effect of the same node
abbrev GoesOn : Design → Limits → Effect → Effect → List Entry → Type 0
GoesOn design limits f g entries =
    (others : List Entry) × (k : Effect) × (length others ≡ length entries) × AreTimely limits others × (run_from design f others ≡ Some k) × IsOneNode g k

one_more : (design : Design) (limits : Limits) (f y g : Effect) (other entry : Entry) (entries : List Entry) → step design f.state other ≡ Some y → IsTimely limits other → GoesOn design limits (joined f y) g entries → GoesOn design limits f g (entry ∷ entries)
one_more design limits f y g other entry entries at_y timely (others, k, same, rest, goes, node) =
    (other ∷ others, k, omega (arith, same), All-cons (IsTimely limits) other others timely rest, then_some (λ x. run_from design (joined f x) others) (step design f.state other) y k at_y goes, node)

pub one_node_goes_on : OneNodeGoesOn
one_node_goes_on design limits e f g [] i j node is timely =
    let same : e ≡ g = cc in
    ([], f, refl, All-nil (IsTimely limits), refl, rw (← same) node)
one_node_goes_on design limits e f g (entry ∷ entries) i j (lines, alike) is timely =
    let now = All-head (IsTimely limits) entry entries timely in
    option_and_then_some (λ x. run_from design (joined e x) entries) (step design e.state entry) g is
    (λ x at_x later.
    let (other, y, transition, at_y, (lines', changes, alike')) = alike_states_step_alike design e.state f.state entry x i j alike at_x in
    let node : IsOneNode (joined e x) (joined f y) = (ap (λ ls. ls ++ x.lines) lines ∙ ap (λ ls. f.lines ++ ls) lines', alike') in
    one_more design limits f y g other entry entries at_y (timely_transition e.state f.state limits other entry transition now)
    (one_node_goes_on design limits (joined e x) (joined f y) g entries (step_keeps_order design e.state entry x i at_x) (step_keeps_order design f.state other y j at_y) node later (All-tail (IsTimely limits) entry entries timely)))

-- a node that is followed by each of its transitions is covered
pub visited_too : (nodes : List Effect) (e f : Effect) → IsOneNode e f → IsAmongVisited nodes f → IsAmongVisited nodes e
visited_too nodes e f (lines, alike) (v, there, (lines', alike')) =
    (v, there, (lines ∙ lines', alike_states-trans e.state f.state v.state alike alike'))

pub reached_in_order : (design : Design) (e : Effect) → IsReachable design e → IsInOrder e.state
reached_in_order design e (journal, is) = run_is_in_order design journal e is

pub each_transition_covers : EachTransitionCovers
each_transition_covers design limits nodes e from follows entry entries g end is timely ends =
    let i : IsInOrder e.state = reached_in_order design e from in
    option_and_then_some (λ x. run_from design (joined e x) entries) (step design e.state entry) g is
    (λ x at_x later.
    let (other, y, transition, at_y, visited) = follows entry x at_x (All-head (IsTimely limits) entry entries timely) in
    let (lines, changes, alike) = transition_has_one_outcome design e.state e.state entry other x y i i (alike_states-same e.state) transition at_x at_y in
    let node : IsOneNode (joined e x) (joined e y) = (ap (λ ls. e.lines ++ ls) lines, alike) in
    let here : run_from design e (entry ∷ []) ≡ Some (joined e x) = then_some (λ z. run_from design (joined e z) []) (step design e.state entry) x (joined e x) at_x refl in
    (entry ∷ [], entries, joined e x, (λ none. cc), refl, here, visited_too nodes (joined e x) (joined e y) node visited))

-- completeness

ends_alike : (design : Design) (limits : Limits) (g k : Effect) (end : End) → IsInOrder g.state → IsInOrder k.state → Alike g.state k.state → EndsHere design limits g end → EndsHere design limits k end
ends_alike design limits g k end i j alike (few, memory, ends) =
    (few, memory, alike_states_end_alike design limits 0 0 g.state k.state end i j alike few (λ h. h) ends)

shorter : (before after whole : List Entry) (most : ℕ) → before ≢ [] → before ++ after ≡ whole → length whole ≤ suc most → length after ≤ most
shorter [] after whole most some split short = absurd (some refl)
shorter (b ∷ before) after whole most some split short = omega (arith, ap length split, length-append {A = Entry} before after, short)

pub rest_of : (design : Design) (v f g : Effect) (before after whole : List Entry) → before ++ after ≡ whole → run_from design v before ≡ Some f → run_from design v whole ≡ Some g → run_from design f after ≡ Some g
rest_of design v f g before after whole split reached is =
    sym (ap (option_and_then (λ x. run_from design x after)) reached) ∙ sym (run_from-append design v before after) ∙ ap (run_from design v) split ∙ is

complete_from : (design : Design) (limits : Limits) (nodes : List Effect) (shown : List (List ℕ × End)) (c : IsComplete design limits nodes shown) (most : ℕ) (v g : Effect) (entries : List Entry) (end : End)
    → Contains nodes v → length entries ≤ most → run_from design v entries ≡ Some g → AreTimely limits entries → EndsHere design limits g end → Shows shown g.lines end
complete_from design limits nodes shown c most v g [] end there short is timely ends =
    let same : v ≡ g = cc in
    let here : EndsHere design limits v end = rw same ends in
    rw (← same) (c.ends v end there here)
complete_from design limits nodes shown c zero v g (x ∷ xs) end there short is timely ends = absurd (omega (arith, short))
complete_from design limits nodes shown c (suc most) v g (x ∷ xs) end there short is timely ends =
    let (before, after, f, some, split, reached, (v', there', node)) = c.covered v there x xs g end is timely ends in
    let later : run_from design f after ≡ Some g = rest_of design v f g before after (x ∷ xs) split reached is in
    let i : IsInOrder f.state = run_from_in_order design v f before (reached_in_order design v (c.reached v there)) reached in
    let j : IsInOrder v'.state = reached_in_order design v' (c.reached v' there') in
    let still : AreTimely limits after = timely_after limits before after (rw split timely) in
    let (others, k, same, timely', goes, (lines, alike)) = one_node_goes_on design limits f v' g after i j node later still in
    let ends' : EndsHere design limits k end =
    ends_alike design limits g k end (run_from_in_order design f g after i later) (run_from_in_order design v' k others j goes) alike ends in
    let less : length others ≤ most = omega (arith, same, shorter before after (x ∷ xs) most some split short) in
    rw lines (complete_from design limits nodes shown c most v' k others end there' less goes timely' ends')

pub complete_shows_all : CompleteShowsAll
complete_shows_all design limits nodes shown journal e end c is timely few memory ends =
    let (v, there, node) = c.begun in
    let i : IsInOrder (start design) = start_is_in_order design in
    let j : IsInOrder v.state = reached_in_order design v (c.reached v there) in
    let (others, k, same, timely', goes, (lines, alike)) = one_node_goes_on design limits (silent (start design)) v e journal i j node is timely in
    let i' : IsInOrder e.state = run_from_in_order design (silent (start design)) e journal i is in
    let here : EndsHere design limits e end =
    (few, memory, alike_states_end_alike design limits (length journal) 0 e.state e.state end i' i' (alike_states-same e.state) few (λ h. omega (arith, h)) ends) in
    let ends' : EndsHere design limits k end = ends_alike design limits e k end i' (run_from_in_order design v k others j goes) alike here in
    rw lines (complete_from design limits nodes shown c (length others) v k others end there (omega arith) goes timely' ends')
