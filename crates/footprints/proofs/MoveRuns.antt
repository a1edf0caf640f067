-- The runs of moves are the loose runs that take events.
use Rattle.std.proofs.Common.{◌≡◌, ℕ, List, [], ◌∷◌, ◌++◌, Option, Some, None, refl, sym, ap, ◌∙◌, append_assoc}
use Rattle.std.specs.Prelude.{option_map, option_and_then}
use Rattle.std.proofs.lemmas.Option.{option_and_then_some}
use Rattle.model.specs.declared.entry.Entry.{Entry}
use Rattle.model.specs.declared.entry.Entry.TheVariants.{Update, ActivateInactive, ActivateNba, ActivateMonitor, Advance}
use Rattle.model.specs.Design.{Design}
use Rattle.model.specs.Turns.{Turn}
use Rattle.model.specs.States.{Action, Evaluate, State}
use Rattle.model.specs.Runs.{Effect, action_in, turn_of, turn_effect, action_effect, joined}
use Rattle.orders.specs.Alike.{IsInOrder}
use Rattle.orders.proofs.Stores.{append-none}
use Rattle.loose.specs.declared.transition.LooseTransition.{LooseTransition}
use Rattle.loose.specs.Loose.{loose_step, loose_run_from}
use Rattle.traces.specs.Traces.{IsRunOfMoves, printed_by_steps}
use Rattle.footprints.specs.Footprints.{Footprint, turn_footprint, update_footprint, action_footprint, footprint}
use Rattle.footprints.specs.FootprintLaws.{IsStepWith}
use Rattle.footprints.specs.Moves.{OrderedState, IsMove, loose_moves, TakeEvents, MovesAreRuns, RunsAreMoves}
use Rattle.footprints.proofs.Steps.{loose_parts}
use Rattle.footprints.proofs.AlikeFootprints.{footprint_tells}
use Rattle.footprints.proofs.LooseMoves.{step_order}

-- what the steps of a run print
abbrev shown : List (LooseTransition × Footprint) → List ℕ
shown w = printed_by_steps (λ f. f.lines) w

-- the lines of one step more
lines_more : (lines first more all : List ℕ) (f : List ℕ) → first ≡ f → all ≡ (lines ++ first) ++ more → all ≡ lines ++ (f ++ more)
lines_more lines first more all f same is = is ∙ append_assoc lines first more ∙ ap (λ ls. lines ++ (ls ++ more)) same

-- from moves to entries

abbrev IsRunOf : (ℕ → ℕ) → Design → Effect → List (LooseTransition × Footprint) → State → Type 0
IsRunOf class design e w t =
    (entries : List Entry) × (g : Effect) × TakeEvents entries × (loose_run_from class design e entries ≡ Some g) × (g.state ≡ t) × (g.lines ≡ e.lines ++ shown w)

taken_before : (class : ℕ → ℕ) (design : Design) (s : State) (entry : Entry) (f : Footprint) (x : Effect) (entries : List Entry) → IsStepWith class design s entry f x → TakeEvents entries → TakeEvents (entry ∷ entries)
taken_before class design s (Entry.Turn n) f x entries step take = take
taken_before class design s (Update n) f x entries step take = take
taken_before class design s ActivateInactive f x entries (step, print) take = cc
taken_before class design s ActivateNba f x entries (step, print) take = cc
taken_before class design s ActivateMonitor f x entries (step, print) take = cc
taken_before class design s (Advance time) f x entries (step, print) take = cc

run_of : (class : ℕ → ℕ) (design : Design) (w : List (LooseTransition × Footprint)) (e : Effect) (s t : OrderedState) → e.state ≡ s.0 → IsRunOfMoves (loose_moves class design) s w t → IsRunOf class design e w t.0
run_of class design [] e s t same run = ([], e, tt, refl, same ∙ ap (λ (z : OrderedState). z.0) run, sym (append-none e.lines))
run_of class design ((a, f) ∷ w) e s t same (m, (entry, x, step, owner, leads), later) =
    let (entries, g, take, run, state, lines) = run_of class design w (joined e x) m t leads later in
    let first : loose_step class design e.state entry ≡ Some x = ap (λ z. loose_step class design z entry) same ∙ step.0 in
    let (transition, print, changes, ends) = footprint_tells class design s.0 entry f x s.1 step in (
      entry ∷ entries,
      g,
      taken_before class design s.0 entry f x entries step take,
      ap (option_and_then (λ y. loose_run_from class design (joined e y) entries)) first ∙ run,
      state,
      lines_more e.lines x.lines (shown w) g.lines f.lines print lines,
    )

pub moves_are_runs : MovesAreRuns
moves_are_runs class design e order w t run = run_of class design w e (e.state, order) t refl run

-- from entries to moves

turn_print_of : (class : ℕ → ℕ) (design : Design) (s : State) (n p : ℕ) (x : Effect) (o : Option Turn) → option_map (turn_effect s n p) o ≡ Some x → (f : Footprint) × (option_map (turn_footprint class s p) o ≡ Some f)
turn_print_of class design s n p x None h = cc
turn_print_of class design s n p x (Some t) h = (turn_footprint class s p t, refl)

print_of : (class : ℕ → ℕ) (design : Design) (s : State) (n : ℕ) (x : Effect) (o : Option Action) → action_effect design s n o ≡ Some x → (f : Footprint) × (action_footprint class design s o ≡ Some f)
print_of class design s n x None h = cc
print_of class design s n x (Some (Evaluate p)) h = turn_print_of class design s n p x (turn_of design s p) h
print_of class design s n x (Some (Action.Update r v)) h = (update_footprint class s r v, refl)

step_print : (class : ℕ → ℕ) (design : Design) (s : State) (entry : Entry) (x : Effect) (entries : List Entry) → TakeEvents (entry ∷ entries) → loose_step class design s entry ≡ Some x
    → (f : Footprint) × (footprint class design s entry ≡ Some f) × TakeEvents entries
step_print class design s (Entry.Turn n) x entries take step =
    let (going, none, made) = loose_parts class design s (Entry.Turn n) x step in
    let (f, print) = print_of class design s n x (action_in s.active n) made in
    (f, print, take)
step_print class design s (Update n) x entries take step =
    let (going, none, made) = loose_parts class design s (Update n) x step in
    let (f, print) = print_of class design s n x (action_in s.active n) made in
    (f, print, take)
step_print class design s ActivateInactive x entries take step = absurd take
step_print class design s ActivateNba x entries take step = absurd take
step_print class design s ActivateMonitor x entries take step = absurd take
step_print class design s (Advance time) x entries take step = absurd take

abbrev AreMovesOf : (ℕ → ℕ) → Design → Effect → OrderedState → Effect → Type 0
AreMovesOf class design e s g =
    (w : List (LooseTransition × Footprint)) × (t : OrderedState) × IsRunOfMoves (loose_moves class design) s w t × (t.0 ≡ g.state) × (g.lines ≡ e.lines ++ shown w)

moves_of : (class : ℕ → ℕ) (design : Design) (entries : List Entry) (e g : Effect) (order : IsInOrder e.state) → TakeEvents entries → loose_run_from class design e entries ≡ Some g → AreMovesOf class design e (e.state, order) g
moves_of class design [] e g order take run =
    let same : e ≡ g = cc in
    ([], (e.state, order), refl, ap (λ z. z.state) same, ap (λ z. z.lines) (sym same) ∙ sym (append-none e.lines))
moves_of class design (entry ∷ entries) e g order take run =
    option_and_then_some (λ x. loose_run_from class design (joined e x) entries) (loose_step class design e.state entry) g run
    (λ x step later.
    let (f, print, others) = step_print class design e.state entry x entries take step in
    let next : IsInOrder x.state = step_order class design e.state entry f x order (step, print) in
    let (w, t, moves, state, lines) = moves_of class design entries (joined e x) g next others later in
    let (transition, same, changes, ends) = footprint_tells class design e.state entry f x order (step, print) in
    let first : IsMove class design e.state f.owner f x.state = (entry, x, (step, print), refl, refl) in
    ((f.owner, f) ∷ w, t, ((x.state, next), first, moves), state, lines_more e.lines x.lines (shown w) g.lines f.lines same lines))

pub runs_are_moves : RunsAreMoves
runs_are_moves class design e g order entries take run = moves_of class design entries e g order take run
