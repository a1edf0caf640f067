-- The steps of the others are moves while some processes are held.
use Rattle.std.proofs.Common.{◌≡◌, ◌≢◌, ◌⊎◌, ℕ, Bool, true}
use Rattle.model.specs.Design.{Design}
use Rattle.loose.specs.declared.transition.LooseTransition.{LooseTransition}
use Rattle.loose.specs.Loose.{AlikeIn}
use Rattle.loose.proofs.ClassStates.{states_in-same, states_in-sym, states_in-trans}
use Rattle.traces.specs.Traces.{Moves, AreMoves}
use Rattle.traces.specs.Certificates.{HaveSwaps}
use Rattle.footprints.specs.Footprints.{Footprint, AreApart}
use Rattle.footprints.specs.Moves.{OrderedState, IsWaiting, IsMove, GivesTo, loose_moves}
use Rattle.footprints.proofs.LooseMoves.{loose_steps_are_moves}
use Rattle.footprints.proofs.Swaps.{loose_steps_have_swaps}
use Rattle.heldmoves.specs.HeldMoves.{IsHeldMove, HeldStepsAreMoves, HeldStepsHaveSwaps}
use Rattle.heldmoves.proofs.BesideHeld.{low, goes_low, StepsHeld, goes_high}

module _ (class : ℕ → ℕ) (design : Design) (held : ℕ → Bool) where
  abbrev inner : Moves OrderedState LooseTransition Footprint
  inner = loose_moves class design

  laws : AreMoves inner
  laws = loose_steps_are_moves class design

  swaps : HaveSwaps inner
  swaps = loose_steps_have_swaps class design

  abbrev HeldStep : OrderedState → LooseTransition → Footprint → OrderedState → Type 0
  HeldStep s a f t = IsHeldMove class design held s.0 a f t.0

  abbrev Near : OrderedState → OrderedState → Type 0
  Near s t = AlikeIn class s.0 t.0

  back : (s t : OrderedState) → Near s t → Near t s
  back s t h = states_in-sym class s.0 t.0 h

  on : (s t u : OrderedState) → Near s t → Near t u → Near s u
  on s t u g h = states_in-trans class s.0 t.0 u.0 g h

  -- a step without what is held may be taken beside it from a state that is alike without it
  lifted : (s r u : OrderedState) (a : LooseTransition) (f : Footprint) → Near r (low held s) → IsMove class design r.0 a f u.0 → StepsHeld class design held s a f u
  lifted s r u a f near step =
      let (v, step', near') = laws.steps_alike r (low held s) u a f near step in
      let (t, high, near'') = goes_high class design held s v a f step' in
      (t, high, on u v (low held t) near' near'')

  steps_alike : (s t u : OrderedState) (a : LooseTransition) (f : Footprint) → Near (low held s) (low held t) → HeldStep s a f u → (v : OrderedState) × HeldStep t a f v × Near (low held u) (low held v)
  steps_alike s t u a f near step =
      let (r, step', near') = goes_low class design held s u a f step in
      let (v, high, near'') = lifted t (low held s) r a f near step' in
      (v, high, on (low held u) r (low held v) (back r (low held u) near') near'')

  one_step : (s t u : OrderedState) (a : LooseTransition) (f g : Footprint) → HeldStep s a f t → HeldStep s a g u → (f ≡ g) × Near (low held t) (low held u)
  one_step s t u a f g step other =
      let (q, step', near) = goes_low class design held s t a f step in
      let (r, other', near') = goes_low class design held s u a g other in
      let (same, between) = laws.one_step (low held s) q r a f g step' other' in
      (same, on (low held t) q (low held u) (back q (low held t) near) (on q r (low held u) between near'))

  waiting : (s t : OrderedState) (a : LooseTransition) (f : Footprint) → HeldStep s a f t → IsWaiting class (low held s).0 a
  waiting s t a f step =
      let (q, step', near) = goes_low class design held s t a f step in
      laws.waiting (low held s) q a f step'

  frame : (s t u : OrderedState) (a b : LooseTransition) (f g : Footprint) → a ≢ b → HeldStep s a f t → HeldStep s b g u → AreApart f g → (f.finishes ≡ true → ⊥) → (v : OrderedState) × HeldStep t b g v
  frame s t u a b f g differ step other apart stops =
      let (q, step', near) = goes_low class design held s t a f step in
      let (r, other', near') = goes_low class design held s u b g other in
      let (w, after) = laws.frame (low held s) q r a b f g differ step' other' apart stops in
      let (v, high, near'') = lifted t q w b g near after in
      (v, high)

  exchange : (s t u : OrderedState) (a b : LooseTransition) (f g : Footprint) → a ≢ b → HeldStep s a f t → HeldStep s b g u → AreApart f g → (f.finishes ≡ true → ⊥) → (g.finishes ≡ true → ⊥)
      → (v : OrderedState) × (w : OrderedState) × HeldStep t b g v × HeldStep u a f w × Near (low held v) (low held w)
  exchange s t u a b f g differ step other apart stops stops' =
      let (q, step', near) = goes_low class design held s t a f step in
      let (r, other', near') = goes_low class design held s u b g other in
      let (x, y, after, after', between) = laws.exchange (low held s) q r a b f g differ step' other' apart stops stops' in
      let (v, high, near_v) = lifted t q x b g near after in
      let (w, high', near_w) = lifted u r y a f near' after' in
      (v, w, high, high', on (low held v) x (low held w) (back x (low held v) near_v) (on x y (low held w) between near_w))

  last : (s t u : OrderedState) (a b : LooseTransition) (f g : Footprint) → HeldStep s a f t → f.finishes ≡ true → HeldStep t b g u → ⊥
  last s t u a b f g step ends later =
      let (q, step', near) = goes_low class design held s t a f step in
      let (r, later', near') = goes_low class design held t u b g later in
      let (v, after, near'') = laws.steps_alike (low held t) q r b g (back q (low held t) near) later' in
      laws.last (low held s) q v a b f g step' ends after

  stays : (s t : OrderedState) (a b : LooseTransition) (f : Footprint) → HeldStep s a f t → a ≢ b → IsWaiting class (low held s).0 b → IsWaiting class (low held t).0 b
  stays s t a b f step differ waits =
      let (q, step', near) = goes_low class design held s t a f step in
      laws.waits_alike q (low held t) b near (laws.stays (low held s) q a b f step' differ waits)

  given : (s t : OrderedState) (a b : LooseTransition) (f : Footprint) → HeldStep s a f t → IsWaiting class (low held t).0 b → IsWaiting class (low held s).0 b ⊎ GivesTo f b
  given s t a b f step waits =
      let (q, step', near) = goes_low class design held s t a f step in
      laws.given (low held s) q a b f step' (laws.waits_alike (low held t) q b (back q (low held t) near) waits)

  before : (s m n : OrderedState) (a b : LooseTransition) (f g : Footprint) → a ≢ b → HeldStep s a f m → HeldStep m b g n → IsWaiting class (low held s).0 b → AreApart f g → (v : OrderedState) × HeldStep s b g v
  before s m n a b f g differ step later waits apart =
      let (q, step', near) = goes_low class design held s m a f step in
      let (r, later', near') = goes_low class design held m n b g later in
      let (x, after, near'') = laws.steps_alike (low held m) q r b g (back q (low held m) near) later' in
      let (y, first) = swaps.before (low held s) q x a b f g differ step' after waits apart in
      let (v, high, near_v) = goes_high class design held s y b g first in
      (v, high)

pub held_steps_are_moves : HeldStepsAreMoves
held_steps_are_moves class design held =
    let laws : AreMoves (loose_moves class design) = loose_steps_are_moves class design in
    record {
      itself = λ s. states_in-same class (low held s).0;
      back = λ s t h. states_in-sym class (low held s).0 (low held t).0 h;
      through = λ s t u g h. states_in-trans class (low held s).0 (low held t).0 (low held u).0 g h;
      steps_alike = λ s t u a f h step. steps_alike class design held s t u a f h step;
      waits_alike = λ s t a h waits. laws.waits_alike (low held s) (low held t) a h waits;
      one_step = λ s t u a f g step other. one_step class design held s t u a f g step other;
      waiting = λ s t a f step. waiting class design held s t a f step;
      frame = λ s t u a b f g differ step other apart stops. frame class design held s t u a b f g differ step other apart stops;
      exchange = λ s t u a b f g differ step other apart stops stops'. exchange class design held s t u a b f g differ step other apart stops stops';
      either_way = laws.either_way;
      silent = laws.silent;
      last = λ s t u a b f g step ends later. last class design held s t u a b f g step ends later;
      stays = λ s t a b f step differ waits. stays class design held s t a b f step differ waits;
      given = λ s t a b f step waits. given class design held s t a b f step waits;
    }

pub held_steps_have_swaps : HeldStepsHaveSwaps
held_steps_have_swaps class design held =
    let swaps : HaveSwaps (loose_moves class design) = loose_steps_have_swaps class design in
    record {
      decides = swaps.decides;
      before = λ s m n a b f g differ step later waits apart. before class design held s m n a b f g differ step later waits apart;
      gives_one = swaps.gives_one;
    }
