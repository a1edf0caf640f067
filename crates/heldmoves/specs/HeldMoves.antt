-- The loose steps of all but some processes, which are held meanwhile, as a system of moves. The footprint of such a step leaves aside the
-- held processes that it wakes, and what these have waited for.
use Rattle.std.specs.Prelude.{◌≡◌, ℕ, Bool, true, Some}
use Rattle.model.specs.declared.entry.Entry.{Entry}
use Rattle.model.specs.Design.{Design}
use Rattle.model.specs.States.{State}
use Rattle.model.specs.Runs.{Effect}
use Rattle.loose.specs.declared.transition.LooseTransition.{LooseTransition}
use Rattle.loose.specs.Loose.{AlikeIn, loose_step}
use Rattle.traces.specs.Traces.{Moves, AreMoves}
use Rattle.traces.specs.Certificates.{HaveSwaps}
use Rattle.footprints.specs.Footprints.{Footprint, footprint, AreApart}
use Rattle.footprints.specs.Moves.{OrderedState, IsWaiting, GivesTo}
use Rattle.heldmoves.specs.WithoutHeld.{without_held}

-- An actor takes a loose step that leads to that state, and without what is held the step has this footprint.
abbrev pub IsHeldMove : (ℕ → ℕ) → Design → (ℕ → Bool) → State → LooseTransition → Footprint → State → Type 0
IsHeldMove class design held s actor f t =
    (entry : Entry) × (x : Effect) × (loose_step class design s entry ≡ Some x)
    × (footprint class design (without_held held s) entry ≡ Some f) × (f.owner ≡ actor) × (x.state ≡ t)

-- The loose steps of a design while some processes are held, for classes of registers. States are alike where they are so without what is
-- held.
abbrev pub held_moves : (ℕ → ℕ) → Design → (ℕ → Bool) → Moves OrderedState LooseTransition Footprint
held_moves class design held =
    record {
      Steps = λ s actor f t. IsHeldMove class design held s.0 actor f t.0;
      Waits = λ s actor. IsWaiting class (without_held held s.0) actor;
      Alike = λ s t. AlikeIn class (without_held held s.0) (without_held held t.0);
      Apart = λ f g. AreApart f g;
      Gives = λ f actor. GivesTo f actor;
      Ends = λ f. f.finishes ≡ true;
      prints = λ f. f.lines;
    }

-- the steps of the others keep to all that moves keep to, whichever processes are held
abbrev pub HeldStepsAreMoves : Type 0
HeldStepsAreMoves = (class : ℕ → ℕ) (design : Design) (held : ℕ → Bool) → AreMoves (held_moves class design held)

-- of such steps that are apart, one that is taken after the other may be taken first
abbrev pub HeldStepsHaveSwaps : Type 0
HeldStepsHaveSwaps = (class : ℕ → ℕ) (design : Design) (held : ℕ → Bool) → HaveSwaps (held_moves class design held)
