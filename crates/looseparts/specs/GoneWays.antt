-- Ways that were gone again from where a machine stands, and what they come to.
use Rattle.std.specs.Prelude.{◌≡◌, ℕ, Bool, true, false, List, [], ◌∷◌, ◌++◌, map}
use Rattle.std.specs.List.{All, Contains}
use Rattle.orders.specs.Alike.{IsInOrder}
use Rattle.design.specs.Compiled.{design_of}
use Rattle.design.specs.DesignInvariant.{controls_of}
use Rattle.regions.specs.Machine.{MachineView, state_at}
use Rattle.statekeys.specs.ClassKeys.{IsClassKey}
use Rattle.loose.specs.declared.transition.LooseTransition.{LooseTransition}
use Rattle.loose.specs.Loose.{AlikeIn}
use Rattle.traces.specs.Traces.{IsRunOfMoves, printed_by_steps, NoneEnds}
use Rattle.footprints.specs.Footprints.{Footprint}
use Rattle.footprints.specs.Moves.{OrderedState, loose_moves}
use Rattle.certificates.specs.Notes.{NoteView}
use Rattle.certifiedruns.specs.CertifiedCover.{actors_of}
use Rattle.looseparts.specs.StandTogether.{StandTogether}
use Rattle.looseparts.specs.declared.gone_way.GoneWay.{GoneWay}

-- A machine went a way: that is a run none of whose steps ends it, unless it has finished then; it leads to what is like where the machine
-- stands; and what it prints stands behind the lines.
pub record IsWayGone (class : ℕ → ℕ) (old : MachineView) (way : List LooseTransition) (new : MachineView) : Type 0 where
  pub order : IsInOrder (state_at old)
  pub steps : List (LooseTransition × Footprint)
  pub there : OrderedState
  pub run : IsRunOfMoves (loose_moves class (design_of old.code)) (state_at old, order) steps there
  pub actors : actors_of steps ≡ way
  pub none_ends : new.core.finished ≡ false → NoneEnds (λ (f : Footprint). f.finishes ≡ true) steps
  pub alike : AlikeIn class there.0 (state_at new)
  pub new_order : IsInOrder (state_at new)
  pub lines_are : new.lines ≡ old.lines ++ printed_by_steps (λ (f : Footprint). f.lines) steps

-- From where a machine stands a way comes to these lines, with those that were there, and to where the run has finished or hasn't: if it hasn't,
-- to a state with this class key.
pub record ComesTo (class : ℕ → ℕ) (m : MachineView) (way : List LooseTransition) (over : Bool) (lines key : List ℕ) : Type 0 where
  pub end : MachineView
  pub gone : IsWayGone class m way end
  pub finished : end.core.finished ≡ over
  pub same_code : end.code ≡ m.code
  pub told : end.lines ≡ lines
  pub controls : end.core.controls ≡ controls_of end.code
  pub keyed : over ≡ false → IsClassKey class end.core end.values key

-- a way that was gone comes to what was kept of it
abbrev pub CameTo : (ℕ → ℕ) → MachineView → Bool → GoneWay → Type 0
CameTo class m over gone = ComesTo class m gone.way.items over gone.lines.items gone.key.items

-- a way comes to the same as one of these that were gone
abbrev pub HasRepeat : (ℕ → ℕ) → MachineView → Bool → List GoneWay → List LooseTransition → Type 0
HasRepeat class m over kept way = (one : GoneWay) × Contains kept one × ComesTo class m way over one.lines.items one.key.items

-- the transitions of ways that were gone
abbrev pub ways_of : List GoneWay → List (List LooseTransition)
ways_of kept = map (λ gone. gone.way.items) kept

-- These ways were gone, and each of some ways comes to the same as one of them.
pub record AreWaysKept (class : ℕ → ℕ) (m : MachineView) (over : Bool) (ways : List (List LooseTransition)) (kept : List GoneWay) : Type 0 where
  pub came : All (CameTo class m over) kept
  pub repeats : All (HasRepeat class m over kept) ways

-- one of these ways that were gone comes to the same as another
pub record HasSame (kept : List GoneWay) (gone : GoneWay) : Type 0 where
  pub one : GoneWay
  pub there : Contains kept one
  pub same_lines : one.lines.items ≡ gone.lines.items
  pub same_key : one.key.items ≡ gone.key.items

-- a way that was gone was added, unless one that comes to the same was there
pub record IsKeptOnce (old : List GoneWay) (gone : GoneWay) (new : List GoneWay) : Type 0 where
  pub stays : (one : GoneWay) → Contains old one → Contains new one
  pub no_others : (one : GoneWay) → Contains new one → Contains (old ++ gone ∷ []) one
  pub same : HasSame new gone

-- Where some ways stand for all that those do alone whom notes concern, or some ways to ends, so do others in their place.
pub record StandAsWell (class : ℕ → ℕ) (m : MachineView) (notes : List NoteView) (over : Bool) (old new : List (List LooseTransition)) : Type 0 where
  pub on : over ≡ false → (ends : List (List LooseTransition)) → StandTogether class (design_of m.code) (state_at m) old ends notes → StandTogether class (design_of m.code) (state_at m) new ends notes
  pub to_ends : over ≡ true → (ways : List (List LooseTransition)) → StandTogether class (design_of m.code) (state_at m) ways old notes → StandTogether class (design_of m.code) (state_at m) ways new notes
