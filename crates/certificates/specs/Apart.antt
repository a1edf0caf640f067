-- What notes say where steps are apart.
use Rattle.std.specs.Prelude.{◌≡◌, ℕ, Bool, true, false, ◌&&◌, ◌||◌, ◌==◌, not, List}
use Rattle.std.specs.List.{list_any}
use Rattle.loose.specs.declared.transition.LooseTransition.{LooseTransition}
use Rattle.loose.specs.declared.transition.LooseTransition.TheVariants.{Process, FirstOf}
use Rattle.footprints.specs.Footprints.{changed_registers, process_of_actor}
use Rattle.certificates.specs.Masks.{meet}
use Rattle.certificates.specs.Changes.{may_wake_any}
use Rattle.certificates.specs.Notes.{NoteView}

-- whether these are two different actors
abbrev pub differ : LooseTransition → LooseTransition → Bool
differ (Process p) (Process q) = not (p == q)
differ (FirstOf c) (FirstOf d) = not (c == d)
differ (Process p) (FirstOf d) = true
differ (FirstOf c) (Process q) = true
differ _ _ = false

-- whether a class has an update for one time from both
abbrev pub share : List (ℕ × ℕ) → List (ℕ × ℕ) → Bool
share xs ys = list_any (λ a. list_any (λ b. (b.0 == a.0) && (b.1 == a.1)) ys) xs

-- no process is concerned by both
abbrev pub ConcernOthers : NoteView → NoteView → Type 0
ConcernOthers a b =
    record {
      owners : differ a.owner b.owner ≡ true;
      woken : meet (process_of_actor a.owner) b.woken ≡ false;
      other_woken : meet (process_of_actor b.owner) a.woken ≡ false;
      both_woken : meet a.woken b.woken ≡ false;
    }

-- no register is written by both, nor used by one and changed by the other
abbrev pub LeaveRegisters : NoteView → NoteView → Type 0
LeaveRegisters a b =
    record {
      writes : meet a.writes b.writes ≡ false;
      uses : meet (changed_registers a.changes) b.uses ≡ false;
      other_uses : meet (changed_registers b.changes) a.uses ≡ false;
    }

-- no change of the first may wake who waits for what the other goes on to wait for, or those waited for whom it concerns
abbrev pub WakeNoneOf : NoteView → NoteView → Type 0
WakeNoneOf a b =
    record { awaits : may_wake_any b.awaits a.changes ≡ false; ended : may_wake_any b.ended a.changes ≡ false }

-- they don't both print, nor both meet a $strobe, and where one finishes, the other neither prints nor finishes
abbrev pub TellApart : NoteView → NoteView → Type 0
TellApart a b =
    record {
      lines : (a.prints && b.prints) ≡ false;
      strobes : (a.strobes && b.strobes) ≡ false;
      finishes : (a.finishes && (b.prints || b.finishes)) ≡ false;
      other_finishes : (b.finishes && (a.prints || a.finishes)) ≡ false;
    }

-- What two notes say is apart: they concern different processes, leave each other's registers and those who wait for them alone, have no
-- update for one time, and don't both tell.
abbrev pub SayApart : NoteView → NoteView → Type 0
SayApart a b =
    record {
      concern : ConcernOthers a b;
      registers : LeaveRegisters a b;
      wake : WakeNoneOf a b;
      other_wake : WakeNoneOf b a;
      times : share a.assigns b.assigns ≡ false;
      tell : TellApart a b;
    }
