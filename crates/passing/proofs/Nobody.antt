-- Where nobody sleeps, there is nothing to sleep through: whatever a register has, it may pass to anything.
use Rattle.std.proofs.Common.{◌≡◌, ◌<◌, ℕ, true, List, [], ◌∷◌, length, refl, ◌==◌, eqb-true, get_or, arith}
use Rattle.model.specs.Expressions.{Store}
use Rattle.design.specs.Compiled.{Compiled}
use Rattle.footprints.specs.Footprints.{RegisterChange}
use Rattle.certificates.specs.Notes.{NoteView}
use Rattle.combinational.specs.declared.network.Network.{Network}
use Rattle.settling.specs.declared.sleepers.Sleeper.{Sleeper}
use Rattle.heldways.specs.Passing.{Passing, AllPass}
use Rattle.passing.specs.SleepThroughNotes.{SleepThroughNotes}

abbrev anything : Passing
anything r old new = true

all_anything : (cs : List RegisterChange) → AllPass anything cs
all_anything cs k d within = refl

pub nobody_sleeps : (code : Compiled) (network : Network) (members cone : List ℕ) (values : Store) (now : ℕ) (notes : List NoteView) (sleepers : List Sleeper) → (length sleepers == 0) ≡ true → SleepThroughNotes code network members cone values now notes sleepers
nobody_sleeps code network members cone values now notes [] none =
    record {
      passes = anything;
      is_passing = record { stays = λ r v. refl; goes_on = λ r u v w h g. refl };
      notes_pass = λ k d within. all_anything (get_or notes k d).changes;
      outputs_pass = λ blocks.
          record {
            first = λ p store turn member inside len passed at. all_anything _;
            again = λ p store other turn next member inside len len' passed passed' at at'. all_anything _;
          };
      deaf = λ k d within. absurd (nothing k within);
    }
  where
    nothing : (k : ℕ) → k < 0 → ⊥
    nothing k within = omega (arith, within)
nobody_sleeps code network members cone values now notes (x ∷ sleepers) none = absurd (omega (arith, eqb-true (length (x ∷ sleepers)) 0 none))
