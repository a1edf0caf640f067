-- Steps that are a certificate by what their footprints say alone.
use Rattle.std.specs.Prelude.{◌≡◌, ◌⊎◌, ℕ, true, List, [], ◌∷◌}
use Rattle.model.specs.Design.{Design}
use Rattle.traces.specs.Certificates.{EachComesOrIsApart}
use Rattle.loose.specs.declared.transition.LooseTransition.{LooseTransition}
use Rattle.footprints.specs.Footprints.{Footprint}
use Rattle.footprints.specs.Moves.{loose_moves, GivesTo}
use Rattle.certificates.specs.Notes.{NoteView, TellOfAll}

-- None of these steps ends the run, and each is apart from each later one that doesn't come of it.
abbrev pub AreCertified : (ℕ → ℕ) → Design → List (LooseTransition × Footprint) → Type 0
AreCertified class design [] = Unit {0}
AreCertified class design (x ∷ w) =
    (x.1.finishes ≡ true → ⊥) × EachComesOrIsApart (loose_moves class design) x.1 (λ b. (b ≡ x.0) ⊎ GivesTo x.1 b) w
    × AreCertified class design w

-- whatever steps these notes tell of, they are a certificate by their footprints
abbrev pub Certify : List NoteView → Type 0
Certify notes =
    (class : ℕ → ℕ) (design : Design) (w : List (LooseTransition × Footprint)) → TellOfAll notes w → AreCertified class design w
