-- The moves of some of a system's actors.
use Rattle.std.specs.Prelude.{◌≡◌, Bool, true}
use Rattle.traces.specs.Traces.{Moves}

-- the moves of the actors of a set
abbrev pub restricted : {S L F : Type 0} → Moves S L F → (L → Bool) → Moves S L F
restricted moves among =
    record {
      Steps = λ s a f t. (among a ≡ true) × moves.Steps s a f t;
      Waits = λ s a. (among a ≡ true) × moves.Waits s a;
      Alike = moves.Alike;
      Apart = moves.Apart;
      Gives = moves.Gives;
      Ends = moves.Ends;
      prints = moves.prints;
    }
