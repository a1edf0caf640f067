-- Processes that sleep through noted steps of others while members are held.
use Rattle.std.specs.Prelude.{◌≡◌, ℕ, true, List, [], slice_index_or}
use Rattle.std.specs.List.{All}
use Rattle.model.specs.Expressions.{Store}
use Rattle.model.specs.Turns.{contains}
use Rattle.phases.specs.Phase.{IsBlock}
use Rattle.design.specs.Compiled.{Compiled, design_of}
use Rattle.design.specs.DesignInvariant.{controls_of}
use Rattle.certificates.specs.Notes.{NoteView}
use Rattle.combinational.specs.declared.network.Network.{Network}
use Rattle.settling.specs.declared.sleepers.Sleeper.{Sleeper}
use Rattle.settling.specs.Settling.{block_at}
use Rattle.heldways.specs.Passing.{Passing, IsPassing, AllPass, OutputsPass, AreDeaf}

-- There is a test of what may pass: each change that is noted passes, the outputs in the cone pass through what they may be given, if the
-- members are combinational, and no sleeper waits for a change that passes.
pub record SleepThroughNotes (code : Compiled) (network : Network) (members cone : List ℕ) (values : Store) (now : ℕ) (notes : List NoteView) (sleepers : List Sleeper) : Type 0 where
  pub passes : Passing
  pub is_passing : IsPassing passes
  pub notes_pass : All (λ n. AllPass passes n.changes) notes
  pub outputs_pass :
      ((p : ℕ) → contains members p ≡ true → IsBlock (design_of code) p (block_at code network p))
      → OutputsPass (design_of code) values now members (block_at code network) cone passes
  pub deaf : All (λ x. AreDeaf passes (slice_index_or (controls_of code) x.control [])) sleepers
