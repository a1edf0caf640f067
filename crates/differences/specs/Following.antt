-- How far the run of a journal is followed.
use Rattle.std.specs.Prelude.{◌≡◌, ℕ, ◌+◌, ◌<◌, ◌≤◌, List, length, take, drop, slice_get, slice_index, Some}
use Rattle.model.specs.declared.entry.Entry.{Entry}
use Rattle.design.specs.Compiled.{design_of}
use Rattle.steps.specs.ExplainerStanding.{IsExplainerBehind}
use Rattle.differences.specs.declared.followed_run.FollowedRun.{FollowedRun}
use Rattle.differences.specs.ComparedValues.{count_until}
use Rattle.differences.specs.Givers.{last_giver}

-- The explainer of a run stands behind as many entries of a journal as it took, and of each register it is known which of them gave it
-- its value.
pub record IsRunFollowed (journal : List Entry) (run : FollowedRun) : Type 0 where
  pub within : run.explainer.position.core.entries ≤ length journal
  pub behind : IsExplainerBehind (take run.explainer.position.core.entries journal) run.explainer
  pub registers : length run.givers.items ≡ length run.explainer.position.code.widths
  pub givers_are : (r : ℕ) → r < length run.givers.items
      → slice_get run.givers.items r ≡ Some (last_giver (design_of run.explainer.position.code) journal r run.explainer.position.core.entries)

-- it took those up to the end of a time, behind those that it had taken
pub record IsFollowedTo (time : ℕ) (journal : List Entry) (old new : FollowedRun) : Type 0 where
  pub code : new.explainer.position.code ≡ old.explainer.position.code
  pub followed : IsRunFollowed journal new
  pub count : new.explainer.position.core.entries
      ≡ old.explainer.position.core.entries + count_until time (drop old.explainer.position.core.entries journal)

-- each time that isn't before the one that stands before a place ends at or behind the entries that it took
pub record IsFollowedSince (journal : List Entry) (times : List ℕ) (place : ℕ) (run : FollowedRun) : Type 0 where
  pub followed : IsRunFollowed journal run
  pub ahead : (time : ℕ) → ((k : ℕ) → k + 1 ≡ place → slice_index times k ≤ time)
      → count_until time journal ≡ run.explainer.position.core.entries + count_until time (drop run.explainer.position.core.entries journal)
