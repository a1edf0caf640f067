-- What a run and a search of orders ask of their options.
use Rattle.std.specs.Prelude.{◌≤◌}
use Rattle.std.specs.Option.{ForSome}
use Rattle.model.specs.Runs.{last_time}
use Rattle.arguments.specs.declared.run_options.RunOptions.{RunOptions}
use Rattle.arguments.specs.declared.search_options.SearchOptions.{SearchOptions}

-- 1 to 16 workers, at least one entry, and no time past 2 to the 48
pub record CanRun (options : RunOptions) : Type 0 where
  pub some_worker : 1 ≤ options.workers
  pub few_workers : options.workers ≤ 16
  pub until : ForSome options.until (λ t. t ≤ last_time)
  pub some_entry : 1 ≤ options.max_entries

-- at least one entry, one state, two texts and one megabyte, and no time past 2 to the 48
pub record CanSearch (search_options : SearchOptions) : Type 0 where
  pub until : ForSome search_options.until (λ t. t ≤ last_time)
  pub some_entry : 1 ≤ search_options.max_entries
  pub some_state : 1 ≤ search_options.max_states
  pub two_texts : 2 ≤ search_options.max_texts
  pub some_memory : 1 ≤ search_options.max_memory
