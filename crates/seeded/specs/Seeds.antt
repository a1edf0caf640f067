-- What the generator of a seed chooses, and the runs of seeds one after another.
use Rattle.std.specs.Prelude.{◌≡◌, ◌↔◌, ℕ, ◌+◌, ◌%◌, ◌^◌, ◌<◌, min, List, [], ◌∷◌, ◌++◌, length, Some, None, slice_get, slice_index_or}
use Rattle.std.specs.List.{All, Contains}
use Rattle.rand_core.specs.Stream.{Stream}
use Rattle.rand_core.specs.Steps.{stream_of, steps_u32}
use Rattle.rand_core.specs.Pcg32Seed.{pcg32_seed}
use Rattle.rand_pcg.specs.Lcg.{Lcg}
use Rattle.rand_pcg.specs.Pcg.{pcg32, pcg32_of_seed}
use Rattle.rand.specs.Draw.{Gives}
use Rattle.rand.specs.Uniform.{usize_single}
use Rattle.model.specs.declared.entry.Entry.{Entry}
use Rattle.model.specs.declared.end.Limits.{Limits}
use Rattle.model.specs.declared.end.Why.TheVariants.{TooLong}
use Rattle.model.specs.declared.end.End.{End}
use Rattle.model.specs.declared.end.End.TheVariants.{Stopped}
use Rattle.model.specs.Design.{Design}
use Rattle.model.specs.States.{State}
use Rattle.model.specs.Runs.{after, refusal}
use Rattle.design.specs.Compiled.{Compiled, design_of}
use Rattle.regions.specs.Machine.{AreInOrder}
use Rattle.runs.specs.declared.run.RunRecord.{RunRecord}
use Rattle.runs.specs.RunRecords.{IsRun}
use Rattle.runs.specs.Compared.{WantsNoMemory}
use Rattle.seeded.specs.Samples.{IsRepresented}
use Rattle.runs.specs.LongEnds.{IsLongTurn}

-- all that a generator will answer
abbrev pub stream_from : Lcg → Stream
stream_from generator = stream_of (steps_u32 pcg32) generator

-- all that the generator will answer that a seed begins
abbrev pub seed_stream : ℕ → Stream
seed_stream seed = stream_from (pcg32_of_seed (pcg32_seed 16 seed))

-- a place is drawn among this many, or among as many as the machine's numbers count
abbrev pub draw_among : ℕ → Stream → ℕ × Stream
draw_among count = usize_single 0 (min count 18446744073709551615)

-- The next draw of a stream chooses an entry in a state: of all entries that the rules permit there, in their order, it is the
-- one at the place that is drawn among as many as there are. The rest of the stream is left.
pub record IsChosen (s : State) (stream : Stream) (entry : Entry) (rest : Stream) : Type 0 where
  pub choices : List Entry
  pub all : (e : Entry) → Contains choices e ↔ (refusal s e ≡ None)
  pub order : AreInOrder choices
  pub place : ℕ
  pub drawn : Gives (draw_among (length choices)) stream place rest
  pub there : slice_get choices place ≡ Some entry

-- A journal has one entry more than another one: the one that the next draw of a stream chooses in the state behind that.
pub record IsOneMore (design : Design) (journal : List Entry) (stream : Stream) (longer : List Entry) (rest : Stream) : Type 0 where
  pub state : State
  pub entry : Entry
  pub is_after : after design journal ≡ Some state
  pub chosen : IsChosen state stream entry rest
  pub longer_is : longer ≡ journal ++ entry ∷ []

-- Each entry of a journal is chosen by the next draw of a stream, of which this is left.
pub data AreChosen (design : Design) (stream : Stream) : List Entry → Stream → Type 0 where
  Nothing : AreChosen design stream [] stream
  More : (journal : List Entry) (left : Stream) (longer : List Entry) (rest : Stream) → AreChosen design stream journal left → IsOneMore design journal left longer rest
      → AreChosen design stream longer rest

-- Behind a journal, the next draw of a stream chooses a turn of a process that is too long.
pub record IsLongChoice (design : Design) (journal : List Entry) (stream : Stream) (p : ℕ) : Type 0 where
  pub state : State
  pub entry : Entry
  pub rest : Stream
  pub is_after : after design journal ≡ Some state
  pub chosen : IsChosen state stream entry rest
  pub long : IsLongTurn design state entry p

-- where a run ends by a turn that is too long, the next draw of a stream chooses that turn
abbrev pub EndsByChoice : Design → List Entry → Stream → End → Type 0
EndsByChoice design journal stream (Stopped (TooLong p)) = IsLongChoice design journal stream p
EndsByChoice design journal stream _ = Unit {0}

-- The draws of a stream choose all that a run takes: each entry of its journal, and the turn that was too long, where it ends by one.
pub record IsDrawn (design : Design) (stream : Stream) (journal : List Entry) (end : End) : Type 0 where
  pub rest : Stream
  pub chosen : AreChosen design stream journal rest
  pub last : EndsByChoice design journal rest end

-- the generator that a seed begins chooses all that a run takes
abbrev pub FollowsSeed : Compiled → ℕ → RunRecord → Type 0
FollowsSeed code seed r = IsDrawn (design_of code) (seed_stream seed) r.journal.items r.end

-- A run with these limits that follows a seed, and didn't end for want of memory.
pub record IsRunOfSeed (code : Compiled) (limits : Limits) (seed : ℕ) (r : RunRecord) : Type 0 where
  pub run : IsRun code limits r
  pub follows : FollowsSeed code seed r
  pub ended : WantsNoMemory r

-- So many runs were made, each of a seed of its own: this one, and those that follow it (past the greatest, 0 follows). Those that
-- are kept are some of them, and each that came to its end has its lines and its end among the kept.
pub record AreSampled (code : Compiled) (limits : Limits) (first made : ℕ) (kept : List RunRecord) : Type 0 where
  pub runs : List RunRecord
  pub count : length runs ≡ made
  pub seeds : (k : ℕ) (d : RunRecord) → k < length runs → IsRunOfSeed code limits ((first + k) % 2 ^ 64) (slice_index_or runs k d)
  pub from : All (Contains runs) kept
  pub told : All (IsRepresented kept) runs
