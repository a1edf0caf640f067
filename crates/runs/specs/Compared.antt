-- How two runs differ.
use Rattle.std.specs.Prelude.{◌≡◌, ◌≢◌, ◌⊎◌, ℕ, List, ◌∷◌, ◌++◌, string_bytes}
use Rattle.model.specs.declared.end.Why.TheVariants.{Entries, Memory}
use Rattle.model.specs.declared.end.End.TheVariants.{Stopped}
use Rattle.runs.specs.declared.run.RunRecord.{RunRecord}

-- two runs have the same lines and the same end
abbrev pub AreLike : RunRecord → RunRecord → Type 0
AreLike a b = (string_bytes a.lines ≡ string_bytes b.lines) × (a.end ≡ b.end)

-- two runs differ in their lines or in their end
abbrev pub HaveDifferentEnds : RunRecord → RunRecord → Type 0
HaveDifferentEnds a b = string_bytes a.lines ≡ string_bytes b.lines → a.end ≡ b.end → ⊥

-- a run didn't end for want of memory
abbrev pub WantsNoMemory : RunRecord → Type 0
WantsNoMemory r = r.end ≢ Stopped Memory

-- a run came to its end: neither the most entries nor want of memory cut it off
abbrev pub IsWhole : RunRecord → Type 0
IsWhole r = (r.end ≢ Stopped Entries) × (r.end ≢ Stopped Memory)

-- Two texts part: behind the same bytes each has one byte more, and these two differ.
pub record HavePartedTexts (one other : List ℕ) : Type 0 where
  pub before : List ℕ
  pub byte : ℕ
  pub behind : List ℕ
  pub other_byte : ℕ
  pub other_behind : List ℕ
  pub one_is : one ≡ before ++ byte ∷ behind
  pub other_is : other ≡ before ++ other_byte ∷ other_behind
  pub differ : byte ≢ other_byte

-- Two runs differ in what stands in both: their texts part, or both came to their ends and differ. Of a run that was cut off
-- only what both printed is compared, so that neither a line that it lacks nor its end tells them apart.
abbrev pub AreDifferentRuns : RunRecord → RunRecord → Type 0
AreDifferentRuns a b = HavePartedTexts (string_bytes a.lines) (string_bytes b.lines) ⊎ (IsWhole a × IsWhole b × HaveDifferentEnds a b)
