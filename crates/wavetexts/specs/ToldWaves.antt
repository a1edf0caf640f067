-- Waves that are told in lines.
use Rattle.std.specs.Prelude.{◌≡◌, ℕ, ◌+◌, List, [], ◌∷◌, ◌++◌, Option, option_map}
use Rattle.model.specs.declared.entry.Entry.{Entry}
use Rattle.model.specs.declared.end.End.{End}
use Rattle.explore.specs.declared.Shown.{Shown}
use Rattle.verdict.specs.declared.waves.WaveDescription.{WaveDescription}
use Rattle.verdict.specs.WaveLines.{wave_text}
use Rattle.wavetexts.specs.Partings.{IsPartingOf}
use Rattle.wavetexts.specs.declared.parting.Parting.{Parting}

-- A wave is told with a number, by that in which it parts first from the first one.
pub record IsWaveTold (names : List (List ℕ)) (registers : List ℕ) (prefix : Option (List ℕ)) (first : List ℕ) (number : ℕ) (other : List ℕ) (told : WaveDescription) : Type 0 where
  pub number_is : told.number ≡ number
  pub prefix_is : option_map (λ path. path.now) told.prefix ≡ prefix
  pub parts : IsPartingOf names registers first other (record { site = told.site; first = told.first; second = told.second })

-- each of some waves is told, with numbers from one on
abbrev pub AreWavesTold : List (List ℕ) → List ℕ → Option (List ℕ) → List ℕ → ℕ → List (Shown Entry End) → List WaveDescription → Type 0
AreWavesTold names registers prefix first number [] [] = Unit {0}
AreWavesTold names registers prefix first number [] (t ∷ ts) = ⊥
AreWavesTold names registers prefix first number (w ∷ ws) [] = ⊥
AreWavesTold names registers prefix first number (w ∷ ws) (t ∷ ts) =
    IsWaveTold names registers prefix first number w.text.items t × AreWavesTold names registers prefix first (number + 1) ws ts

-- the lines on waves
abbrev pub waves_text : List WaveDescription → List ℕ
waves_text [] = []
waves_text (t ∷ ts) = wave_text t ++ waves_text ts

-- a text has grown by the lines on some waves, with numbers from one on
pub record TellsOthers (names : List (List ℕ)) (registers : List ℕ) (prefix : Option (List ℕ)) (first : List ℕ) (number : ℕ) (others : List (Shown Entry End)) (old new : List ℕ) : Type 0 where
  pub told : List WaveDescription
  pub are_told : AreWavesTold names registers prefix first number others told
  pub new_is : new ≡ old ++ waves_text told

-- a text has grown by the lines on each of these waves but the first one
abbrev pub TellsWaves : List (List ℕ) → List ℕ → Option (List ℕ) → List (Shown Entry End) → List ℕ → List ℕ → Type 0
TellsWaves names registers prefix [] old new = new ≡ old
TellsWaves names registers prefix (w ∷ ws) old new = TellsOthers names registers prefix w.text.items 2 ws old new
