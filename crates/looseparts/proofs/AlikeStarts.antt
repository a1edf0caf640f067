-- What stands for all that a set of actors does stands for it from a state that is alike, too.
use Rattle.std.proofs.Common.{◌≡◌, Bool, true, List, ◌++◌}
use Rattle.std.specs.List.{Contains}
use Rattle.traces.specs.Traces.{Moves, AreMoves, printed_by_steps}
use Rattle.traces.specs.StandsFor.{RunsAlone, FoundOfSet, HasWayTo, StandsFor}
use Rattle.traces.proofs.RunLaws.{alike_runs}

module _ (S L F Y : Type 0) (moves : Moves S L F) (Within : F → Y → Type 0) (laws : AreMoves moves) (among : L → Bool) (found : FoundOfSet L F Y) (s t : S) (near : moves.Alike s t) (stands : StandsFor moves Within among s found) where
  -- a run from the one state is one from the other
  abbrev Back : List (L × F) → S → Type 0
  Back w u = (r : S) × RunsAlone moves among s w r × moves.Alike u r

  back : (w : List (L × F)) (u : S) → RunsAlone moves among t w u → Back w u
  back w u (run, of, none) =
      let (r, run', near') = alike_runs S L F moves laws t s u w (laws.back s t near) run in
      (r, (run', of, none), near')

  within_by : (w : List (L × F)) (u v : S) (a : L) (f : F) → RunsAlone moves among t w u → among a ≡ true → moves.Steps u a f v → Within f found.summary
  within_by w u v a f alone own step =
      let (r, alone', near') = back w u alone in
      let (q, step', near'') = laws.steps_alike u r v a f near' step in
      stands.within w r q a f alone' own step'

  kept_by : (w : List (L × F)) (u v : S) (a b : L) (f : F) → RunsAlone moves among t w u → among a ≡ true → moves.Steps u a f v → moves.Gives f b → among b ≡ true
  kept_by w u v a b f alone own step gives =
      let (r, alone', near') = back w u alone in
      let (q, step', near'') = laws.steps_alike u r v a f near' step in
      stands.kept w r q a b f alone' own step' gives

  goes_on_by : (w : List (L × F)) (u : S) (a : L) → RunsAlone moves among t w u → among a ≡ true → moves.Waits u a → (f : F) × (v : S) × moves.Steps u a f v
  goes_on_by w u a alone own waits =
      let (r, alone', near') = back w u alone in
      let (f, q, step) = stands.goes_on w r a alone' own (laws.waits_alike u r a near' waits) in
      let (v, step', near'') = laws.steps_alike r u q a f (laws.back u r near') step in
      (f, v, step')

  whole_by : (w : List (L × F)) (u : S) → RunsAlone moves among t w u → ((a : L) → among a ≡ true → moves.Waits u a → ⊥) → HasWayTo moves among t found.ways u (printed_by_steps moves.prints w)
  whole_by w u alone over =
      let (r, alone', near') = back w u alone in
      let (y, v, there, (run, of, none), near'', prints) = stands.whole w r alone' (λ a own waits. over a own (laws.waits_alike r u a (laws.back u r near') waits)) in
      let (v', run', near''') = alike_runs S L F moves laws s t v y near run in
      (y, v', there, (run', of, none), laws.through u r v' near' (laws.through r v v' near'' near'''), prints)

  ended_by : (w : List (L × F)) (u v : S) (a : L) (f : F) → RunsAlone moves among t w u → among a ≡ true → moves.Steps u a f v → moves.Ends f → Contains found.texts (printed_by_steps moves.prints w ++ moves.prints f)
  ended_by w u v a f alone own step ends =
      let (r, alone', near') = back w u alone in
      let (q, step', near'') = laws.steps_alike u r v a f near' step in
      stands.ended w r q a f alone' own step' ends

  pub stands_alike : StandsFor moves Within among t found
  stands_alike = record { within = within_by; kept = kept_by; goes_on = goes_on_by; whole = whole_by; ended = ended_by }
