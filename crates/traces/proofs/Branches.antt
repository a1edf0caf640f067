-- What stands for all that a set of actors does, by its first steps.
use Rattle.std.proofs.Common.{◌≡◌, Bool, true, List, [], ◌∷◌, ◌++◌, refl, sym, ap, subst, append_assoc}
use Rattle.std.specs.List.{Contains}
use Rattle.traces.specs.Traces.{Moves, AreMoves, IsRunOfMoves, printed_by_steps, NoneEnds, AreAmong}
use Rattle.traces.specs.StandsFor.{RunsAlone, FoundOfSet, HasWayTo, StandsFor, IncludesFoundAfter, IsActorFollowed, StepsStandFor}
use Rattle.traces.proofs.RunLaws.{alike_runs}

module _ (S L F Y : Type 0) (moves : Moves S L F) (Within : F → Y → Type 0) (laws : AreMoves moves) (among : L → Bool) (found : FoundOfSet L F Y) where
  abbrev Followed : S → Type 0
  Followed s = (a : L) → among a ≡ true → moves.Waits s a → IsActorFollowed moves Within among s found a

  -- a step that was followed: the rest of a run after it is one of the set from where it leads
  abbrev Descent : S → L → F → List (L × F) → S → Type 0
  Descent s a f w t =
      (u : S) × (r : S) × (later : FoundOfSet L F Y) × moves.Steps s a f u × RunsAlone moves among u w r × moves.Alike t r × StandsFor moves Within among u later × IncludesFoundAfter moves Within a f later found

  -- the step of an actor who was followed is the one that was followed
  same_step : (s m : S) (a : L) (f : F) → IsActorFollowed moves Within among s found a → moves.Steps s a f m
      → (u : S) × moves.Steps s a f u × moves.Alike m u × Within f found.summary × ((b : L) → moves.Gives f b → among b ≡ true) × (moves.Ends f → Contains found.texts (moves.prints f))
      × ((moves.Ends f → ⊥) → (later : FoundOfSet L F Y) × StandsFor moves Within among u later × IncludesFoundAfter moves Within a f later found)
  same_step s m a f (g, u, there, within, kept, ends, goes_on) step =
      let (same, near) = laws.one_step s m u a f g step there in
      subst (λ (z : F). (u : S) × moves.Steps s a z u × moves.Alike m u × Within z found.summary × ((b : L) → moves.Gives z b → among b ≡ true) × (moves.Ends z → Contains found.texts (moves.prints z))
      × ((moves.Ends z → ⊥) → (later : FoundOfSet L F Y) × StandsFor moves Within among u later × IncludesFoundAfter moves Within a z later found)) (sym same)
      (u, there, near, within, kept, ends, goes_on)

  descent : (s m t : S) (x : L × F) (w : List (L × F)) → Followed s → moves.Steps s x.0 x.1 m → among x.0 ≡ true → (moves.Ends x.1 → ⊥) → IsRunOfMoves moves m w t → AreAmong (λ a. among a ≡ true) w → NoneEnds moves.Ends w → Descent s x.0 x.1 w t
  descent s m t x w followed step own free run of none =
      let (u, there, near, within, kept, ends, goes_on) = same_step s m x.0 x.1 (followed x.0 own (laws.waiting s m x.0 x.1 step)) step in
      let (later, stands, continued) = goes_on free in
      let (r, run', near') = alike_runs S L F moves laws m u t w near run in
      (u, r, later, there, (run', of, none), near', stands, continued)

  within_by : (s : S) → Followed s → (w : List (L × F)) (t u : S) (a : L) (f : F) → RunsAlone moves among s w t → among a ≡ true → moves.Steps t a f u → Within f found.summary
  within_by s followed [] t u a f (is, of, none) own step =
      let here : moves.Steps s a f u = subst (λ z. moves.Steps z a f u) (sym is) step in
      (same_step s u a f (followed a own (laws.waiting s u a f here)) here).3
  within_by s followed (x ∷ w) t u a f ((m, step, run), (own, of), (free, none)) own' step' =
      let (v, r, later, there, alone, near, stands, continued) = descent s m t x w followed step own free run of none in
      let (u', step'', near') = laws.steps_alike t r u a f near step' in
      continued.summary f (stands.within w r u' a f alone own' step'')

  kept_by : (s : S) → Followed s → (w : List (L × F)) (t u : S) (a b : L) (f : F) → RunsAlone moves among s w t → among a ≡ true → moves.Steps t a f u → moves.Gives f b → among b ≡ true
  kept_by s followed [] t u a b f (is, of, none) own step gives =
      let here : moves.Steps s a f u = subst (λ z. moves.Steps z a f u) (sym is) step in
      (same_step s u a f (followed a own (laws.waiting s u a f here)) here).4 b gives
  kept_by s followed (x ∷ w) t u a b f ((m, step, run), (own, of), (free, none)) own' step' gives =
      let (v, r, later, there, alone, near, stands, continued) = descent s m t x w followed step own free run of none in
      let (u', step'', near') = laws.steps_alike t r u a f near step' in
      stands.kept w r u' a b f alone own' step'' gives

  goes_on_by : (s : S) → Followed s → (w : List (L × F)) (t : S) (a : L) → RunsAlone moves among s w t → among a ≡ true → moves.Waits t a → (f : F) × (u : S) × moves.Steps t a f u
  goes_on_by s followed [] t a (is, of, none) own waits =
      let (f, u, there, within, kept, ends, goes_on) = followed a own (subst (λ z. moves.Waits z a) (sym is) waits) in
      (f, u, subst (λ z. moves.Steps z a f u) is there)
  goes_on_by s followed (x ∷ w) t a ((m, step, run), (own, of), (free, none)) own' waits =
      let (v, r, later, there, alone, near, stands, continued) = descent s m t x w followed step own free run of none in
      let (f, u, next) = stands.goes_on w r a alone own' (laws.waits_alike t r a near waits) in
      let (u', next', near') = laws.steps_alike r t u a f (laws.back t r near) next in
      (f, u', next')

  whole_by : (s : S) → Followed s → (((a : L) → among a ≡ true → moves.Waits s a → ⊥) → Contains found.ways []) → (w : List (L × F)) (t : S) → RunsAlone moves among s w t → ((a : L) → among a ≡ true → moves.Waits t a → ⊥)
      → HasWayTo moves among s found.ways t (printed_by_steps moves.prints w)
  whole_by s followed empty [] t (is, of, none) over =
      let nobody : (a : L) → among a ≡ true → moves.Waits s a → ⊥ = λ a own waits. over a own (subst (λ z. moves.Waits z a) is waits) in
      ([], s, empty nobody, (refl, tt, tt), subst (λ z. moves.Alike z s) is (laws.itself s), refl)
  whole_by s followed empty (x ∷ w) t ((m, step, run), (own, of), (free, none)) over =
      let (v, r, later, there, alone, near, stands, continued) = descent s m t x w followed step own free run of none in
      let (y, u, among_ways, (run', of', none'), near', prints) = stands.whole w r alone (λ a own' waits. over a own' (laws.waits_alike r t a (laws.back t r near) waits)) in
      (x ∷ y, u, continued.ways y among_ways, ((v, there, run'), (own, of'), (free, none')), laws.through t r u near near', ap (λ z. moves.prints x.1 ++ z) prints)

  ended_by : (s : S) → Followed s → (w : List (L × F)) (t u : S) (a : L) (f : F) → RunsAlone moves among s w t → among a ≡ true → moves.Steps t a f u → moves.Ends f → Contains found.texts (printed_by_steps moves.prints w ++ moves.prints f)
  ended_by s followed [] t u a f (is, of, none) own step ends =
      let here : moves.Steps s a f u = subst (λ z. moves.Steps z a f u) (sym is) step in
      (same_step s u a f (followed a own (laws.waiting s u a f here)) here).5 ends
  ended_by s followed (x ∷ w) t u a f ((m, step, run), (own, of), (free, none)) own' step' ends =
      let (v, r, later, there, alone, near, stands, continued) = descent s m t x w followed step own free run of none in
      let (u', step'', near') = laws.steps_alike t r u a f near step' in
      let text : Contains found.texts (moves.prints x.1 ++ (printed_by_steps moves.prints w ++ moves.prints f)) =
      continued.texts (printed_by_steps moves.prints w ++ moves.prints f) (stands.ended w r u' a f alone own' step'' ends) in
      subst (λ z. Contains found.texts z) (sym (append_assoc (moves.prints x.1) (printed_by_steps moves.prints w) (moves.prints f))) text

  pub by_steps : (s : S) → ((a : L) → among a ≡ true → moves.Waits s a → IsActorFollowed moves Within among s found a) → (((a : L) → among a ≡ true → moves.Waits s a → ⊥) → Contains found.ways []) → StandsFor moves Within among s found
  by_steps s followed empty =
      record {
        within = within_by s followed;
        kept = kept_by s followed;
        goes_on = goes_on_by s followed;
        whole = whole_by s followed empty;
        ended = ended_by s followed;
      }

pub steps_stand_for : {S L F Y : Type 0} (moves : Moves S L F) (Within : F → Y → Type 0) → StepsStandFor moves Within
steps_stand_for {S} {L} {F} {Y} moves Within among s found laws followed empty = by_steps S L F Y moves Within laws among found s followed empty
