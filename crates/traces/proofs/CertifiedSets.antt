-- A certificate of a set of actors stands for all that the set does.
use Rattle.std.proofs.Common.{◌≡◌, Bool, true, List, [], ◌∷◌, ◌++◌, refl, sym}
use Rattle.std.specs.List.{Contains}
use Rattle.traces.specs.Traces.{Moves, AreMoves, IsRunOfMoves, printed_by_steps}
use Rattle.traces.specs.StandsFor.{RunsAlone, FoundOfSet, HasWayTo, StandsFor}
use Rattle.traces.specs.Restricted.{restricted}
use Rattle.traces.specs.Certificates.{HaveSwaps, IsCertificate, HoldsOf, CertificateStandsFor}
use Rattle.traces.proofs.RunLaws.{runs_both}
use Rattle.traces.proofs.Restricted.{restricted_laws, goes_out, actors_of, goes_in}
use Rattle.traces.proofs.Certificates.{runs_of, free_of, holds_free, fact_along, all_alike, steps_on}

holds_last : {L F : Type 0} (Fact : F → Type 0) (w : List (L × F)) (a : L) (f : F) → HoldsOf Fact (w ++ ((a, f) ∷ [])) → Fact f
holds_last Fact [] a f holds = holds.0
holds_last Fact (x ∷ w) a f holds = holds_last Fact w a f holds.1

module _ (S L F Y : Type 0) (moves : Moves S L F) (Within : F → Y → Type 0) (laws : AreMoves moves) (swaps : HaveSwaps moves) (among : L → Bool) (s t : S) (v : List (L × F)) (found : FoundOfSet L F Y)
    (cert : IsCertificate (restricted moves among) s v t) (over : (a : L) → among a ≡ true → moves.Waits t a → ⊥) where
  abbrev inner : Moves S L F
  inner = restricted moves among

  inner_laws : AreMoves inner
  inner_laws = restricted_laws S L F moves among laws

  inner_swaps : HaveSwaps inner
  inner_swaps =
      record {
        decides = swaps.decides;
        before = λ r m n a b f g differ step step' waits apart.
            let (q, there) = swaps.before r m n a b f g differ step.1 step'.1 waits.1 apart in
            (q, (step'.0, there));
        gives_one = swaps.gives_one;
      }

  nobody : (a : L) → inner.Waits t a → ⊥
  nobody a waits = over a waits.0 waits.1

  inside : (w : List (L × F)) (u : S) → RunsAlone moves among s w u → IsRunOfMoves inner s w u
  inside w u alone = goes_in S L F moves among s u w alone.0 alone.1

  -- what holds of the certificate's steps holds of each step that the set takes
  of_step : (Fact : F → Type 0) → HoldsOf Fact v → (w : List (L × F)) (r u : S) (a : L) (f : F) → RunsAlone moves among s w r → among a ≡ true → moves.Steps r a f u → Fact f
  of_step Fact holds w r u a f alone own step =
      let run : IsRunOfMoves inner s (w ++ ((a, f) ∷ [])) u = runs_both S L F inner s r u w ((a, f) ∷ []) (inside w r alone) (u, (own, step), refl) in
      holds_last Fact w a f (fact_along S L F inner inner_laws inner_swaps Fact s t u v (w ++ ((a, f) ∷ [])) cert nobody holds run)

  never_ends : (w : List (L × F)) (r u : S) (a : L) (f : F) → RunsAlone moves among s w r → among a ≡ true → moves.Steps r a f u → moves.Ends f → ⊥
  never_ends w r u a f alone own step =
      of_step (λ g. moves.Ends g → ⊥) (holds_free S L F moves v (free_of S L F inner s t v cert)) w r u a f alone own step

  goes_on_by : (w : List (L × F)) (r : S) (a : L) → RunsAlone moves among s w r → among a ≡ true → moves.Waits r a → (f : F) × (u : S) × moves.Steps r a f u
  goes_on_by w r a alone own waits =
      let (f, u, step) = steps_on S L F inner inner_laws inner_swaps s t r v w a cert nobody (inside w r alone) (own, waits) in
      (f, u, step.1)

  whole_by : Contains found.ways v → (w : List (L × F)) (r : S) → RunsAlone moves among s w r → ((a : L) → among a ≡ true → moves.Waits r a → ⊥) → HasWayTo moves among s found.ways r (printed_by_steps moves.prints w)
  whole_by there w r alone over' =
      let (near, prints) = all_alike S L F inner inner_laws inner_swaps s t r v w cert nobody (inside w r alone) (λ a waits. over' a waits.0 waits.1) in
      let run : IsRunOfMoves inner s v t = runs_of S L F inner s t v cert in
      (v, t, there, (goes_out S L F moves among s t v run, actors_of S L F moves among s t v run, free_of S L F inner s t v cert), near, sym prints)

  pub certified : HoldsOf (λ f. Within f found.summary × ((b : L) → moves.Gives f b → among b ≡ true)) v → Contains found.ways v → StandsFor moves Within among s found
  certified holds there =
      record {
        within = λ w r u a f alone own step. (of_step (λ g. Within g found.summary × ((b : L) → moves.Gives g b → among b ≡ true)) holds w r u a f alone own step).0;
        kept = λ w r u a b f alone own step gives. (of_step (λ g. Within g found.summary × ((b : L) → moves.Gives g b → among b ≡ true)) holds w r u a f alone own step).1 b gives;
        goes_on = goes_on_by;
        whole = whole_by there;
        ended = λ w r u a f alone own step ends. absurd (never_ends w r u a f alone own step ends);
      }

pub certificate_stands_for : {S L F Y : Type 0} (moves : Moves S L F) (Within : F → Y → Type 0) → CertificateStandsFor moves Within
certificate_stands_for {S} {L} {F} {Y} moves Within among s t v found laws swaps cert over holds there = certified S L F Y moves Within laws swaps among s t v found cert over holds there
