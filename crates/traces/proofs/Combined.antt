-- What stands for all that a set of actors does, put together from its parts.
use Rattle.std.proofs.Common.{◌≡◌, ℕ, Bool, true, List, [], ◌∷◌, ◌++◌, refl, sym, ap, ◌∙◌, subst, append-nil}
use Rattle.std.specs.List.{Contains}
use Rattle.traces.specs.Traces.{Moves, AreMoves, IsRunOfMoves, printed_by_steps, NoneEnds, AreOfPart, of_part, IsOneOf, PartDoes, ArePartsApart, IsWayOfPart, HaveWays, all_ways}
use Rattle.traces.specs.StandsFor.{RunsAlone, FoundOfSet, HasWayTo, StandsFor, of_both, AreCombined, PartsStandFor}
use Rattle.traces.specs.Restricted.{restricted}
use Rattle.traces.proofs.PartLists.{own_steps, none_of_part, printed_both}
use Rattle.traces.proofs.RunLaws.{runs_both, runs_split, runs_once, none_ended}
use Rattle.traces.proofs.Squares.{at_once}
use Rattle.traces.proofs.PartsKept.{parts_after, does_from}
use Rattle.traces.proofs.Projections.{projects}
use Rattle.traces.proofs.Orders.{in_any}
use Rattle.traces.proofs.Endings.{ending_way}
use Rattle.traces.proofs.Together.{all_together, stand_for}
use Rattle.traces.proofs.Restricted.{restricted_laws, in_both, in_set, in_part, goes_out, actors_of, goes_in, both_among, set_among, part_among}
use Rattle.traces.proofs.Choices.{chosen, is_chosen, have_ways, none_all, same_prints, all_once}

module _ (S L F Y : Type 0) (moves : Moves S L F) (Within : F → Y → Type 0) (laws : AreMoves moves) (among : L → Bool) (part : L → ℕ) (s : S) (ks : List ℕ) (each : ℕ → FoundOfSet L F Y) (found : FoundOfSet L F Y)
    (h : AreCombined moves Within among part s ks each found) where
  abbrev inner : Moves S L F
  inner = restricted moves among

  inner_laws : AreMoves inner
  inner_laws = restricted_laws S L F moves among laws

  alone_of : (k : ℕ) (w : List (L × F)) (t : S) → IsRunOfMoves inner s w t → AreOfPart part k w → NoneEnds moves.Ends w → RunsAlone moves (of_both among part k) s w t
  alone_of k w t run of none = (goes_out S L F moves among s t w run, both_among S L F moves among part k w (actors_of S L F moves among s t w run) of, none)

  -- a part of which an actor steps or waits is one of them
  begins : (k : ℕ) (w : List (L × F)) (t : S) (a : L) → IsRunOfMoves inner s w t → AreOfPart part k w → inner.Waits t a → part a ≡ k → IsOneOf k ks
  begins k [] t a is of waits own = subst (λ z. IsOneOf z ks) own (h.all a waits.0 (subst (λ z. moves.Waits z a) (sym is) waits.1))
  begins k (x ∷ w) t a (m, step, run) (own', of) waits own = subst (λ z. IsOneOf z ks) own' (h.all x.0 step.0 (laws.waiting s m x.0 x.1 step.1))

  does_alone : (k : ℕ) (a : L) (f : F) (d : PartDoes inner part s k a f) → IsOneOf k ks × RunsAlone moves (of_both among part k) s d.before d.there × (of_both among part k a ≡ true)
  does_alone k a f d = (
    begins k d.before d.there a d.way d.own (d.steps.0, laws.waiting d.there d.after a f d.steps.1) d.belongs,
    alone_of k d.before d.there d.way d.own (none_ended S L F inner inner_laws s d.there d.after d.before a f d.way d.steps),
    in_both L among part k a d.steps.0 d.belongs,
  )

  does_within : (k : ℕ) (a : L) (f : F) → PartDoes inner part s k a f → IsOneOf k ks × Within f (each k).summary
  does_within k a f d =
      let (one, alone, own) = does_alone k a f d in
      (one, (h.stands k one).within d.before d.there d.after a f alone own d.steps.1)

  are_parts : ArePartsApart inner part s
  are_parts =
      record {
        apart = λ i j a b f g differ d e.
            let (one, first) = does_within i a f d in
            let (other, second) = does_within j b g e in
            h.apart i j f g differ one other first second;
        kept = λ i a b f d gives.
            let (one, alone, own) = does_alone i a f d in
            in_part L among part i b ((h.stands i one).kept d.before d.there d.after a b f alone own d.steps.1 gives);
        goes_on = λ i w t a run of none own waits.
            let one : IsOneOf i ks = begins i w t a run of waits own in
            let (f, u, step) = (h.stands i one).goes_on w t a (alone_of i w t run of none) (in_both L among part i a waits.0 own) waits.1 in
            (f, u, (waits.0, step));
      }

  inside : (w : List (L × F)) (t : S) → RunsAlone moves among s w t → IsRunOfMoves inner s w t
  inside w t alone = goes_in S L F moves among s t w alone.0 alone.1

  -- a step after a run is one that its part does alone
  of_its_part : (w : List (L × F)) (t u : S) (a : L) (f : F) → RunsAlone moves among s w t → among a ≡ true → moves.Steps t a f u → PartDoes inner part s (part a) a f
  of_its_part w t u a f alone own step =
      does_from S L F inner inner_laws part s t w (part a) a f are_parts (inside w t alone) alone.2 (at_once S L F inner part (part a) t u a f refl (own, step))

  within_all : (w : List (L × F)) (t u : S) (a : L) (f : F) → RunsAlone moves among s w t → among a ≡ true → moves.Steps t a f u → Within f found.summary
  within_all w t u a f alone own step =
      let (one, within) = does_within (part a) a f (of_its_part w t u a f alone own step) in
      h.summary (part a) f one within

  kept_all : (w : List (L × F)) (t u : S) (a b : L) (f : F) → RunsAlone moves among s w t → among a ≡ true → moves.Steps t a f u → moves.Gives f b → among b ≡ true
  kept_all w t u a b f alone own step gives =
      let d : PartDoes inner part s (part a) a f = of_its_part w t u a f alone own step in
      let (one, alone', own') = does_alone (part a) a f d in
      in_set L among part (part a) b ((h.stands (part a) one).kept d.before d.there d.after a b f alone' own' d.steps.1 gives)

  goes_on_all : (w : List (L × F)) (t : S) (a : L) → RunsAlone moves among s w t → among a ≡ true → moves.Waits t a → (f : F) × (u : S) × moves.Steps t a f u
  goes_on_all w t a alone own waits =
      let parts : ArePartsApart inner part t = parts_after S L F inner inner_laws part s t w are_parts (inside w t alone) alone.2 in
      let (f, u, step) = parts.goes_on (part a) [] t a refl tt tt refl (own, waits) in
      (f, u, step.1)

  -- a way that was found of a part, and stands for what the part does in a run
  abbrev StandsIn : List (L × F) → ℕ → List (L × F) → Type 0
  StandsIn w k y =
      (u : S) × (v : S) × Contains (each k).ways y × IsRunOfMoves inner s (of_part part k w) u × RunsAlone moves (of_both among part k) s y v × moves.Alike u v
      × (printed_by_steps moves.prints y ≡ printed_by_steps moves.prints (of_part part k w))

  stands_in : (w : List (L × F)) (t : S) → RunsAlone moves among s w t → ((a : L) → among a ≡ true → moves.Waits t a → ⊥) → (k : ℕ) → IsOneOf k ks → (y : List (L × F)) × StandsIn w k y
  stands_in w t alone over k one =
      let (u, way, waits) = projects S L F inner inner_laws part s t w k are_parts (inside w t alone) alone.2 in
      let own : RunsAlone moves (of_both among part k) s (of_part part k w) u = alone_of k (of_part part k w) u way (own_steps L F part k w) (none_of_part S L F moves part k w alone.2) in
      let nobody : (a : L) → of_both among part k a ≡ true → moves.Waits u a → ⊥ = λ a both waits'.
      over a (in_set L among part k a both) ((waits a (in_part L among part k a both)).0 (in_set L among part k a both, waits')).1 in
      let (y, v, there, alone', near, prints) = (h.stands k one).whole (of_part part k w) u own nobody in
      (y, (u, v, there, way, alone', near, prints))

  is_way : (w : List (L × F)) (k : ℕ) (y : List (L × F)) → StandsIn w k y → IsWayOfPart inner part s k y
  is_way w k y (u, v, there, way, (run, of, none), near, prints) =
      (v, goes_in S L F moves among s v y run (set_among S L F moves among part k y of), part_among S L F moves among part k y of, none)

  is_projection : (w : List (L × F)) (k : ℕ) (y : List (L × F)) → NoneEnds moves.Ends w → StandsIn w k y → IsWayOfPart inner part s k (of_part part k w)
  is_projection w k y none (u, v, there, way, alone, near, prints) =
      (u, way, own_steps L F part k w, none_of_part S L F moves part k w none)

  alike_ends : (w : List (L × F)) (k : ℕ) (y : List (L × F)) (a b : S) → StandsIn w k y → IsRunOfMoves inner s (of_part part k w) a → IsRunOfMoves inner s y b → moves.Alike a b
  alike_ends w k y a b (u, v, there, way, (run, of, none), near, prints) at_a at_b =
      let first : moves.Alike a u = runs_once S L F inner inner_laws s a u (of_part part k w) at_a way in
      let last : moves.Alike v b = runs_once S L F inner inner_laws s v b y (goes_in S L F moves among s v y run (set_among S L F moves among part k y of)) at_b in
      laws.through a u b first (laws.through u v b near last)

  -- ways of the parts that stand for what they do in a run, one after another
  whole_by : (w : List (L × F)) (t : S) (ways : ℕ → List (L × F)) → RunsAlone moves among s w t → ((k : ℕ) → IsOneOf k ks → StandsIn w k (ways k)) → HasWayTo moves among s found.ways t (printed_by_steps moves.prints w)
  whole_by w t ways alone facts =
      let run : IsRunOfMoves inner s w t = inside w t alone in
      let have : HaveWays inner part s ways ks = have_ways S L F inner part s ways ks h.different (λ k one. is_way w k (ways k) (facts k one)) in
      let have' : HaveWays inner part s (λ k. of_part part k w) ks =
      have_ways S L F inner part s (λ k. of_part part k w) ks h.different (λ k one. is_projection w k (ways k) alone.2 (facts k one)) in
      let (u, all, waiting, others) = all_together S L F inner inner_laws part s ways ks are_parts have in
      let (r, ordered, near, prints) =
      in_any S L F inner inner_laws part s t w ks are_parts run alone.2 (all_once S L F inner inner_laws part ks h.different s t w are_parts run alone.2 (λ a waits. h.all a waits.0 waits.1)) in
      let same : moves.Alike r u =
      stand_for S L F inner inner_laws part s r u (λ k. of_part part k w) ways ks are_parts have' have (λ k a b one at_a at_b. alike_ends w k (ways k) a b (facts k one) at_a at_b) ordered all in
      let text : printed_by_steps moves.prints (all_ways ways ks) ≡ printed_by_steps moves.prints (all_ways (λ k. of_part part k w) ks) =
      same_prints S L F inner part ways (λ k. of_part part k w) ks (λ k one. (facts k one).6) in (
        all_ways ways ks,
        u,
        h.ways ways (λ k one. (facts k one).2),
        (goes_out S L F moves among s u (all_ways ways ks) all, actors_of S L F moves among s u (all_ways ways ks) all, none_all S L F inner part s ways ks have),
        laws.through t r u (laws.back r t near) same,
        text ∙ prints,
      )

  whole_all : (w : List (L × F)) (t : S) → RunsAlone moves among s w t → ((a : L) → among a ≡ true → moves.Waits t a → ⊥) → HasWayTo moves among s found.ways t (printed_by_steps moves.prints w)
  whole_all w t alone over =
      whole_by w t (chosen (List (L × F)) (StandsIn w) [] ks (stands_in w t alone over)) alone (is_chosen (List (L × F)) (StandsIn w) [] ks (stands_in w t alone over))

  with_last : (w : List (L × F)) (a : L) (f : F) → printed_by_steps moves.prints (w ++ ((a, f) ∷ [])) ≡ printed_by_steps moves.prints w ++ moves.prints f
  with_last w a f = printed_both S L F moves w ((a, f) ∷ []) ∙ ap (λ z. printed_by_steps moves.prints w ++ z) (append-nil (moves.prints f))

  ended_all : (w : List (L × F)) (t u : S) (a : L) (f : F) → RunsAlone moves among s w t → among a ≡ true → moves.Steps t a f u → moves.Ends f → Contains found.texts (printed_by_steps moves.prints w ++ moves.prints f)
  ended_all w t u a f alone own step ends =
      let k : ℕ = part a in
      let run : IsRunOfMoves inner s (w ++ ((a, f) ∷ [])) u = runs_both S L F inner s t u w ((a, f) ∷ []) (inside w t alone) (u, (own, step), refl) in
      let (r, way, prints) = ending_way S L F inner inner_laws part a f ends s u w are_parts run in
      let (n, before, (v, last, is)) = runs_split S L F inner s r (of_part part k w) ((a, f) ∷ []) way in
      let one : IsOneOf k ks = begins k (of_part part k w) n a before (own_steps L F part k w) (own, laws.waiting n v a f last.1) refl in
      let alone' : RunsAlone moves (of_both among part k) s (of_part part k w) n = alone_of k (of_part part k w) n before (own_steps L F part k w) (none_of_part S L F moves part k w alone.2) in
      let text : Contains (each k).texts (printed_by_steps moves.prints (of_part part k w) ++ moves.prints f) = (h.stands k one).ended (of_part part k w) n v a f alone' (in_both L among part k a own refl) last.1 ends in
      let is_text : printed_by_steps moves.prints (of_part part k w) ++ moves.prints f ≡ printed_by_steps moves.prints w ++ moves.prints f =
      sym (with_last (of_part part k w) a f) ∙ prints ∙ with_last w a f in
      subst (λ z. Contains found.texts z) is_text (h.texts k (printed_by_steps moves.prints (of_part part k w) ++ moves.prints f) one text)

  pub all_stands : StandsFor moves Within among s found
  all_stands = record { within = within_all; kept = kept_all; goes_on = goes_on_all; whole = whole_all; ended = ended_all }

pub parts_stand_for : {S L F Y : Type 0} (moves : Moves S L F) (Within : F → Y → Type 0) → PartsStandFor moves Within
parts_stand_for {S} {L} {F} {Y} moves Within among part s ks each found laws h = all_stands S L F Y moves Within laws among part s ks each found h
