-- What is told of each way from a node is what an observer sees of it.
use Rattle.std.proofs.Common.{◌≡◌, ◌≢◌, ◌⊎◌, ℕ, zero, suc, Bool, true, false, List, [], ◌∷◌, ◌++◌, length, map, Some, inl, inr, refl, sym, ap, ◌∙◌, subst, arith}
use Rattle.std.specs.List.{All, Any}
use Rattle.std.specs.Prelude.{IsTrue}
use Rattle.std.proofs.lemmas.List.Elements.{All-nil, All-cons, All-head, All-tail, All-map}
use Rattle.model.specs.declared.end.Limits.{Limits}
use Rattle.model.specs.declared.end.Why.TheVariants as why
use Rattle.model.specs.declared.end.Why.TheVariants.{Finish}
use Rattle.model.specs.declared.end.End.{End}
use Rattle.model.specs.declared.end.End.TheVariants.{Quiet, Running, Stopped}
use Rattle.model.specs.Design.{Design}
use Rattle.model.specs.States.{State}
use Rattle.model.specs.Runs.{Effect, silent}
use Rattle.model.specs.Texts.{EndsHere}
use Rattle.design.specs.Compiled.{Compiled, design_of}
use Rattle.explore.specs.declared.Successor.{Successor}
use Rattle.explore.specs.declared.EndedPath.{EndedPath}
use Rattle.explore.specs.declared.Expanded.{Expanded}
use Rattle.loose.specs.declared.transition.LooseTransition.{LooseTransition}
use Rattle.loose.specs.Loose.{AlikeIn}
use Rattle.looseruns.specs.LooseCover.{loose_ways_to}
use Rattle.looseruns.specs.LooseGoing.{GoesLooselyTo}
use Rattle.looseruns.specs.ObservedJournals.{Observer, SeenEnd, effect_with_seen}
use Rattle.looseruns.specs.ObservedMoves.{SeesAlike, StaysInTime, PassesTimeFirst, seen_first}
use Rattle.looseruns.specs.ObservedGoing.{GoesObservedTo}
use Rattle.looseruns.specs.ObservedCover.{TellsObservedEnds}
use Rattle.looseruns.specs.ObservedEnding.{CoverToFinish, TellsWaysToFinish}
use Rattle.looseruns.proofs.ObservedParts.{move_unseen}
use Rattle.looseruns.proofs.ObservedGoing.{loose_way_is_observed}
use Rattle.looseparts.specs.EndingCover.{TellsWaysToEnds}
use Rattle.lawful.specs.LooseNodes.{HoldsEffect, IsLooseWayOn, IsLooseWayToEnd, IsToldHere, LeadToFinish, AreAllLooseWays, IsExpandedAt}
use Rattle.lawful.specs.ObservedNodes.{SeesNoFinish, IsObservedWayOn, IsObservedWayToEnd, AreAllObservedWays, IsObservedAt}
use Rattle.lawful.specs.ObservedWays.{AreEach, IsNextSeen, IsEndSeen}
use Rattle.lawful.specs.declared.node.LooseNode.{LooseNode}

-- lists whose elements at one place are so to each other

each_push : {X Y : Type 0} (R : X → Y → Type 0) (xs : List X) (ys : List Y) (x : X) (y : Y) → AreEach R xs ys → R x y → AreEach R (xs ++ x ∷ []) (ys ++ y ∷ [])
each_push R [] [] x y each one = (one, tt)
each_push R [] (z ∷ ys) x y each one = absurd each
each_push R (w ∷ xs) [] x y each one = absurd each
each_push R (w ∷ xs) (z ∷ ys) x y (first, rest) one = (first, each_push R xs ys x y rest one)

pub one_more_each : {X Y : Type 0} (R : X → Y → Type 0) (xs : List X) (ys more : List Y) (x : X) (y : Y) → more ≡ ys ++ y ∷ [] → AreEach R xs ys → R x y → AreEach R (xs ++ x ∷ []) more
one_more_each R xs ys more x y longer each one = subst (AreEach R (xs ++ x ∷ [])) (sym longer) (each_push R xs ys x y each one)

pub each_all : {X Y : Type 0} (R : X → Y → Type 0) (P : X → Type 0) (Q : Y → Type 0) (xs : List X) (ys : List Y) → ((x : X) (y : Y) → R x y → P x → Q y) → AreEach R xs ys → All P xs → All Q ys
each_all R P Q [] [] step each all = All-nil Q
each_all R P Q [] (y ∷ ys) step each all = absurd each
each_all R P Q (x ∷ xs) [] step each all = absurd each
each_all R P Q (x ∷ xs) (y ∷ ys) step (one, rest) all = All-cons Q y ys (step x y one (All-head P x xs all)) (each_all R P Q xs ys step rest (All-tail P x xs all))

pub each_any : {X Y : Type 0} (R : X → Y → Type 0) (P : X → Type 0) (Q : Y → Type 0) (xs : List X) (ys : List Y) → ((x : X) (y : Y) → R x y → P x → Q y) → AreEach R xs ys → Any P xs → Any Q ys
each_any R P Q [] ys step each (k, x, within, at, p) = absurd (omega (arith, within))
each_any R P Q (x ∷ xs) [] step each any = absurd each
each_any R P Q (x ∷ xs) (y ∷ ys) step (one, rest) (zero, z, within, at, p) = (0, y, omega arith, refl, step x y one (subst P (sym at) p))
each_any R P Q (x ∷ xs) (y ∷ ys) step (one, rest) (suc k, z, within, at, p) =
    let (j, w, low, there, q) = each_any R P Q xs ys step rest (k, z, omega (arith, within), at, p) in
    (suc j, w, omega (arith, low), there, q)

each_map : {X Y Z : Type 0} (R : X → Y → Type 0) (f : X → Z) (g : Y → Z) (xs : List X) (ys : List Y) → ((x : X) (y : Y) → R x y → g y ≡ f x) → AreEach R xs ys → map g ys ≡ map f xs
each_map R f g [] [] step each = refl
each_map R f g [] (y ∷ ys) step each = absurd each
each_map R f g (x ∷ xs) [] step each = absurd each
each_map R f g (x ∷ xs) (y ∷ ys) step (one, rest) =
    ap (λ z. z ∷ map g ys) (step x y one) ∙ ap (λ l. f x ∷ l) (each_map R f g xs ys step rest)

each_first : {X Y : Type 0} (R : X → Y → Type 0) (P : X → Type 0) (xs : List X) (ys : List Y) → ((x : X) (y : Y) → R x y → P x) → AreEach R xs ys → All P xs
each_first R P [] ys step each = All-nil P
each_first R P (x ∷ xs) [] step each = absurd each
each_first R P (x ∷ xs) (y ∷ ys) step (one, rest) = All-cons P x xs (step x y one) (each_first R P xs ys step rest)

-- where a run has finished, and where it hasn't

pub never_both : (b : Bool) → IsTrue b → b ≡ false → ⊥
never_both true so is = cc
never_both false so is = cc

is_finish : (end : End) → (end ≡ Stopped Finish) ⊎ (end ≢ Stopped Finish)
is_finish Quiet = inr (λ e. cc)
is_finish Running = inr (λ e. cc)
is_finish (Stopped Finish) = inl refl
is_finish (Stopped why.Until) = inr (λ e. cc)
is_finish (Stopped why.Entries) = inr (λ e. cc)
is_finish (Stopped (why.TooLong p)) = inr (λ e. cc)
is_finish (Stopped why.Time) = inr (λ e. cc)
is_finish (Stopped why.Memory) = inr (λ e. cc)

finished_here : (design : Design) (limits : Limits) (e : Effect) (end : End) → end ≡ Stopped Finish → EndsHere design limits e end → e.state.finished ≡ true
finished_here design limits e end is here = (subst (EndsHere design limits e) is here).2

same_end : (a b : SeenEnd) → a.end ≡ b.end → a.seen ≡ b.seen → a ≡ b
same_end a b end seen = ap (λ (h : End). record { end = h; seen = a.seen }) end ∙ ap (λ (l : List ℕ). record { end = b.end; seen = l }) seen

-- ways on which no time passes

first_of_none : (moves : List LooseTransition) → All StaysInTime moves → PassesTimeFirst moves
first_of_none [] stay = tt
first_of_none (transition ∷ more) stay = All-tail StaysInTime transition more stay

pub nothing_first : (observe : Observer) (s : State) (moves : List LooseTransition) → All StaysInTime moves → seen_first observe s moves ≡ []
nothing_first observe s [] stay = refl
nothing_first observe s (transition ∷ more) stay = move_unseen observe s transition (All-head StaysInTime transition more stay)

-- ways without a transition

pub first_of_nothing : (moves : List LooseTransition) → length moves ≡ 0 → PassesTimeFirst moves
first_of_nothing [] none = tt
first_of_nothing (transition ∷ more) none = absurd (omega (arith, none))

pub nothing_of_nothing : (observe : Observer) (s : State) (moves : List LooseTransition) → length moves ≡ 0 → seen_first observe s moves ≡ []
nothing_of_nothing observe s [] none = refl
nothing_of_nothing observe s (transition ∷ more) none = absurd (omega (arith, none))

pub no_moves : (moves : List LooseTransition) → length moves ≡ 0 → moves ≡ []
no_moves [] none = refl
no_moves (transition ∷ more) none = absurd (omega (arith, none))

stays_alike : (class : ℕ → ℕ) (design : Design) (limits : Limits) (s : State) (moves : List LooseTransition) (g : Effect) → moves ≡ [] → GoesLooselyTo class design limits s moves g → AlikeIn class s g.state
stays_alike class design limits s moves g none way =
    let goes : GoesLooselyTo class design limits s [] g = subst (λ (l : List LooseTransition). GoesLooselyTo class design limits s l g) none way in
    let here : Some (silent s) ≡ Some goes.effect = goes.goes in
    let same : silent s ≡ goes.effect = cc in
    subst (λ (e : Effect). AlikeIn class e.state g.state) (sym same) goes.one_node.1

module _ (class : ℕ → ℕ) (code : Compiled) (limits : Limits) (observe : Observer) (s : State) (seen : List ℕ) (sight : seen ≡ observe s) where
  next_seen : (next observed : Successor LooseNode LooseTransition) → IsNextSeen seen next observed → IsLooseWayOn class code limits s next → IsObservedWayOn class code limits observe s observed
  next_seen next observed is way =
      let first = seen_first observe s next.moves.items in
      let g : Effect = effect_with_seen first way.effect in
      let goes : GoesObservedTo class (design_of code) limits observe s next.moves.items g = loose_way_is_observed class (design_of code) limits observe s next.moves.items way.effect is.first way.goes in
      let holds : HoldsEffect code next.node g = record { ready = way.holds.ready; state_is = way.holds.state_is } in
      record {
        effect = g;
        goes = subst (λ (l : List LooseTransition). GoesObservedTo class (design_of code) limits observe s l g) (sym is.moves_are) goes;
        printed = is.told observe s sight ∙ ap (λ l. first ++ l) way.printed;
        holds = subst (λ (n : LooseNode). HoldsEffect code n g) (sym is.node_is) holds;
      }

  sight_there : SeesAlike observe → SeesNoFinish observe → (ended : EndedPath LooseTransition End) (observed : EndedPath LooseTransition SeenEnd) → IsEndSeen seen ended observed → (way : IsLooseWayToEnd class code limits s ended) → observed.end.seen ≡ observe way.effect.state
  sight_there sees none ended observed is way =
      elim (is_finish ended.end) [
        | inl over ↦ is.finished over ∙ sym (none way.effect.state (finished_here (design_of code) limits way.effect ended.end over way.here))
        | inr not_over ↦
            let (nowhere, same) = is.here not_over in
            same ∙ (sight ∙ sees class s way.effect.state (stays_alike class (design_of code) limits s ended.moves.items way.effect nowhere way.goes))
      ]

  end_seen : SeesAlike observe → SeesNoFinish observe → (ended : EndedPath LooseTransition End) (observed : EndedPath LooseTransition SeenEnd) → IsEndSeen seen ended observed → IsLooseWayToEnd class code limits s ended → IsObservedWayToEnd class code limits observe s observed
  end_seen sees none ended observed is way =
      let first = seen_first observe s ended.moves.items in
      let g : Effect = effect_with_seen first way.effect in
      let goes : GoesObservedTo class (design_of code) limits observe s ended.moves.items g = loose_way_is_observed class (design_of code) limits observe s ended.moves.items way.effect (first_of_none ended.moves.items is.stay) way.goes in
      let here : EndsHere (design_of code) limits g ended.end = way.here in
      record {
        effect = g;
        goes = subst (λ (l : List LooseTransition). GoesObservedTo class (design_of code) limits observe s l g) (sym is.moves_are) goes;
        printed = is.printed_is ∙ (way.printed ∙ sym (ap (λ l. l ++ way.effect.lines) (nothing_first observe s ended.moves.items is.stay)));
        here = (subst (EndsHere (design_of code) limits g) (sym is.end_is) here, sight_there sees none ended observed is way);
      }

  -- each end that a run may have here is told, with what is seen here
  here_seen : SeesNoFinish observe → (ended : List (EndedPath LooseTransition End)) (observed : List (EndedPath LooseTransition SeenEnd)) → AreEach (IsEndSeen seen) ended observed → ((end : End) → EndsHere (design_of code) limits (silent s) end → IsToldHere ended end)
      → TellsObservedEnds (design_of code) limits observe observed (silent s)
  here_seen none ended observed each told end (here, sees) =
      each_any (IsEndSeen seen) (λ (way : EndedPath LooseTransition End). (way.printed.items ≡ []) × (way.end ≡ end.end)) (λ (way : EndedPath LooseTransition SeenEnd). (way.printed.items ≡ []) × (way.end ≡ end)) ended observed
      (λ x y is (printed, same).
      let seen_too : y.end.seen ≡ end.seen =
      elim (is_finish x.end) [
        | inl over ↦ is.finished over ∙ (sym (none s (finished_here (design_of code) limits (silent s) end.end (sym same ∙ over) here)) ∙ sym sees)
        | inr not_over ↦ (is.here not_over).1 ∙ (sight ∙ sym sees)
      ] in
      (is.printed_is ∙ printed, same_end y.end end (is.end_is ∙ same) seen_too))
      each (told end.end here)

  -- what ways to where the run has finished print is told, and that nothing is seen there
  ways_seen : SeesNoFinish observe → (ends : List (List LooseTransition)) (ended : List (EndedPath LooseTransition End)) (observed : List (EndedPath LooseTransition SeenEnd)) → AreEach (IsEndSeen seen) ended observed → LeadToFinish class (design_of code) s ends → TellsWaysToEnds class (design_of code) s ends ended
      → TellsWaysToFinish class (design_of code) observe s ends observed
  ways_seen none ends ended observed each finish told way f there goes =
      let last : SeenEnd = record { end = Stopped Finish; seen = observe f.state } in
      each_any (IsEndSeen seen) (λ (path : EndedPath LooseTransition End). (path.printed.items ≡ f.lines) × (path.end ≡ Stopped Finish)) (λ (path : EndedPath LooseTransition SeenEnd). (path.printed.items ≡ f.lines) × (path.end ≡ last)) ended observed
      (λ x y is (printed, over). (is.printed_is ∙ printed, same_end y.end last (is.end_is ∙ over) (is.finished over ∙ sym (none f.state (finish way f there goes)))))
      each (told way f there goes)

  all_seen : SeesNoFinish observe → (xs ys : List (Successor LooseNode LooseTransition)) (ended : List (EndedPath LooseTransition End)) (observed : List (EndedPath LooseTransition SeenEnd)) → AreEach (IsNextSeen seen) xs ys → AreEach (IsEndSeen seen) ended observed
      → AreAllLooseWays class code limits s xs ended → AreAllObservedWays class code limits observe s ys observed
  all_seen none xs ys ended observed nexts ends all =
      let ways : loose_ways_to ys ≡ loose_ways_to xs = each_map (IsNextSeen seen) (λ (x : Successor LooseNode LooseTransition). x.moves.items) (λ (y : Successor LooseNode LooseTransition). y.moves.items) xs ys (λ x y is. is.moves_are) nexts in
      let firsts : All PassesTimeFirst (loose_ways_to xs) = All-map PassesTimeFirst (λ (x : Successor LooseNode LooseTransition). x.moves.items) xs (each_first (IsNextSeen seen) (λ x. PassesTimeFirst x.moves.items) xs ys (λ x y is. is.first) nexts) in
      record {
        ends = all.ends;
        cover = subst (λ (l : List (List LooseTransition)). CoverToFinish class (design_of code) limits s l all.ends) (sym ways) all.cover;
        firsts = subst (All PassesTimeFirst) (sym ways) firsts;
        ways_told = ways_seen none all.ends ended observed ends all.finish all.ways_told;
        told = here_seen none ended observed ends all.told;
      }

  pub seen_at_node : SeesAlike observe → SeesNoFinish observe → (x : Expanded LooseNode LooseTransition End) (y : Expanded LooseNode LooseTransition SeenEnd) → AreEach (IsNextSeen seen) x.successors.items y.successors.items → AreEach (IsEndSeen seen) x.ended.items y.ended.items → y.whole ≡ x.whole
      → IsExpandedAt class code limits s x → IsObservedAt class code limits observe s y
  seen_at_node sees none x y nexts ends same at =
      record {
        nexts = each_all (IsNextSeen seen) (IsLooseWayOn class code limits s) (IsObservedWayOn class code limits observe s) x.successors.items y.successors.items next_seen nexts at.nexts;
        ends = each_all (IsEndSeen seen) (IsLooseWayToEnd class code limits s) (IsObservedWayToEnd class code limits observe s) x.ended.items y.ended.items (end_seen sees none) ends at.ends;
        all = λ whole. all_seen none x.successors.items y.successors.items x.ended.items y.ended.items nexts ends (at.all (subst IsTrue same whole));
      }
