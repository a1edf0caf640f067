-- Why a search of loose runs may keep one of those that come to one node, seen or unseen; at which nodes runs that are seen stand; and what it
-- tells of all lawful journals. Nothing here has to be believed: it is proved, and stands here since the ghost members of what is told name it.
use Rattle.std.proofs.Common.{◌≡◌, ℕ, zero, suc, List, [], ◌∷◌, ◌++◌, append_assoc, map, refl, sym, ap, subst, ◌∙◌, arith}
use Rattle.std.specs.List.{Any}
use Rattle.model.specs.declared.end.Limits.{Limits}
use Rattle.model.specs.declared.end.End.{End}
use Rattle.model.specs.States.{State}
use Rattle.model.specs.Runs.{Effect}
use Rattle.model.specs.Texts.{AreAllTexts, EndsHere}
use Rattle.loose.specs.declared.transition.LooseTransition.{LooseTransition}
use Rattle.loose.specs.Loose.{AlikeIn}
use Rattle.design.specs.Compiled.{Compiled, design_of}
use Rattle.design.specs.DesignInvariant.{remainder_of_state}
use Rattle.regions.specs.Queue.{state_of}
use Rattle.statekeys.specs.ClassKeys.{IsClassKey}
use Rattle.statekeys.proofs.ClassKeys.{class_keys_tell_states}
use Rattle.explore.specs.declared.Shown.{Shown}
use Rattle.explore.specs.Search.{Serves, IsEndless, IsShown, AreAllShown}
use Rattle.looseruns.specs.LooseRuns.{text_of_moves, ComeToOneLooseNode, StandsLoosely}
use Rattle.looseruns.specs.ObservedJournals.{Observer, SeenEnd, AreAllObservedTexts}
use Rattle.looseruns.specs.ObservedRuns.{StandsObserved}
use Rattle.looseruns.proofs.LooseSearches.{alike_loose_runs_serve, alike_held_runs_are_alike, all_loose_shown_are_all}
use Rattle.looseruns.proofs.ObservedParts.{observed_comes_plainly, plainly_comes_observed}
use Rattle.observers.specs.declared.observing.Observing.{Observing}
use Rattle.observers.specs.Observers.{observer_of}
use Rattle.observers.proofs.SeeingAlike.{observers_see_alike}
use Rattle.wavetexts.specs.Reading.{ReadText, read_on, unread}
use Rattle.arrangedruns.specs.ArrangedRuns.{ComeToOneArrangedNode, StandsArranged, arranged_end, read_of_moves}
use Rattle.arrangedruns.proofs.Arranged.{all_arranged_shown_are_all, alike_arranged_runs_serve, alike_held_arranged_are_alike, arranged_endless_is_endless}
use Rattle.lawful.specs.ArrangedNodes.{IsArrangedAmong, IsTailKey, bytes_code, number_code, registers_seen, searched_arranged, tail_at, tail_code}
use Rattle.lawful.specs.Journals.{texts_and_ends, IsTextAmong}
use Rattle.lawful.specs.LooseNodes.{HoldsEffect, searched_runs}
use Rattle.lawful.specs.ObservedNodes.{searched_observed}
use Rattle.lawful.specs.declared.node.LooseNode.{LooseNode}

-- the state that a node holds, by the design itself
stands_at : (code : Compiled) (node : LooseNode) (e : Effect) → HoldsEffect code node e → state_of (remainder_of_state code) node.machine.value.values node.machine.value.core ≡ e.state
stands_at code node e holds =
    ap (λ (k : Compiled). state_of (remainder_of_state k) node.machine.value.values node.machine.value.core) (sym holds.ready.code_is) ∙ holds.state_is

-- nodes of one key hold states that are alike in classes
keys_tell_alike : (class : ℕ → ℕ) (code : Compiled) (a b : LooseNode) (key : List ℕ) (e f : Effect) → IsClassKey class a.machine.value.core a.machine.value.values key → IsClassKey class b.machine.value.core b.machine.value.values key → HoldsEffect code a e → HoldsEffect code b f → AlikeIn class e.state f.state
keys_tell_alike class code a b key e f of_a of_b at_a at_b =
    let alike : AlikeIn class (state_of (remainder_of_state code) a.machine.value.values a.machine.value.core) (state_of (remainder_of_state code) b.machine.value.values b.machine.value.core) =
    class_keys_tell_states class (remainder_of_state code) a.machine.value.core b.machine.value.core a.machine.value.values b.machine.value.values key (at_a.ready.controls ∙ sym at_b.ready.controls) of_a of_b in
    subst (λ (s : State). AlikeIn class s f.state) (stands_at code a e at_a)
    (subst (λ (t : State). AlikeIn class (state_of (remainder_of_state code) a.machine.value.values a.machine.value.core) t) (stands_at code b f at_b) alike)

pub loose_alike : (code : Compiled) (class : ℕ → ℕ) (limits : Limits) (i j : List LooseTransition) → ComeToOneLooseNode class (design_of code) limits i j → Serves (searched_runs code class limits) i j
loose_alike code class limits i j alike = alike_loose_runs_serve (HoldsEffect code) class (design_of code) limits i j alike

pub loose_keyed : (code : Compiled) (class : ℕ → ℕ) (limits : Limits) (a b : LooseNode) (i j : List LooseTransition) (key : List ℕ) → IsClassKey class a.machine.value.core a.machine.value.values key → IsClassKey class b.machine.value.core b.machine.value.values key → StandsLoosely (HoldsEffect code) class (design_of code) limits a i → StandsLoosely (HoldsEffect code) class (design_of code) limits b j → text_of_moves class (design_of code) i ≡ text_of_moves class (design_of code) j → ComeToOneLooseNode class (design_of code) limits i j
loose_keyed code class limits a b i j key of_a of_b at_a at_b text =
    alike_held_runs_are_alike (HoldsEffect code) class (design_of code) limits a b i j (λ e f held_a held_b. keys_tell_alike class code a b key e f of_a of_b held_a held_b) at_a at_b text

-- codes tell where they end

-- the first byte, and those behind it
abbrev first_byte : List ℕ → ℕ
first_byte [] = 0
first_byte (b ∷ bytes) = b

abbrev behind_byte : List ℕ → List ℕ
behind_byte [] = []
behind_byte (b ∷ bytes) = bytes

no_such_code : {X : Type 0} → ◌≡◌ {A = ℕ} 0 1 → X
no_such_code e = absurd (omega (arith, e))

number_ends : (m n : ℕ) (xs ys : List ℕ) → number_code m ++ xs ≡ number_code n ++ ys → (m ≡ n) × (xs ≡ ys)
number_ends zero zero xs ys e = (refl, ap behind_byte e)
number_ends zero (suc n) xs ys e = no_such_code (ap first_byte e)
number_ends (suc m) zero xs ys e = no_such_code (sym (ap first_byte e))
number_ends (suc m) (suc n) xs ys e =
    let (same, rest) = number_ends m n xs ys (ap behind_byte e) in
    (ap (λ k. suc k) same, rest)

bytes_end : (bs cs xs ys : List ℕ) → bytes_code bs ++ xs ≡ bytes_code cs ++ ys → (bs ≡ cs) × (xs ≡ ys)
bytes_end [] [] xs ys e = (refl, ap behind_byte e)
bytes_end [] (c ∷ cs) xs ys e = no_such_code (ap first_byte e)
bytes_end (b ∷ bs) [] xs ys e = no_such_code (sym (ap first_byte e))
bytes_end (b ∷ bs) (c ∷ cs) xs ys e =
    let (same, rest) = bytes_end bs cs xs ys (ap (λ l. behind_byte (behind_byte l)) e) in
    (ap (λ l. first_byte (behind_byte l) ∷ bs) e ∙ ap (λ l. c ∷ l) same, rest)

-- a code of what isn't in order for good, and bytes behind it
split_code : (t : ReadText) (xs : List ℕ) → tail_code t ++ xs ≡ number_code t.left ++ (bytes_code t.held ++ (bytes_code t.part ++ xs))
split_code t xs =
    append_assoc (number_code t.left) (bytes_code t.held ++ bytes_code t.part) xs ∙ ap (λ l. number_code t.left ++ l) (append_assoc (bytes_code t.held) (bytes_code t.part) xs)

tail_ends : (t u : ReadText) (xs ys : List ℕ) → t.done ≡ u.done → tail_code t ++ xs ≡ tail_code u ++ ys → (t ≡ u) × (xs ≡ ys)
tail_ends t u xs ys done e =
    let (left, behind) = number_ends t.left u.left (bytes_code t.held ++ (bytes_code t.part ++ xs)) (bytes_code u.held ++ (bytes_code u.part ++ ys)) (sym (split_code t xs) ∙ (e ∙ split_code u ys)) in
    let (held, more) = bytes_end t.held u.held (bytes_code t.part ++ xs) (bytes_code u.part ++ ys) behind in
    let (part, rest) = bytes_end t.part u.part xs ys more in (
      ap (λ (n : ℕ). record t { left = n }) left ∙ (ap (λ (l : List ℕ). record t { left = u.left; held = l }) held
          ∙ (ap (λ (l : List ℕ). record t { left = u.left; held = u.held; part = l }) part ∙ ap (λ (l : List ℕ). record u { done = l }) done)),
      rest,
    )

-- the same of runs that an observer sees, with the lines of each time in order

pub arranged_alike : (code : Compiled) (class : ℕ → ℕ) (limits : Limits) (observing : Observing) (i j : List LooseTransition) → ComeToOneArrangedNode (registers_seen observing) class (design_of code) limits (observer_of observing) i j → Serves (searched_arranged code class limits observing) i j
arranged_alike code class limits observing i j alike =
    alike_arranged_runs_serve (HoldsEffect code) tail_at (registers_seen observing) class (design_of code) limits (observer_of observing) i j (observers_see_alike observing).0 alike

pub arranged_keyed : (code : Compiled) (class : ℕ → ℕ) (limits : Limits) (observing : Observing) (a b : LooseNode) (i j : List LooseTransition) (key : List ℕ) → IsTailKey class a key → IsTailKey class b key
    → StandsArranged (HoldsEffect code) tail_at (registers_seen observing) class (design_of code) limits (observer_of observing) a i → StandsArranged (HoldsEffect code) tail_at (registers_seen observing) class (design_of code) limits (observer_of observing) b j
    → (read_of_moves (registers_seen observing) class (design_of code) (observer_of observing) i).done ≡ (read_of_moves (registers_seen observing) class (design_of code) (observer_of observing) j).done
    → ComeToOneArrangedNode (registers_seen observing) class (design_of code) limits (observer_of observing) i j
arranged_keyed code class limits observing a b i j key (rest, keyed, is) (rest', keyed', is') at_a at_b text =
    let (same, same_rest) = tail_ends (tail_at a) (tail_at b) rest rest' refl (sym is ∙ is') in
    let both : IsClassKey class b.machine.value.core b.machine.value.values rest = subst (IsClassKey class b.machine.value.core b.machine.value.values) (sym same_rest) keyed' in
    alike_held_arranged_are_alike (HoldsEffect code) tail_at (registers_seen observing) class (design_of code) limits (observer_of observing) a b i j (λ e f held_a held_b. keys_tell_alike class code a b rest e f keyed both held_a held_b) same at_a at_b text

-- a node stands at a run before an observer where it does unobserved, and the other way round, for it holds no lines

pub stands_plainly : (class : ℕ → ℕ) (code : Compiled) (limits : Limits) (observe : Observer) (node : LooseNode) (run : List LooseTransition) → StandsObserved (HoldsEffect code) class (design_of code) limits observe node run → StandsLoosely (HoldsEffect code) class (design_of code) limits node run
stands_plainly class code limits observe node run at =
    let (f, at_f, state) = observed_comes_plainly class (design_of code) limits observe run at.effect at.comes in
    let held : Effect = record { state = at.held.state; lines = f.lines; changes = [] } in
    record {
      effect = f;
      held = held;
      comes = at_f;
      one_node = (refl, subst (λ (s : State). AlikeIn class s at.held.state) state at.one_node.1);
      in_order = at.in_order;
      holds = record { ready = at.holds.ready; state_is = at.holds.state_is };
    }

pub stands_observed : (class : ℕ → ℕ) (code : Compiled) (limits : Limits) (observe : Observer) (node : LooseNode) (run : List LooseTransition) → StandsLoosely (HoldsEffect code) class (design_of code) limits node run → StandsObserved (HoldsEffect code) class (design_of code) limits observe node run
stands_observed class code limits observe node run at =
    let (e, at_e, state) = plainly_comes_observed class (design_of code) limits observe run at.effect at.comes in
    let held : Effect = record { state = at.held.state; lines = e.lines; changes = [] } in
    record {
      effect = e;
      held = held;
      comes = at_e;
      one_node = (refl, subst (λ (s : State). AlikeIn class s at.held.state) state at.one_node.1);
      in_order = at.in_order;
      holds = record { ready = at.holds.ready; state_is = at.holds.state_is };
    }

-- a node of whose text nothing was read, at the run of no transition
pub arranged_starts : (code : Compiled) (class : ℕ → ℕ) (limits : Limits) (observing : Observing) (node : LooseNode) → StandsLoosely (HoldsEffect code) class (design_of code) limits node [] → tail_at node ≡ unread
    → StandsArranged (HoldsEffect code) tail_at (registers_seen observing) class (design_of code) limits (observer_of observing) node []
arranged_starts code class limits observing node at none =
    record {
      observed = stands_observed class code limits (observer_of observing) node [] at;
      rest = none;
    }

-- from where no observed run comes to an end, no run does
endless_plainly : (class : ℕ → ℕ) (code : Compiled) (limits : Limits) (observe : Observer) (run : List LooseTransition) → IsEndless (searched_observed code class limits observe) run → IsEndless (searched_runs code class limits) run
endless_plainly class code limits observe run endless =
    record {
      node = endless.node;
      stands = stands_plainly class code limits observe endless.node run endless.stands;
      never = λ moves end (e, at_e, here).
          let (f, at_f, state) = plainly_comes_observed class (design_of code) limits observe (run ++ moves) e at_e in
          endless.never moves (record { end = end; seen = observe f.state }) (f, at_f, (subst (λ (s : State). EndsHere (design_of code) limits (record f { state = s }) end) state here, refl));
    }

pub arranged_endless : (code : Compiled) (class : ℕ → ℕ) (limits : Limits) (observing : Observing) (run : List LooseTransition) → IsEndless (searched_arranged code class limits observing) run → IsEndless (searched_runs code class limits) run
arranged_endless code class limits observing run endless =
    endless_plainly class code limits (observer_of observing) run
    (arranged_endless_is_endless (HoldsEffect code) tail_at (registers_seen observing) class (design_of code) limits (observer_of observing) run endless)

-- where all runs are shown, the texts and ends of all lawful journals are among those that are shown

-- what holds of what some element is mapped to holds of some element of the mapped list
any_mapped : {X Y : Type 0} (h : X → Y) (P : Y → Type 0) (xs : List X) → Any (λ x. P (h x)) xs → Any P (map h xs)
any_mapped h P [] (k, x, within, at, p) = absurd (omega (arith, within))
any_mapped h P (x ∷ xs) (zero, y, within, at, p) = (0, h x, omega arith, refl, subst (λ z. P (h z)) (sym at) p)
any_mapped h P (x ∷ xs) (suc k, y, within, at, p) =
    let (j, z, low, there, q) = any_mapped h P xs (k, y, omega (arith, within), at, p) in
    (suc j, z, omega (arith, low), there, q)

among_shown : {Move End : Type 0} (shown : List (Shown Move End)) (text : List ℕ) (end : End) → IsShown shown text end → IsTextAmong (texts_and_ends shown) text end
among_shown {Move} {End} shown text end there =
    any_mapped (λ (s : Shown Move End). (s.text.items, s.end)) (λ (pair : List ℕ × End). (pair.0 ≡ text) × (pair.1 ≡ end)) shown there

pub all_texts_told : (code : Compiled) (class : ℕ → ℕ) (limits : Limits) (shown : List (Shown LooseTransition End)) → AreAllShown (searched_runs code class limits) shown → AreAllTexts (design_of code) limits (IsTextAmong (texts_and_ends shown))
all_texts_told code class limits shown all journal text end is timely ends few memory =
    among_shown shown text end (all_loose_shown_are_all (HoldsEffect code) class (design_of code) limits shown all journal text end is timely ends few memory)

pub all_arranged_told : (observing : Observing) (code : Compiled) (class : ℕ → ℕ) (limits : Limits) (shown : List (Shown LooseTransition SeenEnd)) → AreAllShown (searched_arranged code class limits observing) shown
    → AreAllObservedTexts (design_of code) limits (observer_of observing) (IsArrangedAmong (registers_seen observing) (texts_and_ends shown))
all_arranged_told observing code class limits shown all journal text end is timely ends few memory =
    let registers = registers_seen observing in
    among_shown shown (read_on registers unread text).done (arranged_end registers (read_on registers unread text) end)
    (all_arranged_shown_are_all (HoldsEffect code) tail_at registers class (design_of code) limits (observer_of observing) shown (observers_see_alike observing).0 all journal text end is timely ends few memory)
