-- Ways that come to the same: one of them stands for the others.
use Rattle.std.proofs.Common.{◌≡◌, ℕ, ◌+◌, ◌<◌, Bool, true, false, List, [], ◌∷◌, ◌++◌, map, take, length, get_or, inl, inr, refl, sym, ap, subst, ◌∙◌, append-nil, append_assoc}
use Rattle.std.specs.List.{All, Contains}
use Rattle.std.specs.Global.{Vec}
use Rattle.std.proofs.lemmas.List.{map-append, take_more}
use Rattle.std.proofs.lemmas.List.Elements.{All-nil, All-head, All-tail, All-push, All-weaker, All-contains, Contains-append_left, Contains-append_right}
use Rattle.orders.specs.Alike.{IsInOrder}
use Rattle.model.specs.Design.{Design}
use Rattle.design.specs.Compiled.{Compiled, design_of}
use Rattle.design.specs.DesignInvariant.{remainder_of_state, controls_of}
use Rattle.regions.specs.Queue.{state_of}
use Rattle.regions.specs.Machine.{MachineView, state_at}
use Rattle.statekeys.specs.ClassKeys.{IsClassKey}
use Rattle.statekeys.proofs.ClassKeys.{class_keys_tell_states}
use Rattle.loose.specs.declared.transition.LooseTransition.{LooseTransition}
use Rattle.loose.specs.Loose.{AlikeIn}
use Rattle.loose.proofs.ClassStates.{states_in-same, states_in-sym, states_in-trans}
use Rattle.traces.specs.Traces.{Moves, AreMoves, IsRunOfMoves, printed_by_steps, AreAmong}
use Rattle.traces.specs.StandsFor.{RunsAlone, HasWayTo}
use Rattle.traces.proofs.RunLaws.{runs_both, runs_once, alike_runs}
use Rattle.traces.proofs.PartLists.{printed_both}
use Rattle.footprints.specs.Footprints.{Footprint}
use Rattle.footprints.specs.Moves.{OrderedState, IsMove, loose_moves}
use Rattle.footprints.proofs.LooseMoves.{loose_steps_are_moves}
use Rattle.certificates.specs.Notes.{NoteView}
use Rattle.certificates.proofs.Tests.{never_true}
use Rattle.certifiedruns.specs.CertifiedCover.{actors_of}
use Rattle.looseparts.specs.StandTogether.{concern, EndsBy, StandTogether}
use Rattle.looseparts.specs.ActorSteps.{IsActorStep}
use Rattle.looseparts.specs.FoundWays.{ways_in}
use Rattle.looseparts.specs.GoneWays.{IsWayGone, ComesTo, CameTo, HasRepeat, ways_of, AreWaysKept, HasSame, IsKeptOnce, StandAsWell}
use Rattle.looseparts.specs.declared.gone_way.GoneWay.{GoneWay}
use Rattle.looseparts.proofs.Lists.{contains_here, contains_later, contains_none, contains_split, contains_mapped, all_contained}
use Rattle.looseparts.proofs.Covering.{none_both, stepping}

-- a way is gone step by step

pub gone_nowhere : (class : ℕ → ℕ) (m : MachineView) → IsInOrder (state_at m) → IsWayGone class m [] m
gone_nowhere class m order =
    record {
      order = order;
      steps = [];
      there = (state_at m, order);
      run = refl;
      actors = refl;
      none_ends = λ going. tt;
      alike = states_in-same class (state_at m);
      new_order = order;
      lines_are = sym (append-nil m.lines);
    }

pub gone_more : (class : ℕ → ℕ) (old m new : MachineView) (way : List LooseTransition) (actor : LooseTransition) (note : NoteView) → m.code ≡ old.code → IsWayGone class old way m → IsActorStep class m actor note new → IsWayGone class old (way ++ actor ∷ []) new
gone_more class old m new way actor note code g step =
    let design = design_of old.code in
    let moves : Moves OrderedState LooseTransition Footprint = loose_moves class design in
    let laws : AreMoves moves = loose_steps_are_moves class design in
    let move : IsMove class design (state_at m) actor step.own step.after = subst (λ (k : Compiled). IsMove class (design_of k) (state_at m) actor step.own step.after) code step.steps in
    let (v, move', near) = laws.steps_alike (state_at m, g.new_order) g.there (step.after, step.after_order) actor step.own (states_in-sym class g.there.0 (state_at m) g.alike) move in
    let last : List (LooseTransition × Footprint) = (actor, step.own) ∷ [] in
    let stood : m.core.finished ≡ false = (stepping class design (state_at m, g.new_order) (step.after, step.after_order) actor step.own move).1 in
    record {
      order = g.order;
      steps = g.steps ++ last;
      there = v;
      run = runs_both OrderedState LooseTransition Footprint moves (state_at old, g.order) g.there v g.steps last g.run (v, move', refl);
      actors = map-append (λ (x : LooseTransition × Footprint). x.0) g.steps last ∙ ap (λ z. z ++ actor ∷ []) g.actors;
      none_ends = λ going. none_both (λ (f : Footprint). f.finishes ≡ true) g.steps last (g.none_ends stood) ((λ ended. never_true step.own.finishes ended (step.ends ∙ going)), tt);
      alike = states_in-trans class v.0 step.after (state_at new) (states_in-sym class step.after v.0 near) step.alike;
      new_order = step.new_order;
      lines_are = step.lines_are ∙ (ap (λ z. z ++ step.own.lines) g.lines_are ∙ (append_assoc old.lines (printed_by_steps moves.prints g.steps) step.own.lines
          ∙ ap (λ z. old.lines ++ z) (ap (λ z. printed_by_steps moves.prints g.steps ++ z) (sym (append-nil step.own.lines)) ∙ sym (printed_both OrderedState LooseTransition Footprint moves g.steps last))));
    }

-- steps of the same actors from one state are the same, and lead to states that are alike

same_head : {X : Type 0} (a b : X) (xs ys : List X) → a ∷ xs ≡ b ∷ ys → a ≡ b
same_head {X} a b xs ys h = cc

same_tail : {X : Type 0} (a b : X) (xs ys : List X) → a ∷ xs ≡ b ∷ ys → xs ≡ ys
same_tail {X} a b xs ys h = cc

same_pair : {X Y : Type 0} (a b : X) (f g : Y) → a ≡ b → f ≡ g → ◌≡◌ {A = X × Y} (a, f) (b, g)
same_pair {X} {Y} a b f g h k = cc

same_list : {X : Type 0} (a b : X) (xs ys : List X) → a ≡ b → xs ≡ ys → a ∷ xs ≡ b ∷ ys
same_list {X} a b xs ys h k = cc

module _ (S L F : Type 0) (moves : Moves S L F) (laws : AreMoves moves) where
  same_run : (s t u : S) (w x : List (L × F)) → map (λ (x : L × F). x.0) w ≡ map (λ (x : L × F). x.0) x → IsRunOfMoves moves s w t → IsRunOfMoves moves s x u → (w ≡ x) × moves.Alike t u
  same_run s t u [] [] is run run' = (refl, runs_once S L F moves laws s t u [] run run')
  same_run s t u [] (y ∷ ys) is run run' = cc
  same_run s t u (x ∷ xs) [] is run run' = cc
  same_run s t u ((a, f) ∷ xs) ((b, g) ∷ ys) is (m, step, later) (n, step', later') =
      let owner : a ≡ b = same_head a b (map (λ (x : L × F). x.0) xs) (map (λ (x : L × F). x.0) ys) is in
      let rest : map (λ (x : L × F). x.0) xs ≡ map (λ (x : L × F). x.0) ys = same_tail a b (map (λ (x : L × F). x.0) xs) (map (λ (x : L × F). x.0) ys) is in
      let (print, near) = laws.one_step s m n a f g step (subst (λ z. moves.Steps s z g n) (sym owner) step') in
      let (v, later'', near') = alike_runs S L F moves laws n m u ys (laws.back m n near) later' in
      let (same, near'') = same_run m t v xs ys rest later later'' in (
        same_list {X = L × F} (a, f) (b, g) xs ys (same_pair a b f g owner print) same,
        laws.through t v u near'' (laws.back u v near'),
      )

-- one key is that of states that are alike
keys_alike : (class : ℕ → ℕ) (one other : MachineView) (key : List ℕ) → one.code ≡ other.code → one.core.controls ≡ controls_of one.code → other.core.controls ≡ controls_of other.code → IsClassKey class one.core one.values key → IsClassKey class other.core other.values key → AlikeIn class (state_at one) (state_at other)
keys_alike class one other key code of_one of_other keyed keyed' =
    let controls : one.core.controls ≡ other.core.controls = of_one ∙ (ap controls_of code ∙ sym of_other) in
    subst (λ (k : Compiled). AlikeIn class (state_at one) (state_of (remainder_of_state k) other.values other.core)) code
    (class_keys_tell_states class (remainder_of_state one.code) one.core other.core one.values other.values key controls keyed keyed')

among_by : (P : LooseTransition → Type 0) (w : List (LooseTransition × Footprint)) → All P (actors_of w) → AreAmong P w
among_by P [] all = tt
among_by P (x ∷ w) all = (All-head P x.0 (actors_of w) all, among_by P w (All-tail P x.0 (actors_of w) all))

-- one way more is gone

module _ (class : ℕ → ℕ) (m : MachineView) (over : Bool) where
  pub none_kept : AreWaysKept class m over [] []
  none_kept = record { came = All-nil (CameTo class m over); repeats = All-nil (HasRepeat class m over []) }

  repeat_stays : (old new : List GoneWay) → ((one : GoneWay) → Contains old one → Contains new one) → (way : List LooseTransition) → HasRepeat class m over old way → HasRepeat class m over new way
  repeat_stays old new stays way (one, there, comes) = (one, stays one there, comes)

  pub kept_more : (ways : List (Vec LooseTransition)) (at : ℕ) (d way : Vec LooseTransition) (old new : List GoneWay) (gone : GoneWay) → at < length ways → get_or ways at d ≡ way → gone.way.items ≡ way.items → ComesTo class m way.items over gone.lines.items gone.key.items
      → IsKeptOnce old gone new → AreWaysKept class m over (ways_in (take at ways)) old → AreWaysKept class m over (ways_in (take (at + 1) ways)) new
  kept_more ways at d way old new gone below is same comes once before =
      let split : ways_in (take (at + 1) ways) ≡ ways_in (take at ways) ++ way.items ∷ [] =
      ap ways_in (take_more ways at d below) ∙ map-append (λ (w : Vec LooseTransition). w.items) (take at ways) (get_or ways at d ∷ []) ∙ ap (λ (z : Vec LooseTransition). ways_in (take at ways) ++ z.items ∷ []) is in
      let own : CameTo class m over gone = subst (λ z. ComesTo class m z over gone.lines.items gone.key.items) (sym same) comes in
      let to_one : ComesTo class m way.items over once.same.one.lines.items once.same.one.key.items =
      subst (λ z. ComesTo class m way.items over z once.same.one.key.items) (sym once.same.same_lines) (subst (λ z. ComesTo class m way.items over gone.lines.items z) (sym once.same.same_key) comes) in
      record {
        came = all_contained (CameTo class m over) new (old ++ gone ∷ []) once.no_others (All-push (CameTo class m over) old gone before.came own);
        repeats = subst (All (HasRepeat class m over new)) (sym split)
            (All-push (HasRepeat class m over new) (ways_in (take at ways)) way.items
            (All-weaker (HasRepeat class m over old) (HasRepeat class m over new) (repeat_stays old new once.stays) (ways_in (take at ways)) before.repeats) (once.same.one, once.same.there, to_one));
      }

-- a way is kept once

pub known_once : (old : List GoneWay) (gone : GoneWay) → HasSame old gone → IsKeptOnce old gone old
known_once old gone same = record { stays = λ other among. among; no_others = λ other among. Contains-append_left old (gone ∷ []) other among; same = same }

pub new_once : (old new : List GoneWay) (gone : GoneWay) → new ≡ old ++ gone ∷ [] → IsKeptOnce old gone new
new_once old new gone is =
    record {
      stays = λ other among. subst (λ z. Contains z other) (sym is) (Contains-append_left old (gone ∷ []) other among);
      no_others = λ other among. subst (λ z. Contains z other) is among;
      same = record {
        one = gone;
        there = subst (λ z. Contains z gone) (sym is) (Contains-append_right old (gone ∷ []) gone (contains_here gone []));
        same_lines = refl;
        same_key = refl;
      };
    }

-- those that are kept stand for all

module _ (class : ℕ → ℕ) (p : MachineView) (notes : List NoteView) where
  -- the machine without its lines
  abbrev m : MachineView
  m = record p { lines = [] }

  abbrev design : Design
  design = design_of p.code

  abbrev moves : Moves OrderedState LooseTransition Footprint
  moves = loose_moves class design

  laws : AreMoves moves
  laws = loose_steps_are_moves class design

  -- the run of a way, in whatever order the events are told to stand
  abbrev HasRun : IsInOrder (state_at p) → List LooseTransition → MachineView → List ℕ → List (LooseTransition × Footprint) → Type 0
  HasRun order way end lines w =
      (u : OrderedState) × IsRunOfMoves moves (state_at p, order) w u × (actors_of w ≡ way) × AlikeIn class u.0 (state_at end) × (printed_by_steps moves.prints w ≡ lines)

  runs_by : (order : IsInOrder (state_at p)) (way : List LooseTransition) (over : Bool) (lines key : List ℕ) (c : ComesTo class m way over lines key) → HasRun order way c.end lines c.gone.steps
  runs_by order way over lines key c =
      let g = c.gone in
      let (u, run, near) = alike_runs OrderedState LooseTransition Footprint moves laws (state_at p, g.order) (state_at p, order) g.there g.steps (states_in-same class (state_at p)) g.run in (
        u,
        run,
        g.actors,
        states_in-trans class u.0 g.there.0 (state_at c.end) (states_in-sym class g.there.0 u.0 near) g.alike,
        sym g.lines_are ∙ c.told,
      )

  -- the runs of the ways that are kept
  abbrev IsRunAmong : Bool → List (List (LooseTransition × Footprint)) → GoneWay → Type 0
  IsRunAmong over runs one = (d : CameTo class m over one) × Contains runs d.gone.steps

  abbrev Gathered : Bool → List GoneWay → Type 0
  Gathered over kept =
      (runs : List (List (LooseTransition × Footprint))) × ((w : List (LooseTransition × Footprint)) → Contains runs w → Contains (ways_of kept) (actors_of w))
      × ((one : GoneWay) → Contains kept one → IsRunAmong over runs one)

  gathered : (over : Bool) (kept : List GoneWay) → All (CameTo class m over) kept → Gathered over kept
  gathered over [] each = ([], (λ w there. absurd (contains_none w there)), (λ one there. absurd (contains_none one there)))
  gathered over (k ∷ kept) each =
      let d : CameTo class m over k = All-head (CameTo class m over) k kept each in
      let (runs, are, have) = gathered over kept (All-tail (CameTo class m over) k kept each) in (
        d.gone.steps ∷ runs,
        (λ w there.
            elim (contains_split w d.gone.steps runs there) [
              | inl is ↦
                  subst (λ z. Contains (ways_of (k ∷ kept)) (actors_of z)) is
                  (subst (Contains (ways_of (k ∷ kept))) (sym d.gone.actors) (contains_here k.way.items (ways_of kept)))
              | inr later ↦ contains_later (actors_of w) k.way.items (ways_of kept) (are w later)
            ]),
        (λ one there.
            elim (contains_split one k kept there) [
              | inl is ↦ subst (IsRunAmong over (d.gone.steps ∷ runs)) is (d, contains_here d.gone.steps runs)
              | inr later ↦
                  let (e, among) = have one later in
                  (e, contains_later e.gone.steps d.gone.steps runs among)
            ]),
      )

  module _ (ways ends : List (List LooseTransition)) (kept : List GoneWay) (are : AreWaysKept class m false ways kept) (concerned : All (λ gone. All (λ a. concern notes a ≡ true) gone.way.items) kept)
      (h : StandTogether class design (state_at p) ways ends notes) (g : Gathered false kept) where
    whole_by : (w : List (LooseTransition × Footprint)) (t : OrderedState) → RunsAlone moves (concern notes) (state_at p, h.order) w t → ((a : LooseTransition) → concern notes a ≡ true → moves.Waits t a → ⊥)
        → HasWayTo moves (concern notes) (state_at p, h.order) g.0 t (printed_by_steps moves.prints w)
    whole_by w t alone over =
        let (y, v, there, (run_y, of_y, none_y), near, prints) = h.stands.whole w t alone over in
        let (one, among, e) = All-contains (HasRepeat class m false kept) ways (actors_of y) are.repeats (h.ways_are y there) in
        let (d, runs) = g.2 one among in
        let (u, run_e, same_e, near_e, prints_e) = runs_by h.order (actors_of y) false one.lines.items one.key.items e in
        let (z, run_d, same_d, near_d, prints_d) = runs_by h.order one.way.items false one.lines.items one.key.items d in
        let (same, near_y) = same_run OrderedState LooseTransition Footprint moves laws (state_at p, h.order) v u y e.gone.steps (sym same_e) run_y run_e in
        let alike : AlikeIn class (state_at e.end) (state_at d.end) = keys_alike class e.end d.end one.key.items (e.same_code ∙ sym d.same_code) e.controls d.controls (e.keyed refl) (d.keyed refl) in
        let to_e : AlikeIn class t.0 (state_at e.end) = states_in-trans class t.0 u.0 (state_at e.end) (states_in-trans class t.0 v.0 u.0 near near_y) near_e in
        let to_d : AlikeIn class t.0 z.0 = states_in-trans class t.0 (state_at d.end) z.0 (states_in-trans class t.0 (state_at e.end) (state_at d.end) to_e alike) (states_in-sym class z.0 (state_at d.end) near_d) in
        let own : All (λ a. concern notes a ≡ true) one.way.items = All-contains (λ gone. All (λ a. concern notes a ≡ true) gone.way.items) kept one concerned among in
        let among_d : AreAmong (λ a. concern notes a ≡ true) d.gone.steps = among_by (λ a. concern notes a ≡ true) d.gone.steps (subst (All (λ a. concern notes a ≡ true)) (sym same_d) own) in (
          d.gone.steps,
          z,
          runs,
          (run_d, among_d, d.gone.none_ends d.finished),
          to_d,
          prints_d ∙ (sym prints_e ∙ (ap (printed_by_steps moves.prints) (sym same) ∙ prints)),
        )

    kept_stand : StandTogether class design (state_at p) (ways_of kept) ends notes
    kept_stand =
        record {
          order = h.order;
          found = record { ways = g.0; texts = h.found.texts; summary = h.found.summary };
          stands = record { within = h.stands.within; kept = h.stands.kept; goes_on = h.stands.goes_on; whole = whole_by; ended = h.stands.ended };
          told = h.told;
          ways_are = g.1;
          ends_are = h.ends_are;
        }

  module _ (ways ends : List (List LooseTransition)) (kept : List GoneWay) (are : AreWaysKept class m true ends kept) (h : StandTogether class design (state_at p) ways ends notes) where
    ends_by : (text : List ℕ) → EndsBy class design (state_at p, h.order) ends text → EndsBy class design (state_at p, h.order) (ways_of kept) text
    ends_by text (w, t, run, finished, prints, there) =
        let (one, among, e) = All-contains (HasRepeat class m true kept) ends (actors_of w) are.repeats there in
        let (u, run_e, same_e, near_e, prints_e) = runs_by h.order (actors_of w) true one.lines.items one.key.items e in
        let (same, near_w) = same_run OrderedState LooseTransition Footprint moves laws (state_at p, h.order) t u w e.gone.steps (sym same_e) run run_e in
        let d : CameTo class m true one = All-contains (CameTo class m true) kept one are.came among in
        let (z, run_d, same_d, near_d, prints_d) = runs_by h.order one.way.items true one.lines.items one.key.items d in (
          d.gone.steps,
          z,
          run_d,
          near_d.finished ∙ d.finished,
          prints_d ∙ (sym prints_e ∙ (ap (printed_by_steps moves.prints) (sym same) ∙ prints)),
          subst (Contains (ways_of kept)) (sym same_d) (contains_mapped (λ (gone : GoneWay). gone.way.items) kept one among),
        )

    kept_end : StandTogether class design (state_at p) ways (ways_of kept) notes
    kept_end =
        record {
          order = h.order;
          found = h.found;
          stands = h.stands;
          told = h.told;
          ways_are = h.ways_are;
          ends_are = λ text there. ends_by text (h.ends_are text there);
        }

  -- in place of all that were gone

  pub as_well_same : (over : Bool) (ways : List (List LooseTransition)) → StandAsWell class p notes over ways ways
  as_well_same over ways = record { on = λ is ends h. h; to_ends = λ is others h. h }

  pub as_well : (over : Bool) (old new : List (List LooseTransition)) (kept : List GoneWay) → new ≡ ways_of kept → AreWaysKept class m over old kept → All (λ gone. All (λ a. concern notes a ≡ true) gone.way.items) kept → StandAsWell class p notes over old new
  as_well over old new kept is are concerned =
      record {
        on = λ here ends h.
            let are' : AreWaysKept class m false old kept = subst (λ z. AreWaysKept class m z old kept) here are in
            subst (λ z. StandTogether class design (state_at p) z ends notes) (sym is) (kept_stand old ends kept are' concerned h (gathered false kept are'.came));
        to_ends = λ here ways h.
            subst (λ z. StandTogether class design (state_at p) ways z notes) (sym is) (kept_end ways old kept (subst (λ z. AreWaysKept class m z old kept) here are) h);
      }
