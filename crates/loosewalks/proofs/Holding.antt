-- Steps that a machine took while processes are held are moves of which the notes tell, and the way behind which these are taken stands for
-- all.
use Rattle.std.proofs.Common.{◌≡◌, ◌≢◌, ◌⊎◌, ℕ, Bool, true, false, ◌==◌, List, [], ◌∷◌, ◌++◌, Option, Some, None, refl, sym, ap, subst, ◌∙◌, true≢false, inl, inr, arith}
use Rattle.std.specs.Prelude.{option_map, slice_get}
use Rattle.std.specs.List.{All, list_any}
use Rattle.std.proofs.lemmas.List.Elements.{All-head, All-tail}
use Rattle.model.specs.declared.entry.Entry.{Entry}
use Rattle.model.specs.declared.entry.Entry.TheVariants.{Turn, Update, ActivateInactive, ActivateNba, ActivateMonitor, Advance}
use Rattle.model.specs.declared.end.Limits.{Limits}
use Rattle.model.specs.Design.{Design, Trigger}
use Rattle.model.specs.Expressions.{Store}
use Rattle.model.specs.Turns.{contains}
use Rattle.model.specs.Turns as turns
use Rattle.model.specs.States.{Action, Evaluate, Continuation, State}
use Rattle.model.specs.Runs.{action_in, turn_of}
use Rattle.orders.specs.Alike.{IsInOrder}
use Rattle.orders.proofs.AlikeSteps.{continuation_of}
use Rattle.design.specs.Compiled.{Compiled, design_of}
use Rattle.regions.specs.Machine.{MachineView, state_at}
use Rattle.phases.specs.Phase.{IsActive, Block, IsTurnPending, IsBlockWaiting, SettleBetween, IsOutput}
use Rattle.combinational.specs.declared.network.Network.{Network}
use Rattle.combinational.specs.Found.{rank_in}
use Rattle.settling.specs.declared.sleepers.Sleeper.{Sleeper}
use Rattle.settling.specs.Settling.{block_or, block_at, ArePendingOrSettled, MayBeHeld, AreSleepers, sleeping}
use Rattle.settling.proofs.Sleeping.{with_logic, of_sleeping}
use Rattle.settling.proofs.Phases.{settled_so}
use Rattle.loose.specs.declared.transition.LooseTransition.{LooseTransition}
use Rattle.loose.specs.declared.transition.LooseTransition.TheVariants.{Process, FirstOf, Change}
use Rattle.loose.specs.Loose.{loose_transition_of, loose_transition_of_action}
use Rattle.loose.proofs.LooseSteps.{step_is_loose, loose_step_keeps_order}
use Rattle.loosephases.specs.Held.{AreHeldMembers}
use Rattle.traces.specs.Certificates.{HoldsOf}
use Rattle.traces.proofs.RunLaws.{runs_both}
use Rattle.footprints.specs.Footprints.{Footprint, turn_footprint, action_footprint, footprint}
use Rattle.footprints.specs.Moves.{OrderedState}
use Rattle.footprints.proofs.Steps.{some_same}
use Rattle.certificates.specs.Notes.{NoteView, TellsOf}
use Rattle.certificates.specs.CertificateLaws.{IsReachedLoosely}
use Rattle.heldmoves.specs.WithoutHeld.{asleep_if, without_held}
use Rattle.heldmoves.specs.HeldMoves.{IsHeldMove, held_moves}
use Rattle.heldmoves.proofs.LeftAside.{was_there, asleep_at, length_asleep}
use Rattle.heldways.specs.Passing.{Passing, AllPass, AreDeaf, put_to_sleep}
use Rattle.heldways.specs.HeldWays.{StepKeepsOff, HasConeOfAll, HasHeldWay, IsLikeLooselyReached, TransitionsTakeEvents}
use Rattle.heldways.proofs.HeldCovering.{held_way_covers}
use Rattle.noted.specs.NotedSteps.{IsEntryNoted, note_of}
use Rattle.passing.specs.SleepThroughNotes.{SleepThroughNotes}
use Rattle.loosewalks.specs.declared.active.NamedEntry.{NamedEntry}
use Rattle.loosewalks.specs.EventWays.{AreOfActors}
use Rattle.loosewalks.specs.LooseWalking.{IsEventStep, IsSoleLooseWay, TakenLoosely}
use Rattle.loosewalks.specs.Held.{HasConeAt, NoteKeepsOff, KeptOff, HasAddedHeldNote, AreNotesOf, AreOthersSteps, TakesOthers, HasHeld, HasHeldUntilSettled}
use Rattle.loosewalks.proofs.PhaseWays.{way_time}
use Rattle.loosewalks.proofs.Walks.{takes_none, takes_more, some_moves}
use Rattle.loosewalks.proofs.Certifying.{tell_more, one_transition}

-- the owner of a footprint without what is held is the entry's transition

turn_owner : (class : ℕ → ℕ) (s : State) (p : ℕ) (f : Footprint) (o : Option turns.Turn) → option_map (turn_footprint class s p) o ≡ Some f → Process p ≡ f.owner
turn_owner class s p f None is = cc
turn_owner class s p f (Some t) is = ap (λ (g : Footprint). g.owner) (some_same (turn_footprint class s p t) f is)

action_owner : (class : ℕ → ℕ) (design : Design) (held : ℕ → Bool) (s : State) (n : ℕ) (f : Footprint) (o : Option Action) → IsInOrder s → action_in (without_held held s).active n ≡ o → action_footprint class design (without_held held s) o ≡ Some f
    → loose_transition_of_action class (action_in s.active n) ≡ Some f.owner
action_owner class design held s n f None order at is = cc
action_owner class design held s n f (Some (Evaluate p)) order at is =
    let (was, other) = was_there held n 0 s.next_event (Evaluate p) s.active order.active at in
    ap (loose_transition_of_action class) was ∙ ap Some (turn_owner class (without_held held s) p f (turn_of design (without_held held s) p) is)
action_owner class design held s n f (Some (Action.Update r v)) order at is =
    let (was, other) = was_there held n 0 s.next_event (Action.Update r v) s.active order.active at in
    ap (loose_transition_of_action class) was ∙ ap (λ (o : Option Footprint). option_map (λ (g : Footprint). g.owner) o) is

entry_owner : (class : ℕ → ℕ) (design : Design) (held : ℕ → Bool) (s : State) (entry : Entry) (f : Footprint) → IsInOrder s → footprint class design (without_held held s) entry ≡ Some f → loose_transition_of class s entry ≡ Some f.owner
entry_owner class design held s (Turn n) f order is = action_owner class design held s n f (action_in (without_held held s).active n) order refl is
entry_owner class design held s (Update n) f order is = action_owner class design held s n f (action_in (without_held held s).active n) order refl is
entry_owner class design held s ActivateInactive f order is = cc
entry_owner class design held s ActivateNba f order is = cc
entry_owner class design held s ActivateMonitor f order is = cc
entry_owner class design held s (Advance time) f order is = cc

-- one step more

record IsHeldNotedMove (class : ℕ → ℕ) (held : List ℕ) (old new : MachineView) (named : NamedEntry) (note : NoteView) : Type 0 where
  own : Footprint
  order : IsInOrder (state_at new)
  step : IsHeldMove class (design_of old.code) (contains held) (state_at old) named.transition own (state_at new)
  owner : named.transition ≡ note.owner
  tells : TellsOf note own
  exact : note ≡ note_of own

noted_move : (class : ℕ → ℕ) (held : List ℕ) (old new : MachineView) (named : NamedEntry) (notes more : List NoteView) (way longer : List LooseTransition) (added : HasAddedHeldNote class held old named new notes more way longer) → IsInOrder (state_at old)
    → loose_transition_of class (state_at old) named.entry ≡ Some named.transition → IsHeldNotedMove class held old new named added.note
noted_move class held old new named notes more way longer added order its =
    let design = design_of old.code in
    let noted : IsEntryNoted class old.code (without_held (contains held) (state_at old)) named.entry added.note = added.noted in
    let loosely = step_is_loose class design (state_at old) named.entry added.taken.effect added.taken.is_step in
    let own : loose_transition_of class (state_at old) named.entry ≡ Some noted.own.owner = entry_owner class design (contains held) (state_at old) named.entry noted.own order noted.own_is in
    let same : noted.own.owner ≡ named.transition = one_transition (loose_transition_of class (state_at old) named.entry) noted.own.owner named.transition own its in
    record {
      own = noted.own;
      order = subst IsInOrder added.taken.state_is (loose_step_keeps_order class design (state_at old) named.entry added.taken.effect order loosely);
      step = (named.entry, added.taken.effect, loosely, noted.own_is, same, added.taken.state_is);
      owner = sym same ∙ noted.tells.owner;
      tells = noted.tells;
      exact = noted.is;
    }

notes_more : (notes : List NoteView) (w : List (LooseTransition × Footprint)) (note : NoteView) (a : LooseTransition) (f : Footprint) → AreNotesOf notes w → note ≡ note_of f → AreNotesOf (notes ++ note ∷ []) (w ++ (a, f) ∷ [])
notes_more [] [] note a f all exact = (exact, tt)
notes_more [] (x ∷ w) note a f all exact = absurd all
notes_more (n ∷ notes) [] note a f all exact = absurd all
notes_more (n ∷ notes) (x ∷ w) note a f (first, all) exact = (first, notes_more notes w note a f all exact)

steps_more : (class : ℕ → ℕ) (held : List ℕ) (old mid new : MachineView) (order : IsInOrder (state_at old)) (notes : List NoteView) (named : NamedEntry) (note : NoteView) → AreOthersSteps class held old order notes mid → mid.code ≡ old.code
    → (IsInOrder (state_at mid) → IsHeldNotedMove class held mid new named note) → AreOthersSteps class held old order (notes ++ note ∷ []) new
steps_more class held old mid new order notes named note so_far code next =
    let one : IsHeldNotedMove class held mid new named note = next so_far.new_order in
    let step : IsHeldMove class (design_of old.code) (contains held) (state_at mid) named.transition one.own (state_at new) =
    subst (λ (k : Compiled). IsHeldMove class (design_of k) (contains held) (state_at mid) named.transition one.own (state_at new)) code one.step in
    let last : OrderedState = (state_at new, one.order) in
    record {
      steps = so_far.steps ++ (named.transition, one.own) ∷ [];
      new_order = one.order;
      runs = runs_both OrderedState LooseTransition Footprint (held_moves class (design_of old.code) (contains held)) (state_at old, order) (state_at mid, so_far.new_order) last so_far.steps ((named.transition, one.own) ∷ []) so_far.runs (last, step, refl);
      tells = tell_more notes so_far.steps note named.transition one.own so_far.tells one.owner one.tells;
      exact = notes_more notes so_far.steps note named.transition one.own so_far.exact one.exact;
    }

pub others_none : (class : ℕ → ℕ) (limits : Limits) (held : List ℕ) (m : MachineView) (notes : List NoteView) (moves : List LooseTransition) → notes ≡ [] → moves ≡ [] → TakesOthers class limits held m notes moves m
others_none class limits held m notes moves none none' =
    subst (λ (l : List NoteView). TakesOthers class limits held m l moves m) (sym none)
    (subst (λ (l : List LooseTransition). TakesOthers class limits held m [] l m) (sym none')
    (record { takes = takes_none class limits m [] refl; noted = λ order. record { steps = []; new_order = order; runs = refl; tells = tt; exact = tt } }))

pub others_more : (class : ℕ → ℕ) (limits : Limits) (held : List ℕ) (old mid new : MachineView) (notes more : List NoteView) (way longer : List LooseTransition) (named : NamedEntry) → TakesOthers class limits held old notes way mid → mid.code ≡ old.code
    → IsEventStep class (state_at mid) named → HasAddedHeldNote class held mid named new notes more way longer → TakesOthers class limits held old more longer new
others_more class limits held old mid new notes more way longer named so_far code event added =
    subst (λ (l : List NoteView). TakesOthers class limits held old l longer new) (sym added.notes_are)
    (record {
      takes = takes_more class limits old mid new way longer named so_far.takes code event added.taken added.count added.way_is;
      noted = λ order.
          steps_more class held old mid new order notes named added.note (so_far.noted order) code
          (λ order'. noted_move class held mid new named notes more way longer added order' event.transition_is);
    })

-- a process that sleeps waits for nothing, and another for what it waits for

asleep_quiet : (b : Bool) (x : Continuation) (r : ℕ) → (b ≡ false → list_any (λ (t : Trigger). t.1 == r) x.triggers ≡ false) → list_any (λ (t : Trigger). t.1 == r) (asleep_if b x).triggers ≡ false
asleep_quiet true x r h = refl
asleep_quiet false x r h = h refl

no_sleeper_if : (held sleepers : List ℕ) (p : ℕ) (sleeps : Bool) → contains sleepers p ≡ sleeps → ((q : ℕ) → contains sleepers q ≡ true → contains held q ≡ false) → contains held p ≡ true → contains sleepers p ≡ false
no_sleeper_if held sleepers p true is outside member = absurd (true≢false (sym member ∙ outside p is))
no_sleeper_if held sleepers p false is outside member = is

abbrev NotePasses : Passing → NoteView → Type 0
NotePasses passes note = AllPass passes note.changes

abbrev DeafAt : State → Passing → ℕ → Type 0
DeafAt s passes q = AreDeaf passes (continuation_of s.processes q).triggers

-- who sleeps by what was kept of a start sleeps from there
pub asleep_from_there : (code own : Compiled) (network : Network) (held cone : List ℕ) (values store : Store) (time now : ℕ) (notes others : List NoteView) (sleepers : List Sleeper) → code ≡ own → values ≡ store → time ≡ now → notes ≡ others
    → SleepThroughNotes code network held cone values time notes sleepers → SleepThroughNotes own network held cone store now others sleepers
asleep_from_there code own network held cone values store time now notes others sleepers codes stores times same sleep =
    subst (λ (k : Compiled). SleepThroughNotes k network held cone store now others sleepers) codes
    (subst (λ (a : Store). SleepThroughNotes code network held cone a now others sleepers) stores
    (subst (λ (n : ℕ). SleepThroughNotes code network held cone values n others sleepers) times
    (subst (λ (ns : List NoteView). SleepThroughNotes code network held cone values time ns sleepers) same sleep)))

module _ (old new : MachineView) (network : Network) (held : List ℕ) where
  abbrev s : State
  s = state_at old

  abbrev blocks : ℕ → Block
  blocks = block_at old.code network

  -- a member goes on where the sleepers wait for nothing as it did
  member_awake : (sleepers : List ℕ) (p : ℕ) → ((q : ℕ) → contains sleepers q ≡ true → contains held q ≡ false) → contains held p ≡ true → continuation_of (put_to_sleep sleepers s).processes p ≡ continuation_of s.processes p
  member_awake sleepers p outside member =
      asleep_at (contains sleepers) p s.processes ∙ ap (λ b. asleep_if b (continuation_of s.processes p)) (no_sleeper_if held sleepers p (contains sleepers p) refl outside member)

  stands_asleep : (sleepers : List ℕ) (p : ℕ) → continuation_of (put_to_sleep sleepers s).processes p ≡ continuation_of s.processes p → IsTurnPending s p (blocks p) ⊎ IsBlockWaiting s p (blocks p)
      → IsTurnPending (put_to_sleep sleepers s) p (blocks p) ⊎ IsBlockWaiting (put_to_sleep sleepers s) p (blocks p)
  stands_asleep sleepers p same (inl (one, continuation)) = inl (one, same ∙ continuation)
  stands_asleep sleepers p same (inr (none, continuation)) = inr (none, same ∙ continuation)

  is_held : (sleepers : List Sleeper) → MayBeHeld old.code s network held → AreSleepers old.code s network held sleepers
      → AreHeldMembers (design_of old.code) (put_to_sleep (sleeping sleepers) s) held blocks (rank_in network.ranks.items)
  is_held sleepers may are =
      record {
        goes_on = may.goes_on;
        exist = λ p member. omega (arith, may.exist p member, length_asleep (contains (sleeping sleepers)) 0 s.processes);
        blocks = may.blocks;
        stands = λ p member. stands_asleep (sleeping sleepers) p (member_awake (sleeping sleepers) p are.outside member) (may.stands p member);
        single = may.single;
        updates = may.updates;
        order = may.order;
        others = λ q r none out.
            ap (λ (x : Continuation). list_any (λ (t : Trigger). t.1 == r) x.triggers) (asleep_at (contains (sleeping sleepers)) q s.processes)
            ∙ asleep_quiet (contains (sleeping sleepers) q) (continuation_of s.processes q) r (λ awake. are.others q r none awake out);
      }

  cone_on : (touched cone pending : List ℕ) (p q r : ℕ) → HasConeAt network pending touched cone p → contains (blocks p).inputs q ≡ true → (contains touched q ≡ true) ⊎ (contains cone q ≡ true) → contains (blocks p).outputs r ≡ true → contains cone r ≡ true
  cone_on touched cone pending p q r at input there out =
      let (logic, found, own) = with_logic old.code network p r (slice_get network.logics.items p) refl out in
      at.goes_on q r logic found (ap (λ o. contains (block_or old.code o).inputs q) (sym found) ∙ input) there own

  cone_first : (touched cone pending : List ℕ) (p r : ℕ) → HasConeAt network pending touched cone p → contains pending p ≡ true → contains (blocks p).outputs r ≡ true → contains cone r ≡ true
  cone_first touched cone pending p r at active out =
      let (logic, found, own) = with_logic old.code network p r (slice_get network.logics.items p) refl out in
      at.begins r logic found active own

  has_cone : (notes : List NoteView) (pending : List ℕ) → ((p : ℕ) → IsActive s p → contains pending p ≡ true) → (touched cone : List ℕ) (off : KeptOff network held pending touched cone notes) → HasConeOfAll s held blocks touched cone
  has_cone notes pending active touched cone off =
      record {
        pending = record {
          begins = λ p r member is out. cone_first touched cone pending p r (off.has_cone p member) (active p is) out;
          goes_on = λ p q r member input there out. cone_on touched cone pending p q r (off.has_cone p member) input (inr there) out;
        };
        woken = λ p q r member input there out. cone_on touched cone pending p q r (off.has_cone p member) input (inl there) out;
      }

  is_listed : (notes : List NoteView) (pending touched cone : List ℕ) (off : KeptOff network held pending touched cone notes) (r : ℕ) → IsOutput held blocks r → contains off.outputs r ≡ true
  is_listed notes pending touched cone off r (p, member, out) =
      let (logic, found, own) = with_logic old.code network p r (slice_get network.logics.items p) refl out in
      off.outputs_are p r logic member found own

  step_keeps : (notes : List NoteView) (pending touched cone : List ℕ) (off : KeptOff network held pending touched cone notes) (note : NoteView) (f : Footprint) → note ≡ note_of f → NoteKeepsOff off.outputs cone touched note
      → StepKeepsOff held blocks cone touched f
  step_keeps notes pending touched cone off note f exact keeps =
      let own : NoteKeepsOff off.outputs cone touched (note_of f) = subst (NoteKeepsOff off.outputs cone touched) exact keeps in
      record {
        uses = λ r used out. own.uses r used;
        writes = λ r wrote out. true≢false (sym (is_listed notes pending touched cone off r out) ∙ own.writes r wrote);
        waits = λ r out. own.waits r (is_listed notes pending touched cone off r out);
        goes_on = own.goes_on;
        changes = own.changes;
      }

  all_keep : (all : List NoteView) (pending touched cone : List ℕ) (off : KeptOff network held pending touched cone all) (notes : List NoteView) (w : List (LooseTransition × Footprint)) → AreNotesOf notes w → All (NoteKeepsOff off.outputs cone touched) notes
      → HoldsOf (StepKeepsOff held blocks cone touched) w
  all_keep all pending touched cone off [] [] exact keep = tt
  all_keep all pending touched cone off [] (x ∷ w) exact keep = absurd exact
  all_keep all pending touched cone off (note ∷ notes) [] exact keep = absurd exact
  all_keep all pending touched cone off (note ∷ notes) (x ∷ w) (first, exact) keep =
      let Keeps = NoteKeepsOff off.outputs cone touched in
      (step_keeps all pending touched cone off note x.1 first (All-head Keeps note notes keep), all_keep all pending touched cone off notes w exact (All-tail Keeps note notes keep))

  -- what notes say that passes passes in the steps
  all_pass : (passes : Passing) (notes : List NoteView) (w : List (LooseTransition × Footprint)) → AreNotesOf notes w → All (λ n. AllPass passes n.changes) notes → HoldsOf (λ f. AllPass passes f.changes) w
  all_pass passes [] [] exact pass = tt
  all_pass passes [] (x ∷ w) exact pass = absurd exact
  all_pass passes (note ∷ notes) [] exact pass = absurd exact
  all_pass passes (note ∷ notes) (x ∷ w) (first, exact) pass =
      let Pass = NotePasses passes in
      (subst (λ (n : NoteView). AllPass passes n.changes) first (All-head Pass note notes pass), all_pass passes notes w exact (All-tail Pass note notes pass))

  module _ (class : ℕ → ℕ) (limits : Limits) (moves : List LooseTransition) (done : HasHeld class limits old network held moves new) where
    certified_way : (order : IsInOrder s) → HasHeldWay class (design_of old.code) held blocks (rank_in network.ranks.items) s
    certified_way order =
        let sleepers : List Sleeper = done.sleepers in
        let steps : AreOthersSteps class (held ++ sleeping sleepers) old order done.notes done.mid = done.others.others.noted order in
        record {
          order = order;
          sleepers = sleeping sleepers;
          held = is_held sleepers done.may done.are_sleepers;
          steps = steps.steps;
          last = (state_at done.mid, steps.new_order);
          runs = steps.runs;
          certified = done.others.certify class (design_of old.code) steps.steps steps.tells;
          over = done.others.over;
          touched = done.touched;
          cone = done.cone;
          has_cone = has_cone done.notes done.pending done.active done.touched done.cone done.off;
          keep = all_keep done.notes done.pending done.touched done.cone done.off done.notes steps.steps steps.exact done.off.each;
          passes = done.asleep.passes;
          is_passing = done.asleep.is_passing;
          steps_pass = all_pass done.asleep.passes done.notes steps.steps steps.exact done.asleep.notes_pass;
          outputs_pass = done.asleep.outputs_pass done.may.blocks;
          sleep = record {
            outside = done.are_sleepers.outside;
            idle = done.are_sleepers.idle;
            deaf = λ q is.
                of_sleeping (DeafAt s done.asleep.passes) sleepers q
                (λ k d within. subst (λ (ts : List Trigger). AreDeaf done.asleep.passes ts) (sym (done.are_sleepers.wait k d within)) (done.asleep.deaf k d within)) is;
          };
        }

    take_events : (way : List LooseTransition) → AreOfActors way → TransitionsTakeEvents way
    take_events [] actors = tt
    take_events (Process p ∷ way) actors = take_events way actors
    take_events (FirstOf c ∷ way) actors = take_events way actors
    take_events (Change entry ∷ way) actors = absurd actors

    pub held_sole : s.active ≢ [] → ((state_at new).time ≡ s.time → SettleBetween (design_of old.code) held blocks s (state_at new)) → IsSoleLooseWay class limits old moves new
    held_sole some settle =
        record {
          taken = done.passed.takes.taken;
          sole = λ like.
              let come : IsReachedLoosely class (design_of old.code) like.effect.state = (like.journal, like.effect, like.reached, refl) in
              let near : IsLikeLooselyReached class (design_of old.code) s = record { comes_to = like.effect.state; reached = come; alike = like.alike } in
              let taken : TakenLoosely class limits old moves new = done.passed.takes.taken like.order in
              let time : (state_at new).time ≡ s.time =
              ap (λ (t : State). t.time) taken.state_is ∙ way_time class (design_of old.code) limits s taken.effect moves like.order done.passed.takes.actors taken.goes in
              let settled : SettleBetween (design_of old.code) held blocks s taken.effect.state = subst (λ (t : State). SettleBetween (design_of old.code) held blocks s t) taken.state_is (settle time) in
              let (covers, goes_on) =
              held_way_covers class (design_of old.code) limits held blocks (rank_in network.ranks.items) s taken.effect moves near (certified_way like.order)
              (some_moves class limits old new moves like.order done.passed.takes some done.passed.over) (take_events moves done.passed.takes.actors) taken.goes (ap (λ (t : State). t.active) (sym taken.state_is) ∙ done.passed.over)
              settled in
              record { covers = covers; goes_on = goes_on };
          count = done.passed.takes.count;
        }

  -- what was pending or settled settles
  pub settled_before : ArePendingOrSettled old.code s network held → SettleBetween (design_of old.code) held blocks s (state_at new)
  settled_before each p member = inl (settled_so old.code s network p (each p member))

  pub settled_sole : (class : ℕ → ℕ) (limits : Limits) (moves : List LooseTransition) → HasHeldUntilSettled class limits old network held moves new → s.active ≢ [] → IsSoleLooseWay class limits old moves new
  settled_sole class limits moves done some = held_sole class limits moves done.through some done.settle
