-- Whichever events come first where sleepers sleep through it, there is one loose node once none is active, and the others keep off.
use Rattle.std.proofs.Common.{◌≡◌, ℕ, Bool, true, false, List, ◌⊎◌, inl, inr, length, refl, sym, ap, ◌∙◌, true≢false}
use Rattle.model.specs.Design.{Design}
use Rattle.model.specs.Turns.{contains}
use Rattle.model.specs.States.{State}
use Rattle.orders.proofs.AlikeSteps.{continuation_of}
use Rattle.phases.specs.Phase.{Block, IsTurnPending, HasSettled, HasChangedInput, SettleBetween}
use Rattle.loose.specs.Loose.{AlikeIn}
use Rattle.certificates.proofs.OneEvent.{HasOneEvent}
use Rattle.heldmoves.specs.WithoutHeld.{asleep_if}
use Rattle.heldmoves.proofs.LeftAside.{asleep_at, length_asleep}
use Rattle.heldways.specs.Passing.{Passing, SleepThrough, put_to_sleep}
use Rattle.heldways.specs.HeldWays.{CertifiedKeepOff, HeldEndsInOneNode}
use Rattle.heldways.proofs.OneEventEach.{like_has_one}
use Rattle.heldways.proofs.WaysKept.{keep_off_at}
use Rattle.heldways.proofs.HeldEnds.{same_continuation, ends_in_one_node}
use Rattle.heldways.proofs.Asleep.{put_effect_to_sleep}
use Rattle.heldways.proofs.Passed.{SleepSince}
use Rattle.heldways.proofs.AsleepRuns.{events_asleep, certified_asleep, ends_asleep}

-- members settle where the sleepers wait for nothing as they do where these wait

no_sleeper_if : (s : State) (members sleepers : List ℕ) (passes : Passing) (p : ℕ) (sleeps : Bool) → contains sleepers p ≡ sleeps → SleepThrough s members sleepers passes → contains members p ≡ true → contains sleepers p ≡ false
no_sleeper_if s members sleepers passes p true is sleep member = absurd (true≢false (sym member ∙ sleep.outside p is))
no_sleeper_if s members sleepers passes p false is sleep member = is

stays_awake : (sleepers : List ℕ) (s : State) (p : ℕ) → contains sleepers p ≡ false → continuation_of (put_to_sleep sleepers s).processes p ≡ continuation_of s.processes p
stays_awake sleepers s p other = asleep_at (contains sleepers) p s.processes ∙ ap (λ b. asleep_if b (continuation_of s.processes p)) other

settle_asleep : (design : Design) (members : List ℕ) (block : ℕ → Block) (sleepers : List ℕ) (passes : Passing) (start s : State) → SleepThrough start members sleepers passes → SettleBetween design members block start s
    → SettleBetween design members block (put_to_sleep sleepers start) (put_to_sleep sleepers s)
settle_asleep design members block sleepers passes start s sleep settle p member = asleep (settle p member)
  where
    same : continuation_of (put_to_sleep sleepers start).processes p ≡ continuation_of start.processes p
    same = stays_awake sleepers start p (no_sleeper_if start members sleepers passes p (contains sleepers p) refl sleep member)

    asleep : (IsTurnPending start p (block p) ⊎ HasSettled design start p (block p)) ⊎ HasChangedInput start s (block p)
        → (IsTurnPending (put_to_sleep sleepers start) p (block p) ⊎ HasSettled design (put_to_sleep sleepers start) p (block p)) ⊎ HasChangedInput (put_to_sleep sleepers start) (put_to_sleep sleepers s) (block p)
    asleep (inl (inl (one, continuation))) = inl (inl (one, same ∙ continuation))
    asleep (inl (inr (none, continuation, consistent))) = inl (inr (none, same ∙ continuation, consistent))
    asleep (inr changed) = inr changed

-- states in which the sleepers wait as they did are alike where those are in which they wait for nothing

alike_awake : (class : ℕ → ℕ) (sleepers : List ℕ) (s f g : State) → SleepSince s sleepers f → SleepSince s sleepers g → AlikeIn class (put_to_sleep sleepers f) (put_to_sleep sleepers g) → AlikeIn class f g
alike_awake class sleepers s f g since since' near =
    record {
      time = near.time;
      store = near.store;
      processes = same_continuation f.processes g.processes
          (sym (length_asleep (contains sleepers) 0 f.processes) ∙ ap length near.processes ∙ length_asleep (contains sleepers) 0 g.processes) (λ p. process p (contains sleepers p) refl);
      active = near.active;
      inactive = near.inactive;
      nonblocking = near.nonblocking;
      monitor = near.monitor;
      future_inactive = near.future_inactive;
      future_nonblocking = near.future_nonblocking;
      finished = near.finished;
    }
  where
    process : (p : ℕ) (sleeps : Bool) → contains sleepers p ≡ sleeps → continuation_of f.processes p ≡ continuation_of g.processes p
    process p true is = (since p is).0 ∙ sym (since' p is).0
    process p false is =
        sym (stays_awake sleepers f p is) ∙ ap (λ ps. continuation_of ps p) near.processes ∙ stays_awake sleepers g p is

pub certified_keep_off : CertifiedKeepOff
certified_keep_off class design members block rank e like way entries f is =
    let events : (p : ℕ) → HasOneEvent e.state p = like_has_one class design e.state like in
    keep_off_at class design members block rank way.passes (put_to_sleep way.sleepers e.state) (events_asleep class design members block rank e.state events way) (certified_asleep class design members block rank e.state events way)
    (put_effect_to_sleep way.sleepers e) f entries refl is

pub held_ends_in_one_node : HeldEndsInOneNode
held_ends_in_one_node class design members block rank e f g entries others like held ends ends' settle =
    let events : (p : ℕ) → HasOneEvent e.state p = like_has_one class design e.state like in
    let (sleeping, since) = ends_asleep class design members block rank e.state events held e f entries refl ends in
    let (sleeping', since') = ends_asleep class design members block rank e.state events held e g others refl ends' in
    let settle' : SettleBetween design members block (put_to_sleep held.sleepers e.state) (put_to_sleep held.sleepers g.state) = settle_asleep design members block held.sleepers held.passes e.state g.state held.sleep settle in
    let (lines, near) =
    ends_in_one_node class design members block rank held.passes (put_effect_to_sleep held.sleepers e) (put_effect_to_sleep held.sleepers f) (put_effect_to_sleep held.sleepers g) entries others
    (events_asleep class design members block rank e.state events held) (certified_asleep class design members block rank e.state events held) sleeping sleeping' settle' in
    (lines, alike_awake class held.sleepers e.state f.state g.state since since' near)
