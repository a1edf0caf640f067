-- Each process has one event at most, where a state is like what a loose run comes to, and without what is held.
use Rattle.std.proofs.Common.{◌≡◌, ◌⊎◌, ℕ, ◌≤◌, Bool, true, false, List, [], ◌∷◌, inl, inr, Some, refl, sym, ap, subst, ◌∙◌, if◌then◌else◌, arith}
use Rattle.model.specs.Design.{Design}
use Rattle.model.specs.Turns.{contains}
use Rattle.model.specs.States.{Evaluate, Continuation, State}
use Rattle.model.specs.Runs.{has_any}
use Rattle.model.specs.Laws.{evaluations_in}
use Rattle.orders.proofs.AlikeSteps.{continuation_of}
use Rattle.loose.specs.declared.transition.LooseTransition.{LooseTransition}
use Rattle.loose.specs.Loose.{AlikeIn}
use Rattle.traces.specs.Traces.{Moves, IsRunOfMoves}
use Rattle.traces.specs.Certificates.{EachComesOrIsApart, IsCertificate}
use Rattle.traces.specs.Restricted.{restricted}
use Rattle.footprints.specs.Footprints.{Footprint}
use Rattle.footprints.specs.Moves.{OrderedState, IsWaiting, GivesTo, loose_moves}
use Rattle.footprints.proofs.Waking.{one_where}
use Rattle.footprints.proofs.AlikeFootprints.{is_of_process}
use Rattle.certificates.specs.Certified.{AreCertified}
use Rattle.certificates.proofs.OneEvent.{HasOneEvent, step_keeps, woken_has_none}
use Rattle.certificates.proofs.CertifiedRuns.{reached}
use Rattle.heldmoves.specs.WithoutHeld.{asleep_if, asleep_from, without_held}
use Rattle.heldmoves.specs.HeldMoves.{IsHeldMove, held_moves}
use Rattle.heldmoves.proofs.LeftAside.{unless, evaluations_left, asleep_at}
use Rattle.heldmoves.proofs.BesideHeld.{low, goes_low}
use Rattle.heldways.specs.Passing.{put_to_sleep}
use Rattle.heldways.specs.HeldWays.{IsLikeLooselyReached}

abbrev waits_at : List Continuation → ℕ → ℕ
waits_at ps p = one_where (has_any (continuation_of ps p).triggers)

-- in states that are alike
pub alike_has_one : (class : ℕ → ℕ) (r s : State) (p : ℕ) → AlikeIn class r s → HasOneEvent r p → HasOneEvent s p
alike_has_one class r s p h one =
    let waits : waits_at r.processes p ≡ waits_at s.processes p = ap (λ ps. waits_at ps p) h.processes in
    record {
      most = λ u v differ.
          omega (arith, one.most u v differ, h.active.evaluations p, h.inactive.evaluations p, (h.future_inactive.due u).evaluations p, (h.future_inactive.due v).evaluations p, waits);
      nonblocking = sym (h.nonblocking.evaluations p) ∙ one.nonblocking;
      future = λ u. sym ((h.future_nonblocking.due u).evaluations p) ∙ one.future u;
    }

-- without what is held

less_if : (b : Bool) (n : ℕ) → unless b n ≤ n
less_if true n = omega arith
less_if false n = omega arith

less_asleep : (b : Bool) (x : Continuation) → one_where (has_any (asleep_if b x).triggers) ≤ one_where (has_any x.triggers)
less_asleep true x = omega arith
less_asleep false x = omega arith

pub without_has_one : (held : ℕ → Bool) (s : State) (p : ℕ) → HasOneEvent s p → HasOneEvent (without_held held s) p
without_has_one held s p one =
    let waits : waits_at (asleep_from held 0 s.processes) p ≡ one_where (has_any (asleep_if (held p) (continuation_of s.processes p)).triggers) =
    ap (λ (x : Continuation). one_where (has_any x.triggers)) (asleep_at held p s.processes) in
    record {
      most = λ u v differ.
          omega (arith, one.most u v differ, evaluations_left held p s.active, less_if (held p) (evaluations_in p s.active), waits, less_asleep (held p) (continuation_of s.processes p));
      nonblocking = one.nonblocking;
      future = one.future;
    }

pub like_has_one : (class : ℕ → ℕ) (design : Design) (s : State) → IsLikeLooselyReached class design s → (p : ℕ) → HasOneEvent s p
like_has_one class design s like p = alike_has_one class like.comes_to s p like.alike (reached class design like.comes_to like.reached p)

-- where some processes sleep
pub asleep_has_one : (sleepers : List ℕ) (s : State) (p : ℕ) → HasOneEvent s p → HasOneEvent (put_to_sleep sleepers s) p
asleep_has_one sleepers s p one =
    let waits : waits_at (asleep_from (contains sleepers) 0 s.processes) p ≡ one_where (has_any (asleep_if (contains sleepers p) (continuation_of s.processes p)).triggers) =
    ap (λ (x : Continuation). one_where (has_any x.triggers)) (asleep_at (contains sleepers) p s.processes) in
    record {
      most = λ u v differ. omega (arith, one.most u v differ, waits, less_asleep (contains sleepers p) (continuation_of s.processes p));
      nonblocking = one.nonblocking;
      future = one.future;
    }

-- a certified run of the others is a certificate

module _ (class : ℕ → ℕ) (design : Design) (held : ℕ → Bool) where
  abbrev inner : Moves OrderedState LooseTransition Footprint
  inner = restricted (held_moves class design held) (λ a. true)

  each_comes : (f : Footprint) (Comes : LooseTransition → Type 0) (w : List (LooseTransition × Footprint)) → EachComesOrIsApart (loose_moves class design) f Comes w → EachComesOrIsApart inner f Comes w
  each_comes f Comes [] each = tt
  each_comes f Comes (x ∷ w) (inl (comes, later)) = inl (comes, each_comes f (λ b. Comes b ⊎ GivesTo x.1 b) w later)
  each_comes f Comes (x ∷ w) (inr (apart, later)) = inr (apart, each_comes f Comes w later)

  gives_none : (s t : OrderedState) (a b : LooseTransition) (f : Footprint) → ((p : ℕ) → HasOneEvent (low held s).0 p) → IsHeldMove class design held s.0 a f t.0 → GivesTo f b → IsWaiting class (low held s).0 b → ⊥
  gives_none s t a b f one step (p, is, woken) (number, action, active, own) =
      let (u, (entry, y, there, owner, leads), near) = goes_low class design held s t a f step in
      let evaluation : Some action ≡ Some (Evaluate p) = is_of_process class p (Some action) (own ∙ ap Some is) in
      woken_has_none class design (low held s).0 entry f y p number (low held s).1 (one p) there woken (active ∙ evaluation)

  next_has_one : (s t : OrderedState) (a : LooseTransition) (f : Footprint) → ((p : ℕ) → HasOneEvent (low held s).0 p) → IsHeldMove class design held s.0 a f t.0 → (p : ℕ) → HasOneEvent (low held t).0 p
  next_has_one s t a f one step p =
      let (u, (entry, y, there, owner, leads), near) = goes_low class design held s t a f step in
      alike_has_one class u.0 (low held t).0 p near
      (subst (λ z. HasOneEvent z p) leads (step_keeps class design (low held s).0 entry y p (low held s).1 there.0 (one p)))

  pub certificate_of : (w : List (LooseTransition × Footprint)) (s t : OrderedState) → ((p : ℕ) → HasOneEvent (low held s).0 p) → IsRunOfMoves (held_moves class design held) s w t → AreCertified class design w → IsCertificate inner s w t
  certificate_of [] s t one run certified = run
  certificate_of (x ∷ w) s t one (m, step, later) (free, each, certified) = (
    m,
    (refl, step),
    free,
    (λ b other given waits. gives_none s m x.0 b x.1 one step given waits.1),
    each_comes x.1 (λ b. (b ≡ x.0) ⊎ GivesTo x.1 b) w each,
    certificate_of w m t (next_has_one s m x.0 x.1 one step) later certified,
  )
