-- The moves of some actors alone are a system of moves again.
use Rattle.std.proofs.Common.{◌≡◌, ℕ, Bool, true, false, ◌&&◌, ◌==◌, List, [], ◌∷◌, inl, inr, refl, eq-eqb, eqb-true, ap, ◌∙◌}
use Rattle.traces.specs.Traces.{Moves, AreMoves, IsRunOfMoves, AreAmong, AreOfPart}
use Rattle.traces.specs.StandsFor.{of_both}
pub use Rattle.traces.specs.Restricted.{restricted}

both_true : (b c : Bool) → b ≡ true → c ≡ true → (b && c) ≡ true
both_true b c h k = ap (λ x. x && c) h ∙ k

first_true : (b c : Bool) → (b && c) ≡ true → b ≡ true
first_true true c h = refl
first_true false c h = h

second_true : (b c : Bool) → (b && c) ≡ true → c ≡ true
second_true true c h = h
second_true false c h = cc

module _ (L : Type 0) (among : L → Bool) (part : L → ℕ) (k : ℕ) where
  pub in_both : (a : L) → among a ≡ true → part a ≡ k → of_both among part k a ≡ true
  in_both a own is = both_true (among a) (part a == k) own (eq-eqb (part a) k is)

  pub in_set : (a : L) → of_both among part k a ≡ true → among a ≡ true
  in_set a own = first_true (among a) (part a == k) own

  pub in_part : (a : L) → of_both among part k a ≡ true → part a ≡ k
  in_part a own = eqb-true (part a) k (second_true (among a) (part a == k) own)

module _ (S L F : Type 0) (moves : Moves S L F) (among : L → Bool) where
  pub restricted_laws : AreMoves moves → AreMoves (restricted moves among)
  restricted_laws laws =
      record {
        itself = laws.itself;
        back = laws.back;
        through = laws.through;
        steps_alike = λ s t u a f near step.
            let (v, step', near') = laws.steps_alike s t u a f near step.1 in
            (v, (step.0, step'), near');
        waits_alike = λ s t a near waits. (waits.0, laws.waits_alike s t a near waits.1);
        one_step = λ s t u a f g step step'. laws.one_step s t u a f g step.1 step'.1;
        waiting = λ s t a f step. (step.0, laws.waiting s t a f step.1);
        frame = λ s t u a b f g differ step step' apart free.
            let (v, next) = laws.frame s t u a b f g differ step.1 step'.1 apart free in
            (v, (step'.0, next));
        exchange = λ s t u a b f g differ step step' apart free free'.
            let (v, w, next, next', near) = laws.exchange s t u a b f g differ step.1 step'.1 apart free free' in
            (v, w, (step'.0, next), (step.0, next'), near);
        either_way = laws.either_way;
        silent = laws.silent;
        last = λ s t u a b f g step ends step'. laws.last s t u a b f g step.1 ends step'.1;
        stays = λ s t a b f step differ waits. (waits.0, laws.stays s t a b f step.1 differ waits.1);
        given = λ s t a b f step waits.
            elim (laws.given s t a b f step.1 waits.1) [
              | inl before ↦ inl (waits.0, before)
              | inr gives ↦ inr gives
            ];
      }

  -- a run of the set's moves is a run of actors of the set
  pub goes_out : (s t : S) (w : List (L × F)) → IsRunOfMoves (restricted moves among) s w t → IsRunOfMoves moves s w t
  goes_out s t [] is = is
  goes_out s t (x ∷ w) (m, step, run) = (m, step.1, goes_out m t w run)

  pub actors_of : (s t : S) (w : List (L × F)) → IsRunOfMoves (restricted moves among) s w t → AreAmong (λ a. among a ≡ true) w
  actors_of s t [] is = tt
  actors_of s t (x ∷ w) (m, step, run) = (step.0, actors_of m t w run)

  pub goes_in : (s t : S) (w : List (L × F)) → IsRunOfMoves moves s w t → AreAmong (λ a. among a ≡ true) w → IsRunOfMoves (restricted moves among) s w t
  goes_in s t [] is of = is
  goes_in s t (x ∷ w) (m, step, run) (own, of) = (m, (own, step), goes_in m t w run of)

  -- of the set and of one part
  pub both_among : (part : L → ℕ) (k : ℕ) (w : List (L × F)) → AreAmong (λ a. among a ≡ true) w → AreOfPart part k w → AreAmong (λ a. of_both among part k a ≡ true) w
  both_among part k [] of of' = tt
  both_among part k (x ∷ w) (own, of) (is, of') = (in_both L among part k x.0 own is, both_among part k w of of')

  pub set_among : (part : L → ℕ) (k : ℕ) (w : List (L × F)) → AreAmong (λ a. of_both among part k a ≡ true) w → AreAmong (λ a. among a ≡ true) w
  set_among part k [] of = tt
  set_among part k (x ∷ w) (own, of) = (in_set L among part k x.0 own, set_among part k w of)

  pub part_among : (part : L → ℕ) (k : ℕ) (w : List (L × F)) → AreAmong (λ a. of_both among part k a ≡ true) w → AreOfPart part k w
  part_among part k [] of = tt
  part_among part k (x ∷ w) (own, of) = (in_part L among part k x.0 own, part_among part k w of)
