-- A walk from a last step back through those before it.
use Rattle.std.proofs.Common.{◌≡◌, ℕ, zero, suc, ◌-◌, ◌≤◌, ◌<◌, Bool, true, false, ◌&&◌, ◌||◌, List, [], ◌∷◌, length, get_or, drop, refl, sym, ap, subst, ◌∙◌, arith, drop-cons}
use Rattle.std.specs.List.{list_any}
use Rattle.loose.specs.declared.transition.LooseTransition.{LooseTransition}
use Rattle.loose.specs.declared.transition.LooseTransition.TheVariants.{Process}
use Rattle.certificates.specs.Notes.{NoteView}
use Rattle.certificates.specs.Apart.{SayApart}
use Rattle.certificates.specs.Coming.{is_same, is_of_any, leading, ComesOrIsApart}
use Rattle.certificates.proofs.Marks.{or_none}

-- sets of actors that have the same ones

any_same : (f g : ℕ → Bool) (ps : List ℕ) → ((p : ℕ) → f p ≡ g p) → list_any f ps ≡ list_any g ps
any_same f g [] same = refl
any_same f g (p ∷ ps) same = ap (λ b. b || list_any f ps) (same p) ∙ ap (λ b. g p || b) (any_same f g ps same)

of_same : (has others : LooseTransition → Bool) (note : NoteView) → ((a : LooseTransition) → has a ≡ others a) → is_of_any has note ≡ is_of_any others note
of_same has others note same =
    ap (λ b. b || list_any (λ p. has (Process p)) note.woken) (same note.owner)
    ∙ ap (λ b. others note.owner || b) (any_same (λ p. has (Process p)) (λ p. others (Process p)) note.woken (λ p. same (Process p)))

-- one step back

-- what holds of a walk over these notes, which has come to a set of actors
pub record HasWalked (has : LooseTransition → Bool) (notes : List NoteView) (last : NoteView) : Type 0 where
  pub apart : ComesOrIsApart notes last
  pub actors : (a : LooseTransition) → has a ≡ leading last.owner notes a

pub walked_more : (has more : LooseTransition → Bool) (note : NoteView) (notes all : List NoteView) (last : NoteView) → HasWalked has notes last → all ≡ note ∷ notes
    → (is_of_any has note ≡ false → SayApart note last) → ((a : LooseTransition) → more a ≡ (has a || (is_of_any has note && is_same note.owner a))) → HasWalked more all last
walked_more has more note notes all last walked is own adds =
    let same : is_of_any has note ≡ is_of_any (leading last.owner notes) note = of_same has (leading last.owner notes) note walked.actors in
    let now : HasWalked more (note ∷ notes) last =
    record {
      apart = ((λ none. own (same ∙ none)), walked.apart);
      actors = λ a. adds a ∙ ap (λ b. b || (is_of_any has note && is_same note.owner a)) (walked.actors a) ∙ ap (λ b. leading last.owner notes a || (b && is_same note.owner a)) same;
    } in
    subst (λ ns. HasWalked more ns last) (sym is) now

pub walked_none : (has : LooseTransition → Bool) (last : NoteView) → ((a : LooseTransition) → has a ≡ is_same last.owner a) → HasWalked has [] last
walked_none has last same = record { apart = tt; actors = same }

-- what a set of actors has more, where the step is of one of them or isn't

pub adds_owner : (b one own : Bool) → one ≡ true → (b || own) ≡ (b || (one && own))
adds_owner b one own h = rw h refl

pub adds_none : (b one own : Bool) → one ≡ false → b ≡ (b || (one && own))
adds_none b one own h = rw h (or_none b)

-- the notes from a place on, and those from the next on
pub one_back : (notes : List NoteView) (note : NoteView) (place : ℕ) → 0 < place → place ≤ length notes → get_or notes (place - 1) note ≡ note → drop (place - 1) notes ≡ note ∷ drop place notes
one_back notes note zero some less is = absurd (omega (arith, some))
one_back notes note (suc k) some less is =
    let here : suc k - 1 ≡ k = omega arith in
    ap (λ n. drop n notes) here ∙ drop-cons notes k note (omega (arith, less))
    ∙ ap (λ x. x ∷ drop (suc k) notes) (ap (λ n. get_or notes n note) (sym here) ∙ is)

-- what holds of a last step and all of these holds of it and those from a place on
come_from : (k : ℕ) (notes : List NoteView) (last : NoteView) → ComesOrIsApart notes last → ComesOrIsApart (drop k notes) last
come_from zero notes last each = each
come_from (suc k) [] last each = each
come_from (suc k) (note ∷ notes) last (here, each) = come_from k notes last each

pub comes_at : (has : LooseTransition → Bool) (note : NoteView) (notes all : List NoteView) (k : ℕ) (last : NoteView) → HasWalked has notes last → drop k all ≡ note ∷ notes → ComesOrIsApart all last
    → is_of_any has note ≡ false → SayApart note last
comes_at has note notes all k last walked is each none =
    let from : ComesOrIsApart (note ∷ notes) last = subst (λ ns. ComesOrIsApart ns last) is (come_from k all last each) in
    from.0 (sym (of_same has (leading last.owner notes) note walked.actors) ∙ none)
