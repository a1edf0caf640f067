-- The loose runs of a design before an observer of so many registers, with the lines of each time in one order, as the runs of a search.
use Rattle.std.specs.Prelude.{◌≡◌, ℕ, List}
use Rattle.model.specs.declared.end.Limits.{Limits}
use Rattle.model.specs.Design.{Design}
use Rattle.model.specs.Runs.{Effect}
use Rattle.loose.specs.declared.transition.LooseTransition.{LooseTransition}
use Rattle.loose.specs.Loose.{AlikeIn}
use Rattle.explore.specs.SearchedRuns.{Runs}
use Rattle.looseruns.specs.ObservedJournals.{Observer, SeenEnd}
use Rattle.looseruns.specs.ObservedRuns.{ComesObserved, MayEndObserved, StandsObserved, observed_text_of_moves}
use Rattle.wavetexts.specs.Reading.{ReadText, read_on, tail_of, unread, whole_text}

-- what was read of the observed text of loose transitions
abbrev pub read_of_moves : ℕ → (ℕ → ℕ) → Design → Observer → List LooseTransition → ReadText
read_of_moves registers class design observe transitions = read_on registers unread (observed_text_of_moves class design observe transitions)

-- An observed end behind a text that was read: what of the text isn't in order for good stands before what is seen there, in order.
abbrev pub arranged_end : ℕ → ReadText → SeenEnd → SeenEnd
arranged_end registers t end = record { end = end.end; seen = whole_text registers (read_on registers (tail_of t) end.seen) }

-- a run may end in this way where the transitions lead, with the rest of its text in order
abbrev pub MayEndArranged : ℕ → (ℕ → ℕ) → Design → Limits → Observer → List LooseTransition → SeenEnd → Type 0
MayEndArranged registers class design limits observe transitions end =
    (seen_end : SeenEnd) × MayEndObserved class design limits observe transitions seen_end
    × (end ≡ arranged_end registers (read_of_moves registers class design observe transitions) seen_end)

-- Two loose runs in time lead to states that are alike in classes, and what was printed and seen is the same but for the order of lines at one
-- time.
abbrev pub ComeToOneArrangedNode : ℕ → (ℕ → ℕ) → Design → Limits → Observer → List LooseTransition → List LooseTransition → Type 0
ComeToOneArrangedNode registers class design limits observe i j =
    (e : Effect) × (f : Effect) × ComesObserved class design limits observe i e × ComesObserved class design limits observe j f
    × (read_on registers unread e.lines ≡ read_on registers unread f.lines) × AlikeIn class e.state f.state

-- A node stands at an arranged run if it stands at the observed one, and has what of the text isn't in order for good.
pub record StandsArranged {Node : Type 0} (Holds : Node → Effect → Type 0) (tail : Node → ReadText) (registers : ℕ) (class : ℕ → ℕ) (design : Design) (limits : Limits) (observe : Observer) (node : Node) (transitions : List LooseTransition) : Type 0 where
  pub observed : StandsObserved Holds class design limits observe node transitions
  pub rest : tail node ≡ tail_of (read_of_moves registers class design observe transitions)

-- the loose runs of a design before an observer, with the lines of each time in order, where these say what a node holds and has
abbrev pub arranged_runs_of : {Node : Type 0} → (Node → Effect → Type 0) → (Node → ReadText) → ℕ → (ℕ → ℕ) → Design → Limits → Observer → Runs LooseTransition Node SeenEnd
arranged_runs_of Holds tail registers class design limits observe =
    record {
      Ends = MayEndArranged registers class design limits observe;
      text = λ transitions. (read_of_moves registers class design observe transitions).done;
      Alike = ComeToOneArrangedNode registers class design limits observe;
      Within = λ _. Unit {0};
      Stands = StandsArranged Holds tail registers class design limits observe;
    }
