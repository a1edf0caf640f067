-- The line of an entry that was taken and told.
use Rattle.std.proofs.Common.{◌≡◌, ◌∙◌, ap, sym, subst, ℕ, ◌+◌, ◌<◌, Bool, List, ◌++◌, length, take}
use Rattle.std.specs.Prelude.{slice_index_or}
use Rattle.model.specs.declared.entry.Entry.{Entry}
use Rattle.model.specs.States.{State}
use Rattle.model.specs.Runs.{run}
use Rattle.design.specs.Compiled.{Compiled, design_of}
use Rattle.steps.specs.Accounts.{Account, IsAccountOf}
use Rattle.steps.specs.ExplainerStanding.{Standing}
use Rattle.explain.specs.declared.phrases.SourceNames.{SourceNames}
use Rattle.explain.specs.EntryLines.{entry_account_text}
use Rattle.explain.specs.declared.telling.ExplanationOptions.{ExplanationOptions}
use Rattle.explain.specs.EntryText.{IsBefore, PutsEntryLine}
use Rattle.explain.specs.ExplainedText.{told_text}
use Rattle.explain.specs.Sent.{IsNextTold}
use Rattle.explain.proofs.Next.{stands_there}
use Rattle.explain.proofs.Sending.{same_entry}

-- the entries with the one at a place are taken
pub next_before : (journal : List Entry) (place : ℕ) (old new : Standing) → IsNextTold journal place old new → IsBefore journal (place + 1) new
next_before journal place old new next = record { behind = next.behind; count = next.count }

-- a line by one account, or by another that is the same
pub line_same : (names : SourceNames) (n m : ℕ) (e f : Entry) (a b : Account) (x y : Bool) → n ≡ m → e ≡ f → a ≡ b → x ≡ y → entry_account_text names n e a x ≡ entry_account_text names m f b y
line_same names n m e f a b x y same_number same_entry same_account same_end =
    ap (λ (k : ℕ). entry_account_text names k e a x) same_number
    ∙ (ap (λ (g : Entry). entry_account_text names m g a x) same_entry
    ∙ (ap (λ (d : Account). entry_account_text names m f d x) same_account ∙ ap (λ (z : Bool). entry_account_text names m f b z) same_end))

-- and where it is told
pub told_same : (t : ExplanationOptions) (n m : ℕ) (e f : Entry) (a b : Account) (x y : Bool) → n ≡ m → e ≡ f → a ≡ b → x ≡ y → told_text t n e a x ≡ told_text t m f b y
told_same t n m e f a b x y same_number same_entry same_account same_end =
    ap (λ (k : ℕ). told_text t k e a x) same_number
    ∙ (ap (λ (g : Entry). told_text t m g a x) same_entry
    ∙ (ap (λ (d : Account). told_text t m f d x) same_account ∙ ap (λ (z : Bool). told_text t m f b z) same_end))

pub line_put : (names : SourceNames) (journal : List Entry) (place : ℕ) (d : Entry) (x new : Standing) (old text : List ℕ) → place < length journal
    → x.position.code ≡ names.design.now → IsNextTold journal place x new → new.position.code ≡ x.position.code
    → text ≡ old ++ entry_account_text names new.position.core.entries (slice_index_or journal place d) new.account new.position.core.finished → PutsEntryLine names journal place old text
line_put names journal place d x new old text inside code next same put = record {
  line = entry_account_text names new.position.core.entries (slice_index_or journal place d) new.account new.position.core.finished;
  is_line = record {
    entry = next.entry;
    there = next.there;
    before = next.told.before;
    is_run = ap (λ (c : Compiled). run (design_of c) (take place journal)) (sym code) ∙ next.told.is_run;
    effect = next.told.effect;
    account = new.account;
    told = subst (λ (c : Compiled). IsAccountOf (design_of c) next.told.before next.entry next.told.effect new.account) code next.told.told;
    text_is = ap (λ (n : ℕ). entry_account_text names n (slice_index_or journal place d) new.account new.position.core.finished) next.count
        ∙ (ap (λ (e : Entry). entry_account_text names (place + 1) e new.account new.position.core.finished) (same_entry journal place d next.entry inside next.there)
        ∙ ap (λ (s : State). entry_account_text names (place + 1) next.entry new.account s.finished) (sym (stands_there (take place journal) next.entry x new next.told same)));
  };
  put = put;
}
