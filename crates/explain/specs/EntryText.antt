-- The line of one entry of a journal.
use Rattle.std.specs.Prelude.{◌≡◌, ℕ, ◌+◌, List, ◌++◌, take, slice_get, Some}
use Rattle.model.specs.declared.entry.Entry.{Entry}
use Rattle.model.specs.Runs.{Effect, run}
use Rattle.design.specs.Compiled.{design_of}
use Rattle.steps.specs.Accounts.{Account, IsAccountOf}
use Rattle.steps.specs.ExplainerStanding.{Standing, IsExplainerBehind}
use Rattle.explain.specs.declared.phrases.SourceNames.{SourceNames}
use Rattle.explain.specs.EntryLines.{entry_account_text}

-- This is the line of the entry at a place of a journal: by what comes of its step behind those before it.
pub record IsEntryLine (names : SourceNames) (journal : List Entry) (place : ℕ) (text : List ℕ) : Type 0 where
  pub entry : Entry
  pub there : slice_get journal place ≡ Some entry
  pub before : Effect
  pub is_run : run (design_of names.design.now) (take place journal) ≡ Some before
  pub effect : Effect
  pub account : Account
  pub told : IsAccountOf (design_of names.design.now) before entry effect account
  pub text_is : text ≡ entry_account_text names (place + 1) entry account effect.state.finished

-- it was put behind a text
pub record PutsEntryLine (names : SourceNames) (journal : List Entry) (place : ℕ) (old new : List ℕ) : Type 0 where
  pub line : List ℕ
  pub is_line : IsEntryLine names journal place line
  pub put : new ≡ old ++ line

-- an explainer stands behind the entries before a place
pub record IsBefore (journal : List Entry) (place : ℕ) (x : Standing) : Type 0 where
  pub behind : IsExplainerBehind (take place journal) x
  pub count : x.position.core.entries ≡ place
