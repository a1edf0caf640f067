-- A machine that is led along the first entries of a journal.
use Rattle.std.proofs.Common.{◌≡◌, ap, sym, subst, ℕ, ◌≤◌, List, [], length, take, Some}
use Rattle.model.specs.declared.entry.Entry.{Entry}
use Rattle.model.specs.States.{start}
use Rattle.model.specs.Runs.{after}
use Rattle.design.specs.Compiled.{Compiled, design_of}
use Rattle.regions.specs.Machine.{MachineView, state_at}
use Rattle.accesses.specs.ExchangedEntries.{IsLed}
use Rattle.races.specs.Unseen.{StandsInRun}

-- it stands behind these then
pub led_behind : (journal : List Entry) (count : ℕ) (old new : MachineView) (front : List Entry) → state_at old ≡ start (design_of old.code) → front ≡ take count journal → count ≤ length journal
    → IsLed old front new → new.code ≡ old.code → StandsInRun old.code journal count new
led_behind journal count old new front begun is within led kept =
    let first : after (design_of old.code) [] ≡ Some (state_at old) = ap Some (sym begun) in
    (kept, (within, subst (λ (es : List Entry). after (design_of old.code) es ≡ Some (state_at new)) is (led [] first)))
