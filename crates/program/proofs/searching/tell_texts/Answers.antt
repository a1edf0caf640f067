-- What was told, and which journals were saved behind it.
use Rattle.std.proofs.Common.{◌≡◌, List, Option, ℕ, inl, inr, map, option_map, sym, subst}
use Rattle.std.specs.Io.KnownBytes.{Appends}
use Rattle.model.specs.declared.entry.Entry.{Entry}
use Rattle.model.specs.declared.end.End.{End}
use Rattle.explore.specs.declared.Shown.{Shown}
use Rattle.files.specs.declared.fault.FileFault.{FileFault}
use Rattle.files.specs.Saved.{SavesAllWhereAsked, SavesFirstWhereAsked, SavesSomeWhereAsked}
use Rattle.program.specs.EarlyJournals.{AreSavedEarly}
use Rattle.program.specs.Findings.{journals_of}
use Rattle.program.proofs.Early.{first_saved}
use Rattle.program.proofs.Ended.{if_err, kept, output_same}
use Rattle.program.proofs.searching.tell_texts.Goals as goal

-- memory was refused before anything was told
pub returns-in_err-journals-clause-wanting : goal.returns-in_err-journals-clause-wanting
returns-in_err-journals-clause-wanting g c = λ start before.
    if_err _ c.from_residual.result (λ f six. inl (output_same (g.O.Write.contents c.args.out.now), kept (g.F.Files.made c.args.files.now)))

-- a journal couldn't be saved before the search
pub returns-in-Some-clause-wanting : goal.returns-in-Some-clause-wanting
returns-in-Some-clause-wanting g c = λ start before six.
    let prefix = option_map (λ path. path.now) c.args.request.now.journals in
    let texts = c.args.told.texts in
    let journals : List (List Entry) = journals_of texts.shown.items (option_map (λ journal. journal.items) texts.endless) in
    inr (
      subst (λ (l : List ℕ). Appends (g.O.Write.contents c.args.out.now) (g.O.Write.contents c.show_bytes.new.out) l) c.as_slice.ensures.value c.in_ok-show_bytes.ensures.written,
      subst (λ (o : Option FileFault). AreSavedEarly start (g.F.Files.made c.args.files.now) prefix c.args.saved.count journals o) c.in-Some.is before,
    )

pub returns-clause-told : goal.returns-clause-told
returns-clause-told g c = subst (λ (l : List ℕ). Appends (g.O.Write.contents c.args.out.now) (g.O.Write.contents c.show_bytes.new.out) l) c.as_slice.ensures.value c.in_ok-show_bytes.ensures.written

pub returns-clause-saved : goal.returns-clause-saved
returns-clause-saved g c = λ start before.
    let prefix = option_map (λ path. path.now) c.args.request.now.journals in
    let texts = c.args.told.texts in
    let given : List (List Entry) = journals_of texts.shown.items (option_map (λ journal. journal.items) texts.endless) in
    let entries_of = λ (s : Shown Entry End). s.moves.items in
    let made = g.F.Files.made c.args.files.now in
    let all : List (List Entry) = map entries_of c.as_slice-all.result.now in
    let same : all ≡ given = first_saved c.as_slice-all.result.now c.in_ok-journals.journals.items given c.as_slice-all.ensures.value c.in_ok-journals.ensures in
    let early : SavesFirstWhereAsked start made prefix c.args.saved.count given = subst (λ (o : Option FileFault). AreSavedEarly start made prefix c.args.saved.count given o) c.in-None.is before in
    subst (λ (js : List (List Entry)). SavesAllWhereAsked start (g.F.Files.made c.save_all.new.files) prefix js) same
    (c.in_ok-save_all.ensures.saved start (subst (λ (js : List (List Entry)). SavesFirstWhereAsked start made prefix c.args.saved.count js) (sym same) early))

-- one couldn't be saved now
pub returns-in_err-save_all-clause-wanting : goal.returns-in_err-save_all-clause-wanting
returns-in_err-save_all-clause-wanting g c = λ start before.
    let prefix = option_map (λ path. path.now) c.args.request.now.journals in
    let texts = c.args.told.texts in
    let given : List (List Entry) = journals_of texts.shown.items (option_map (λ journal. journal.items) texts.endless) in
    let entries_of = λ (s : Shown Entry End). s.moves.items in
    let made = g.F.Files.made c.args.files.now in
    let all : List (List Entry) = map entries_of c.as_slice-all.result.now in
    let same : all ≡ given = first_saved c.as_slice-all.result.now c.in_ok-journals.journals.items given c.as_slice-all.ensures.value c.in_ok-journals.ensures in
    let early : SavesFirstWhereAsked start made prefix c.args.saved.count given = subst (λ (o : Option FileFault). AreSavedEarly start made prefix c.args.saved.count given o) c.in-None.is before in
    if_err _ c.from_residual-in_err-save_all.result
    (λ f six. inr (
      subst (λ (l : List ℕ). Appends (g.O.Write.contents c.args.out.now) (g.O.Write.contents c.show_bytes.new.out) l) c.as_slice.ensures.value c.in_ok-show_bytes.ensures.written,
      subst (λ (js : List (List Entry)). SavesSomeWhereAsked start (g.F.Files.made c.save_all.new.files) prefix js) same
          (c.in_err-save_all.ensures.some start (subst (λ (js : List (List Entry)). SavesFirstWhereAsked start made prefix c.args.saved.count js) (sym same) early)),
    ))
