-- What the status tells of how a command ended, by what its words ask for: a design of the profile, or a whole one.
use Rattle.std.proofs.Common.{Some, codes, inl, inr, ap, refl, sym, subst}
use Rattle.arguments.specs.CommandWords.{texts_of}
use Rattle.arguments.specs.VerilogWords.{IsSplit, SplitsWords}
use Rattle.program.proofs.Ended.{kept, source_status}
use Rattle.program.proofs.Subjects.{begins_left, unasked_other, unasked_wrong, unprinted_left}
use Rattle.program.proofs.program.command.Goals as goal

-- words of the profile

pub returns-in-Profile-clause-done : goal.returns-in-Profile-clause-done
returns-in-Profile-clause-done g c = λ e. inl (subst (SplitsWords (texts_of c.args.words.now)) c.in-Profile.is c.in-Ok.ensures.split, c.command_of.ensures.done e)

pub returns-in-Profile-clause-stopped : goal.returns-in-Profile-clause-stopped
returns-in-Profile-clause-stopped g c = λ e. inl (subst (SplitsWords (texts_of c.args.words.now)) c.in-Profile.is c.in-Ok.ensures.split, c.command_of.ensures.stopped e)

pub returns-in-Profile-clause-several : goal.returns-in-Profile-clause-several
returns-in-Profile-clause-several g c = λ e. inl (subst (SplitsWords (texts_of c.args.words.now)) c.in-Profile.is c.in-Ok.ensures.split, c.command_of.ensures.several e)

pub returns-in-Profile-clause-wrong : goal.returns-in-Profile-clause-wrong
returns-in-Profile-clause-wrong g c = λ e. inr (inl (subst (SplitsWords (texts_of c.args.words.now)) c.in-Profile.is c.in-Ok.ensures.split, c.command_of.ensures.wrong e))

pub returns-in-Profile-clause-wanting : goal.returns-in-Profile-clause-wanting
returns-in-Profile-clause-wanting g c = λ e. inr (inl (subst (SplitsWords (texts_of c.args.words.now)) c.in-Profile.is c.in-Ok.ensures.split, c.command_of.ensures.wanting e))

pub returns-in-Profile-clause-refused : goal.returns-in-Profile-clause-refused
returns-in-Profile-clause-refused g c = λ e begins. inl (subst (SplitsWords (texts_of c.args.words.now)) c.in-Profile.is c.in-Ok.ensures.split, c.command_of.ensures.refused e begins)

pub returns-in-Profile-clause-faulty : goal.returns-in-Profile-clause-faulty
returns-in-Profile-clause-faulty g c = λ e begins. inl (subst (SplitsWords (texts_of c.args.words.now)) c.in-Profile.is c.in-Ok.ensures.split, c.command_of.ensures.faulty e begins)

pub returns-in-Profile-clause-told : goal.returns-in-Profile-clause-told
returns-in-Profile-clause-told g c = c.command_of.ensures.told (texts_of c.args.words.now) refl

-- words that ask for a whole design

pub returns-clause-done : goal.returns-clause-done
returns-clause-done g c = λ e.
    let is_split = subst (IsSplit (texts_of c.args.words.now) c.in-Whole.design) (sym (ap texts_of c.as_slice.ensures.value)) (subst (SplitsWords (texts_of c.args.words.now)) c.in-Whole.is c.in-Ok.ensures.split) in
    inr (c.in-Whole.design, texts_of c.as_slice.result.now, is_split, c.command_of-in-Whole.ensures.done e)

pub returns-clause-stopped : goal.returns-clause-stopped
returns-clause-stopped g c = λ e.
    let is_split = subst (IsSplit (texts_of c.args.words.now) c.in-Whole.design) (sym (ap texts_of c.as_slice.ensures.value)) (subst (SplitsWords (texts_of c.args.words.now)) c.in-Whole.is c.in-Ok.ensures.split) in
    inr (c.in-Whole.design, texts_of c.as_slice.result.now, is_split, c.command_of-in-Whole.ensures.stopped e)

pub returns-clause-several : goal.returns-clause-several
returns-clause-several g c = λ e.
    let is_split = subst (IsSplit (texts_of c.args.words.now) c.in-Whole.design) (sym (ap texts_of c.as_slice.ensures.value)) (subst (SplitsWords (texts_of c.args.words.now)) c.in-Whole.is c.in-Ok.ensures.split) in
    inr (c.in-Whole.design, texts_of c.as_slice.result.now, is_split, c.command_of-in-Whole.ensures.several e)

pub returns-clause-wrong : goal.returns-clause-wrong
returns-clause-wrong g c = λ e.
    let is_split = subst (IsSplit (texts_of c.args.words.now) c.in-Whole.design) (sym (ap texts_of c.as_slice.ensures.value)) (subst (SplitsWords (texts_of c.args.words.now)) c.in-Whole.is c.in-Ok.ensures.split) in
    inr (inr (c.in-Whole.design, texts_of c.as_slice.result.now, is_split, c.command_of-in-Whole.ensures.wrong e))

pub returns-clause-wanting : goal.returns-clause-wanting
returns-clause-wanting g c = λ e.
    let is_split = subst (IsSplit (texts_of c.args.words.now) c.in-Whole.design) (sym (ap texts_of c.as_slice.ensures.value)) (subst (SplitsWords (texts_of c.args.words.now)) c.in-Whole.is c.in-Ok.ensures.split) in
    inr (inr (c.in-Whole.design, texts_of c.as_slice.result.now, is_split, c.command_of-in-Whole.ensures.wanting e))

pub returns-clause-refused : goal.returns-clause-refused
returns-clause-refused g c = λ e begins.
    let is_split = subst (IsSplit (texts_of c.args.words.now) c.in-Whole.design) (sym (ap texts_of c.as_slice.ensures.value)) (subst (SplitsWords (texts_of c.args.words.now)) c.in-Whole.is c.in-Ok.ensures.split) in
    inr (c.in-Whole.design, texts_of c.as_slice.result.now, is_split, c.command_of-in-Whole.ensures.refused e (begins_left (texts_of c.args.words.now) (texts_of c.as_slice.result.now) (Some c.in-Whole.design) (codes "check") is_split begins))

pub returns-clause-faulty : goal.returns-clause-faulty
returns-clause-faulty g c = λ e begins.
    let is_split = subst (IsSplit (texts_of c.args.words.now) c.in-Whole.design) (sym (ap texts_of c.as_slice.ensures.value)) (subst (SplitsWords (texts_of c.args.words.now)) c.in-Whole.is c.in-Ok.ensures.split) in
    inr (c.in-Whole.design, texts_of c.as_slice.result.now, is_split, c.command_of-in-Whole.ensures.faulty e (begins_left (texts_of c.args.words.now) (texts_of c.as_slice.result.now) (Some c.in-Whole.design) (codes "explain") is_split begins))

pub returns-clause-nothing : goal.returns-clause-nothing
returns-clause-nothing g c = λ e.
    let is_split = subst (IsSplit (texts_of c.args.words.now) c.in-Whole.design) (sym (ap texts_of c.as_slice.ensures.value)) (subst (SplitsWords (texts_of c.args.words.now)) c.in-Whole.is c.in-Ok.ensures.split) in
    c.command_of-in-Whole.ensures.nothing (unprinted_left (texts_of c.args.words.now) (texts_of c.as_slice.result.now) (Some c.in-Whole.design) c.command_of-in-Whole.result is_split e)

pub returns-clause-told : goal.returns-clause-told
returns-clause-told g c =
    let is_split = subst (IsSplit (texts_of c.args.words.now) c.in-Whole.design) (sym (ap texts_of c.as_slice.ensures.value)) (subst (SplitsWords (texts_of c.args.words.now)) c.in-Whole.is c.in-Ok.ensures.split) in
    c.command_of-in-Whole.ensures.told (texts_of c.args.words.now) is_split

-- words that can't be split

pub returns-in-Err-clause-done : goal.returns-in-Err-clause-done
returns-in-Err-clause-done g c = λ e. absurd (unasked_other (texts_of c.args.words.now) c.in-Err.no_request c.refuse.result 0 c.in-Err.ensures.refused c.refuse.ensures.status e refl refl)

pub returns-in-Err-clause-stopped : goal.returns-in-Err-clause-stopped
returns-in-Err-clause-stopped g c = λ e. absurd (unasked_other (texts_of c.args.words.now) c.in-Err.no_request c.refuse.result 4 c.in-Err.ensures.refused c.refuse.ensures.status e refl refl)

pub returns-in-Err-clause-several : goal.returns-in-Err-clause-several
returns-in-Err-clause-several g c = λ e. absurd (unasked_other (texts_of c.args.words.now) c.in-Err.no_request c.refuse.result 7 c.in-Err.ensures.refused c.refuse.ensures.status e refl refl)

pub returns-in-Err-clause-refused : goal.returns-in-Err-clause-refused
returns-in-Err-clause-refused g c = λ e begins. absurd (unasked_other (texts_of c.args.words.now) c.in-Err.no_request c.refuse.result 3 c.in-Err.ensures.refused c.refuse.ensures.status e refl refl)

pub returns-in-Err-clause-faulty : goal.returns-in-Err-clause-faulty
returns-in-Err-clause-faulty g c = λ e begins. absurd (unasked_other (texts_of c.args.words.now) c.in-Err.no_request c.refuse.result 5 c.in-Err.ensures.refused c.refuse.ensures.status e refl refl)

pub returns-in-Err-clause-wrong : goal.returns-in-Err-clause-wrong
returns-in-Err-clause-wrong g c = λ two. inl (unasked_wrong (texts_of c.args.words.now) c.in-Err.no_request c.refuse.result c.in-Err.ensures.refused c.refuse.ensures.status two)

pub returns-in-Err-clause-wanting : goal.returns-in-Err-clause-wanting
returns-in-Err-clause-wanting g c = λ six. inl (c.refuse.ensures.wanting six, kept (g.F.Files.made c.args.files.now))

pub returns-in-Err-clause-nothing : goal.returns-in-Err-clause-nothing
returns-in-Err-clause-nothing g c = λ e. c.refuse.ensures.nothing (source_status (texts_of c.args.words.now) c.refuse.result e)

pub returns-in-Err-clause-told : goal.returns-in-Err-clause-told
returns-in-Err-clause-told g c = c.refuse.ensures.told (texts_of c.args.words.now) (inr c.in-Err.ensures.refused)
