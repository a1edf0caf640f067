-- Machines of one key.
use Rattle.std.proofs.Common.{◌≡◌, ◌∙◌, sym, subst}
use Rattle.std.specs.Cmp.Lexicographic.{same_text}
use Rattle.loose.specs.Classes.{class_in}
use Rattle.statekeys.specs.ClassKeys.{IsClassKey}
use Rattle.lawful.proofs.EndlessRuns.{keys_alike}
use Rattle.lawful.proofs.endless.stand_alike.Goals as goal

pub returns : goal.returns
returns c = λ yes.
    let class = class_in c.args.classes.now in
    let one = c.args.one.now in
    let other = c.args.other.now in
    let key = c.fill_key.new.bytes.items in
    let keyed : IsClassKey class one.core one.values key = c.in_ok-fill_key.ensures in
    let keyed' : IsClassKey class other.core other.values c.fill_key-2.new.bytes.items = c.in_ok-fill_key-2.ensures in
    let same : c.as_slice.result.now ≡ c.as_slice-2.result.now = same_text c.as_slice.result.now c.as_slice-2.result.now (sym yes ∙ c.eq.ensures) in
    let one_key : c.fill_key-2.new.bytes.items ≡ key = sym c.as_slice-2.ensures.value ∙ (sym same ∙ c.as_slice.ensures.value) in
    keys_alike class one other key c.requires.code c.stands.ensures.controls c.stands-2.ensures.controls keyed (subst (IsClassKey class other.core other.values) one_key keyed')
