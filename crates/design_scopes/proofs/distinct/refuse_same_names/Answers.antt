-- Each object's name is apart from those before it.
use Rattle.std.proofs.Common.{◌<◌, length, refl, sym, subst, arith}
use Rattle.design_scopes.specs.Flat.{object_name}
use Rattle.design_scopes.proofs.NamesApart.{AreApart, none_apart, object_more, object_again, all_apart}
use Rattle.design_scopes.proofs.distinct.refuse_same_names.Goals as goal

pub loop-number-init : goal.loop-number-init
loop-number-init c =
    subst (λ keys. AreApart keys c.args.objects.now 0) (sym c.new-names.ensures.empty) (none_apart c.args.objects.now)

pub loop-number-preserved : goal.loop-number-preserved
loop-number-preserved c =
    let within : c.loop-number.number < length c.args.objects.now = omega arith in
    object_more c.loop-number.names.keys c.add_object.new.names.keys c.args.objects.now c.loop-number.number c.index-objects-number.result (object_name c.index-objects-number.result) within c.index-objects-number.is refl
    (c.in_ok-add_object.ensures.added c.if-not-branch.false) c.loop-number.invariant

pub returns-then-not-branch-clause-fault : goal.returns-then-not-branch-clause-fault
returns-then-not-branch-clause-fault c =
    let within : c.loop-number.number < length c.args.objects.now = omega arith in (
      refl,
      object_again c.loop-number.names.keys c.args.objects.now c.loop-number.number c.index-objects-number.result (object_name c.index-objects-number.result) within c.index-objects-number.is refl
          (c.in_ok-add_object.ensures.found c.if-not-branch.true) c.loop-number.invariant,
    )

pub returns-clause-apart : goal.returns-clause-apart
returns-clause-apart c =
    all_apart c.loop-number.names.keys c.args.objects.now c.loop-number.number (omega arith) c.loop-number.invariant
