-- Where the walk had come at its checkpoint, or where it has come now.
use Rattle.std.proofs.Common.{◌≡◌, ◌∙◌, ◌++◌, Some, ap, sym, subst}
use Rattle.loosewalks.specs.declared.checkpoint.Walk.{Walk}
use Rattle.loosewalks.specs.Checkpoints.{WalkHasComeTo, moves_of}
use Rattle.loosewalks.proofs.GoingOn.{copied_code, copied_come, found_there}
use Rattle.loosewalks.proofs.checkpoint.Walk.take_checkpoint.Goals as goal

pub returns-in-Some-clause-come : goal.returns-in-Some-clause-come
returns-in-Some-clause-come c = λ class limits s begun is.
    let old = c.args.self.now in
    let copy = c.in-Some.checkpoint in
    subst (λ (walk : Walk). WalkHasComeTo class limits s begun copy.value walk.moves.items) (sym c.near_checkpoint.ensures.rest)
    (found_there old.checkpoint copy (λ v. WalkHasComeTo class limits s begun v.value old.moves.items) (found_there _ copy (λ v. old.checkpoint ≡ Some v) c.in-Some.is c.near_checkpoint.ensures.there) is.there)

pub returns-in-Some-clause-code : goal.returns-in-Some-clause-code
returns-in-Some-clause-code c = λ code are.
    let old = c.args.self.now in
    let copy = c.in-Some.checkpoint in
    found_there old.checkpoint copy (λ v. v.value.code ≡ code) (found_there _ copy (λ v. old.checkpoint ≡ Some v) c.in-Some.is c.near_checkpoint.ensures.there) are.there

pub returns-in_ok-extend_from_slice-in-None-clause-come : goal.returns-in_ok-extend_from_slice-in-None-clause-come
returns-in_ok-extend_from_slice-in-None-clause-come c =
    let near = c.near_checkpoint.new.self in
    let all = c.in_ok-extend_from_slice-in-None.ensures.items ∙ (ap (λ l. near.moves.items ++ l) c.deref.ensures.value ∙ ap moves_of c.near_checkpoint.ensures.rest) in
    copied_come (λ copy. copy.value) c.copy_of.result c.args.machine.now c.args.self.now c.extend_from_slice.new.self.items all c.copy_of.ensures

pub returns-in_ok-extend_from_slice-in-None-clause-code : goal.returns-in_ok-extend_from_slice-in-None-clause-code
returns-in_ok-extend_from_slice-in-None-clause-code c = copied_code (λ copy. copy.value) c.copy_of.result c.args.machine.now c.args.self.now c.copy_of.ensures
