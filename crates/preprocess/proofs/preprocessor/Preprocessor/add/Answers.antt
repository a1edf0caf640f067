-- What is cut stands in the file that is added, and so does the byte at which a cut stops.
use Rattle.std.proofs.Common.{◌≡◌, length, inl, inr, refl, rules}
use Rattle.preprocess.proofs.Standing.{found_stand, fault_found}
use Rattle.preprocess.proofs.preprocessor.Preprocessor.add.Goals as goal

pub returns-in-Ok-clause-stand : goal.returns-in-Ok-clause-stand
returns-in-Ok-clause-stand c =
    let number : c.len-number.result ≡ length c.args.self.now.work.files.items = search rules in
    found_stand c.args.self.now.work.files.items _ c.args.file c.len-number.result c.deref.result.now c.in-Ok.found.items c.in_ok-add_file.ensures.files number c.deref.ensures.value c.in-Ok.ensures.lies

pub returns-in-Err-clause-fault : goal.returns-in-Err-clause-fault
returns-in-Err-clause-fault c =
    let number : c.len-number.result ≡ length c.args.self.now.work.files.items = search rules in
    fault_found c.args.self.now.work.files.items _ c.args.file c.len-number.result c.deref.result.now c.in-Err.fault c.cut_fault.result c.in_ok-add_file.ensures.files number c.deref.ensures.value
    c.in-Err.ensures.tells c.cut_fault.ensures

pub returns-then-is_too_much-clause-adds : goal.returns-then-is_too_much-clause-adds
returns-then-is_too_much-clause-adds c = inl refl

pub returns-in_err-add_file-clause-adds : goal.returns-in_err-add_file-clause-adds
returns-in_err-add_file-clause-adds c = inl c.in_err-add_file.ensures.kept

pub returns-in-Ok-clause-adds : goal.returns-in-Ok-clause-adds
returns-in-Ok-clause-adds c = inr c.in_ok-add_file.ensures.files

pub returns-in-Err-clause-adds : goal.returns-in-Err-clause-adds
returns-in-Err-clause-adds c = inr c.in_ok-add_file.ensures.files
