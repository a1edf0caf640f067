-- Keys tell what they are of.
use Rattle.std.proofs.Common.{◌≡◌, ℕ, List, ◌++◌, sym, ◌∙◌, ap, append_assoc}
use Rattle.std.specs.Prelude.{Option}
use Rattle.logic4.specs.Vector.{Vector}
use Rattle.design.specs.declared.code.ProcState.{ProcState}
use Rattle.statekeys.specs.KeyCodes.{IsSelfDelimiting, nat_code, bool_code, pair_code, option_code, list_code, vector_code}
use Rattle.statekeys.specs.Keys.{KeyContent, state_code, process_code, update_code, key_code}
use Rattle.statekeys.proofs.Numbers.{nat_code_tells}
use Rattle.statekeys.proofs.Codes.{bool_code_tells, pair_code_tells, option_code_tells, list_code_tells, vector_code_tells}

pub update_code_tells : IsSelfDelimiting update_code
update_code_tells x y r s e = pair_code_tells nat_code vector_code nat_code_tells vector_code_tells x y r s e

pub state_code_tells : IsSelfDelimiting state_code
state_code_tells x y r s e =
    let both = pair_code_tells nat_code (option_code (pair_code nat_code vector_code)) nat_code_tells
    (option_code_tells (pair_code nat_code vector_code) (pair_code_tells nat_code vector_code nat_code_tells vector_code_tells))
    (x.place, x.pending) (y.place, y.pending) r s e in
    ((λ k. record { place = (both.0 k).0; pending = (both.0 k).1 }), both.1)

pub process_code_tells : IsSelfDelimiting process_code
process_code_tells x y r s e =
    pair_code_tells state_code (option_code nat_code) state_code_tells (option_code_tells nat_code nat_code_tells) x y r s e

right : (a b c d e f g h i j k l r : List ℕ)
    → (a ++ b ++ c ++ d ++ e ++ f ++ g ++ h ++ i ++ j ++ k ++ l) ++ r
    ≡ a ++ (b ++ (c ++ (d ++ (e ++ (f ++ (g ++ (h ++ (i ++ (j ++ (k ++ (l ++ r)))))))))))
right a b c d e f g h i j k l r = simp append_assoc

-- a key in parts, one after another, and what follows it
parts : (t : KeyContent) (r : List ℕ) → key_code t ++ r
    ≡ nat_code t.time ++ (bool_code t.finished ++ (list_code vector_code t.values ++ (list_code process_code t.processes
    ++ (list_code update_code t.updates ++ (list_code nat_code t.evaluations ++ (list_code nat_code t.inactive
    ++ (list_code update_code t.nonblocking ++ (list_code nat_code t.monitor ++ (list_code nat_code t.future_times
    ++ (list_code (pair_code nat_code nat_code) t.future_evaluations ++ (list_code (pair_code nat_code update_code) t.future_updates ++ r)))))))))))
parts t r =
    right (nat_code t.time) (bool_code t.finished) (list_code vector_code t.values) (list_code process_code t.processes)
    (list_code update_code t.updates) (list_code nat_code t.evaluations) (list_code nat_code t.inactive)
    (list_code update_code t.nonblocking) (list_code nat_code t.monitor) (list_code nat_code t.future_times)
    (list_code (pair_code nat_code nat_code) t.future_evaluations) (list_code (pair_code nat_code update_code) t.future_updates) r

pub key_code_tells : IsSelfDelimiting key_code
key_code_tells t u r s e =
    let e0 = sym (parts t r) ∙ e ∙ parts u s in
    let e1 = nat_code_tells t.time u.time _ _ e0 in
    let e2 = bool_code_tells t.finished u.finished _ _ e1.1 in
    let e3 = list_code_tells vector_code vector_code_tells t.values u.values _ _ e2.1 in
    let e4 = list_code_tells process_code process_code_tells t.processes u.processes _ _ e3.1 in
    let e5 = list_code_tells update_code update_code_tells t.updates u.updates _ _ e4.1 in
    let e6 = list_code_tells nat_code nat_code_tells t.evaluations u.evaluations _ _ e5.1 in
    let e7 = list_code_tells nat_code nat_code_tells t.inactive u.inactive _ _ e6.1 in
    let e8 = list_code_tells update_code update_code_tells t.nonblocking u.nonblocking _ _ e7.1 in
    let e9 = list_code_tells nat_code nat_code_tells t.monitor u.monitor _ _ e8.1 in
    let e10 = list_code_tells nat_code nat_code_tells t.future_times u.future_times _ _ e9.1 in
    let e11 = list_code_tells (pair_code nat_code nat_code) (pair_code_tells nat_code nat_code nat_code_tells nat_code_tells)
    t.future_evaluations u.future_evaluations _ _ e10.1 in
    let e12 = list_code_tells (pair_code nat_code update_code) (pair_code_tells nat_code update_code nat_code_tells update_code_tells)
    t.future_updates u.future_updates _ _ e11.1 in
    let same : t ≡ u = λ k. record {
      time = e1.0 k;
      finished = e2.0 k;
      values = e3.0 k;
      processes = e4.0 k;
      updates = e5.0 k;
      evaluations = e6.0 k;
      inactive = e7.0 k;
      nonblocking = e8.0 k;
      monitor = e9.0 k;
      future_times = e10.0 k;
      future_evaluations = e11.0 k;
      future_updates = e12.0 k;
    } in
    (same, e12.1)
