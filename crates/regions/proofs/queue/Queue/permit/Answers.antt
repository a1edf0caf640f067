-- The place of a turn's evaluation, and none of another entry.
use Rattle.std.proofs.Common.{◌≡◌, ℕ, List, sym, subst}
use Rattle.std.specs.Prelude.{Some, None, Ok, Err, Result, IfOk, MatchResult}
use Rattle.logic4.specs.Vector.{Vector}
use Rattle.model.specs.Turns.{Remainder}
use Rattle.model.specs.declared.entry.Entry.{Entry}
use Rattle.model.specs.declared.entry.Entry.TheVariants as entries
use Rattle.model.specs.declared.entry.Refusal.{Refusal}
use Rattle.model.specs.Runs.{refusal}
use Rattle.design.specs.declared.code.ProcState.{ProcState}
use Rattle.regions.specs.declared.queue.Evaluation.{Evaluation}
use Rattle.regions.specs.Queue.{core_of, state_of}
use Rattle.regions.specs.Find.{IsEvaluationAt}
use Rattle.regions.proofs.queue.Queue.permit.Goals as goal

-- the place of the evaluation with a number is that of the entry that takes it
placed : (es : List Evaluation) (entry : Entry) (number : ℕ) (result : Result ℕ Refusal) → entry ≡ entries.Turn number → IfOk result (IsEvaluationAt es number)
    → IfOk result (λ at. (n : ℕ) → entry ≡ entries.Turn n → IsEvaluationAt es n at)
placed es entry number (Ok at) is there = λ n is_n. let same : number ≡ n = cc in subst (λ (m : ℕ). IsEvaluationAt es m at) same there
placed es entry number (Err r) is there = tt

pub returns-in-Turn-clause-refused : goal.returns-in-Turn-clause-refused
returns-in-Turn-clause-refused c =
    let q = c.args.self.now in
    subst
    (λ (e : Entry). MatchResult c.permit_turn.result (λ at. (rem : ProcState → Remainder) (values : List Vector) → refusal (state_of rem values (core_of q)) e ≡ None) (λ r. (rem : ProcState → Remainder) (values : List Vector) → refusal (state_of rem values (core_of q)) e ≡ Some r))
    (sym c.in-Turn.is) c.permit_turn.ensures.refused

pub returns-in-Turn-clause-place : goal.returns-in-Turn-clause-place
returns-in-Turn-clause-place c =
    placed c.args.self.now.evaluations.items c.args.entry.now c.in-Turn.number c.permit_turn.result c.in-Turn.is c.permit_turn.ensures.place

pub returns-in-None-clause-place : goal.returns-in-None-clause-place
returns-in-None-clause-place c = λ n is. absurd (c.in_default.not-Turn n is)
