-- What a generator's draws choose.
use Rattle.std.proofs.Common.{◌≡◌, ℕ, ◌<◌, List, [], length, min, Option, Some, None, sym, ◌∙◌, ap, subst, arith, inl}
use Rattle.std.specs.Prelude.{◌↔◌, IfSome, slice_get}
use Rattle.std.specs.List.{Contains}
use Rattle.rand_core.specs.Stream.{Stream}
use Rattle.rand_core.specs.Pcg32Seed.{pcg32_seed}
use Rattle.rand_pcg.specs.Lcg.{Lcg}
use Rattle.rand_pcg.specs.Pcg.{pcg32_of_seed}
use Rattle.rand.specs.Draw.{Gives}
use Rattle.rand.specs.Uniform.{usize_single}
use Rattle.model.specs.declared.entry.Entry.{Entry}
use Rattle.model.specs.declared.end.Limits.{Limits}
use Rattle.model.specs.declared.end.Why.TheVariants.{Finish, Until, Entries, TooLong, Time, Memory}
use Rattle.model.specs.declared.end.End.{End}
use Rattle.model.specs.declared.end.End.TheVariants.{Quiet, Running, Stopped}
use Rattle.model.specs.Design.{Design}
use Rattle.model.specs.States.{State}
use Rattle.model.specs.Runs.{refusal, EndsIn}
use Rattle.design.specs.Compiled.{Compiled, design_of}
use Rattle.regions.specs.Machine.{AreInOrder}
use Rattle.runs.specs.declared.run.RunRecord.{RunRecord}
use Rattle.runs.specs.Halting.{HaltsAt}
use Rattle.seeded.specs.Seeds.{AreChosen, EndsByChoice, FollowsSeed, IsChosen, IsDrawn, IsOneMore, Nothing, More, stream_from}
use Rattle.runs.proofs.Permits.{turn_next}

-- the entry at the place that is drawn is chosen
pub drawn_at : (s : State) (choices : List Entry) (o : Option Entry) (place count : ℕ) (stream rest : Stream) → ((e : Entry) → Contains choices e ↔ (refusal s e ≡ None)) → AreInOrder choices
    → count ≡ min (length choices) 18446744073709551615 → Gives (usize_single 0 count) stream place rest → o ≡ slice_get choices place → IfSome o (λ entry. IsChosen s stream entry rest)
drawn_at s choices None place count stream rest all order count_is drawn is = tt
drawn_at s choices (Some entry) place count stream rest all order count_is drawn is =
    record {
      choices = choices;
      all = all;
      order = order;
      place = place;
      drawn = drawn ∙ ap (λ (n : ℕ). usize_single 0 n stream) count_is;
      there = sym is;
    }

-- a run that halts doesn't end by a turn that is too long
pub halt_by_choice : (design : Design) (limits : Limits) (journal : List Entry) (stream : Stream) (s : State) (end : End) → 0 < limits.max_entries → HaltsAt design limits s end
    → EndsByChoice design journal stream end
halt_by_choice design limits journal stream s Quiet some halts = tt
halt_by_choice design limits journal stream s Running some halts = tt
halt_by_choice design limits journal stream s (Stopped Finish) some halts = tt
halt_by_choice design limits journal stream s (Stopped Until) some halts = tt
halt_by_choice design limits journal stream s (Stopped Entries) some halts = tt
halt_by_choice design limits journal stream s (Stopped (TooLong p)) some halts =
    let (few, going, (n, there, none)) = (halts.ends (inl some)).2 in
    let next = turn_next limits s n p going there in
    absurd (halts.nothing next.0 next.1)
halt_by_choice design limits journal stream s (Stopped Time) some halts = tt
halt_by_choice design limits journal stream s (Stopped Memory) some halts = tt

-- nor does one whose journal has the most entries
pub full_by_choice : (design : Design) (limits : Limits) (journal : List Entry) (stream : Stream) (s : State) (end : End) → EndsIn design limits limits.max_entries s end
    → EndsByChoice design journal stream end
full_by_choice design limits journal stream s Quiet ends = tt
full_by_choice design limits journal stream s Running ends = tt
full_by_choice design limits journal stream s (Stopped Finish) ends = tt
full_by_choice design limits journal stream s (Stopped Until) ends = tt
full_by_choice design limits journal stream s (Stopped Entries) ends = tt
full_by_choice design limits journal stream s (Stopped (TooLong p)) ends = absurd (omega (arith, ends.0))
full_by_choice design limits journal stream s (Stopped Time) ends = tt
full_by_choice design limits journal stream s (Stopped Memory) ends = tt

-- of a journal without an entry none is chosen
pub none_chosen : (design : Design) (stream : Stream) (journal : List Entry) → journal ≡ [] → AreChosen design stream journal stream
none_chosen design stream journal empty = subst (λ (es : List Entry). AreChosen design stream es stream) (sym empty) Nothing

-- with the next entry, all are chosen
pub more_chosen : (code code' : Compiled) (stream left rest : Stream) (journal longer : List Entry) → code' ≡ code → AreChosen (design_of code) stream journal left
    → IsOneMore (design_of code') journal left longer rest → AreChosen (design_of code) stream longer rest
more_chosen code code' stream left rest journal longer same chosen more =
    More journal left longer rest chosen (subst (λ (k : Compiled). IsOneMore (design_of k) journal left longer rest) same more)

-- a run that ends behind its last entry
pub drawn_end : (code code' : Compiled) (stream left : Stream) (journal last : List Entry) (end : End) → code' ≡ code → last ≡ journal
    → AreChosen (design_of code) stream journal left → EndsByChoice (design_of code') journal left end → IsDrawn (design_of code) stream last end
drawn_end code code' stream left journal last end same is chosen by =
    let kept : IsDrawn (design_of code) stream journal end =
    record {
      rest = left;
      chosen = chosen;
      last = subst (λ (k : Compiled). EndsByChoice (design_of k) journal left end) same by;
    } in
    subst (λ (es : List Entry). IsDrawn (design_of code) stream es end) (sym is) kept

-- a run that wants memory at its start
pub none_drawn : (design : Design) (stream : Stream) (journal : List Entry) → journal ≡ [] → IsDrawn design stream journal (Stopped Memory)
none_drawn design stream journal empty = record { rest = stream; chosen = none_chosen design stream journal empty; last = tt }

-- the draws of the generator that a seed begins
pub follows_seed : (code code' : Compiled) (seed : ℕ) (generator : Lcg) (r : RunRecord) → code' ≡ code → generator ≡ pcg32_of_seed (pcg32_seed 16 seed)
    → IsDrawn (design_of code') (stream_from generator) r.journal.items r.end → FollowsSeed code seed r
follows_seed code code' seed generator r same begun drawn =
    let here : IsDrawn (design_of code) (stream_from generator) r.journal.items r.end =
    subst (λ (k : Compiled). IsDrawn (design_of k) (stream_from generator) r.journal.items r.end) same drawn in
    subst (λ (g : Lcg). IsDrawn (design_of code) (stream_from g) r.journal.items r.end) begun here
