-- Journals of one observed text have the same values of the registers that are seen whenever time passes.
use Rattle.std.proofs.Common.{◌≡◌, ◌≢◌, ◌⊎◌, ℕ, suc, ◌≤◌, ◌==◌, nat_lt, false, not, List, [], ◌∷◌, ◌++◌, append_assoc, flat_map, decimal, Option, Some, None, option_map, inl, inr, refl, sym, ap, ◌∙◌, subst, arith}
use Rattle.std.specs.Prelude.{option_and_then}
use Rattle.std.specs.List.{All}
use Rattle.std.proofs.lemmas.Bool.Decides.{leb_tells}
use Rattle.std.proofs.lemmas.List.{append-nil}
use Rattle.std.proofs.lemmas.List.Elements.{All-head, All-tail}
use Rattle.std.proofs.lemmas.Option.{option_and_then_some}
use Rattle.model.specs.declared.entry.Entry.{Entry}
use Rattle.model.specs.declared.entry.Entry.TheVariants.{Update, ActivateInactive, ActivateNba, ActivateMonitor, Advance}
use Rattle.model.specs.declared.entry.Refusal.TheVariants.{NotDue, PastLimit, WrongTime}
use Rattle.model.specs.Design.{Design}
use Rattle.model.specs.States.{State, start, advanced}
use Rattle.model.specs.Runs.{Effect, silent, joined, step, run_from, refusal, refused_where, time_refusal, least_time, last_time, has_earlier, Future, effect}
use Rattle.model.proofs.RunLaws.{unless_some, where_none}
use Rattle.loose.proofs.LooseSteps.{step_is_loose}
use Rattle.looseruns.specs.ObservedJournals.{Observer, seen_at, observed_step, observed_run_from, observed_run}
use Rattle.looseruns.specs.RegisterObserver.{sight_mark, seen_register_line, seen_registers}
use Rattle.looseruns.specs.RegisterSights.{HaveSameRegisters, PrintsNoMark, OneTextIsOneWave}
use Rattle.looseruns.proofs.FutureTimes.{IsAhead, IsAheadAt, time_after, loose_step_taken, ahead_loose_step, ahead_still}
use Rattle.looseruns.proofs.ObservedSearches.{printing}
use Rattle.looseruns.proofs.Observing.{unseen}
use Rattle.looseruns.proofs.SightLines.{Without, without-append, split_at, sights_same}

-- times stay within the last one

-- the state's time is no later than the last one, and every future event is later than it
abbrev IsTimed : State → Type 0
IsTimed s = IsAhead s × (s.time ≤ last_time)

due_within : (time : ℕ) (o : Option ℕ) → time_refusal time o ≡ None → time ≤ last_time
due_within time None none = cc
due_within time (Some due) none =
    let past = (where_none (not (due == time)) WrongTime (refused_where (nat_lt last_time time) PastLimit None) none).1 in
    let low : nat_lt last_time time ≡ false = (where_none (nat_lt last_time time) PastLimit None past).0 in
    grind (arith, leb_tells (suc last_time) time, low)

after_within : (design : Design) (s : State) (entry : Entry) (f : Effect) → step design s entry ≡ Some f → s.time ≤ last_time → time_after s entry ≤ last_time
after_within design s (Entry.Turn n) f h low = low
after_within design s (Update n) f h low = low
after_within design s ActivateInactive f h low = low
after_within design s ActivateNba f h low = low
after_within design s ActivateMonitor f h low = low
after_within design s (Advance time) f h low =
    let (none, comes) = loose_step_taken (λ r. 0) design s (Advance time) f (step_is_loose (λ r. 0) design s (Advance time) f h) in
    due_within time (least_time s) (where_none (has_earlier Future s) NotDue (time_refusal time (least_time s)) none).1

timed_step : (design : Design) (s : State) (entry : Entry) (f : Effect) → step design s entry ≡ Some f → IsTimed s → IsTimed f.state
timed_step design s entry f h (ahead, low) =
    let at : IsAheadAt (time_after s entry) f.state = ahead_loose_step (λ r. 0) design s entry f (step_is_loose (λ r. 0) design s entry f h) ahead in
    (ahead_still (time_after s entry) f.state at, subst (λ n. n ≤ last_time) (sym at.0) (after_within design s entry f h low))

-- the state to which entries lead, and what is printed and seen at them

abbrev lead : Design → State → List Entry → Option State
lead design s [] = Some s
lead design s (entry ∷ more) = option_and_then (λ (f : Effect). lead design f.state more) (step design s entry)

abbrev told : Design → Observer → State → List Entry → Option (List ℕ)
told design observe s [] = Some []
told design observe s (entry ∷ more) =
    option_and_then (λ (f : Effect). option_map (λ l. (seen_at observe s entry ++ f.lines) ++ l) (told design observe f.state more)) (step design s entry)

-- one entry, and what is told behind it
abbrev ToldMore : Design → Observer → State → Entry → List Entry → List ℕ → Type 0
ToldMore design observe s entry more text =
    (f : Effect) × (l : List ℕ) × (step design s entry ≡ Some f) × (told design observe f.state more ≡ Some l) × ((seen_at observe s entry ++ f.lines) ++ l ≡ text)

told_behind : (seen : List ℕ) (o : Option (List ℕ)) (text : List ℕ) → option_map (λ l. seen ++ l) o ≡ Some text → (l : List ℕ) × (o ≡ Some l) × (seen ++ l ≡ text)
told_behind seen None text is = cc
told_behind seen (Some l) text is = (l, refl, cc)

told_more : (design : Design) (observe : Observer) (s : State) (entry : Entry) (more : List Entry) (text : List ℕ) → told design observe s (entry ∷ more) ≡ Some text → ToldMore design observe s entry more text
told_more design observe s entry more text is =
    option_and_then_some (λ (f : Effect). option_map (λ l. (seen_at observe s entry ++ f.lines) ++ l) (told design observe f.state more)) (step design s entry) text is
    (λ f at_f later.
    let (l, at_l, same) = told_behind (seen_at observe s entry ++ f.lines) (told design observe f.state more) text later in
    (f, l, at_f, at_l, same))

lead_more : (design : Design) (s : State) (entry : Entry) (more : List Entry) (f : Effect) (t : State) → step design s entry ≡ Some f → lead design f.state more ≡ Some t → lead design s (entry ∷ more) ≡ Some t
lead_more design s entry more f t at_f leads = ap (option_and_then (λ (g : Effect). lead design g.state more)) at_f ∙ leads

-- the observed text of a run is what is told behind the lines before
observed_is_told : (design : Design) (observe : Observer) (d g : Effect) (entries : List Entry) → observed_run_from design observe d entries ≡ Some g → (l : List ℕ) × (told design observe d.state entries ≡ Some l) × (d.lines ++ l ≡ g.lines)
observed_is_told design observe d g [] is =
    let last : d ≡ g = cc in
    ([], refl, append-nil d.lines ∙ ap (λ x. x.lines) last)
observed_is_told design observe d g (entry ∷ more) is =
    option_and_then_some (λ x. observed_run_from design observe (joined d x) more) (observed_step design observe d.state entry) g is
    (λ x at_x later.
    let (f, at_f, seen) = unseen (seen_at observe d.state entry) (step design d.state entry) x at_x in
    let (l, at_l, same) = observed_is_told design observe (joined d x) g more later in
    let text = seen_at observe d.state entry ++ f.lines in
    let at_l' : told design observe f.state more ≡ Some l = subst (λ (z : Effect). told design observe z.state more ≡ Some l) (sym seen) at_l in
    let lines : text ≡ x.lines = ap (λ (z : Effect). z.lines) seen in (
      text ++ l,
      ap (option_and_then (λ (z : Effect). option_map (λ k. (seen_at observe d.state entry ++ z.lines) ++ k) (told design observe z.state more))) at_f ∙ ap (option_map (λ k. text ++ k)) at_l',
      sym (append_assoc d.lines text l) ∙ (ap (λ z. (d.lines ++ z) ++ l) lines ∙ same),
    ))

-- runs and where they lead

run_leads : (design : Design) (d g : Effect) (entries : List Entry) → run_from design d entries ≡ Some g → lead design d.state entries ≡ Some g.state
run_leads design d g [] is = ap (option_map (λ (x : Effect). x.state)) is
run_leads design d g (entry ∷ more) is =
    option_and_then_some (λ x. run_from design (joined d x) more) (step design d.state entry) g is
    (λ x at_x later. lead_more design d.state entry more x g.state at_x (run_leads design (joined d x) g more later))

leads_run : (design : Design) (d : Effect) (t : State) (entries : List Entry) → lead design d.state entries ≡ Some t → (g : Effect) × (run_from design d entries ≡ Some g) × (g.state ≡ t)
leads_run design d t [] is =
    let same : d.state ≡ t = cc in
    (d, refl, same)
leads_run design d t (entry ∷ more) is =
    option_and_then_some (λ (f : Effect). lead design f.state more) (step design d.state entry) t is
    (λ f at_f later.
    let (g, goes, state) = leads_run design (joined d f) t more later in
    (g, ap (option_and_then (λ x. run_from design (joined d x) more)) at_f ∙ goes, state))

-- an entry at which nothing is seen, or an advance

abbrev Kind : Entry → Type 0
Kind entry = ((observe : Observer) (s : State) → seen_at observe s entry ≡ []) ⊎ ((time : ℕ) × (entry ≡ Advance time))

kind : (entry : Entry) → Kind entry
kind (Entry.Turn n) = inl (λ observe s. refl)
kind (Update n) = inl (λ observe s. refl)
kind ActivateInactive = inl (λ observe s. refl)
kind ActivateNba = inl (λ observe s. refl)
kind ActivateMonitor = inl (λ observe s. refl)
kind (Advance time) = inr (time, refl)

-- an advance prints nothing
advance_silent : (design : Design) (s : State) (time : ℕ) (f : Effect) → step design s (Advance time) ≡ Some f → f.lines ≡ []
advance_silent design s time f h =
    let parts : (refusal s (Advance time) ≡ None) × (Some (silent (advanced s time)) ≡ Some f) = unless_some (refusal s (Advance time)) (effect design s (Advance time)) f h in
    let same : silent (advanced s time) ≡ f = cc in
    ap (λ x. x.lines) (sym same)

without_mark : (lines : List ℕ) → All (λ byte. byte ≢ sight_mark) lines → Without sight_mark lines
without_mark [] h = tt
without_mark (x ∷ xs) h = (All-head (λ byte. byte ≢ sight_mark) x xs h, without_mark xs (All-tail (λ byte. byte ≢ sight_mark) x xs h))

no_mark : {P : Type 0} (byte : ℕ) (xs us ys : List ℕ) → Without byte ys → xs ++ byte ∷ us ≡ ys → P
no_mark byte [] us [] h same = cc
no_mark byte [] us (y ∷ ys) h same =
    let first : y ≡ byte = cc in
    absurd (h.0 first)
no_mark byte (x ∷ xs) us [] h same = cc
no_mark byte (x ∷ xs) us (y ∷ ys) h same =
    let rest : xs ++ byte ∷ us ≡ ys = cc in
    no_mark byte xs us ys h.1 rest

module _ (design : Design) (registers : List ℕ) (clean : PrintsNoMark design) where
  abbrev observer : Observer
  observer = seen_registers registers

  -- what is seen of a state, but for the mark
  abbrev unmarked : State → List ℕ
  unmarked s = decimal s.time ++ 10 ∷ flat_map (λ r. seen_register_line s.store r) registers

  -- time passes somewhere among entries, where what is seen begins a text
  abbrev Found : State → List Entry → List ℕ → Type 0
  Found t entries text =
      (front : List Entry) × (rest : List Entry) × (time : ℕ) × (u : State) × (f : Effect) × (l : List ℕ) × (entries ≡ front ++ Advance time ∷ rest) × (lead design t front ≡ Some u) × IsTimed u
      × (step design u (Advance time) ≡ Some f) × (told design observer f.state rest ≡ Some l) × (observer u ++ l ≡ text)

  found_more : (t : State) (entry : Entry) (more : List Entry) (f : Effect) (text : List ℕ) → step design t entry ≡ Some f → Found f.state more text → Found t (entry ∷ more) text
  found_more t entry more f text at_f (front, rest, time, u, g, l, split, leads, timed, steps, tells, same) =
      (entry ∷ front, rest, time, u, g, l, ap (λ es. entry ∷ es) split, lead_more design t entry front f u at_f leads, timed, steps, tells, same)

  -- the text of an entry at which nothing is seen joins the lines before
  joins : (seen lines l ys text : List ℕ) → seen ≡ [] → (seen ++ lines) ++ l ≡ text → (ys ++ lines) ++ l ≡ ys ++ text
  joins seen lines l ys text none same = append_assoc ys lines l ∙ ap (λ z. ys ++ z) (sym (ap (λ z. (z ++ lines) ++ l) none) ∙ same)

  -- the text of an advance is what is seen, and what is told behind it
  seen_alone : (seen lines l text : List ℕ) → lines ≡ [] → (seen ++ lines) ++ l ≡ text → seen ++ l ≡ text
  seen_alone seen lines l text none same = sym (ap (λ z. z ++ l) (ap (λ z. seen ++ z) none ∙ append-nil seen)) ∙ same

  find_more : (t : State) (entry : Entry) (more : List Entry) (xs ys w text : List ℕ) → Kind entry → IsTimed t → Without sight_mark xs → Without sight_mark ys → xs ++ sight_mark ∷ w ≡ ys ++ text → ToldMore design observer t entry more text
      → ((f : Effect) (l zs : List ℕ) → IsTimed f.state → told design observer f.state more ≡ Some l → Without sight_mark zs → xs ++ sight_mark ∷ w ≡ zs ++ l → Found f.state more (sight_mark ∷ w)) → Found t (entry ∷ more) (sight_mark ∷ w)
  find_more t entry more xs ys w text (inl unseen_here) timed no_x no_y same (f, l, at_f, at_l, is) later =
      let zs = ys ++ f.lines in
      let no_z = without-append sight_mark ys f.lines no_y (without_mark f.lines (clean t entry f at_f)) in
      let text_is = joins (seen_at observer t entry) f.lines l ys text (unseen_here observer t) is in
      found_more t entry more f (sight_mark ∷ w) at_f (later f l zs (timed_step design t entry f at_f timed) at_l no_z (same ∙ sym text_is))
  find_more t entry more xs ys w text (inr (time, advance)) timed no_x no_y same (f, l, at_f, at_l, is) later =
      let at_f' : step design t (Advance time) ≡ Some f = subst (λ e. step design t e ≡ Some f) advance at_f in
      let is' : (observer t ++ f.lines) ++ l ≡ text = subst (λ e. (seen_at observer t e ++ f.lines) ++ l ≡ text) advance is in
      let text_is : observer t ++ l ≡ text = seen_alone (observer t) f.lines l text (advance_silent design t time f at_f') is' in
      let apart : xs ++ sight_mark ∷ w ≡ ys ++ sight_mark ∷ (unmarked t ++ l) = same ∙ sym (ap (λ z. ys ++ z) text_is) in
      let (front, behind) = split_at sight_mark xs ys w (unmarked t ++ l) no_x no_y apart in
      ([], more, time, t, f, l, ap (λ e. e ∷ more) advance, refl, timed, at_f', at_l, ap (λ z. sight_mark ∷ z) (sym behind))

  -- where a mark stands in what is told, time passes
  find : (t : State) (entries : List Entry) (xs ys w text : List ℕ) → IsTimed t → told design observer t entries ≡ Some text → Without sight_mark xs → Without sight_mark ys → xs ++ sight_mark ∷ w ≡ ys ++ text → Found t entries (sight_mark ∷ w)
  find t [] xs ys w text timed is no_x no_y same =
      let none : [] ≡ text = cc in
      no_mark sight_mark xs w ys no_y (same ∙ (ap (λ z. ys ++ z) (sym none) ∙ append-nil ys))
  find t (entry ∷ more) xs ys w text timed is no_x no_y same =
      find_more t entry more xs ys w text (kind entry) timed no_x no_y same (told_more design observer t entry more text is)
      (λ f l zs timed' at_l no_z same'. find f.state more xs zs w l timed' at_l no_x no_z same')

  -- time passes somewhere among entries, with the same values of the registers
  abbrev PassesToo : State → List Entry → State → Type 0
  PassesToo t entries e =
      (front : List Entry) × (rest : List Entry) × (time : ℕ) × (u : State) × (entries ≡ front ++ Advance time ∷ rest) × (lead design t front ≡ Some u) × HaveSameRegisters registers e u

  passes_behind : (t u : State) (front rest : List Entry) (time : ℕ) (entries : List Entry) (f : Effect) (e : State) → entries ≡ front ++ Advance time ∷ rest → lead design t front ≡ Some u → step design u (Advance time) ≡ Some f → PassesToo f.state rest e → PassesToo t entries e
  passes_behind t u front rest time entries f e split leads steps (front', rest', time', v, split', leads', same) = (
    front ++ Advance time ∷ front',
    rest',
    time',
    v,
    split ∙ (ap (λ es. front ++ Advance time ∷ es) split' ∙ sym (append_assoc front (Advance time ∷ front') (Advance time' ∷ rest'))),
    leads_on t u v front (Advance time ∷ front') leads (lead_more design u (Advance time) front' f v steps leads'),
    same,
  )
    where
      leads_on : (t u v : State) (front more : List Entry) → lead design t front ≡ Some u → lead design u more ≡ Some v → lead design t (front ++ more) ≡ Some v
      leads_on t u v [] more leads later =
          let same : t ≡ u = cc in
          subst (λ s. lead design s more ≡ Some v) (sym same) later
      leads_on t u v (entry ∷ front) more leads later =
          option_and_then_some (λ (f : Effect). lead design f.state front) (step design t entry) u leads
          (λ f at_f leads'. lead_more design t entry (front ++ more) f v at_f (leads_on f.state u v front more leads' later))

  -- wherever time passes behind these entries, it passes among those of a run of the same text
  abbrev PassesIn : List Entry → ℕ → List Entry → State → Type 0
  PassesIn front time rest e =
      (s t : State) (entries : List Entry) (xs ys one two : List ℕ) → IsTimed s → IsTimed t → told design observer s (front ++ Advance time ∷ rest) ≡ Some one → told design observer t entries ≡ Some two
      → Without sight_mark xs → Without sight_mark ys → xs ++ one ≡ ys ++ two → lead design s front ≡ Some e → PassesToo t entries e

  -- an advance is found in the other run, with the same values and the same text behind it
  abbrev FoundAlike : State → State → List Entry → List ℕ → Type 0
  FoundAlike s t entries l =
      (front : List Entry) × (rest : List Entry) × (time : ℕ) × (u : State) × (f : Effect) × (entries ≡ front ++ Advance time ∷ rest) × (lead design t front ≡ Some u) × IsTimed u × (step design u (Advance time) ≡ Some f)
      × (told design observer f.state rest ≡ Some l) × HaveSameRegisters registers s u

  find_alike : (s t : State) (time : ℕ) (rest entries : List Entry) (xs ys one two l : List ℕ) (f : Effect) → IsTimed s → IsTimed t → step design s (Advance time) ≡ Some f → (observer s ++ f.lines) ++ l ≡ one → told design observer t entries ≡ Some two
      → Without sight_mark xs → Without sight_mark ys → xs ++ one ≡ ys ++ two → FoundAlike s t entries l
  find_alike s t time rest entries xs ys one two l f timed timed' at_f is tells no_x no_y same =
      let text_is : observer s ++ l ≡ one = seen_alone (observer s) f.lines l one (advance_silent design s time f at_f) is in
      let (front, behind, due, u, g, k, split, leads, timed_u, steps, tells_k, text) = find t entries xs ys (unmarked s ++ l) two timed' tells no_x no_y (ap (λ z. xs ++ z) text_is ∙ same) in
      let (registers_same, left) = sights_same registers s u l k timed.1 timed_u.1 (sym text) in
      (front, behind, due, u, g, split, leads, timed_u, steps, subst (λ z. told design observer g.state behind ≡ Some z) (sym left) tells_k, registers_same)

  lead_on : (s e : State) (entry : Entry) (more : List Entry) (f : Effect) → step design s entry ≡ Some f → lead design s (entry ∷ more) ≡ Some e → lead design f.state more ≡ Some e
  lead_on s e entry more f at_f leads = sym (ap (option_and_then (λ (g : Effect). lead design g.state more)) at_f) ∙ leads

  pass_more : (entry : Entry) (more : List Entry) (time : ℕ) (rest : List Entry) (e : State) → Kind entry → PassesIn more time rest e → PassesIn (entry ∷ more) time rest e
  pass_more entry more time rest e (inl unseen_here) later s t entries xs ys one two timed timed' tells tells' no_x no_y same leads =
      let (f, l, at_f, at_l, is) = told_more design observer s entry (more ++ Advance time ∷ rest) one tells in
      let no_z = without-append sight_mark xs f.lines no_x (without_mark f.lines (clean s entry f at_f)) in
      later f.state t entries (xs ++ f.lines) ys l two (timed_step design s entry f at_f timed) timed' at_l tells' no_z no_y
      (joins (seen_at observer s entry) f.lines l xs one (unseen_here observer s) is ∙ same) (lead_on s e entry more f at_f leads)
  pass_more entry more time rest e (inr (now, advance)) later s t entries xs ys one two timed timed' tells tells' no_x no_y same leads =
      let (f, l, at_f, at_l, is) = told_more design observer s entry (more ++ Advance time ∷ rest) one tells in
      let at_f' : step design s (Advance now) ≡ Some f = subst (λ d. step design s d ≡ Some f) advance at_f in
      let is' : (observer s ++ f.lines) ++ l ≡ one = subst (λ d. (seen_at observer s d ++ f.lines) ++ l ≡ one) advance is in
      let (front, behind, due, u, g, split, leads_u, timed_u, steps, tells_l, registers_same) = find_alike s t now (more ++ Advance time ∷ rest) entries xs ys one two l f timed timed' at_f' is' tells' no_x no_y same in
      passes_behind t u front behind due entries g e split leads_u steps
      (later f.state g.state behind [] [] l l (timed_step design s entry f at_f timed) (timed_step design u (Advance due) g steps timed_u) at_l tells_l tt tt refl (lead_on s e entry more f at_f leads))

  pass : (front : List Entry) (time : ℕ) (rest : List Entry) (e : State) → PassesIn front time rest e
  pass [] time rest e s t entries xs ys one two timed timed' tells tells' no_x no_y same leads =
      let (f, l, at_f, at_l, is) = told_more design observer s (Advance time) rest one tells in
      let (front, behind, due, u, g, split, leads_u, timed_u, steps, tells_l, registers_same) = find_alike s t time rest entries xs ys one two l f timed timed' at_f is tells' no_x no_y same in
      let here : s ≡ e = cc in
      (front, behind, due, u, split, leads_u, subst (λ z. HaveSameRegisters registers z u) here registers_same)
  pass (entry ∷ more) time rest e s t entries xs ys one two timed timed' tells tells' no_x no_y same leads =
      pass_more entry more time rest e (kind entry) (pass more time rest e) s t entries xs ys one two timed timed' tells tells' no_x no_y same leads

-- the text that is told of a journal
abbrev IsTold : Design → Observer → List Entry → List ℕ → Type 0
IsTold design observe journal text = told design observe (start design) journal ≡ Some text

text_is_told : (design : Design) (observe : Observer) (journal : List Entry) (text : List ℕ) → option_map (λ (x : Effect). x.lines) (observed_run design observe journal) ≡ Some text → IsTold design observe journal text
text_is_told design observe journal text is =
    let (g, at_g, lines) = printing (observed_run design observe journal) text is in
    let (l, tells, same) = observed_is_told design observe (silent (start design)) g journal at_g in
    subst (IsTold design observe journal) (same ∙ lines) tells

pub one_text_is_one_wave : OneTextIsOneWave
one_text_is_one_wave design registers one other text front e clean seen seen' passes =
    let observe : Observer = seen_registers registers in
    let begun : IsTimed (start design) = ((tt, tt), omega arith) in
    let tells : IsTold design observe (front ++ Advance passes.time ∷ passes.rest) text = subst (λ j. IsTold design observe j text) passes.split (text_is_told design observe one text seen) in
    let leads : lead design (start design) front ≡ Some e.state = run_leads design (silent (start design)) e front passes.is_run in
    let (front', rest, time, u, split, leads', same) =
    pass design registers clean front passes.time passes.rest e.state (start design) (start design) other [] [] text text begun begun tells (text_is_told design observe other text seen') tt tt refl leads in
    let (f, goes, state) = leads_run design (silent (start design)) u front' leads' in
    (front', f, record { time = time; rest = rest; split = split; is_run = goes }, subst (λ z. HaveSameRegisters registers e.state z) (sym state) same)
