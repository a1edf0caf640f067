-- What a search for waves has found, with what is claimed of it.
use Rattle.std.proofs.Common.{◌≡◌, ◌⊎◌, ◌∙◌, ap, append_assoc, inl, inr, subst, sym, refl, ℕ, suc, ◌+◌, ◌≤◌, ◌<◌, Bool, true, false, List, [], ◌∷◌, ◌++◌, length, get_or, Option, Some, None, option_map, Result, Ok, Err, IfErr, IfOk, IfSome, IsTrue, arith}
use Rattle.std.specs.Prelude.{nat_lt, if◌then◌else◌}
use Rattle.std.specs.List.{All, AllPairs, Any, Contains}
use Rattle.std.specs.Io.KnownBytes.{Appends, Keeps}
use Rattle.std.proofs.lemmas.Bool.{ltb-false, ltb-true}
use Rattle.model.specs.declared.entry.Entry.{Entry}
use Rattle.model.specs.declared.end.End.{End}
use Rattle.model.specs.declared.end.Limits.{Limits}
use Rattle.model.specs.Texts as orders
use Rattle.design.specs.Compiled.{Compiled, design_of}
use Rattle.explore.specs.declared.Shown.{Shown}
use Rattle.explore.specs.declared.stopped.Stopped.{Stopped}
use Rattle.explore.specs.declared.stopped.Stopped.TheVariants as stopped
use Rattle.explore.specs.Search.{AreDistinct, IsShown}
use Rattle.looseruns.specs.ObservedJournals.{Observer, SeenEnd, IsObservedText, AreAllObservedTexts}
use Rattle.verdict.specs.declared.claim.Claim.{Claim}
use Rattle.lawful.specs.ArrangedNodes.{IsArrangedText, IsArrangementOf}
use Rattle.wavetexts.specs.Waves.{AreWavesOf, IsWaveOfText, wave_text_of}
use Rattle.std.proofs.lemmas.List.Elements.{All-nil, All-cons, All-head, All-tail}
use Rattle.arguments.specs.declared.search_options.SearchOptions.{SearchOptions}
use Rattle.arguments.specs.declared.observed.Observed.{Observed}
use Rattle.files.specs.Saved.{KeepsFiles, MadeFile, SavesAllWhereAsked, SavesSomeWhereAsked}
use Rattle.program.specs.FollowedOrders.{AreWavesFollowed}
use Rattle.program.specs.Findings.{OnEvery, endless_number, endings_of, finding_of, first_text, have_stops, journals_of, limits_in, met_limit, search_stop_of, stops_from, unless_stopped}
use Rattle.program.specs.Observed.{AreAllWaves, AreFoundWaves, AreRegistersAsked, AreRegistersOf, AreWavesSaid, HasFoundWaves, HasLeftWaves, HasNoRegister, HasObservedTo, HasArrangedTexts, HasSaidWaves, HasSavedWaves, IsLawfulWave, IsNameTold, IsObservedEnding, IsWaveClaimWithin, observer_of_registers, observes_all, texts_bound, wave_claim_of, before_line}
use Rattle.program.specs.declared.ending.Ending.{Ending}
use Rattle.program.specs.declared.ending.Ending.TheVariants as ending
use Rattle.program.specs.Subjects.{IsDesignIn, Sources}
use Rattle.verdict.specs.WaveLines.{wave_verdict_text}
use Rattle.verdict.specs.declared.endings.RunEndings.{RunEndings}
use Rattle.verdict.specs.declared.stops.StopDescription.{StopDescription}
use Rattle.wavetexts.specs.AtTimes.{printed_lines}
use Rattle.wavetexts.specs.ToldWaves.{TellsWaves}
use Rattle.wavetexts.specs.Names.{AreNamed, NamesRegisters, NamesUnknown}
use Rattle.wavetexts.specs.declared.names.NamedRegisters.{NamedRegisters}
use Rattle.wavetexts.specs.declared.names.NamedRegisters.TheVariants as named
use Rattle.program.specs.Printed.{AreUntouched}
use Rattle.program.specs.declared.finding.SearchFinding.{SearchFinding}
use Rattle.program.specs.declared.fault.CommandFault.{CommandFault}
use Rattle.program.specs.Program.{status_of}
use Rattle.program.proofs.Searched.{added_all, claim_all, claim_number, not_stopped, told_never}
use Rattle.program.proofs.Ended.{all_saved_on, kept, kept_on, output_same, some_saved_on}

-- the limit of texts that is named is that of waves, where so many were found, or that of texts in which the order of lines counts, where so many of these were
texts_within : (Met : ℕ → Type 0) (less : Bool) (most bound count : ℕ) → nat_lt count most ≡ less → (less ≡ true → Met bound)
    → (((if less then bound else most) ≡ most) × ((if less then bound else most) ≤ count)) ⊎ (((if less then bound else most) ≡ bound) × Met (if less then bound else most))
texts_within Met true most bound count is met = inr (refl, met refl)
texts_within Met false most bound count is met = inl (refl, ltb-false count most is)

wave_within : (code : Compiled) (search_options : SearchOptions) (registers : List ℕ) (t : Option Stopped) (nodes : ℕ) (endless : Option ℕ) (count : ℕ) → nodes ≤ search_options.max_states
    → (t ≡ Some stopped.Shown → nat_lt count search_options.max_texts ≡ true → HasArrangedTexts code (limits_in search_options) registers (texts_bound search_options.max_texts)) → IsWaveClaimWithin code search_options registers count (wave_claim_of search_options t nodes endless count)
wave_within code search_options registers None nodes endless count few met = few
wave_within code search_options registers (Some stopped.Nodes) nodes endless count few met = refl
wave_within code search_options registers (Some stopped.Shown) nodes endless count few met =
    texts_within (HasArrangedTexts code (limits_in search_options) registers) (nat_lt count search_options.max_texts) search_options.max_texts (texts_bound search_options.max_texts) count refl (met refl)
wave_within code search_options registers (Some stopped.Unfollowed) nodes endless count few met = refl
wave_within code search_options registers (Some stopped.Bytes) nodes endless count few met = refl
wave_within code search_options registers (Some stopped.Memory) nodes endless count few met = tt

-- where the most texts are why a search stopped that has fewer waves than there may be, as many texts were found: no wave was left out
texts_met : {E : Type 0} (s : Option Stopped) (added : Result Bool E) (most bound : ℕ) (others : List (Shown Entry SeenEnd)) (ss : List (Shown Entry End)) → search_stop_of s added ≡ Some stopped.Shown → (s ≡ Some stopped.Shown → length others ≡ bound)
    → IfOk added (λ all. all ≡ false → length ss ≡ most) → nat_lt (length ss) most ≡ true → length others ≡ bound
texts_met s (Ok true) most bound others ss stops found full less = found stops
texts_met s (Ok false) most bound others ss stops found full less = absurd (omega (arith, full refl, ltb-true (length ss) most less))
texts_met s (Err e) most bound others ss stops found full less = cc

wave_all : (P : Type 0) (search_options : SearchOptions) (t : Option Stopped) (nodes : ℕ) (endless : Option ℕ) (count : ℕ) → (t ≡ None → P) → OnEvery (wave_claim_of search_options t nodes endless count) P
wave_all P search_options (Some stopped.Shown) nodes endless count h = tt
wave_all P search_options t nodes endless count h = claim_all P search_options t nodes endless h

wave_number : {J : Type 0} (items : J → List Entry) (search_options : SearchOptions) (t : Option Stopped) (nodes count : ℕ) (found told : Option J) (number : Option ℕ) → told ≡ unless_stopped t found
    → number ≡ option_map (λ j. count + 1) told → endless_number (wave_claim_of search_options t nodes number count) ≡ option_map (λ j. count + 1) (option_map items told)
wave_number items search_options (Some stopped.Shown) nodes count found None number is counted = refl
wave_number items search_options (Some stopped.Shown) nodes count found (Some j) number is counted = cc
wave_number items search_options t nodes count found told number is counted = claim_number items search_options t nodes count found told number is counted

-- what is shown of observed texts, in order, has a wave that was found, where each of them has
waves_there : (code : Compiled) (limits : Limits) (registers : List ℕ) (others : List (Shown Entry SeenEnd)) (ss : List (Shown Entry End)) → AreAllObservedTexts (design_of code) limits (observer_of_registers registers) (λ text end. Any (λ s. IsArrangementOf (length registers) text end s.text.items s.end) others)
    → All (λ s. IsShown ss (s.text.items ++ s.end.seen) s.end.end) others → AreAllWaves code limits registers ss
waves_there code limits registers others ss all there journal text end seen timely ends some wants = of_one (all journal text end seen timely ends some wants)
  where
    of_one : Any (λ s. IsArrangementOf (length registers) text end s.text.items s.end) others → IsShown ss (wave_text_of (length registers) text end) end.end
    of_one (k, s, lt, at, (same_text, same_end)) =
        subst (λ (t : List ℕ). IsShown ss t end.end) same_text
        (subst (λ (e : End). IsShown ss (s.text.items ++ s.end.seen) e) same_end
        (subst (λ (x : Shown Entry SeenEnd). IsShown ss (x.text.items ++ x.end.seen) x.end.end) at (there k s lt)))

-- the wave of an observed text is that of its lawful journal
waves_lawful : (code : Compiled) (limits : Limits) (registers : List ℕ) (others : List (Shown Entry SeenEnd)) → All (λ s. IsArrangedText (design_of code) limits (length registers) (observer_of_registers registers) s.moves.items s.text.items s.end) others
    → All (λ s. orders.IsWithinLimits limits s.moves.items) others → All (λ s. (w : Shown Entry End) → IsWaveOfText s w → IsLawfulWave code limits registers w) others
waves_lawful code limits registers others sound within k d lt w (text, end, moves) =
    let s = get_or others k d in
    let arranged : IsArrangedText (design_of code) limits (length registers) (observer_of_registers registers) s.moves.items s.text.items s.end = sound k d lt in
    record {
      text = arranged.seen_text;
      end = arranged.seen_end;
      lawful = subst (λ (j : List Entry). IsObservedText (design_of code) limits (observer_of_registers registers) j arranged.seen_text arranged.seen_end) (sym moves) arranged.observed;
      within = subst (λ (j : List Entry). orders.IsWithinLimits limits j) (sym moves) (within k d lt);
      text_is = text ∙ arranged.whole_is;
      end_is = end ∙ arranged.end_is;
    }

none_below : (i : ℕ) → i < 0 → ⊥
none_below i lt = omega (arith, lt)

-- each of the waves is that of a lawful journal
waves_sound : (code : Compiled) (limits : Limits) (registers : List ℕ) (before ss : List (Shown Entry End)) (others : List (Shown Entry SeenEnd)) → before ≡ [] → All (λ w. Contains before w ⊎ Any (λ o. IsWaveOfText o w) others) ss
    → All (λ s. (w : Shown Entry End) → IsWaveOfText s w → IsLawfulWave code limits registers w) others → All (IsLawfulWave code limits registers) ss
waves_sound code limits registers before ss others none each lawful k d lt = by_case (get_or ss k d) (each k d lt)
  where
    by_case : (w : Shown Entry End) → Contains before w ⊎ Any (λ o. IsWaveOfText o w) others → IsLawfulWave code limits registers w
    by_case w (inl (i, within, at)) = absurd (none_below i (subst (λ (l : List (Shown Entry End)). i < length l) none within))
    by_case w (inr (i, o, within, at, is)) = lawful i o within w (subst (λ (x : Shown Entry SeenEnd). IsWaveOfText x w) (sym at) is)

pub waves_found : {J E : Type 0} (items : J → List Entry) (code : Compiled) (search_options : SearchOptions) (registers : List ℕ) (observe : Observer) (seen_registers : ℕ) (s t : Option Stopped) (nodes : ℕ) (found told : Option J) (number : Option ℕ) (claim : Claim) (added : Result Bool E) (followed : Option ℕ)
    (others : List (Shown Entry SeenEnd)) (before ss : List (Shown Entry End)) → observe ≡ observer_of_registers registers → seen_registers ≡ length registers → nodes ≤ search_options.max_states → claim ≡ wave_claim_of search_options t nodes number (length ss) → t ≡ search_stop_of s added → told ≡ unless_stopped t found
    → number ≡ option_map (λ j. length ss + 1) told → All (λ o. IsArrangedText (design_of code) (limits_in search_options) seen_registers observe o.moves.items o.text.items o.end) others → All (λ o. orders.IsWithinLimits (limits_in search_options) o.moves.items) others
    → (s ≡ None → AreAllObservedTexts (design_of code) (limits_in search_options) observe (λ text end. Any (λ x. IsArrangementOf seen_registers text end x.text.items x.end) others)) → IfSome found (λ j. orders.IsEndlessJournal (design_of code) (limits_in search_options) (items j))
    → before ≡ [] → All (λ w. Contains before w ⊎ Any (λ o. IsWaveOfText o w) others) ss
    → AllPairs AreDistinct others → (s ≡ Some stopped.Shown → length others ≡ texts_bound search_options.max_texts) → IfOk added (λ all. all ≡ false → length ss ≡ search_options.max_texts)
    → IfOk added (λ all. IsTrue all → All (λ o. IsShown ss (o.text.items ++ o.end.seen) o.end.end) others) → AllPairs AreDistinct ss → length ss ≤ search_options.max_texts
    → (met_limit claim ≡ true → AreWavesFollowed code (limits_in search_options) (observer_of_registers registers) (length registers) search_options.max_texts ss followed)
    → AreFoundWaves code search_options registers claim followed ss (option_map items told)
waves_found items code search_options registers observe seen_registers s t nodes found told number claim added followed others before ss sees counts few claimed stops tells counted sound within all never none each apart most full there distinct short reached =
    let limits = limits_in search_options in
    let there_seen = subst (λ (o : Observer). All (λ x. IsArrangedText (design_of code) limits seen_registers o x.moves.items x.text.items x.end) others) sees sound in
    let seen = subst (λ (n : ℕ). All (λ x. IsArrangedText (design_of code) limits n (observer_of_registers registers) x.moves.items x.text.items x.end) others) counts there_seen in
    let all_seen = subst (λ (o : Observer). s ≡ None → AreAllObservedTexts (design_of code) limits o (λ text end. Any (λ x. IsArrangementOf seen_registers text end x.text.items x.end) others)) sees all in
    let every = subst (λ (n : ℕ). s ≡ None → AreAllObservedTexts (design_of code) limits (observer_of_registers registers) (λ text end. Any (λ x. IsArrangementOf n text end x.text.items x.end) others)) counts all_seen in
    subst (λ (c : Claim). AreFoundWaves code search_options registers c followed ss (option_map items told)) (sym claimed) (record {
      sound = waves_sound code limits registers before ss others none each (waves_lawful code limits registers others seen within);
      distinct = distinct;
      few = short;
      within = wave_within code search_options registers t nodes number (length ss) few (λ is less. record {
        texts = others;
        lawful = seen;
        distinct = apart;
        count_is = texts_met s added search_options.max_texts (texts_bound search_options.max_texts) others ss (sym stops ∙ is) most full less;
      });
      all = wave_all (AreAllWaves code limits registers ss) search_options t nodes number (length ss) (λ is. put (not_stopped s added (sym stops ∙ is)) every);
      never = told_never items (orders.IsEndlessJournal (design_of code) limits) t found told tells never;
      numbered = wave_number items search_options t nodes (length ss) found told number tells counted;
      before = λ met. reached (ap met_limit claimed ∙ met);
    })
  where
    put : (s ≡ None) × (added ≡ Ok true) → (s ≡ None → AreAllObservedTexts (design_of code) (limits_in search_options) (observer_of_registers registers) (λ text end. Any (λ x. IsArrangementOf (length registers) text end x.text.items x.end) others)) → AreAllWaves code (limits_in search_options) registers ss
    put (is, whole) every =
        waves_there code (limits_in search_options) registers others ss (every is)
        (added_all added (All (λ o. IsShown ss (o.text.items ++ o.end.seen) o.end.end) others) whole there)

-- what was said of waves, where the files were the same before it

pub said_waves : (code : Compiled) (asked : Observed) (search_options : SearchOptions) (prefix : Option (List ℕ)) (registers : List ℕ) (claim : Claim) (followed : Option ℕ) (waves : List (Shown Entry End)) (endless : Option (List Entry)) (said : List ℕ) (old new : Option (List ℕ))
    → AreRegistersOf code asked registers → AreFoundWaves code search_options registers claim followed waves endless → AreWavesSaid code asked registers search_options prefix claim followed waves said → Appends old new said → HasSaidWaves code asked search_options prefix old new
said_waves code asked search_options prefix registers claim followed waves endless said old new are found told printed = record {
  registers = registers;
  are_registers = are;
  claim = claim;
  waves = waves;
  endless = endless;
  followed = followed;
  are_found = found;
  said = said;
  are_said = told;
  printed = printed;
}

pub found_waves : (code : Compiled) (asked : Observed) (search_options : SearchOptions) (prefix : Option (List ℕ)) (registers : List ℕ) (claim : Claim) (followed : Option ℕ) (waves : List (Shown Entry End)) (endless : Option (List Entry)) (said : List ℕ) (old new : Option (List ℕ)) (a b c : Option (List MadeFile)) (f : SearchFinding)
    → AreRegistersOf code asked registers → AreFoundWaves code search_options registers claim followed waves endless → AreWavesSaid code asked registers search_options prefix claim followed waves said → Appends old new said → KeepsFiles a b → SavesAllWhereAsked b c prefix (journals_of waves endless)
    → f ≡ finding_of claim (length waves) (have_stops waves) false → HasFoundWaves code asked search_options prefix old new a c f
unfolding said_waves
found_waves code asked search_options prefix registers claim followed waves endless said old new a b c f are found told printed before saved is = record {
  has_said = said_waves code asked search_options prefix registers claim followed waves endless said old new are found told printed;
  saved = all_saved_on a b c prefix (journals_of waves endless) before saved;
  finding = is;
}

-- what is left where a search for waves ended for want of memory
pub left_waves : (code : Compiled) (asked : Observed) (search_options : SearchOptions) (prefix : Option (List ℕ)) (registers : List ℕ) (claim : Claim) (followed : Option ℕ) (waves : List (Shown Entry End)) (endless : Option (List Entry)) (said : List ℕ) (old new : Option (List ℕ)) (a b c : Option (List MadeFile))
    → AreRegistersOf code asked registers → AreFoundWaves code search_options registers claim followed waves endless → AreWavesSaid code asked registers search_options prefix claim followed waves said → KeepsFiles a b
    → (Keeps old new × KeepsFiles b c) ⊎ (Appends old new said × SavesSomeWhereAsked b c prefix (journals_of waves endless)) → AreUntouched old new a c ⊎ HasSavedWaves code asked search_options prefix old new a c
unfolding said_waves
left_waves code asked search_options prefix registers claim followed waves endless said old new a b c are found told before (inl (same, files)) = inl (same, kept_on a b c before files)
left_waves code asked search_options prefix registers claim followed waves endless said old new a b c are found told before (inr (printed, saved)) = inr (record {
  has_said = said_waves code asked search_options prefix registers claim followed waves endless said old new are found told printed;
  saved = some_saved_on a b c prefix (journals_of waves endless) before saved;
})

-- waves of texts, one by one

-- each wave is that of a text
waves_from : (ss : List (Shown Entry SeenEnd)) (ws : List (Shown Entry End)) → AreWavesOf ss ws → All (λ w. Any (λ s. IsWaveOfText s w) ss) ws
waves_from [] [] are = All-nil (λ (w : Shown Entry End). Any (λ (s : Shown Entry SeenEnd). IsWaveOfText s w) [])
waves_from [] (w ∷ ws) are = absurd are
waves_from (s ∷ ss) [] are = absurd are
waves_from (s ∷ ss) (w ∷ ws) (one, more) =
    All-cons (λ (x : Shown Entry End). Any (λ (y : Shown Entry SeenEnd). IsWaveOfText y x) (s ∷ ss)) w ws (0, s, omega arith, refl, one) (λ k d lt. behind (get_or ws k d) (waves_from ss ws more k d lt))
  where
    behind : (x : Shown Entry End) → Any (λ y. IsWaveOfText y x) ss → Any (λ y. IsWaveOfText y x) (s ∷ ss)
    behind x (k, y, lt, at, is) = (suc k, y, omega (arith, lt), at, is)

-- each of some waves was there before or is that of a text, where each is one of those or of the waves of texts
pub waves_each : (old new ws : List (Shown Entry End)) (ss : List (Shown Entry SeenEnd)) → AreWavesOf ss ws → All (λ w. Contains old w ⊎ Contains ws w) new → All (λ w. Contains old w ⊎ Any (λ s. IsWaveOfText s w) ss) new
waves_each old new ws ss are each k d lt = by_case (get_or new k d) (each k d lt)
  where
    by_case : (w : Shown Entry End) → Contains old w ⊎ Contains ws w → Contains old w ⊎ Any (λ s. IsWaveOfText s w) ss
    by_case w (inl before) = inl before
    by_case w (inr (i, within, at)) = inr (subst (λ (x : Shown Entry End). Any (λ s. IsWaveOfText s x) ss) at (waves_from ss ws are i w within))

-- what holds of waves holds of the wave of each text
pub texts_of_waves : (Q : List ℕ → End → Type 0) (ss : List (Shown Entry SeenEnd)) (ws : List (Shown Entry End)) → AreWavesOf ss ws → All (λ w. Q w.text.items w.end) ws → All (λ s. Q (s.text.items ++ s.end.seen) s.end.end) ss
texts_of_waves Q [] [] are all = All-nil (λ (s : Shown Entry SeenEnd). Q (s.text.items ++ s.end.seen) s.end.end)
texts_of_waves Q [] (w ∷ ws) are all = absurd are
texts_of_waves Q (s ∷ ss) [] are all = absurd are
texts_of_waves Q (s ∷ ss) (w ∷ ws) ((text, end, moves), more) all =
    All-cons (λ (x : Shown Entry SeenEnd). Q (x.text.items ++ x.end.seen) x.end.end) s ss
    (subst (λ (t : List ℕ). Q t s.end.end) text (subst (λ (e : End). Q w.text.items e) end (All-head (λ (x : Shown Entry End). Q x.text.items x.end) w ws all)))
    (texts_of_waves Q ss ws more (All-tail (λ (x : Shown Entry End). Q x.text.items x.end) w ws all))

-- what is said of waves

pub waves_said : (code : Compiled) (asked : Observed) (registers : List ℕ) (search_options : SearchOptions) (prefix : Option (List ℕ)) (claim : Claim) (waves shown : List (Shown Entry End)) (empty parts mid said first : List ℕ) (before : Option ℕ) (lines : ℕ) (endings : RunEndings) (stops : List StopDescription) → shown ≡ waves → empty ≡ [] → TellsWaves code.names registers prefix shown empty parts
    → mid ≡ parts ++ before_line claim before → said ≡ mid ++ wave_verdict_text claim search_options.until (length shown) (observes_all asked) (length registers) lines endings stops prefix → first ≡ first_text shown → lines ≡ printed_lines (length registers) first → endings ≡ endings_of shown → stops ≡ stops_from 1 shown → AreWavesSaid code asked registers search_options prefix claim before waves said
waves_said code asked registers search_options prefix claim waves shown empty parts mid said first before lines endings stops same none tells told is begins printed ended short =
    let verdict = wave_verdict_text claim search_options.until (length shown) (observes_all asked) (length registers) lines endings stops prefix in
    let line = before_line claim before in
    subst (λ (ws : List (Shown Entry End)). AreWavesSaid code asked registers search_options prefix claim before ws said) same (record {
      parts = parts;
      tells = subst (λ (l : List ℕ). TellsWaves code.names registers prefix shown l parts) none tells;
      said_is =
          is ∙ (ap (λ (l : List ℕ). l ++ verdict) told ∙ (append_assoc parts line verdict
          ∙ (ap (λ (n : ℕ). parts ++ (line ++ wave_verdict_text claim search_options.until (length shown) (observes_all asked) (length registers) n endings stops prefix)) (printed ∙ ap (printed_lines (length registers)) begins)
          ∙ (ap (λ (e : RunEndings). parts ++ (line ++ wave_verdict_text claim search_options.until (length shown) (observes_all asked) (length registers) (printed_lines (length registers) (first_text shown)) e stops prefix)) ended
          ∙ ap (λ (l : List StopDescription). parts ++ (line ++ wave_verdict_text claim search_options.until (length shown) (observes_all asked) (length registers) (printed_lines (length registers) (first_text shown)) (endings_of shown) l prefix)) short))));
    })

-- the registers that a list of names means, or the first name that no register has, where they are asked for

are_asked : (code : Compiled) (asked : Observed) (text : List ℕ) (n : NamedRegisters) → ((registers : List ℕ) → NamesRegisters code.names text registers → AreRegistersOf code asked registers)
    → ((name : List ℕ) → NamesUnknown code.names name text → HasNoRegister code asked name) → AreNamed code.names text n → AreRegistersAsked code asked n
are_asked code asked text (named.All registers) known unknown h = known registers.items h
are_asked code asked text (named.Unknown name) known unknown h = unknown name.now h

pub named_asked : {E : Type 0} (code : Compiled) (asked : Observed) (text : List ℕ) (r : Result NamedRegisters E) → ((registers : List ℕ) → NamesRegisters code.names text registers → AreRegistersOf code asked registers)
    → ((name : List ℕ) → NamesUnknown code.names name text → HasNoRegister code asked name) → IfOk r (AreNamed code.names text) → IfOk r (AreRegistersAsked code asked)
named_asked code asked text (Ok n) known unknown h = are_asked code asked text n known unknown h
named_asked code asked text (Err e) known unknown h = tt

-- a name that no register has ends a search of a design

name_ends : (code : Compiled) (asked : Observed) (search_options : SearchOptions) (prefix : Option (List ℕ)) (name : List ℕ) (known : Option (List ℕ)) (files : Option (List MadeFile)) (e : Ending) → HasNoRegister code asked name → IsNameTold name e
    → IsObservedEnding code asked search_options prefix known known files files e
name_ends code asked search_options prefix name known files ending.Done has told = absurd told
name_ends code asked search_options prefix name known files (ending.Stopped s) has told = absurd told
name_ends code asked search_options prefix name known files (ending.Found f) has told = absurd told
name_ends code asked search_options prefix name known files (ending.Wrong text) has told = absurd told
name_ends code asked search_options prefix name known files (ending.NoRegister it) has told = (subst (HasNoRegister code asked) (sym told) has, output_same known, kept files)
name_ends code asked search_options prefix name known files ending.Differ has told = absurd told

pub unknown_ended : (code : Compiled) (asked : Observed) (search_options : SearchOptions) (prefix : Option (List ℕ)) (name : List ℕ) (known : Option (List ℕ)) (files : Option (List MadeFile)) (r : Result Ending CommandFault) → HasNoRegister code asked name → IfOk r (IsNameTold name)
    → IfOk r (IsObservedEnding code asked search_options prefix known known files files)
unknown_ended code asked search_options prefix name known files (Ok e) has told = name_ends code asked search_options prefix name known files e has told
unknown_ended code asked search_options prefix name known files (Err f) has told = tt

-- a search for waves of a design, where the files were the same before it

ending_on : (code : Compiled) (asked : Observed) (search_options : SearchOptions) (prefix : Option (List ℕ)) (old new : Option (List ℕ)) (a b c : Option (List MadeFile)) (e : Ending) → KeepsFiles a b → IsObservedEnding code asked search_options prefix old new b c e
    → IsObservedEnding code asked search_options prefix old new a c e
ending_on code asked search_options prefix old new a b c ending.Done before h = h
ending_on code asked search_options prefix old new a b c (ending.Stopped s) before h = h
ending_on code asked search_options prefix old new a b c (ending.Found f) before h = record {
  has_said = h.has_said;
  saved = all_saved_on a b c prefix (journals_of h.has_said.waves h.has_said.endless) before h.saved;
  finding = h.finding;
}
ending_on code asked search_options prefix old new a b c (ending.Wrong text) before h = h
ending_on code asked search_options prefix old new a b c (ending.NoRegister name) before (has, same, files) = (has, same, kept_on a b c before files)
ending_on code asked search_options prefix old new a b c ending.Differ before h = h

observed_to : (from : Sources) (file : List ℕ) (code : Compiled) (asked : Observed) (search_options : SearchOptions) (prefix : Option (List ℕ)) (old new : Option (List ℕ)) (files files' : Option (List MadeFile)) (e : Ending) → IsDesignIn from file code
    → IsObservedEnding code asked search_options prefix old new files files' e → HasObservedTo from file asked search_options prefix old new files files' e
observed_to from file code asked search_options prefix old new files files' ending.Done is h = absurd h
observed_to from file code asked search_options prefix old new files files' (ending.Stopped s) is h = absurd h
observed_to from file code asked search_options prefix old new files files' (ending.Found f) is h = record { design = code; is_design = is; is_ending = h }
observed_to from file code asked search_options prefix old new files files' (ending.Wrong text) is h = absurd h
observed_to from file code asked search_options prefix old new files files' (ending.NoRegister name) is h = record { design = code; is_design = is; is_ending = h }
observed_to from file code asked search_options prefix old new files files' ending.Differ is h = absurd h

pub observed_on : (from : Sources) (file : List ℕ) (code : Compiled) (asked : Observed) (search_options : SearchOptions) (prefix : Option (List ℕ)) (old new : Option (List ℕ)) (a b c : Option (List MadeFile)) (r : Result Ending CommandFault)
    → IsDesignIn from file code → KeepsFiles a b → IfOk r (IsObservedEnding code asked search_options prefix old new b c) → IfOk r (HasObservedTo from file asked search_options prefix old new a c)
observed_on from file code asked search_options prefix old new a b c (Ok e) is before h = observed_to from file code asked search_options prefix old new a c e is (ending_on code asked search_options prefix old new a b c e before h)
observed_on from file code asked search_options prefix old new a b c (Err f) is before h = tt

pub observed_left_on : (from : Sources) (file : List ℕ) (code : Compiled) (asked : Observed) (search_options : SearchOptions) (prefix : Option (List ℕ)) (old new : Option (List ℕ)) (a b c : Option (List MadeFile)) (r : Result Ending CommandFault)
    → IsDesignIn from file code → KeepsFiles a b → IfErr r (λ f. status_of f ≡ 6 → AreUntouched old new b c ⊎ HasSavedWaves code asked search_options prefix old new b c)
    → IfErr r (λ f. status_of f ≡ 6 → HasLeftWaves from file asked search_options prefix old new a c)
observed_left_on from file code asked search_options prefix old new a b c (Ok e) is before h = tt
observed_left_on from file code asked search_options prefix old new a b c (Err f) is before h = λ six. go (h six)
  where
    go : AreUntouched old new b c ⊎ HasSavedWaves code asked search_options prefix old new b c → HasLeftWaves from file asked search_options prefix old new a c
    go (inl (same, files)) = inl (same, kept_on a b c before files)
    go (inr h) = inr (record {
      design = code;
      is_design = is;
      saved = record {
        has_said = h.has_said;
        saved = some_saved_on a b c prefix (journals_of h.has_said.waves h.has_said.endless) before h.saved;
      };
    })
