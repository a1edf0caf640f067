-- What a search has found, with what is claimed of it.
use Rattle.std.proofs.Common.{◌≡◌, ◌⊎◌, ◌∙◌, ap, inl, inr, subst, sym, refl, ℕ, ◌+◌, ◌≤◌, ◌<◌, Bool, true, false, List, [], ◌++◌, length, Option, Some, None, option_map, Result, Ok, Err, IfOk, IfSome, IsTrue, arith}
use Rattle.std.specs.List.{All, AllPairs, Contains}
use Rattle.model.specs.declared.entry.Entry.{Entry}
use Rattle.model.specs.declared.end.End.{End}
use Rattle.model.specs.declared.end.Limits.{Limits}
use Rattle.model.specs.Texts.{IsLawfulText, AreAllTexts}
use Rattle.design.specs.Compiled.{Compiled, design_of}
use Rattle.explore.specs.declared.Shown.{Shown}
use Rattle.explore.specs.declared.stopped.Stopped.{Stopped}
use Rattle.explore.specs.declared.stopped.Stopped.TheVariants as stopped
use Rattle.sharing.specs.Parts.{Extends}
use Rattle.explore.specs.Search.{AreDistinct, IsShown}
use Rattle.model.specs.Texts as orders
use Rattle.races.specs.declared.told.Found.{Found}
use Rattle.conflicts.specs.declared.bounds.RaceBounds.{RaceBounds}
use Rattle.causes.specs.Causes.{AreCauses, HasAnswer}
use Rattle.causes.specs.declared.causes.Causes.{Causes}
use Rattle.causes.specs.declared.parting_race.PartingRace.{PartingRace}
use Rattle.naming.specs.Naming.{TellsBehind, TellsMore, TellsMoreBehind, TellsRaces}
use Rattle.naming.specs.SearchReach.{TellsReach}
use Rattle.verdict.specs.Verdicts.{verdict_text}
use Rattle.verdict.specs.declared.endings.RunEndings.{RunEndings}
use Rattle.verdict.specs.declared.stops.StopDescription.{StopDescription}
use Rattle.verdict.specs.declared.claim.Claim.{Claim}
use Rattle.verdict.specs.declared.claim.SampledOrders.{SampledOrders}
use Rattle.verdict.specs.declared.claim.SearchStop.TheVariants.{Memory}
use Rattle.std.specs.Io.KnownBytes.{Appends, Keeps}
use Rattle.locations.specs.declared.location.ProcessLocation.{ProcessLocation}
use Rattle.program.specs.declared.subject.DesignSubject.{DesignSubject}
use Rattle.program.specs.Subjects.{IsSubjectAt, Sources}
use Rattle.files.specs.Saved.{KeepsFiles, MadeFile, SavesAllWhereAsked, SavesSomeWhereAsked}
use Rattle.arguments.specs.declared.search_options.SearchOptions.{SearchOptions}
use Rattle.program.specs.declared.finding.SearchFinding.{SearchFinding}
use Rattle.program.specs.declared.fault.CommandFault.{CommandFault}
use Rattle.program.specs.FollowedOrders.{AreTextsFollowed}
use Rattle.program.specs.Findings.{AreFound, AreOfSeeds, AreRacesKnown, IsFound, IsLawfulShown, IsClaimWithin, HaveSomeEnds, OnEvery, OnSampled, claim_of, endless_number, endings_of, finding_of, first_text, have_stops, journals_of, limits_in, met_limit, search_stop_of, stops_from, unless_stopped, until_line}
use Rattle.program.specs.declared.racing.NamedRaces.{NamedRaces}
use Rattle.program.specs.declared.racing.ToldRaces.{ToldRaces}
use Rattle.program.specs.Printed.{HasFound, HasLeft, HasShown, IsReachTold, IsSaidLast, IsToldFirst, IsToldLast, IsToldMore}
use Rattle.program.specs.Program.{status_of}
use Rattle.program.proofs.Knowing.{all_of_each, few_shown, races_still}
use Rattle.program.proofs.Ended.{all_saved_on, appends_then, some_saved_on}
use Rattle.program.proofs.Explained.{appends_kept}

-- what is claimed of a search that stopped for this, or didn't

claim_sound : (search_options : SearchOptions) (s : Option Stopped) (nodes : ℕ) (endless : Option ℕ) (code : Compiled) (limits : Limits) (ss : List (Shown Entry End)) → All (IsLawfulShown code limits) ss
    → All (IsFound (claim_of search_options s nodes endless) code limits) ss
claim_sound search_options None nodes endless code limits ss h = h
claim_sound search_options (Some stopped.Nodes) nodes endless code limits ss h = h
claim_sound search_options (Some stopped.Shown) nodes endless code limits ss h = h
claim_sound search_options (Some stopped.Unfollowed) nodes endless code limits ss h = h
claim_sound search_options (Some stopped.Bytes) nodes endless code limits ss h = h
claim_sound search_options (Some stopped.Memory) nodes endless code limits ss h = h

claim_within : (search_options : SearchOptions) (s : Option Stopped) (nodes : ℕ) (endless : Option ℕ) (count : ℕ) → search_options.samples ≡ None → nodes ≤ search_options.max_states
    → (s ≡ Some stopped.Shown → search_options.max_texts ≤ count) → IsClaimWithin search_options count (claim_of search_options s nodes endless)
claim_within search_options None nodes endless count none few full = (none, few)
claim_within search_options (Some stopped.Nodes) nodes endless count none few full = (none, refl)
claim_within search_options (Some stopped.Shown) nodes endless count none few full = (none, refl, full refl)
claim_within search_options (Some stopped.Unfollowed) nodes endless count none few full = (none, refl)
claim_within search_options (Some stopped.Bytes) nodes endless count none few full = (none, refl)
claim_within search_options (Some stopped.Memory) nodes endless count none few full = none

pub claim_all : (P : Type 0) (search_options : SearchOptions) (s : Option Stopped) (nodes : ℕ) (endless : Option ℕ) → (s ≡ None → P) → OnEvery (claim_of search_options s nodes endless) P
claim_all P search_options None nodes endless h = h refl
claim_all P search_options (Some stopped.Nodes) nodes endless h = tt
claim_all P search_options (Some stopped.Shown) nodes endless h = tt
claim_all P search_options (Some stopped.Unfollowed) nodes endless h = tt
claim_all P search_options (Some stopped.Bytes) nodes endless h = tt
claim_all P search_options (Some stopped.Memory) nodes endless h = tt

-- no random orders were tried
claim_seeds : (P : SampledOrders → Type 0) (search_options : SearchOptions) (s : Option Stopped) (nodes : ℕ) (endless : Option ℕ) → OnSampled (claim_of search_options s nodes endless) P
claim_seeds P search_options None nodes endless = tt
claim_seeds P search_options (Some stopped.Nodes) nodes endless = tt
claim_seeds P search_options (Some stopped.Shown) nodes endless = tt
claim_seeds P search_options (Some stopped.Unfollowed) nodes endless = tt
claim_seeds P search_options (Some stopped.Bytes) nodes endless = tt
claim_seeds P search_options (Some stopped.Memory) nodes endless = tt

-- the journal of a run that comes to no end, and its number, where the search wasn't stopped
pub claim_number : {J : Type 0} (items : J → List Entry) (search_options : SearchOptions) (s : Option Stopped) (nodes count : ℕ) (found told : Option J) (number : Option ℕ) → told ≡ unless_stopped s found
    → number ≡ option_map (λ j. count + 1) told → endless_number (claim_of search_options s nodes number) ≡ option_map (λ j. count + 1) (option_map items told)
claim_number items search_options None nodes count found None number is counted = counted
claim_number items search_options None nodes count found (Some j) number is counted = counted
claim_number items search_options (Some stopped.Nodes) nodes count found None number is counted = refl
claim_number items search_options (Some stopped.Nodes) nodes count found (Some j) number is counted = cc
claim_number items search_options (Some stopped.Shown) nodes count found None number is counted = refl
claim_number items search_options (Some stopped.Shown) nodes count found (Some j) number is counted = cc
claim_number items search_options (Some stopped.Unfollowed) nodes count found None number is counted = refl
claim_number items search_options (Some stopped.Bytes) nodes count found None number is counted = refl
claim_number items search_options (Some stopped.Unfollowed) nodes count found (Some j) number is counted = cc
claim_number items search_options (Some stopped.Bytes) nodes count found (Some j) number is counted = cc
claim_number items search_options (Some stopped.Memory) nodes count found None number is counted = refl
claim_number items search_options (Some stopped.Memory) nodes count found (Some j) number is counted = cc

pub told_never : {J : Type 0} (items : J → List Entry) (P : List Entry → Type 0) (s : Option Stopped) (found told : Option J) → told ≡ unless_stopped s found → IfSome found (λ j. P (items j))
    → IfSome (option_map items told) P
told_never items P s found None is h = tt
told_never items P None None (Some j) is h = cc
told_never items P None (Some k) (Some j) is h =
    let same : k ≡ j = cc in
    subst (λ x. P (items x)) same h
told_never items P (Some s) found (Some j) is h = cc

-- a search wasn't stopped, and each of its texts was put behind those that are known
pub not_stopped : {E : Type 0} (s : Option Stopped) (added : Result Bool E) → search_stop_of s added ≡ None → (s ≡ None) × (added ≡ Ok true)
not_stopped s (Ok true) h = (h, refl)
not_stopped None (Ok false) h = cc
not_stopped (Some s) (Ok false) h = cc
not_stopped s (Err e) h = cc

-- where the most texts are why a search stopped, as many are shown: each of as many was put there, or one was left out
shown_full : {E : Type 0} (s : Option Stopped) (added : Result Bool E) (most : ℕ) (others ss : List (Shown Entry End)) → search_stop_of s added ≡ Some stopped.Shown → (s ≡ Some stopped.Shown → length others ≡ most)
    → AllPairs AreDistinct others → IfOk added (λ all. IsTrue all → All (λ o. IsShown ss o.text.items o.end) others) → IfOk added (λ all. all ≡ false → length ss ≡ most) → most ≤ length ss
shown_full s (Ok true) most others ss stops found distinct there full = omega (arith, found stops, few_shown others ss distinct (there refl))
shown_full s (Ok false) most others ss stops found distinct there full = omega (arith, full refl)
shown_full s (Err e) most others ss stops found distinct there full = cc

pub added_all : {E : Type 0} (added : Result Bool E) (P : Type 0) → added ≡ Ok true → IfOk added (λ all. IsTrue all → P) → P
added_all (Ok true) P is h = h refl
added_all (Ok false) P is h = cc
added_all (Err e) P is h = cc

-- what is shown of texts is shown where each of them is
all_there : (design : Compiled) (limits : Limits) (others ss : List (Shown Entry End)) → AreAllTexts (design_of design) limits (IsShown others) → All (λ s. IsShown ss s.text.items s.end) others
    → AreAllTexts (design_of design) limits (IsShown ss)
all_there design limits others ss all there journal text end lines timely ends some wants =
    of_one (all journal text end lines timely ends some wants)
  where
    of_one : IsShown others text end → IsShown ss text end
    of_one (k, s, lt, at, (same_text, same_end)) =
        subst (λ (t : List ℕ). IsShown ss t end) same_text (subst (λ (e : End). IsShown ss s.text.items e) same_end
        (subst (λ (x : Shown Entry End). IsShown ss x.text.items x.end) at (there k s lt)))

lawful_within : (code : Compiled) (limits : Limits) (ss : List (Shown Entry End)) → All (λ s. IsLawfulText (design_of code) limits s.moves.items s.text.items s.end) ss
    → All (λ s. orders.IsWithinLimits limits s.moves.items) ss → All (IsLawfulShown code limits) ss
lawful_within code limits ss sound within k d lt = (sound k d lt, within k d lt)

-- what a search found is put behind texts that are known
pub searched_found : {J E : Type 0} (items : J → List Entry) (code : Compiled) (search_options : SearchOptions) (s t : Option Stopped) (nodes : ℕ) (found told : Option J) (number : Option ℕ) (claim : Claim) (added : Result Bool E) (before : Option ℕ) (known others ss : List (Shown Entry End))
    → search_options.samples ≡ None → nodes ≤ search_options.max_states → claim ≡ claim_of search_options t nodes number → t ≡ search_stop_of s added → told ≡ unless_stopped t found → number ≡ option_map (λ j. length ss + 1) told
    → All (λ o. IsLawfulText (design_of code) (limits_in search_options) o.moves.items o.text.items o.end) others → All (λ o. orders.IsWithinLimits (limits_in search_options) o.moves.items) others
    → AllPairs AreDistinct others → (s ≡ Some stopped.Shown → length others ≡ search_options.max_texts) → (s ≡ None → AreAllTexts (design_of code) (limits_in search_options) (IsShown others)) → IfSome found (λ j. orders.IsEndlessJournal (design_of code) (limits_in search_options) (items j))
    → All (IsLawfulShown code (limits_in search_options)) known → All (λ s. Contains known s ⊎ Contains others s) ss
    → IfOk added (λ all. IsTrue all → All (λ o. IsShown ss o.text.items o.end) others) → IfOk added (λ all. all ≡ false → length ss ≡ search_options.max_texts) → AllPairs AreDistinct ss → length ss ≤ search_options.max_texts
    → (met_limit claim ≡ true → AreTextsFollowed code (limits_in search_options) search_options.max_texts ss before) → AreFound code search_options claim before ss (option_map items told)
searched_found items code search_options s t nodes found told number claim added before known others ss none few claimed stops tells counted sound within apart most all never lawful more there full distinct short followed =
    subst (λ (c : Claim). AreFound code search_options c before ss (option_map items told)) (sym claimed) (record {
      sound = claim_sound search_options t nodes number code (limits_in search_options) ss (all_of_each (IsLawfulShown code (limits_in search_options)) known others ss more (lawful_within code (limits_in search_options) others sound within) lawful);
      distinct = distinct;
      few = short;
      within = claim_within search_options t nodes number (length ss) none few (λ is. shown_full s added search_options.max_texts others ss (sym stops ∙ is) most apart there full);
      all = claim_all (AreAllTexts (design_of code) (limits_in search_options) (IsShown ss)) search_options t nodes number (λ is. every (not_stopped s added (sym stops ∙ is)));
      never = told_never items (orders.IsEndlessJournal (design_of code) (limits_in search_options)) t found told tells never;
      seeds = claim_seeds (AreOfSeeds code (limits_in search_options) search_options.seed search_options.max_texts ss) search_options t nodes number;
      numbered = claim_number items search_options t nodes (length ss) found told number tells counted;
      followed = λ met. followed (ap met_limit claimed ∙ met);
    })
  where
    every : (s ≡ None) × (added ≡ Ok true) → AreAllTexts (design_of code) (limits_in search_options) (IsShown ss)
    every (is, put) = all_there code (limits_in search_options) others ss (all is) (added_all added (All (λ o. IsShown ss o.text.items o.end) others) put there)

-- the journals of texts and of one run more

-- what holds of an answer, where something else does
pub if_ok : {T E : Type 0} (P Q : T → Type 0) (r : Result T E) → ((x : T) → P x → Q x) → IfOk r P → IfOk r Q
if_ok P Q (Ok x) step h = step x h
if_ok P Q (Err e) step h = tt

-- lines that tell races behind a text that is empty
pub tells_alone : (processes : List ProcessLocation) (source : List ℕ) (code : Compiled) (shown : List (Shown Entry End)) (prefix : Option (List ℕ)) (race_bounds : RaceBounds) (found : Found) (causes : List PartingRace) (empty lines : List ℕ) → empty ≡ []
    → TellsBehind processes source code shown prefix race_bounds found causes empty lines → TellsRaces processes source code shown prefix race_bounds found causes lines
tells_alone processes source code shown prefix race_bounds found causes empty lines none h = subst (TellsRaces processes source code shown prefix race_bounds found causes) (sym (h.new_is ∙ ap (λ l. l ++ h.lines) none)) h.tells

-- lines that tell further races behind a text that is empty
pub tells_more_alone : (processes : List ProcessLocation) (source : List ℕ) (code : Compiled) (shown : List (Shown Entry End)) (prefix : Option (List ℕ)) (race_bounds : RaceBounds) (found : Found) (before : ℕ) (causes : Causes) (empty lines : List ℕ) → empty ≡ []
    → TellsMoreBehind processes source code shown prefix race_bounds found before causes empty lines → TellsMore processes source code shown prefix race_bounds found before causes lines
tells_more_alone processes source code shown prefix race_bounds found before causes empty lines none h = subst (TellsMore processes source code shown prefix race_bounds found before causes) (sym (h.new_is ∙ ap (λ l. l ++ h.lines) none)) h.tells

-- what is told of texts behind a search: further races, and then what is said of the texts
pub record IsToldBehind (processes : List ProcessLocation) (source : List ℕ) (code : Compiled) (search_options : SearchOptions) (prefix : Option (List ℕ)) (races : NamedRaces) (claim : Claim) (before : Option ℕ) (shown : List (Shown Entry End)) (last : List ℕ) : Type 0 where
  pub more : List ℕ
  pub is_more : IsToldMore processes source code search_options prefix races shown more
  pub said : List ℕ
  pub is_said : IsSaidLast processes search_options prefix races.found.original.end claim before shown said
  pub last_is : last ≡ more ++ said

-- what was told before a search of the races that part texts
pub early_causes : (processes : List ProcessLocation) (source : List ℕ) (code : Compiled) (search_options : SearchOptions) (prefix : Option (List ℕ)) (early : ToldRaces) (a b : Option (List ℕ)) → ((first : List ℕ) × IsToldFirst processes source code search_options prefix early first × Appends a b first)
    → AreCauses code (limits_in search_options) early.races.bounds early.races.found early.races.causes
early_causes processes source code search_options prefix early a b (first, is_first, begins) = is_first.are_causes

pub early_answered : (processes : List ProcessLocation) (source : List ℕ) (code : Compiled) (search_options : SearchOptions) (prefix : Option (List ℕ)) (early : ToldRaces) (a b : Option (List ℕ)) → ((first : List ℕ) × IsToldFirst processes source code search_options prefix early first × Appends a b first)
    → 1 < early.races.texts → HasAnswer early.races.found early.races.causes
early_answered processes source code search_options prefix early a b (first, is_first, begins) many = is_first.answered (subst (λ (n : ℕ). 1 < n) is_first.texts many)

pub told_behind : (processes : List ProcessLocation) (source : List ℕ) (code : Compiled) (search_options : SearchOptions) (prefix : Option (List ℕ)) (races : NamedRaces) (claim : Claim) (before : Option ℕ) (shown texts : List (Shown Entry End)) (more said lines last : List ℕ) → texts ≡ shown
    → IsToldMore processes source code search_options prefix races texts more → IsSaidLast processes search_options prefix races.found.original.end claim before shown said → lines ≡ said → last ≡ more ++ lines → IsToldBehind processes source code search_options prefix races claim before shown last
told_behind processes source code search_options prefix races claim before shown texts more said lines last same told is_said are is = record {
  more = more;
  is_more = subst (λ (ss : List (Shown Entry End)). IsToldMore processes source code search_options prefix races ss more) same told;
  said = said;
  is_said = is_said;
  last_is = is ∙ ap (λ l. more ++ l) are;
}

-- so it is by the same processes and the same source
pub more_by : (ps processes : List ProcessLocation) (text source : List ℕ) (code : Compiled) (search_options : SearchOptions) (prefix : Option (List ℕ)) (races : NamedRaces) (shown : List (Shown Entry End)) (more : List ℕ) → ps ≡ processes → text ≡ source
    → IsToldMore ps text code search_options prefix races shown more → IsToldMore processes source code search_options prefix races shown more
more_by ps processes text source code search_options prefix races shown more same alike told =
    subst (λ (qs : List ProcessLocation). IsToldMore qs source code search_options prefix races shown more) same (subst (λ (t : List ℕ). IsToldMore ps t code search_options prefix races shown more) alike told)

-- where no limit was met, nothing is told of how far a search came
pub reach_untold : (processes : List ProcessLocation) (met found : Bool) (before : Option ℕ) (lines : List ℕ) → found ≡ met → found ≡ false → lines ≡ [] → IsReachTold processes met before lines
reach_untold processes met found before lines is not none = subst (λ (b : Bool). IsReachTold processes b before lines) (sym not ∙ is) none

-- nor is it where no time is known before which all orders were followed
pub reach_unknown : (processes : List ProcessLocation) (met : Bool) (before : Option ℕ) (lines : List ℕ) → before ≡ None → lines ≡ [] → IsReachTold processes met before lines
reach_unknown processes true before lines is none = subst (λ (o : Option ℕ). IsReachTold processes true o lines) (sym is) none
reach_unknown processes false before lines is none = none

-- else it is
pub reach_told : (processes : List ProcessLocation) (met found : Bool) (before : Option ℕ) (time : ℕ) (empty lines : List ℕ) → found ≡ met → found ≡ true → before ≡ Some time → empty ≡ [] → TellsReach processes time empty lines → IsReachTold processes met before lines
reach_told processes met found before time empty lines is met_it known none told =
    subst (λ (b : Bool). IsReachTold processes b before lines) (sym met_it ∙ is)
    (subst (λ (o : Option ℕ). IsReachTold processes true o lines) (sym known) (subst (λ (l : List ℕ). TellsReach processes time l lines) none told))

-- what is said of texts behind a search
pub told_last : (search_options : SearchOptions) (prefix : Option (List ℕ)) (end : End) (claim : Claim) (texts shown : List (Shown Entry End)) (ends : Bool) (endings : RunEndings) (first : List ℕ) (stops : List StopDescription) (empty middle line last : List ℕ) → shown ≡ texts → HaveSomeEnds shown ends
    → endings ≡ endings_of shown → first ≡ first_text shown → stops ≡ stops_from 1 shown → empty ≡ [] → middle ≡ empty ++ verdict_text claim search_options.until (length shown) ends endings first stops prefix → last ≡ middle ++ line → line ≡ until_line search_options.until claim end
    → IsToldLast search_options prefix end claim texts last
told_last search_options prefix end claim texts shown ends endings first stops empty middle line last same apart ended begins short none told is until =
    let said : middle ≡ verdict_text claim search_options.until (length shown) ends (endings_of shown) (first_text shown) (stops_from 1 shown) prefix =
    told
    ∙ (ap (λ (l : List ℕ). l ++ verdict_text claim search_options.until (length shown) ends endings first stops prefix) none
    ∙ (ap (λ (e : RunEndings). verdict_text claim search_options.until (length shown) ends e first stops prefix) ended
    ∙ (ap (λ (f : List ℕ). verdict_text claim search_options.until (length shown) ends (endings_of shown) f stops prefix) begins
    ∙ ap (λ (l : List StopDescription). verdict_text claim search_options.until (length shown) ends (endings_of shown) (first_text shown) l prefix) short))) in
    subst (λ (ss : List (Shown Entry End)). IsToldLast search_options prefix end claim ss last) same (record {
      ends = ends;
      apart = apart;
      text_is = is ∙ (ap (λ (l : List ℕ). middle ++ l) until ∙ ap (λ (l : List ℕ). l ++ until_line search_options.until claim end) said);
    })

found_behind : (processes : List ProcessLocation) (source : List ℕ) (code : Compiled) (search_options : SearchOptions) (prefix : Option (List ℕ)) (early : ToldRaces) (claim : Claim) (before : Option ℕ) (shown : List (Shown Entry End)) (endless : Option (List Entry)) (last : List ℕ) → AreFound code search_options claim before shown endless
    → Extends early.known.items shown → AreRacesKnown search_options.max_texts early.races.found early.known.items → IsToldBehind processes source code search_options prefix early.races claim before shown last → HasFound processes source code search_options prefix early last
found_behind processes source code search_options prefix early claim before shown endless last are_found grown known is_last = record {
  claim = claim;
  shown = shown;
  endless = endless;
  before = before;
  are_found = are_found;
  grown = grown;
  races_known = races_still search_options.max_texts early.races.found early.known.items shown grown are_found.few known;
  more = is_last.more;
  is_more = is_last.is_more;
  said = is_last.said;
  is_said = is_last.is_said;
  last_is = is_last.last_is;
}

-- a search that was told first and last, with the journals of what was found
pub search_shown : (from : Sources) (file : List ℕ) (subject : DesignSubject) (search_options : SearchOptions) (prefix : Option (List ℕ)) (early : ToldRaces) (claim : Claim) (before : Option ℕ) (shown : List (Shown Entry End)) (endless : Option (List Entry)) (a b c : Option (List ℕ))
    (files tried files' : Option (List MadeFile)) (last : List ℕ) (found : SearchFinding) → IsSubjectAt from file subject → ((first : List ℕ) × IsToldFirst subject.processes.items subject.source.items subject.design search_options prefix early first × Appends a b first)
    → AreFound subject.design search_options claim before shown endless → Extends early.known.items shown → IsToldBehind subject.processes.items subject.source.items subject.design search_options prefix early.races claim before shown last → Appends b c last → KeepsFiles files tried → SavesAllWhereAsked tried files' prefix (journals_of shown endless)
    → found ≡ finding_of claim (length shown) (have_stops shown) early.refused → HasShown from file search_options prefix a c files files' found
unfolding found_behind
search_shown from file subject search_options prefix early claim before shown endless a b c files tried files' last found is_subject (first, is_first, begins) are_found grown is_last ends kept saved is = record {
  subject = subject;
  is_subject = is_subject;
  early = early;
  first = first;
  is_first = is_first;
  last = last;
  has_found = found_behind subject.processes.items subject.source.items subject.design search_options prefix early claim before shown endless last are_found grown is_first.are_known.races is_last;
  printed = appends_then a b c first last begins ends;
  saved = all_saved_on files tried files' prefix (journals_of shown endless) kept saved;
  finding = is;
}

-- a search that was told first, and didn't come further
pub search_begun : (from : Sources) (file : List ℕ) (subject : DesignSubject) (search_options : SearchOptions) (prefix : Option (List ℕ)) (early : ToldRaces) (a b : Option (List ℕ)) (files files' : Option (List MadeFile)) → IsSubjectAt from file subject
    → ((first : List ℕ) × IsToldFirst subject.processes.items subject.source.items subject.design search_options prefix early first × Appends a b first) → SavesSomeWhereAsked files files' prefix (journals_of early.known.items None) → HasLeft from file search_options prefix a b files files'
search_begun from file subject search_options prefix early a b files files' is_subject (first, is_first, begins) saved = inr (record {
  subject = subject;
  is_subject = is_subject;
  early = early;
  first = first;
  is_first = is_first;
  left = inl (begins, saved);
})

-- a search that was told first and last, and whose journals may not all have been saved
pub search_left : (from : Sources) (file : List ℕ) (subject : DesignSubject) (search_options : SearchOptions) (prefix : Option (List ℕ)) (early : ToldRaces) (claim : Claim) (before : Option ℕ) (shown : List (Shown Entry End)) (endless : Option (List Entry)) (a b c : Option (List ℕ))
    (files tried files' : Option (List MadeFile)) (last : List ℕ) → IsSubjectAt from file subject → ((first : List ℕ) × IsToldFirst subject.processes.items subject.source.items subject.design search_options prefix early first × Appends a b first)
    → AreFound subject.design search_options claim before shown endless → Extends early.known.items shown → IsToldBehind subject.processes.items subject.source.items subject.design search_options prefix early.races claim before shown last → KeepsFiles files tried
    → (Keeps b c × SavesSomeWhereAsked tried files' prefix (journals_of early.known.items None)) ⊎ (Appends b c last × SavesSomeWhereAsked tried files' prefix (journals_of shown endless)) → HasLeft from file search_options prefix a c files files'
unfolding found_behind
search_left from file subject search_options prefix early claim before shown endless a b c files tried files' last is_subject (first, is_first, begins) are_found grown is_last kept (inl (same, saved)) = inr (record {
  subject = subject;
  is_subject = is_subject;
  early = early;
  first = first;
  is_first = is_first;
  left = inl (appends_kept a b c first begins same, some_saved_on files tried files' prefix (journals_of early.known.items None) kept saved);
})
search_left from file subject search_options prefix early claim before shown endless a b c files tried files' last is_subject (first, is_first, begins) are_found grown is_last kept (inr (ends, saved)) = inr (record {
  subject = subject;
  is_subject = is_subject;
  early = early;
  first = first;
  is_first = is_first;
  left = inr (record {
    last = last;
    has_found = found_behind subject.processes.items subject.source.items subject.design search_options prefix early claim before shown endless last are_found grown is_first.are_known.races is_last;
    printed = appends_then a b c first last begins ends;
    saved = some_saved_on files tried files' prefix (journals_of shown endless) kept saved;
  });
})
