-- What clap's account of the words gives for a request, and where there is none.
use Rattle.std.proofs.Common.{◌≡◌, ◌⊎◌, ◌||◌, ◌^◌, ◌<◌, ◌∙◌, ℕ, Bool, true, false, List, [], ◌∷◌, drop, Option, Some, None, is_some, option_map, pos, Result, Ok, Err, IfOk, IfErr, refl, sym, subst, ap, inl, inr, codes, unwrap_or}
use Rattle.std.specs.Str.{bytes_eq}
use Rattle.std.proofs.lemmas.Slice.Eq.{bytes_eq-Decides}
use Rattle.std.specs.Str.Parse.{IsNumeral, ParsesUnsigned, digits_value, without_leading_plus}
use Rattle.clap.specs.Words.{App, Row, FailsBy, HasKind, HasMatchesOf, IsAmong, Kinds, ReadsOne, Text, one_text, without_minus, fault_of, found_of, is_simple, is_simple_and_free, matches_of, rows_of, kind_of, first_of}
use Rattle.arguments.specs.Observing.{ObservesNothing, ObservesOther}
use Rattle.clap.specs.Kinds.{or_else}
use Rattle.clap.proofs.CallerReads.{signed_reads}
use Rattle.clap.proofs.WalkLemmas.{one_text-rows}
use Rattle.clap.specs.declared.parser.matches.Found.{Found}
use Rattle.clap.specs.declared.builder.value_parser.ValueParser.TheVariants as vp
use Rattle.clap.specs.declared.error.Error.{Error}
use Rattle.clap.specs.declared.error.kind.ErrorKind.{ErrorKind}
use Rattle.clap.specs.declared.error.kind.ErrorKind.TheVariants.{ArgumentConflict, InvalidValue, MissingSubcommand, OutOfMemory, DisplayHelp, DisplayVersion}
use Rattle.clap.specs.declared.parser.matches.ArgMatches.{ArgMatches}
use Rattle.arguments.specs.declared.request.NoRequest.{NoRequest}
use Rattle.arguments.specs.declared.request.NoRequest.TheVariants as no_request
use Rattle.arguments.specs.Arguments.{IsGivenArgument, flag_parser}
use Rattle.arguments.specs.CommandWords.{flag_given, number_given, Begins, FailsAs, IsNoRequest, IsNoRequestBy, MayFail, of_run, of_two_orders, of_replay, of_races, of_nothing_observed, of_samples, of_check, of_explain, of_no_telling, of_waves, of_diff, of_flatten, has_two_orders, other_faults, check_app, check_faults, explain_app, explain_faults, explain_rows, TellsNothing, races_app, races_faults, races_rows, replay_app, replay_faults, run_app, run_faults, run_rows, waves_app, waves_faults, diff_app, diff_faults, flatten_app, flatten_faults, whole_app}

whole_is_free : is_simple_and_free whole_app ≡ true
unfolding whole_app run_app replay_app races_app check_app explain_app waves_app diff_app flatten_app
whole_is_free = refl

-- what a parse found

pub found_by : (known app : App) (words : List Text) (m : ArgMatches) → is_simple known ≡ true → app ≡ known → HasMatchesOf app words m
    → rows_of (found_of m) ≡ matches_of known words
found_by known app words m simple e h = (h (ap is_simple e ∙ simple)).0 ∙ ap (λ (a : App). matches_of a words) e

-- how it failed

pub failed_by : (known app : App) (words : List Text) (r : Result ArgMatches Error) → is_simple_and_free known ≡ true → app ≡ known
    → (is_simple_and_free app ≡ true → FailsBy (fault_of app words) r) → IfErr r (HasKind (fault_of known words))
failed_by known app words (Ok m) free e h = tt
failed_by known app words (Err x) free e h = subst (λ (a : App). HasKind (fault_of a words) x) e (h (ap is_simple_and_free e ∙ free))

kind_kept : (ks next : Kinds) (x : Error) → HasKind ks x → HasKind (or_else ks next) x
kind_kept [] next x (inl h) = inl h
kind_kept [] next x (inr h) = absurd h
kind_kept (k ∷ ks) next x h = h

missing_among : (ks : Kinds) → ks ≡ [] → IsAmong MissingSubcommand (or_else ks (MissingSubcommand ∷ []))
missing_among ks e = subst (λ (w : Kinds). IsAmong MissingSubcommand (or_else w (MissingSubcommand ∷ []))) (sym e) (inl refl)

pub whole_taken : (app : App) (words : List Text) (r : Result ArgMatches Error) → app ≡ whole_app
    → (is_simple_and_free app ≡ true → FailsBy (fault_of app words) r) → IfOk r (λ m. IsAmong MissingSubcommand (other_faults words))
unfolding other_faults
whole_taken app words (Ok m) e h =
    missing_among (fault_of whole_app words) (subst (λ (a : App). fault_of a words ≡ []) e (h (ap is_simple_and_free e ∙ whole_is_free)))
whole_taken app words (Err x) e h = tt

pub whole_failed : (app : App) (words : List Text) (r : Result ArgMatches Error) → app ≡ whole_app
    → (is_simple_and_free app ≡ true → FailsBy (fault_of app words) r) → IfErr r (HasKind (other_faults words))
unfolding other_faults
whole_failed app words (Ok m) e h = tt
whole_failed app words (Err x) e h =
    kind_kept (fault_of whole_app words) (MissingSubcommand ∷ []) x (subst (λ (a : App). HasKind (fault_of a words) x) e (h (ap is_simple_and_free e ∙ whole_is_free)))

-- what that says of the words

pub run_fails : (words own : List Text) (e : Error) → Begins words (codes "run") → own ≡ drop 1 words → HasKind (run_faults own) e
    → FailsAs words (kind_of e)
run_fails words own e begins same (inl h) = inl h
run_fails words own e begins same (inr h) = inr (of_run begins (subst (λ (w : List Text). IsAmong (kind_of e) (run_faults w)) same h))

pub replay_fails : (words own : List Text) (e : Error) → Begins words (codes "replay") → own ≡ drop 1 words → HasKind (replay_faults own) e
    → FailsAs words (kind_of e)
replay_fails words own e begins same (inl h) = inl h
replay_fails words own e begins same (inr h) = inr (of_replay begins (subst (λ (w : List Text). IsAmong (kind_of e) (replay_faults w)) same h))

pub races_fails : (words own : List Text) (e : Error) → Begins words (codes "races") → own ≡ drop 1 words → HasKind (races_faults own) e
    → FailsAs words (kind_of e)
races_fails words own e begins same (inl h) = inl h
races_fails words own e begins same (inr h) = inr (of_races begins (subst (λ (w : List Text). IsAmong (kind_of e) (races_faults w)) same h))

pub check_fails : (words own : List Text) (e : Error) → Begins words (codes "check") → own ≡ drop 1 words → HasKind (check_faults own) e
    → FailsAs words (kind_of e)
check_fails words own e begins same (inl h) = inl h
check_fails words own e begins same (inr h) = inr (of_check begins (subst (λ (w : List Text). IsAmong (kind_of e) (check_faults w)) same h))

pub explain_fails : (words own : List Text) (e : Error) → Begins words (codes "explain") → own ≡ drop 1 words → HasKind (explain_faults own) e
    → FailsAs words (kind_of e)
explain_fails words own e begins same (inl h) = inl h
explain_fails words own e begins same (inr h) = inr (of_explain begins (subst (λ (w : List Text). IsAmong (kind_of e) (explain_faults w)) same h))

pub waves_fails : (words own : List Text) (e : Error) → Begins words (codes "waves") → own ≡ drop 1 words → HasKind (waves_faults own) e
    → FailsAs words (kind_of e)
waves_fails words own e begins same (inl h) = inl h
waves_fails words own e begins same (inr h) = inr (of_waves begins (subst (λ (w : List Text). IsAmong (kind_of e) (waves_faults w)) same h))

pub diff_fails : (words own : List Text) (e : Error) → Begins words (codes "diff") → own ≡ drop 1 words → HasKind (diff_faults own) e
    → FailsAs words (kind_of e)
diff_fails words own e begins same (inl h) = inl h
diff_fails words own e begins same (inr h) = inr (of_diff begins (subst (λ (w : List Text). IsAmong (kind_of e) (diff_faults w)) same h))

pub flatten_fails : (words own : List Text) (e : Error) → Begins words (codes "flatten") → own ≡ drop 1 words → HasKind (flatten_faults own) e
    → FailsAs words (kind_of e)
flatten_fails words own e begins same (inl h) = inl h
flatten_fails words own e begins same (inr h) = inr (of_flatten begins (subst (λ (w : List Text). IsAmong (kind_of e) (flatten_faults w)) same h))

-- a run both by a seed and on workers
pub two_orders_fail : (words own : List Text) (rows : List Row) (e : Error) → Begins words (codes "run") → own ≡ drop 1 words → rows ≡ run_rows own
    → has_two_orders rows ≡ true → (kind_of e ≡ OutOfMemory) ⊎ (kind_of e ≡ ArgumentConflict) → FailsAs words (kind_of e)
two_orders_fail words own rows e begins same found two (inl h) = inl h
two_orders_fail words own rows e begins same found two (inr h) =
    inr (of_two_orders begins (subst (λ (w : List Text). has_two_orders (run_rows w) ≡ true) same (subst (λ (r : List Row). has_two_orders r ≡ true) found two)) h)

-- a search for races that is to observe nothing that can be
pub nothing_observed_fails : (words own : List Text) (rows : List Row) (e : Error) → Begins words (codes "races") → own ≡ drop 1 words → rows ≡ races_rows own
    → ObservesNothing (first_of (codes "observe") rows) → (kind_of e ≡ OutOfMemory) ⊎ (kind_of e ≡ InvalidValue) → FailsAs words (kind_of e)
nothing_observed_fails words own rows e begins same found nothing (inl h) = inl h
nothing_observed_fails words own rows e begins same found nothing (inr h) =
    inr (of_nothing_observed begins (subst (λ (r : List Row). ObservesNothing (first_of (codes "observe") r)) (found ∙ ap races_rows same) nothing) h)

-- or something else than lines of random orders
pub samples_fail : (words own : List Text) (rows : List Row) (e : Error) → Begins words (codes "races") → own ≡ drop 1 words → rows ≡ races_rows own
    → is_some (number_given (codes "samples") rows) ≡ true → ObservesOther (first_of (codes "observe") rows)
    → (kind_of e ≡ OutOfMemory) ⊎ (kind_of e ≡ ArgumentConflict) → FailsAs words (kind_of e)
samples_fail words own rows e begins same found some other (inl h) = inl h
samples_fail words own rows e begins same found some other (inr h) =
    let rows_are : rows ≡ races_rows (drop 1 words) = found ∙ ap races_rows same in
    inr
    (of_samples begins (subst (λ (r : List Row). is_some (number_given (codes "samples") r) ≡ true) rows_are some)
    (subst (λ (r : List Row). ObservesOther (first_of (codes "observe") r)) rows_are other) h)

-- or a telling of a journal in digits that a letter doesn't stand for, or of no entry
pub no_telling_fails : (words own : List Text) (rows : List Row) (e : Error) → Begins words (codes "explain") → own ≡ drop 1 words → rows ≡ explain_rows own
    → TellsNothing rows → (kind_of e ≡ OutOfMemory) ⊎ (kind_of e ≡ InvalidValue) → FailsAs words (kind_of e)
no_telling_fails words own rows e begins same found none (inl h) = inl h
no_telling_fails words own rows e begins same found none (inr h) =
    inr (of_no_telling begins (subst TellsNothing (found ∙ ap explain_rows same) none) h)

pub refused : (words : List Text) (kind : ErrorKind) (r : NoRequest) → FailsAs words kind → IsNoRequestBy kind r → IsNoRequest words r
refused words kind (no_request.Help text) (inl h) (inl by) = elim_kind (sym h ∙ by)
  where
    elim_kind : OutOfMemory ≡ DisplayHelp → MayFail words DisplayHelp ⊎ MayFail words DisplayVersion
    elim_kind e = cc
refused words kind (no_request.Help text) (inl h) (inr by) = elim_kind (sym h ∙ by)
  where
    elim_kind : OutOfMemory ≡ DisplayVersion → MayFail words DisplayHelp ⊎ MayFail words DisplayVersion
    elim_kind e = cc
refused words kind (no_request.Help text) (inr h) (inl by) = inl (subst (MayFail words) by h)
refused words kind (no_request.Help text) (inr h) (inr by) = inr (subst (MayFail words) by h)
refused words kind (no_request.Usage text) (inl h) by = absurd (by.0 h)
refused words kind (no_request.Usage text) (inr h) by = (kind, h, by.1, by.2)
refused words kind no_request.Memory h by = tt

-- a number that was read

pub number_read : (E : Type 0) (G : List ℕ → Result ℕ E → Type 0) (k : ℕ) (o : Option Text) (r : Option ℕ) → (o ≡ None → r ≡ None)
    → ((t : Text) → o ≡ Some t → ReadsOne G t r) → ((t : Text) (x : Result ℕ E) → G t x → ParsesUnsigned k 10 t x)
    → (o ≡ None) ⊎ (is_some r ≡ true) → r ≡ option_map (λ t. digits_value 10 (without_leading_plus t)) o
number_read E G k None r none value only h = none refl
number_read E G k (Some t) r none value only (inl h) = absurd (elim_none h)
  where
    elim_none : Some t ≡ None → ⊥
    elim_none e = cc
number_read E G k (Some t) r none value only (inr h) = at r (value t refl) h
  where
    at : (q : Option ℕ) → ReadsOne G t q → is_some q ≡ true → q ≡ Some (digits_value 10 (without_leading_plus t))
    at None reads s = cc
    at (Some v) reads s = ap Some (only t (Ok v) reads).1

-- a text that passed the parser of natural numbers is read
pub unsigned_read : (E : Type 0) (G : List ℕ → Result ℕ E → Type 0) (t : Text) (r : Option ℕ) → ReadsOne G t r
    → ((u : Text) (x : Result ℕ E) → G u x → ParsesUnsigned 64 10 u x)
    → IsNumeral 10 (without_leading_plus t) → digits_value 10 (without_leading_plus t) < 2 ^ 64 → is_some r ≡ true
unsigned_read E G t (Some v) reads only numeral fits = refl
unsigned_read E G t None reads only numeral fits = absurd (only t (Err reads.0) reads.1 (numeral, fits))

-- the number that was read of an argument whose texts passed a parser
pub unsigned_given : (E : Type 0) (G : List ℕ → Result ℕ E → Type 0) (f : Found) (id : Text) (low high : ℕ) (r : Option ℕ)
    → IsGivenArgument f id (vp.Unsigned low high) → ((t : Text) (x : Result ℕ E) → G t x → ParsesUnsigned 64 10 t x)
    → (one_text f id ≡ None → r ≡ None) → ((t : Text) → one_text f id ≡ Some t → ReadsOne G t r) → r ≡ number_given id (rows_of f)
unsigned_given E G f id low high r given only none value =
    number_read E G 64 (one_text f id) r none value only some ∙ ap (option_map (λ t. digits_value 10 (without_leading_plus t))) (one_text-rows f id)
  where
    some : (one_text f id ≡ None) ⊎ (is_some r ≡ true)
    some = elim given [
      | inl h ↦ inl h
      | inr g ↦ inr (unsigned_read E G g.0 r (value g.0 g.2) only g.3.0 g.3.1)
    ]

pub signed_given : (E : Type 0) (G : List ℕ → Result ℕ E → Type 0) (f : Found) (id : Text) (low high : ℕ) (r : Option ℕ) → high < 2 ^ 32
    → IsGivenArgument f id (vp.Signed (pos low) (pos high)) → ((t : Text) (x : Result ℕ E) → G t x → ParsesUnsigned 32 10 t x)
    → (one_text f id ≡ None → r ≡ None) → ((t : Text) → one_text f id ≡ Some t → ReadsOne G t r) → r ≡ number_given id (rows_of f)
signed_given E G f id low high r small given only none value =
    number_read E G 32 (one_text f id) r none value only some ∙ ap (option_map (λ t. digits_value 10 (without_leading_plus t))) (one_text-rows f id)
  where
    some : (one_text f id ≡ None) ⊎ (is_some r ≡ true)
    some = elim given [
      | inl h ↦ inl h
      | inr g ↦ inr (ap is_some (signed_reads E G 32 low high g.0 r (value (without_minus g.0) g.2) only small g.3).1)
    ]

-- whether an option without a value was given

true_or_false : (a b : Bool) → (a || b) ≡ true → (a ≡ true) ⊎ (b ≡ true)
true_or_false true b h = inl refl
true_or_false false b h = inr h

pub flag_read : (f : Found) (id : Text) (r : Bool) → IsGivenArgument f id flag_parser
    → (one_text f id ≡ None → r ≡ false) → (one_text f id ≡ Some (codes "true") → r ≡ true) → (one_text f id ≡ Some (codes "false") → r ≡ false)
    → r ≡ flag_given id (rows_of f)
flag_read f id r given none value other = is ∙ ap (λ (o : Option Text). bytes_eq (unwrap_or o []) (codes "true")) (one_text-rows f id)
  where
    at : (o : Option Text) → one_text f id ≡ o → (b : Bool) → r ≡ b → bytes_eq (unwrap_or o []) (codes "true") ≡ b → r ≡ bytes_eq (unwrap_or (one_text f id) []) (codes "true")
    at o e b is_b same = is_b ∙ (sym same ∙ ap (λ (w : Option Text). bytes_eq (unwrap_or w []) (codes "true")) (sym e))

    text_is : (text : Text) → one_text f id ≡ Some text → (bytes_eq text (codes "true") ≡ true) ⊎ (bytes_eq text (codes "false") ≡ true)
        → r ≡ bytes_eq (unwrap_or (one_text f id) []) (codes "true")
    text_is text e (inl same) = at (Some (codes "true")) (e ∙ ap Some ((bytes_eq-Decides text (codes "true")).0 same)) true (value (e ∙ ap Some ((bytes_eq-Decides text (codes "true")).0 same))) refl
    text_is text e (inr same) = at (Some (codes "false")) (e ∙ ap Some ((bytes_eq-Decides text (codes "false")).0 same)) false (other (e ∙ ap Some ((bytes_eq-Decides text (codes "false")).0 same))) refl

    is : r ≡ bytes_eq (unwrap_or (one_text f id) []) (codes "true")
    is = elim given [
      | inl e ↦ at None e false (none e) refl
      | inr g ↦ text_is g.0 g.2 (true_or_false (bytes_eq g.0 (codes "true")) (bytes_eq g.0 (codes "false")) g.3)
    ]
