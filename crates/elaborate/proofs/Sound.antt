-- Where nothing is found, the resolved tree is sound, and its numbers are small.
use Rattle.std.proofs.Common.{◌≡◌, ℕ, ◌+◌, ◌<◌, ◌≤◌, nat_lt, nat_le, Bool, true, false, not, ◌&&◌, ◌==◌, List, [], ◌∷◌, ◌++◌, map, length, Option, Some, None, refl, sym, ◌∙◌, unwrap_or, length-append, arith}
use Rattle.std.proofs.lemmas.Bool.Decides.{nat_tests}
use Rattle.std.proofs.lemmas.List.{length-map}
use Rattle.std.proofs.lemmas.List.Elements.{All-nil, All-cons}
use Rattle.std.specs.List.{All}
use Rattle.model.specs.declared.tree.Change.{Change}
use Rattle.model.specs.declared.limits.ModuleLimits.{ModuleLimits}
use Rattle.model.specs.declared.limits.ModuleLimits.TheVariants.{Profile, Whole}
use Rattle.model.specs.ModuleLimits.{most_registers, most_processes}
use Rattle.model.specs.Syntax as source
use Rattle.model.specs.Syntax.{Text, Expression, Register, Select, Literal, Concat, Unary, Binary, Conditional, Extend, Expressions, Nothing, Also, Module}
use Rattle.logic4.specs.Vector.{greatest_width, AreWithin}
use Rattle.model.specs.Design.{Statements, End, Then}
use Rattle.model.specs.Syntax.{Piece}
use Rattle.model.specs.Elaboration as model
use Rattle.model.specs.Elaboration.{Fault, Declared, has_name, is_declared, number_of, is_range, is_index, range_of, width_of, widths_of, parts_size, greatest_delay, count_of, is_format_for, pieces_of, argument_count, resolved, all_resolved, followed_by, statements_of, block_of, elaborated_process, design_of_module, declared, assignment, trigger_of}
use Rattle.design.specs.Sound.{HasSome, how_many, IsSoundExpression, AreSoundExpressions, IsSoundStatement, AreSoundStatements, IsSound}
use Rattle.elaborate.specs.FirstFindings.{or_fault, found_where, undeclared_fault, unknown_among, used, all_used, used_in, all_used_in, used_by, found_name, found_names, found_concat, found, all_found, found_delay, found_format, found_pieces, found_in, all_found_in, found_by, found_few, found_among}
use Rattle.elaborate.specs.Small.{IsSmall, AreSmall, IsShortDelay, IsSmallStatement, AreSmallStatements, AreSmallProcesses}
use Rattle.elaborate.specs.Formed.{HasParts, IsFormed, AreFormed, IsFormedStatement, AreFormedStatements, AreFormedProcesses}
use Rattle.elaborate.proofs.Lookups.{allowed, most_within}

-- nothing found by two walks is nothing found by each
split : (a b : Option Fault) → or_fault a b ≡ None → (a ≡ None) × (b ≡ None)
split None b h = (refl, h)
split (Some f) b h = absurd cc

-- nothing found where a condition holds: it doesn't
fails : (b : Bool) (f : Fault) → found_where b f ≡ None → b ≡ false
fails true f h = absurd cc
fails false f h = refl

holds : (b : Bool) (f : Fault) → found_where (not b) f ≡ None → b ≡ true
holds true f h = refl
holds false f h = absurd cc

-- a declared name has the number of a register
number_below : (ds : List Declared) (name : Text) → is_declared ds name ≡ true → number_of ds name < length ds
number_below [] name h = absurd cc
number_below (d ∷ ds) name h = by (has_name name d) refl (number_below ds name)
  where
    by : (b : Bool) → has_name name d ≡ b → (is_declared ds name ≡ true → number_of ds name < length ds) → number_of (d ∷ ds) name < length (d ∷ ds)
    by true q rest = rw q (omega arith)
    by false q rest = let k : is_declared ds name ≡ true = rw q at h in rw q (omega (arith, rest k))

known_below : (ds : List Declared) (name : Text) → undeclared_fault ds name ≡ None → number_of ds name < length (widths_of ds)
known_below ds name h = rw length-map (number_below ds name (holds (is_declared ds name) (model.Undeclared name) h))

few_digits : (n : ℕ) → nat_lt greatest_width n ≡ false → n ≤ greatest_width
few_digits n h = grind (arith, nat_tests)

has_some : (ds : List Declared) (es : Expressions Text) → HasParts es → HasSome (all_resolved ds es)
has_some ds Nothing h = absurd h
has_some ds (Also e es) h = tt

mutual
  pub sound : (ds : List Declared) (e : Expression Text) → IsFormed e → used ds e ≡ None → found ds e ≡ None → IsSoundExpression (widths_of ds) (resolved ds e)
  sound ds (Register name) w u f = known_below ds name u
  sound ds (Select name i) w u f = known_below ds name u
  sound ds (Literal v) w u f = w
  sound ds (Concat parts) w u f =
      let a = split (found_concat ds parts) (all_found ds parts) f in (
        few_digits (parts_size ds parts) (fails (nat_lt greatest_width (parts_size ds parts)) model.WideConcat a.0),
        has_some ds parts w.0,
        all_sound ds parts w.1 u a.1,
      )
  sound ds (Unary op e) w u f = sound ds e w u f
  sound ds (Binary op e g) w u f =
      let a = split (used ds e) (used ds g) u in let b = split (found ds e) (found ds g) f in (sound ds e w.0 a.0 b.0, sound ds g w.1 a.1 b.1)
  sound ds (Extend by size e) w u f = (w.0, w.1, sound ds e w.2 u f)
  sound ds (Conditional c e g) w u f =
      let a = split (used ds c) (or_fault (used ds e) (used ds g)) u in let a2 = split (used ds e) (used ds g) a.1 in
      let b = split (found ds c) (or_fault (found ds e) (found ds g)) f in let b2 = split (found ds e) (found ds g) b.1 in
      (sound ds c w.0 a.0 b.0, sound ds e w.1.0 a2.0 b2.0, sound ds g w.1.1 a2.1 b2.1)

  pub all_sound : (ds : List Declared) (es : Expressions Text) → AreFormed es → all_used ds es ≡ None → all_found ds es ≡ None → AreSoundExpressions (widths_of ds) (all_resolved ds es)
  all_sound ds Nothing w u f = tt
  all_sound ds (Also e es) w u f =
      let a = split (used ds e) (all_used ds es) u in let b = split (found ds e) (all_found ds es) f in (sound ds e w.0 a.0 b.0, all_sound ds es w.1 a.1 b.1)

-- statements behind sound ones
sound_behind : (widths : List ℕ) (a b : Statements) → AreSoundStatements widths a → AreSoundStatements widths b → AreSoundStatements widths (followed_by a b)
sound_behind widths End b x y = y
sound_behind widths (Then s a) b x y = (x.0, sound_behind widths a b x.1 y)

short : (delay : ℕ) → found_delay (Some delay) ≡ None → delay ≤ greatest_delay
short delay h = let k = fails (nat_lt greatest_delay delay) model.LongDelay h in not_above delay k
  where
    not_above : (n : ℕ) → nat_lt 4294967295 n ≡ false → n ≤ 4294967295
    not_above n k = grind (arith, nat_tests)

sound_assignment : (widths : List ℕ) (r : ℕ) (delay : Option ℕ) (e : Expression ℕ) → r < length widths → found_delay delay ≡ None → IsSoundExpression widths e
    → IsSoundStatement widths (assignment r delay e)
sound_assignment widths r None e n d s = (n, s)
sound_assignment widths r (Some delay) e n d s = (n, short delay d, s)

short_or_none : (delay : Option ℕ) → found_delay delay ≡ None → unwrap_or delay 0 ≤ greatest_delay
short_or_none None d = omega arith
short_or_none (Some delay) d = short delay d

triggers_below : (ds : List Declared) (ts : List (Change × Text)) → unknown_among ds (map (λ t. t.1) ts) ≡ None
    → All (λ t. t.1 < length (widths_of ds)) (map (trigger_of ds) ts)
triggers_below ds [] u = All-nil (λ t. t.1 < length (widths_of ds))
triggers_below ds (t ∷ ts) u =
    let a = split (undeclared_fault ds t.1) (unknown_among ds (map (λ t. t.1) ts)) u in
    All-cons (λ t. t.1 < length (widths_of ds)) (trigger_of ds t) (map (trigger_of ds) ts) (known_below ds t.1 a.0) (triggers_below ds ts a.1)

counted : (ds : List Declared) (es : Expressions Text) → how_many (all_resolved ds es) ≡ count_of es
counted ds Nothing = refl
counted ds (Also e es) = omega (arith, counted ds es)

same_count : (o : Option (List Piece)) (n : ℕ) → is_format_for o n ≡ true → argument_count (unwrap_or o []) ≡ n
same_count None n h = absurd cc
same_count (Some pieces) n h = equal_true (argument_count pieces) n h
  where
    equal_true : (a b : ℕ) → (a == b) ≡ true → a ≡ b
    equal_true a b h = grind (arith, nat_tests)

mutual
  pub sound_in : (ds : List Declared) (s : source.SourceStatement) → IsFormedStatement s → used_in ds s ≡ None → found_in ds s ≡ None → AreSoundStatements (widths_of ds) (statements_of ds s)
  sound_in ds source.Empty w u f = (tt, tt)
  sound_in ds (source.Block body) w u f = all_sound_in ds body w u f
  sound_in ds (source.Assign name delay e) w u f =
      let a = split (undeclared_fault ds name) (used ds e) u in let b = split (found_delay delay) (found ds e) f in
      (sound_assignment (widths_of ds) (number_of ds name) delay (resolved ds e) (known_below ds name a.0) b.0 (sound ds e w a.1 b.1), tt)
  sound_in ds (source.AssignLater name delay e) w u f =
      let a = split (undeclared_fault ds name) (used ds e) u in let b = split (found_delay delay) (found ds e) f in
      ((known_below ds name a.0, short_or_none delay b.0, sound ds e w a.1 b.1), tt)
  sound_in ds (source.Now name) w u f = (known_below ds name u, tt)
  sound_in ds (source.Delay delay s) w u f =
      let b = split (found_delay (Some delay)) (found_in ds s) f in ((short delay b.0, sound_in ds s w u b.1), tt)
  sound_in ds (source.Await triggers s) w u f =
      let a = split (unknown_among ds (map (λ t. t.1) triggers)) (used_in ds s) u in
      ((triggers_below ds triggers a.0, sound_in ds s w a.1 f), tt)
  sound_in ds (source.If c body) w u f =
      let a = split (used ds c) (all_used_in ds body) u in let b = split (found ds c) (all_found_in ds body) f in
      ((sound ds c w.0 a.0 b.0, all_sound_in ds body w.1 a.1 b.1, tt), tt)
  sound_in ds (source.IfElse c body otherwise) w u f =
      let a = split (used ds c) (or_fault (all_used_in ds body) (all_used_in ds otherwise)) u in let a2 = split (all_used_in ds body) (all_used_in ds otherwise) a.1 in
      let b = split (found ds c) (or_fault (all_found_in ds body) (all_found_in ds otherwise)) f in let b2 = split (all_found_in ds body) (all_found_in ds otherwise) b.1 in
      ((sound ds c w.0 a.0 b.0, all_sound_in ds body w.1.0 a2.0 b2.0, all_sound_in ds otherwise w.1.1 a2.1 b2.1), tt)
  sound_in ds (source.While c body) w u f =
      let a = split (used ds c) (all_used_in ds body) u in let b = split (found ds c) (all_found_in ds body) f in
      ((sound ds c w.0 a.0 b.0, all_sound_in ds body w.1 a.1 b.1), tt)
  sound_in ds (source.Print task format arguments) w u f =
      let b = split (found_format format (count_of arguments)) (all_found ds arguments) f in (
        (
          same_count (pieces_of format) (count_of arguments) (holds (is_format_for (pieces_of format) (count_of arguments)) model.BadFormat b.0) ∙ sym (counted ds arguments),
          all_sound ds arguments w u b.1,
        ),
        tt,
      )
  sound_in ds (source.PrintPieces task pieces arguments) w u f =
      let b = split (found_pieces (Some pieces) (count_of arguments)) (all_found ds arguments) f in (
        (
          same_count (Some pieces) (count_of arguments) (holds (is_format_for (Some pieces) (count_of arguments)) model.BadFormat b.0) ∙ sym (counted ds arguments),
          all_sound ds arguments w u b.1,
        ),
        tt,
      )
  sound_in ds source.Finish w u f = (tt, tt)

  pub all_sound_in : (ds : List Declared) (ss : source.SourceStatements) → AreFormedStatements ss → all_used_in ds ss ≡ None → all_found_in ds ss ≡ None → AreSoundStatements (widths_of ds) (block_of ds ss)
  all_sound_in ds source.End w u f = tt
  all_sound_in ds (source.Then s ss) w u f =
      let a = split (used_in ds s) (all_used_in ds ss) u in let b = split (found_in ds s) (all_found_in ds ss) f in
      sound_behind (widths_of ds) (statements_of ds s) (block_of ds ss) (sound_in ds s w.0 a.0 b.0) (all_sound_in ds ss w.1 a.1 b.1)

sound_by : (ds : List Declared) (ps : List source.SourceProcess) → AreFormedProcesses ps → used_by ds ps ≡ None → found_by ds ps ≡ None
    → All (λ p. AreSoundStatements (widths_of ds) p.body) (map (elaborated_process ds) ps)
sound_by ds [] w u f = All-nil (λ p. AreSoundStatements (widths_of ds) p.body)
sound_by ds (p ∷ ps) w u f =
    let a = split (used_in ds p.body) (used_by ds ps) u in let b = split (found_in ds p.body) (found_by ds ps) f in
    All-cons (λ p. AreSoundStatements (widths_of ds) p.body) (elaborated_process ds p) (map (elaborated_process ds) ps) (sound_in ds p.body w.0 a.0 b.0) (sound_by ds ps w.1 a.1 b.1)

-- each range is allowed
range_allowed : (limits : ModuleLimits) (before ds : List Declared) → found_names limits before ds ≡ None → (name : Text) → is_range (range_of ds name) ≡ true
range_allowed limits before [] h name = refl
range_allowed limits before (d ∷ ds) h name =
    let a = split (found_name limits before d) (found_names limits (before ++ d ∷ []) ds) h in
    by (has_name name d) refl (allowed limits before d.0 d.1 a.0).1 (range_allowed limits (before ++ d ∷ []) ds a.1 name)
  where
    by : (b : Bool) → has_name name d ≡ b → is_range d.1 ≡ true → is_range (range_of ds name) ≡ true → is_range (range_of (d ∷ ds) name) ≡ true
    by true q mine others = rw q mine
    by false q mine others = rw q others

-- and there aren't too many registers
few_registers : (limits : ModuleLimits) (before ds : List Declared) → found_names limits before ds ≡ None → length before ≤ most_registers limits → length before + length ds ≤ most_registers limits
few_registers limits before [] h few = omega arith
few_registers limits before (d ∷ ds) h few =
    let a = split (found_name limits before d) (found_names limits (before ++ d ∷ []) ds) h in
    let room = (allowed limits before d.0 d.1 a.0).2 in
    let e = length-append before (d ∷ []) in
    let k : length (before ++ d ∷ []) ≤ most_registers limits = omega (arith, e) in
    omega (arith, e, few_registers limits (before ++ d ∷ []) ds a.1 k)

-- an allowed range has 1 to 128 digits
high_of : (high low : ℕ) → ((low == 0) && nat_lt high greatest_width) ≡ true → high < greatest_width
high_of high low h = grind (arith, nat_tests)

some_width : (r : Option (ℕ × ℕ)) → is_range r ≡ true → 1 ≤ width_of r
some_width None h = omega arith
some_width (Some r) h = omega arith

few_width : (r : Option (ℕ × ℕ)) → is_range r ≡ true → width_of r ≤ greatest_width
few_width None h = omega arith
few_width (Some r) h = omega (arith, high_of r.0 r.1 h)

some_widths : (limits : ModuleLimits) (before ds : List Declared) → found_names limits before ds ≡ None → All (λ w. 1 ≤ w) (widths_of ds)
some_widths limits before [] h = All-nil (λ w. 1 ≤ w)
some_widths limits before (d ∷ ds) h =
    let a = split (found_name limits before d) (found_names limits (before ++ d ∷ []) ds) h in
    All-cons (λ w. 1 ≤ w) (width_of d.1) (widths_of ds) (some_width d.1 (allowed limits before d.0 d.1 a.0).1) (some_widths limits (before ++ d ∷ []) ds a.1)

few_widths : (limits : ModuleLimits) (before ds : List Declared) → found_names limits before ds ≡ None → AreWithin (widths_of ds)
few_widths limits before [] h = All-nil (λ w. w ≤ greatest_width)
few_widths limits before (d ∷ ds) h =
    let a = split (found_name limits before d) (found_names limits (before ++ d ∷ []) ds) h in
    All-cons (λ w. w ≤ greatest_width) (width_of d.1) (widths_of ds) (few_width d.1 (allowed limits before d.0 d.1 a.0).1) (few_widths limits (before ++ d ∷ []) ds a.1)

few_all : (m n : ℕ) → nat_lt m n ≡ false → n ≤ m
few_all m n h = grind (arith, nat_tests)

-- no limits leave more processes than those of whole designs
few_processes_within : (limits : ModuleLimits) → most_processes limits ≤ 16384
few_processes_within Profile = omega arith
few_processes_within Whole = omega arith

none_before : (limits : ModuleLimits) → 0 ≤ most_registers limits
none_before limits = omega arith

-- the design of a module in which nothing is found is sound
pub sound_design : (limits : ModuleLimits) (m : Module) → AreFormedProcesses m.processes → found_names limits [] (declared m) ≡ None → found_among limits (declared m) m.processes ≡ None → IsSound (design_of_module m)
sound_design limits m w n f =
    let ds = declared m in let ps = m.processes in
    let a = split (found_few limits (length ps)) (or_fault (used_by ds ps) (found_by ds ps)) f in let b = split (used_by ds ps) (found_by ds ps) a.1 in
    let few = few_registers limits [] ds n (none_before limits) in
    let count = few_all (most_processes limits) (length ps) (fails (nat_lt (most_processes limits) (length ps)) model.TooManyProcesses a.0) in
    record {
      some_digit = some_widths limits [] ds n;
      few_digits = few_widths limits [] ds n;
      few_registers = rw length-map (omega (arith, few, most_within limits));
      few_processes = rw length-map (omega (arith, count, few_processes_within limits));
      statements = sound_by ds ps w b.0 b.1;
    }

-- a bit index in an allowed range
index_small : (r : Option (ℕ × ℕ)) (i : ℕ) → is_range r ≡ true → is_index r i ≡ true → i ≤ greatest_width
index_small None i h k = absurd cc
index_small (Some r) i h k = let high = high_of r.0 r.1 h in below r.0 i high k
  where
    below : (high i : ℕ) → high < greatest_width → nat_le i high ≡ true → i ≤ greatest_width
    below high i h k = grind (arith, nat_tests)

module _ (ds : List Declared) (ranged : (name : Text) → is_range (range_of ds name) ≡ true) where
  mutual
    pub small : (e : Expression Text) → found ds e ≡ None → IsSmall e
    small (Register name) f = tt
    small (Select name i) f = index_small (range_of ds name) i (ranged name) (holds (is_index (range_of ds name) i) (model.BadIndex name) f)
    small (Literal v) f = tt
    small (Concat parts) f = all_small parts (split (found_concat ds parts) (all_found ds parts) f).1
    small (Unary op e) f = small e f
    small (Binary op e g) f = let b = split (found ds e) (found ds g) f in (small e b.0, small g b.1)
    small (Extend by size e) f = small e f
    small (Conditional c e g) f =
        let b = split (found ds c) (or_fault (found ds e) (found ds g)) f in let b2 = split (found ds e) (found ds g) b.1 in
        (small c b.0, small e b2.0, small g b2.1)

    pub all_small : (es : Expressions Text) → all_found ds es ≡ None → AreSmall es
    all_small Nothing f = tt
    all_small (Also e es) f = let b = split (found ds e) (all_found ds es) f in (small e b.0, all_small es b.1)

  short_delay : (delay : Option ℕ) → found_delay delay ≡ None → IsShortDelay delay
  short_delay None f = tt
  short_delay (Some delay) f = short delay f

  mutual
    pub small_in : (s : source.SourceStatement) → found_in ds s ≡ None → IsSmallStatement s
    small_in source.Empty f = tt
    small_in (source.Block body) f = all_small_in body f
    small_in (source.Assign name delay e) f = let b = split (found_delay delay) (found ds e) f in (short_delay delay b.0, small e b.1)
    small_in (source.AssignLater name delay e) f = let b = split (found_delay delay) (found ds e) f in (short_delay delay b.0, small e b.1)
    small_in (source.Now name) f = tt
    small_in (source.Delay delay s) f = let b = split (found_delay (Some delay)) (found_in ds s) f in (short delay b.0, small_in s b.1)
    small_in (source.Await triggers s) f = small_in s f
    small_in (source.If c body) f = let b = split (found ds c) (all_found_in ds body) f in (small c b.0, all_small_in body b.1)
    small_in (source.IfElse c body otherwise) f =
        let b = split (found ds c) (or_fault (all_found_in ds body) (all_found_in ds otherwise)) f in let b2 = split (all_found_in ds body) (all_found_in ds otherwise) b.1 in
        (small c b.0, all_small_in body b2.0, all_small_in otherwise b2.1)
    small_in (source.While c body) f = let b = split (found ds c) (all_found_in ds body) f in (small c b.0, all_small_in body b.1)
    small_in (source.Print task format arguments) f = all_small arguments (split (found_format format (count_of arguments)) (all_found ds arguments) f).1
    small_in (source.PrintPieces task pieces arguments) f = all_small arguments (split (found_pieces (Some pieces) (count_of arguments)) (all_found ds arguments) f).1
    small_in source.Finish f = tt

    pub all_small_in : (ss : source.SourceStatements) → all_found_in ds ss ≡ None → AreSmallStatements ss
    all_small_in source.End f = tt
    all_small_in (source.Then s ss) f = let b = split (found_in ds s) (all_found_in ds ss) f in (small_in s b.0, all_small_in ss b.1)

  pub small_by : (ps : List source.SourceProcess) → found_by ds ps ≡ None → AreSmallProcesses ps
  small_by [] f = tt
  small_by (p ∷ ps) f = let b = split (found_in ds p.body) (found_by ds ps) f in (small_in p.body b.0, small_by ps b.1)

-- the processes of a module in which nothing is found are small
pub small_module : (limits : ModuleLimits) (m : Module) → found_names limits [] (declared m) ≡ None → found_among limits (declared m) m.processes ≡ None → AreSmallProcesses m.processes
small_module limits m n f =
    let ds = declared m in let ps = m.processes in
    let a = split (found_few limits (length ps)) (or_fault (used_by ds ps) (found_by ds ps)) f in let b = split (used_by ds ps) (found_by ds ps) a.1 in
    small_by ds (range_allowed limits [] ds n) ps b.1
