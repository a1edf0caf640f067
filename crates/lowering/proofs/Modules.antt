-- Flat modules, of which one more declaration or process is made.
use Rattle.std.proofs.Common.{◌≡◌, ℕ, ◌+◌, ◌<◌, ◌≤◌, List, [], ◌∷◌, ◌++◌, map, length, get_or, take, Option, sym, ap, ◌∙◌, subst, append_assoc, append-nil}
use Rattle.std.specs.Prelude.{String, string_bytes}
use Rattle.std.specs.List.{flat_map}
use Rattle.std.specs.declared.alloc.Global.{Global}
use Rattle.std.proofs.lemmas.List.{take_more, take_all, map-append}
use Rattle.std.proofs.lemmas.List.Concat.{flat_map-append}
use Rattle.model.specs.declared.tree.SourceProcess as program_process
use Rattle.model.specs.declared.tree.Declaration as program_declaration
use Rattle.model.specs.SourceTrees.{source_process_of, declaration_of}
use Rattle.model.specs.Syntax.{Declaration, SourceProcess}
use Rattle.sizing.specs.declared.environment.ObjectValue.{ObjectValue}
use Rattle.sizing.specs.declared.environment.ObjectValue.TheVariants as worth
use Rattle.sizing.specs.declared.environment.Object.{Object}
use Rattle.sizing.specs.Names.{object_width}
use Rattle.statement_parts.specs.declared.plain.PlainProcess.{PlainProcess}
use Rattle.statement_parts.specs.Statements.{SourceText}
use Rattle.statement_parts.specs.Surroundings.{Surroundings}
use Rattle.lowering.specs.declared.hidden.Hidden.{Hidden}
use Rattle.lowering.specs.Hidden.{HiddenList, Makes}
use Rattle.lowering.specs.Flat.{source_range, declared_as, declared_by, object_declared, IsFlatProcess, AreFlatProcesses, no_process, one_process}

processes_push : (d : Surroundings) (xs : List PlainProcess) (ms : List SourceProcess) (front : HiddenList) (x : PlainProcess) (m : SourceProcess) (own : HiddenList) → AreFlatProcesses d xs ms front → IsFlatProcess d x m own
    → AreFlatProcesses d (xs ++ x ∷ []) (ms ++ m ∷ []) (front ++ own)
processes_push d [] _ _ x m own no_process h = subst (λ (us : HiddenList). AreFlatProcesses d (x ∷ []) (m ∷ []) us) (append-nil own) (one_process x m [] [] own [] h no_process)
processes_push d (y ∷ xs) _ _ x m own (one_process _ made _ behind used more one rest) h =
    subst (λ (us : HiddenList). AreFlatProcesses d ((y ∷ xs) ++ x ∷ []) (made ∷ (behind ++ m ∷ [])) us) (sym (append_assoc used more own))
    (one_process y made _ _ used (more ++ own) one (processes_push d xs behind more x m own rest h))

processes_next : (d : Surroundings) (old new : HiddenList) (xs : List PlainProcess) (i : ℕ) (other : PlainProcess) (ms ns : List program_process.SourceProcess) (m : program_process.SourceProcess) → i < length xs
    → AreFlatProcesses d (take i xs) (map source_process_of ms) old → Makes old new (IsFlatProcess d (get_or xs i other) (source_process_of m)) → ns ≡ ms ++ m ∷ []
    → AreFlatProcesses d (take (i + 1) xs) (map source_process_of ns) new
processes_next d old new xs i other ms ns m h so next pushed =
    let x = get_or xs i other in
    let taken : take (i + 1) xs ≡ take i xs ++ x ∷ [] = take_more xs i other h in
    let made : map source_process_of ns ≡ map source_process_of ms ++ source_process_of m ∷ [] = ap (map source_process_of) pushed ∙ map-append source_process_of ms (m ∷ []) in
    subst (λ (ys : List SourceProcess). AreFlatProcesses d (take (i + 1) xs) ys new) (sym made)
    (subst (λ (ps : List PlainProcess). AreFlatProcesses d ps (map source_process_of ms ++ source_process_of m ∷ []) new) (sym taken)
    (subst (λ (us : HiddenList). AreFlatProcesses d (take i xs ++ x ∷ []) (map source_process_of ms ++ source_process_of m ∷ []) us) (sym next.1)
    (processes_push d (take i xs) (map source_process_of ms) old x (source_process_of m) next.0 so next.2)))

-- a process more, of a list as it is read
pub processes_more : (d : Surroundings) (old new : HiddenList) (ys xs : List PlainProcess) (i : ℕ) (other : PlainProcess) (ms ns : List program_process.SourceProcess) (m : program_process.SourceProcess) → xs ≡ ys → i < length xs
    → AreFlatProcesses d (take i ys) (map source_process_of ms) old → Makes old new (IsFlatProcess d (get_or xs i other) (source_process_of m)) → ns ≡ ms ++ m ∷ []
    → AreFlatProcesses d (take (i + 1) ys) (map source_process_of ns) new
processes_more d old new ys xs i other ms ns m same h so next pushed =
    subst (λ (ps : List PlainProcess). AreFlatProcesses d (take (i + 1) ps) (map source_process_of ns) new) same
    (processes_next d old new xs i other ms ns m h (subst (λ (ps : List PlainProcess). AreFlatProcesses d (take i ps) (map source_process_of ms) old) (sym same) so) next pushed)

objects_push : (xs : List Object) (x : Object) → flat_map object_declared (xs ++ x ∷ []) ≡ flat_map object_declared xs ++ object_declared x
objects_push xs x = flat_map-append object_declared xs (x ∷ []) ∙ ap (λ (ds : List Declaration). flat_map object_declared xs ++ ds) (append-nil (object_declared x))

objects_next : (xs : List Object) (i : ℕ) (x : Object) (old new : List Declaration) → i < length xs → x ≡ get_or xs i x → old ≡ flat_map object_declared (take i xs) → new ≡ old ++ object_declared x → new ≡ flat_map object_declared (take (i + 1) xs)
objects_next xs i x old new h is so pushed =
    pushed ∙ ap (λ (ds : List Declaration). ds ++ object_declared x) so ∙ sym (objects_push (take i xs) x)
    ∙ ap (flat_map object_declared) (sym (take_more xs i x h ∙ ap (λ (y : Object). take i xs ++ y ∷ []) (sym is)))

-- the declaration of an object more, of a list as it is read
pub objects_more : (ys xs : List Object) (i : ℕ) (x : Object) (old new : List Declaration) → xs ≡ ys → i < length xs → x ≡ get_or xs i x → old ≡ flat_map object_declared (take i ys) → new ≡ old ++ object_declared x → new ≡ flat_map object_declared (take (i + 1) ys)
objects_more ys xs i x old new same h is so pushed =
    objects_next ys i x old new (subst (λ (zs : List Object). i < length zs) same h) (subst (λ (zs : List Object). x ≡ get_or zs i x) same is) so pushed

-- the declaration of a hidden variable more
pub variables_more : (f : Hidden → Declaration) (front : List Declaration) (xs : List Hidden) (i : ℕ) (x : Hidden) (old new : List Declaration) → i < length xs → x ≡ get_or xs i x → old ≡ front ++ map f (take i xs) → new ≡ old ++ f x ∷ []
    → new ≡ front ++ map f (take (i + 1) xs)
variables_more f front xs i x old new h is so pushed =
    pushed ∙ ap (λ (ds : List Declaration). ds ++ f x ∷ []) so ∙ append_assoc front (map f (take i xs)) (f x ∷ [])
    ∙ ap (λ (ds : List Declaration). front ++ ds) (sym (ap (map f) (take_more xs i x h ∙ ap (λ (y : Hidden). take i xs ++ y ∷ []) (sym is)) ∙ map-append f (take i xs) (x ∷ [])))

-- ---- declarations

pub declared_is : (range : Option (ℕ × ℕ)) (before names : List (String Global)) (s : String Global) (name : SourceText) → names ≡ before ++ s ∷ [] → before ≡ [] → string_bytes s ≡ name
    → ◌≡◌ {A = Declaration} (record { range = range; names = map string_bytes names }) (declared_as name range)
declared_is range before names s name e none is =
    ap (λ (ns : List (String Global)). record { range = range; names = map string_bytes ns }) (e ∙ ap (λ (b : List (String Global)). b ++ s ∷ []) none) ∙ ap (λ (n : SourceText). record { range = range; names = n ∷ [] }) is

pub declaration_pushed : (old new : List program_declaration.Declaration) (made : program_declaration.Declaration) (d : Declaration) → new ≡ old ++ made ∷ [] → declaration_of made ≡ d → map declaration_of new ≡ map declaration_of old ++ d ∷ []
declaration_pushed old new made d e is = ap (map declaration_of) e ∙ map-append declaration_of old (made ∷ []) ∙ ap (λ (x : Declaration). map declaration_of old ++ x ∷ []) is

pub object_added : (o : Object) (text : String Global) (old new : List program_declaration.Declaration) (made : program_declaration.Declaration) → o.value ≡ worth.Variable text → new ≡ old ++ made ∷ []
    → declaration_of made ≡ declared_as (string_bytes text) (source_range o.range (object_width o)) → map declaration_of new ≡ map declaration_of old ++ object_declared o
object_added o text old new made is e as_declared =
    declaration_pushed old new made (declared_as (string_bytes text) (source_range o.range (object_width o))) e as_declared
    ∙ ap (λ (v : ObjectValue). map declaration_of old ++ declared_by v (source_range o.range (object_width o))) (sym is)

pub constant_kept : (o : Object) (v : _) (old : List program_declaration.Declaration) → o.value ≡ worth.Constant v → map declaration_of old ≡ map declaration_of old ++ object_declared o
constant_kept o v old is = sym (append-nil (map declaration_of old)) ∙ ap (λ (x : ObjectValue). map declaration_of old ++ declared_by x (source_range o.range (object_width o))) (sym is)

-- all objects, and all hidden variables
pub objects_end : (xs : List Object) (i : ℕ) (ds : List Declaration) (f : Hidden → Declaration) → length xs ≤ i → ds ≡ flat_map object_declared (take i xs) → ds ≡ flat_map object_declared xs ++ map f []
objects_end xs i ds f h so = so ∙ ap (flat_map object_declared) (take_all i xs h) ∙ sym (append-nil (flat_map object_declared xs))

pub processes_end : (d : Surroundings) (hidden : HiddenList) (xs : List PlainProcess) (i : ℕ) (made : List SourceProcess) → length xs ≤ i → AreFlatProcesses d (take i xs) made hidden → AreFlatProcesses d xs made hidden
processes_end d hidden xs i made h so = subst (λ (ys : List PlainProcess). AreFlatProcesses d ys made hidden) (take_all i xs h) so

pub processes_start : (d : Surroundings) (hidden : HiddenList) (made : List program_process.SourceProcess) → hidden ≡ [] → made ≡ [] → AreFlatProcesses d [] (map source_process_of made) hidden
processes_start d hidden made none e =
    subst (λ (us : HiddenList). AreFlatProcesses d [] (map source_process_of made) us) (sym none)
    (subst (λ (ms : List program_process.SourceProcess). AreFlatProcesses d [] (map source_process_of ms) []) (sym e) no_process)
