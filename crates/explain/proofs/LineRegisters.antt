-- The registers that the line of an entry names, kind by kind, and whether it is told.
use Rattle.std.proofs.Common.{◌≡◌, ◌∙◌, ap, ap₂, refl, sym, ℕ, Bool, true, false, ◌||◌, List, [], ◌∷◌, ◌++◌, append-nil, map, Result, Ok, Err, OnOk}
use Rattle.std.specs.List.{list_any}
use Rattle.model.specs.declared.entry.Entry.{Entry}
use Rattle.model.specs.Turns.{contains}
use Rattle.steps.specs.Accounts.{Account}
use Rattle.explain.specs.declared.telling.ExplanationOptions.{ExplanationOptions}
use Rattle.explain.specs.EntryLines.{entry_account_text}
use Rattle.explain.specs.ExplainedText.{is_told, shown_text, told_text}
use Rattle.explain.specs.Wanted.{line_registers, updated_registers}

pub or_false : (b : Bool) → (b || false) ≡ b
or_false true = refl
or_false false = refl

or_assoc : (a b c : Bool) → (a || (b || c)) ≡ ((a || b) || c)
or_assoc true b c = refl
or_assoc false b c = refl

any_append : (test : ℕ → Bool) (xs ys : List ℕ) → list_any test (xs ++ ys) ≡ (list_any test xs || list_any test ys)
any_append test [] ys = refl
any_append test (x ∷ xs) ys = ap (λ (b : Bool). test x || b) (any_append test xs ys) ∙ or_assoc (test x) (list_any test xs) (list_any test ys)

any_map : {A : Type 0} (test : ℕ → Bool) (f : A → ℕ) (xs : List A) → list_any test (map f xs) ≡ list_any (λ x. test (f x)) xs
any_map test f [] = refl
any_map test f (x ∷ xs) = ap (λ (b : Bool). test (f x) || b) (any_map test f xs)

-- the line of an entry names one of some registers where its update, a read, a change or an assignment of it does
pub names_by_kinds : (registers : List ℕ) (a : Account) (updated read changed assigned : Bool)
    → updated ≡ list_any (contains registers) (updated_registers a.actor) → read ≡ list_any (λ of. contains registers of.register) a.reads
    → changed ≡ list_any (λ of. contains registers of.register) a.changes → assigned ≡ list_any (λ of. contains registers of.reg) a.assigned
    → (((updated || read) || changed) || assigned) ≡ list_any (contains registers) (line_registers a)
names_by_kinds registers a updated read changed assigned is_updated is_read is_changed is_assigned =
    let test : ℕ → Bool = contains registers in
    let first : List ℕ = updated_registers a.actor in
    let reads : List ℕ = map (λ of. of.register) a.reads in
    let changes : List ℕ = map (λ of. of.register) a.changes in
    let last : List ℕ = map (λ of. of.reg) a.assigned in
    let two : (updated || read) ≡ list_any test (first ++ reads) =
    ap₂ (λ (b d : Bool). b || d) is_updated (is_read ∙ sym (any_map test (λ of. of.register) a.reads)) ∙ sym (any_append test first reads) in
    let three : ((updated || read) || changed) ≡ list_any test ((first ++ reads) ++ changes) =
    ap₂ (λ (b d : Bool). b || d) two (is_changed ∙ sym (any_map test (λ of. of.register) a.changes)) ∙ sym (any_append test (first ++ reads) changes) in
    ap₂ (λ (b d : Bool). b || d) three (is_assigned ∙ sym (any_map test (λ of. of.reg) a.assigned)) ∙ sym (any_append test ((first ++ reads) ++ changes) last)

-- an entry is told, or not
pub told_where : {E : Type 0} (r : Result (Unit {0}) E) (t : ExplanationOptions) (n number : ℕ) (e : Entry) (a b : Account) (f told : Bool) (old new : List ℕ) → told ≡ is_told t n b → n ≡ number → b ≡ a → told ≡ true
    → OnOk r (new ≡ old ++ entry_account_text t.names number e a f) → OnOk r (new ≡ old ++ told_text t number e a f)
told_where (Ok u) t n number e a b f told old new is same of so put =
    let here : is_told t number a ≡ true = ap (λ (k : ℕ). is_told t k a) (sym same) ∙ (ap (λ (d : Account). is_told t n d) (sym of) ∙ (sym is ∙ so)) in
    put ∙ ap (λ (b : Bool). old ++ shown_text b (entry_account_text t.names number e a f)) (sym here)
told_where (Err x) t n number e a b f told old new is same of so put = tt

pub untold_where : (t : ExplanationOptions) (n number : ℕ) (e : Entry) (a b : Account) (f told : Bool) (old : List ℕ) → told ≡ is_told t n b → n ≡ number → b ≡ a → told ≡ false → old ≡ old ++ told_text t number e a f
untold_where t n number e a b f told old is same of so =
    let here : is_told t number a ≡ false = ap (λ (k : ℕ). is_told t k a) (sym same) ∙ (ap (λ (d : Account). is_told t n d) (sym of) ∙ (sym is ∙ so)) in
    sym (append-nil old) ∙ ap (λ (b : Bool). old ++ shown_text b (entry_account_text t.names number e a f)) (sym here)
