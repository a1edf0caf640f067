-- Faults that stand in files.
use Rattle.std.proofs.Common.{◌≡◌, ◌∙◌, ap, sym, subst, ℕ, zero, suc, ◌-◌, ◌≤◌, Bool, true, false, ◌&&◌, List, [], ◌∷◌, ◌++◌, length, map, Option, Some, None, refl, arith}
use Rattle.std.specs.Prelude.{slice_get, IsSome, ◌⊎◌}
use Rattle.std.specs.List.{list_all}
use Rattle.std.proofs.Common.{inl, inr}
use Rattle.std.proofs.lemmas.List.{length-append, length-map}
use Rattle.lexemes.specs.declared.token.SourceFile.{SourceFile}
use Rattle.lexemes.specs.declared.token.VerilogToken.{VerilogToken}
use Rattle.preprocess.specs.Places.{fault_stands, token_stands}
use Rattle.preprocess.specs.declared.fault.Fault.{Fault}
use Rattle.preprocess.specs.declared.fault.Fault.TheVariants as text
use Rattle.expression_syntax.specs.declared.refusals.SyntaxRefusal.{SyntaxRefusal}
use Rattle.syntax.specs.declared.parser.SyntaxFault.{SyntaxFault}
use Rattle.syntax.specs.declared.parser.TextFaults.{TextFaults}
use Rattle.design_scopes.specs.declared.faults.DesignFault.{DesignFault}
use Rattle.design_scopes.specs.declared.faults.DesignFault.TheVariants as design
use Rattle.design_faults.specs.Placing.{AreFaultsFound, IsFoundOf, at_found, fault_at_token, first_token, no_top_fault, told_token, without_place}
use Rattle.design_faults.specs.declared.refused.FoundFaults.{FoundFaults}
use Rattle.design_faults.specs.declared.refused.FoundFaults.TheVariants as found
use Rattle.design_faults.specs.declared.refused.PlacedFault.{PlacedFault}
use Rattle.design_faults.specs.declared.refused.WholeFault.{WholeFault}
use Rattle.design_faults.specs.declared.refused.WholeFault.TheVariants as fault
use Rattle.whole_designs.specs.declared.later.LaterPlace.{LaterPlace}
use Rattle.whole_designs.specs.Refusals.{AreAtTokens, AreFaultsIn, AreFoundIn, is_placed, later_fault, refused_at, syntax_fault_of, syntax_faults, text_fault}

first_of_both : (p q : Bool) → (p && q) ≡ true → p ≡ true
first_of_both true q h = refl
first_of_both false q h = h

second_of_both : (p q : Bool) → (p && q) ≡ true → q ≡ true
second_of_both true q h = h
second_of_both false q h = cc

both_so : (p q : Bool) → p ≡ true → q ≡ true → (p && q) ≡ true
both_so true q h k = k
both_so false q h k = h

-- what is so of all is so of the one with a number
all_at : {A : Type 0} (p : A → Bool) (xs : List A) (n : ℕ) (x : A) → list_all p xs ≡ true → slice_get xs n ≡ Some x → p x ≡ true
all_at p [] n x h at = cc
all_at p (y ∷ xs) zero x h at = let same : y ≡ x = cc in ap p (sym same) ∙ first_of_both (p y) (list_all p xs) h
all_at p (y ∷ xs) (suc n) x h at = all_at p xs n x (second_of_both (p y) (list_all p xs) h) at

-- and of two lists, of one behind the other
pub all_both : {A : Type 0} (p : A → Bool) (xs ys : List A) → list_all p xs ≡ true → list_all p ys ≡ true → list_all p (xs ++ ys) ≡ true
all_both p [] ys h k = k
all_both p (x ∷ xs) ys h k = both_so (p x) (list_all p (xs ++ ys)) (first_of_both (p x) (list_all p xs) h) (all_both p xs ys (second_of_both (p x) (list_all p xs) h) k)

-- tokens stand in files that are the same
pub stand_alike : (files files' : List SourceFile) (tokens tokens' : List VerilogToken) → files' ≡ files → tokens' ≡ tokens → list_all (token_stands files) tokens ≡ true → list_all (token_stands files') tokens' ≡ true
stand_alike files files' tokens tokens' same_files same_tokens h =
    ap (λ (ts : List VerilogToken). list_all (token_stands files') ts) same_tokens ∙ (ap (λ (fs : List SourceFile). list_all (token_stands fs) tokens) same_files ∙ h)

-- a fault stands where its token does
at_placed : (files : List SourceFile) (wrong : WholeFault) (o : Option VerilogToken) → ((t : VerilogToken) → o ≡ Some t → token_stands files t ≡ true) → is_placed files (at_found wrong o) ≡ true
unfolding token_stands
at_placed files wrong None h = refl
at_placed files wrong (Some t) h = h t refl

either_stands : (files : List SourceFile) (a b : Option VerilogToken) → ((t : VerilogToken) → a ≡ Some t → token_stands files t ≡ true) → ((t : VerilogToken) → b ≡ Some t → token_stands files t ≡ true)
    → (t : VerilogToken) → first_token a b ≡ Some t → token_stands files t ≡ true
either_stands files None b h k t is = k t is
either_stands files (Some a) b h k t is = h t is

pub token_placed : (files : List SourceFile) (tokens : List VerilogToken) (n : ℕ) (wrong : WholeFault) → list_all (token_stands files) tokens ≡ true → is_placed files (fault_at_token tokens n wrong) ≡ true
token_placed files tokens n wrong stand =
    at_placed files wrong (told_token tokens n)
    (either_stands files (slice_get tokens n) (slice_get tokens (length tokens - 1)) (λ t. all_at (token_stands files) tokens n t stand) (λ t. all_at (token_stands files) tokens (length tokens - 1) t stand))

-- one fault alone
alone_in : (files : List SourceFile) (wrong : PlacedFault) (faults : List PlacedFault) → is_placed files wrong ≡ true → faults ≡ wrong ∷ [] → AreFaultsIn files faults
alone_in files wrong faults placed is = record { some = omega (arith, ap length is); placed = ap (list_all (is_placed files)) is ∙ both_so (is_placed files wrong) true placed refl }

pub found_alone : (files : List SourceFile) (wrong : PlacedFault) (them : FoundFaults) → is_placed files wrong ≡ true → AreFaultsFound (wrong ∷ []) them → AreFoundIn files them
found_alone files wrong found.Memory placed is = tt
found_alone files wrong (found.Found faults) placed is = alone_in files wrong faults.items placed is

-- at a token, and nowhere
pub found_at : (files : List SourceFile) (tokens : List VerilogToken) (n : ℕ) (wrong : WholeFault) (them : FoundFaults) → list_all (token_stands files) tokens ≡ true → AreFaultsFound (fault_at_token tokens n wrong ∷ []) them
    → AreFoundIn files them
found_at files tokens n wrong them stand is = found_alone files (fault_at_token tokens n wrong) them (token_placed files tokens n wrong stand) is

pub found_nowhere : (files : List SourceFile) (wrong : WholeFault) (them : FoundFaults) → AreFaultsFound (without_place wrong ∷ []) them → AreFoundIn files them
found_nowhere files wrong them is = found_alone files (without_place wrong) them refl is

-- of a design that isn't made
pub found_of_design : (files : List SourceFile) (tokens : List VerilogToken) (named : Bool) (wrong : DesignFault) (them : FoundFaults) → list_all (token_stands files) tokens ≡ true → IsFoundOf tokens named wrong them
    → AreFoundIn files them
found_of_design files tokens named design.Memory them stand is = subst (AreFoundIn files) (sym is) tt
found_of_design files tokens named (design.At token kind) them stand is = found_at files tokens token (fault.Design kind) them stand is
found_of_design files tokens named design.NoTopModule them stand is = found_nowhere files (no_top_fault named) them is
found_of_design files tokens named design.UnknownTopParameter them stand is = found_nowhere files fault.UnknownTopParameter them is

-- of what isn't supported yet
later_placed : (files : List SourceFile) (tokens : List VerilogToken) (places : List LaterPlace) → list_all (token_stands files) tokens ≡ true → list_all (is_placed files) (map (later_fault tokens) places) ≡ true
later_placed files tokens [] stand = refl
later_placed files tokens (p ∷ ps) stand =
    both_so (is_placed files (later_fault tokens p)) (list_all (is_placed files) (map (later_fault tokens) ps)) (token_placed files tokens p.token p.fault stand) (later_placed files tokens ps stand)

pub found_later : (files : List SourceFile) (tokens : List VerilogToken) (faults : List PlacedFault) → list_all (token_stands files) tokens ≡ true → AreAtTokens tokens faults → 1 ≤ length faults → AreFaultsIn files faults
found_later files tokens faults stand at some = record { some = some; placed = ap (list_all (is_placed files)) at.are_at ∙ later_placed files tokens at.places stand }

-- of tokens that are no modules
refused_placed : (files : List SourceFile) (tokens : List VerilogToken) (lacked : List SyntaxRefusal) → list_all (token_stands files) tokens ≡ true → list_all (is_placed files) (map (refused_at tokens) lacked) ≡ true
refused_placed files tokens [] stand = refl
refused_placed files tokens (r ∷ rs) stand =
    both_so (is_placed files (refused_at tokens r)) (list_all (is_placed files) (map (refused_at tokens) rs)) (token_placed files tokens r.token (fault.Refused r.construct) stand) (refused_placed files tokens rs stand)

fault_placed : (files : List SourceFile) (tokens : List VerilogToken) (wrong : Option SyntaxFault) → list_all (token_stands files) tokens ≡ true → list_all (is_placed files) (syntax_fault_of tokens wrong) ≡ true
fault_placed files tokens None stand = refl
fault_placed files tokens (Some wrong) stand = both_so (is_placed files (fault_at_token tokens wrong.token _)) true (token_placed files tokens wrong.token _ stand) refl

some_fault : (tokens : List VerilogToken) (wrong : Option SyntaxFault) → IsSome wrong → 1 ≤ length (syntax_fault_of tokens wrong)
some_fault tokens None h = cc
some_fault tokens (Some wrong) h = omega arith

some_said : (tokens : List VerilogToken) (told : TextFaults) → (1 ≤ length told.refusals.items) ⊎ IsSome told.fault → 1 ≤ length (syntax_faults tokens told)
some_said tokens told (inl some) = omega (arith, length-append (map (refused_at tokens) told.refusals.items) (syntax_fault_of tokens told.fault), length-map told.refusals.items (refused_at tokens))
some_said tokens told (inr some) =
    omega (arith, length-append (map (refused_at tokens) told.refusals.items) (syntax_fault_of tokens told.fault), some_fault tokens told.fault some)

pub found_syntax : (files : List SourceFile) (tokens : List VerilogToken) (told : TextFaults) (faults : List PlacedFault) → list_all (token_stands files) tokens ≡ true → (1 ≤ length told.refusals.items) ⊎ IsSome told.fault
    → faults ≡ syntax_faults tokens told → AreFaultsIn files faults
found_syntax files tokens told faults stand some is = record {
  some = omega (arith, ap length is, some_said tokens told some);
  placed = ap (list_all (is_placed files)) is
      ∙ all_both (is_placed files) (map (refused_at tokens) told.refusals.items) (syntax_fault_of tokens told.fault) (refused_placed files tokens told.refusals.items stand) (fault_placed files tokens told.fault stand);
}

-- of texts of which no tokens come
pub text_placed : (files : List SourceFile) (wrong : Fault) (placed : PlacedFault) → fault_stands files wrong ≡ true → text_fault wrong ≡ Some placed → is_placed files placed ≡ true
text_placed files text.Memory placed stand is = cc
text_placed files text.TooMuchText placed stand is = let same : without_place fault.TooMuchText ≡ placed = cc in subst (λ f. is_placed files f ≡ true) same refl
text_placed files (text.At kind place) placed stand is =
    let said : PlacedFault = record { fault = fault.Text kind; place = Some place; used = None } in
    let same : said ≡ placed = cc in
    subst (λ f. is_placed files f ≡ true) same (both_so _ true stand refl)
