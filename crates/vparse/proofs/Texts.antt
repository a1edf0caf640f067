-- From facts on the one cut of a text to facts on the text.
use Rattle.std.proofs.Common.{◌≡◌, ℕ, ◌+◌, ◌≤◌, List, length, false, ◌⊎◌, inl, inr, refl, ap, subst, arith}
use Rattle.tokens.specs.Tokens.{PlainTokens}
use Rattle.model.specs.Syntax.{Module}
use Rattle.grammar.specs.Grammar.{IsModule}
use Rattle.vparse.specs.Nesting.{IsDeep}
use Rattle.tokens.specs.Lexing.{Cut, stray, bad_number, Stops}
use Rattle.vparse.specs.Spells.{Spells, IsUnspelledAt, IsDeepText}
use Rattle.vparse.specs.TextFaults.{of_cut, of_tokens, is_syntax}
use Rattle.tokens.specs.declared.cut.CutFault.{CutFault}
use Rattle.tokens.specs.declared.cut.CutFault.TheVariants as cut_fault
use Rattle.grammar.specs.declared.fault.GrammarFault.{GrammarFault}
use Rattle.grammar.specs.declared.fault.GrammarFault.TheVariants as fault
use Rattle.vparse.specs.declared.parser.ParseFault.TheVariants.{Byte, Literal, Syntax, Unsized, Deep, Memory}
use Rattle.tokens.proofs.Chain.{cut_once, cut_or_stops, stops_once}

pub spells_tokens : (text : List ℕ) (ts : PlainTokens) (m : Module) → Cut text ts → Spells m text → IsModule m ts
spells_tokens text ts m d s = subst (IsModule m) (cut_once s.cut refl d) s.is_module

pub deep_tokens : (text : List ℕ) (ts : PlainTokens) → Cut text ts → IsDeepText text → IsDeep ts
deep_tokens text ts d s = subst IsDeep (cut_once s.cut refl d) s.is_deep

-- ---- where the cut stops

module _ (text : List ℕ) (bad : CutFault) (strays : (place : ℕ) → bad ≡ cut_fault.Stray place → Stops text stray place)
    (numbers : (place : ℕ) → bad ≡ cut_fault.BadNumber place → Stops text bad_number place) where
  pub cut_answered : (m : Module) → Spells m text → of_cut bad ≡ Memory
  cut_answered m s = by bad refl where
    by : (x : CutFault) → bad ≡ x → of_cut x ≡ Memory
    by (cut_fault.Stray place) e = absurd (cut_or_stops s.cut refl (strays place e))
    by (cut_fault.BadNumber place) e = absurd (cut_or_stops s.cut refl (numbers place e))
    by cut_fault.Memory e = refl

  pub cut_byte : (place : ℕ) → of_cut bad ≡ Byte place → Stops text stray place
  cut_byte place h = by bad refl h where
    by : (x : CutFault) → bad ≡ x → of_cut x ≡ Byte place → Stops text stray place
    by (cut_fault.Stray at) e h = let q : at ≡ place = cc in subst (Stops text stray) q (strays at e)
    by (cut_fault.BadNumber at) e h = absurd (cc)
    by cut_fault.Memory e h = absurd (cc)

  pub cut_literal : (place : ℕ) → of_cut bad ≡ Literal place → Stops text bad_number place
  cut_literal place h = by bad refl h where
    by : (x : CutFault) → bad ≡ x → of_cut x ≡ Literal place → Stops text bad_number place
    by (cut_fault.Stray at) e h = absurd (cc)
    by (cut_fault.BadNumber at) e h = let q : at ≡ place = cc in subst (Stops text bad_number) q (numbers at e)
    by cut_fault.Memory e h = absurd (cc)

  pub cut_byte_first : (place : ℕ) → Stops text stray place → (of_cut bad ≡ Byte place) ⊎ (of_cut bad ≡ Memory)
  cut_byte_first place d = by bad refl where
    by : (x : CutFault) → bad ≡ x → (of_cut x ≡ Byte place) ⊎ (of_cut x ≡ Memory)
    by (cut_fault.Stray at) e = inl (ap Byte (stops_once (strays at e) refl d).1)
    by (cut_fault.BadNumber at) e = absurd (let q = (stops_once (numbers at e) refl d).0 in cc)
    by cut_fault.Memory e = inr refl

  pub cut_literal_first : (place : ℕ) → Stops text bad_number place → (of_cut bad ≡ Literal place) ⊎ (of_cut bad ≡ Memory)
  cut_literal_first place d = by bad refl where
    by : (x : CutFault) → bad ≡ x → (of_cut x ≡ Literal place) ⊎ (of_cut x ≡ Memory)
    by (cut_fault.Stray at) e = absurd (let q = (stops_once (strays at e) refl d).0 in cc)
    by (cut_fault.BadNumber at) e = inl (ap Literal (stops_once (numbers at e) refl d).1)
    by cut_fault.Memory e = inr refl

pub cut_not : (bad : CutFault) (n : ℕ) → ((of_cut bad ≡ Syntax n) → ⊥) × ((of_cut bad ≡ Unsized n) → ⊥) × ((of_cut bad ≡ Deep n) → ⊥)
cut_not (cut_fault.Stray place) n = ((λ h. cc), (λ h. cc), (λ h. cc))
cut_not (cut_fault.BadNumber place) n = ((λ h. cc), (λ h. cc), (λ h. cc))
cut_not cut_fault.Memory n = ((λ h. cc), (λ h. cc), (λ h. cc))

-- ---- where the tokens are refused

pub tokens_not : (bad : GrammarFault) (n place : ℕ) → ((of_tokens bad n ≡ Byte place) → ⊥) × ((of_tokens bad n ≡ Literal place) → ⊥)
tokens_not fault.Syntax n place = ((λ h. cc), (λ h. cc))
tokens_not fault.Unsized n place = ((λ h. cc), (λ h. cc))
tokens_not fault.Deep n place = ((λ h. cc), (λ h. cc))
tokens_not fault.Memory n place = ((λ h. cc), (λ h. cc))

-- no module is spelled, at this token or at the end of the text
unspelled : (text : List ℕ) (ts : PlainTokens) (m n : ℕ) → Cut text ts → ((x : Module) → IsModule x ts → ⊥) → 1 ≤ m → m ≤ length ts + 1 → m ≡ n → IsUnspelledAt text n
unspelled text ts m n d none counted within e = record { tokens = ts; cut = d; none = none; counted = omega (arith, counted, e); within = omega (arith, within, e) }

pub tokens_syntax : (text : List ℕ) (ts : PlainTokens) (bad : GrammarFault) (m n : ℕ) → Cut text ts → ((x : Module) → IsModule x ts → is_syntax bad ≡ false)
    → 1 ≤ m → m ≤ length ts + 1 → of_tokens bad m ≡ Syntax n → IsUnspelledAt text n
tokens_syntax text ts fault.Syntax m n d none counted within e = unspelled text ts m n d (λ x h. let no = none x h in cc) counted within (cc)
tokens_syntax text ts fault.Unsized m n d none counted within e = absurd (cc)
tokens_syntax text ts fault.Deep m n d none counted within e = absurd (cc)
tokens_syntax text ts fault.Memory m n d none counted within e = absurd (cc)

pub tokens_unsized : (text : List ℕ) (ts : PlainTokens) (bad : GrammarFault) (m n : ℕ) → Cut text ts → ((x : Module) → IsModule x ts → is_syntax bad ≡ false)
    → 1 ≤ m → m ≤ length ts + 1 → of_tokens bad m ≡ Unsized n → IsUnspelledAt text n
tokens_unsized text ts fault.Syntax m n d none counted within e = absurd (cc)
tokens_unsized text ts fault.Unsized m n d none counted within e = unspelled text ts m n d (λ x h. let no = none x h in cc) counted within (cc)
tokens_unsized text ts fault.Deep m n d none counted within e = absurd (cc)
tokens_unsized text ts fault.Memory m n d none counted within e = absurd (cc)

pub tokens_deep : (bad : GrammarFault) (n k : ℕ) → of_tokens bad n ≡ Deep k → bad ≡ fault.Deep
tokens_deep fault.Syntax n k h = cc
tokens_deep fault.Unsized n k h = cc
tokens_deep fault.Deep n k h = refl
tokens_deep fault.Memory n k h = cc

pub tokens_memory : (bad : GrammarFault) (n : ℕ) → bad ≡ fault.Memory → of_tokens bad n ≡ Memory
tokens_memory fault.Syntax n h = cc
tokens_memory fault.Unsized n h = cc
tokens_memory fault.Deep n h = cc
tokens_memory fault.Memory n h = refl
