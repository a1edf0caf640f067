-- What the parser of modules answers, by the grammar alone.
use Rattle.std.proofs.Common.{◌≡◌, false, ℕ, ◌≤◌, [], length, Option, Some, None, IsSome, Err, refl, sym, ap, ◌∙◌}
use Rattle.grammar.specs.declared.fault.GrammarFault.{GrammarFault}
use Rattle.grammar.specs.declared.fault.GrammarFault.TheVariants.{Syntax, Unsized, Deep, Memory}
use Rattle.vparse.specs.TextFaults.{is_syntax}
use Rattle.grammar.specs.Cursor.{Reads}
use Rattle.tokens.specs.Tokens.{PlainTokens}
use Rattle.model.specs.Syntax.{Module}
use Rattle.model.specs.SourceTrees.{module_of}
use Rattle.grammar.specs.Grammar.{IsModule}
use Rattle.grammar.specs.Reading.{parse_source}
use Rattle.grammar.proofs.Steps.{some-pair}
use Rattle.grammar.proofs.CompleteStatements.{complete-source}

pub only : (budget : ℕ) (found m : Module) (ts rest : PlainTokens) → length ts ≤ budget → parse_source budget ts ≡ Some (found, rest) → IsModule m ts → found ≡ m
only budget found m ts rest w read d = (some-pair found m rest [] (sym read ∙ complete-source d budget w)).0

pub none : (budget : ℕ) (m : Module) (ts : PlainTokens) → length ts ≤ budget → parse_source budget ts ≡ None → IsModule m ts → ⊥
none budget m ts w read d = let q = complete-source d budget w in cc

-- where nothing nests too deep, the only refusal of what is spelled is want of memory
pub memory : (stop : Option ℕ) (budget : ℕ) (fault : GrammarFault) (m : Module) (ts us new : PlainTokens) → us ≡ ts → length ts ≤ budget → (IsSome stop → ⊥)
    → Reads module_of stop (parse_source budget us) (Err fault) new → IsModule m ts → fault ≡ Memory
memory stop budget Syntax m ts us new is w shallow read d = absurd (none budget m ts w (sym (ap (parse_source budget) is) ∙ read) d)
memory stop budget Unsized m ts us new is w shallow read d = absurd (none budget m ts w (sym (ap (parse_source budget) is) ∙ read) d)
memory stop budget Deep m ts us new is w shallow read d = absurd (shallow (rw read))
memory stop budget Memory m ts us new is w shallow read d = refl

pub syntax : (stop : Option ℕ) (budget : ℕ) (fault : GrammarFault) (m : Module) (ts us new : PlainTokens) → us ≡ ts → length ts ≤ budget
    → Reads module_of stop (parse_source budget us) (Err fault) new → IsModule m ts → is_syntax fault ≡ false
syntax stop budget Syntax m ts us new is w read d = absurd (none budget m ts w (sym (ap (parse_source budget) is) ∙ read) d)
syntax stop budget Unsized m ts us new is w read d = absurd (none budget m ts w (sym (ap (parse_source budget) is) ∙ read) d)
syntax stop budget Deep m ts us new is w read d = refl
syntax stop budget Memory m ts us new is w read d = refl
