-- The processes of a text (IEEE 1364-2005, 9.9), in generate constructs too (12.4).
use Rattle.std.specs.Prelude.{◌≡◌, ◌⊎◌, List, Some, Contains}
use Rattle.std.specs.Borrow.{Bor}
use Rattle.syntax_tree.specs.declared.modules.ModuleDeclaration.{ModuleDeclaration}
use Rattle.syntax_tree.specs.declared.modules.ProcessConstruct.{ProcessConstruct}
use Rattle.syntax_tree.specs.declared.modules.ModuleItem.{ModuleItem}
use Rattle.syntax_tree.specs.declared.modules.ModuleItem.TheVariants as item
use Rattle.syntax_tree.specs.declared.modules.GenerateBlock.{GenerateBlock, out-GenerateBlock}
use Rattle.syntax_tree.specs.declared.modules.GenerateLoop.{GenerateLoop, out-GenerateLoop}
use Rattle.syntax_tree.specs.declared.modules.GenerateIf.{GenerateIf, out-GenerateIf}
use Rattle.syntax_tree.specs.declared.modules.GenerateBranch.{GenerateBranch, out-GenerateBranch}
use Rattle.syntax_tree.specs.declared.modules.GenerateCase.{GenerateCase, out-GenerateCase}
use Rattle.syntax_tree.specs.declared.modules.GenerateCaseItem.{GenerateCaseItem, out-GenerateCaseItem}

mutual
  -- a process stands in an item
  pub data StandsIn (p : ProcessConstruct) : ModuleItem → Type 0 where
    as_item : (i : ModuleItem) → i ≡ item.Process p → StandsIn p i
    in_loop : (i : ModuleItem) (inner : GenerateLoop) → i ≡ item.GenerateLoop inner → StandsInBlock p (out-GenerateLoop inner).body → StandsIn p i
    in_branch : (i : ModuleItem) (inner : GenerateIf) (branch : GenerateBranch) → i ≡ item.GenerateIf inner → Contains (out-GenerateIf inner).branches.items branch → StandsInBlock p (out-GenerateBranch branch).body → StandsIn p i
    in_else : (i : ModuleItem) (inner : GenerateIf) (block : GenerateBlock) → i ≡ item.GenerateIf inner → (out-GenerateIf inner).otherwise ≡ Some block → StandsInBlock p block → StandsIn p i
    in_case : (i : ModuleItem) (inner : GenerateCase) (one : GenerateCaseItem) → i ≡ item.GenerateCase inner → Contains (out-GenerateCase inner).items.items one → StandsInBlock p (out-GenerateCaseItem one).body → StandsIn p i
    in_block : (i : ModuleItem) (block : GenerateBlock) → i ≡ item.GenerateBlock block → StandsInBlock p block → StandsIn p i

  -- a process stands in a generate block
  pub data StandsInBlock (p : ProcessConstruct) : GenerateBlock → Type 0 where
    among_items : (block : GenerateBlock) (i : ModuleItem) → Contains (out-GenerateBlock block).items.items i → StandsIn p i → StandsInBlock p block

-- a process stands in a module
abbrev pub StandsInModule : ProcessConstruct → ModuleDeclaration → Type 0
StandsInModule p m = (i : ModuleItem) × Contains m.items.items i × StandsIn p i

-- a process stands in one of some modules
abbrev pub StandsInText : List ModuleDeclaration → ProcessConstruct → Type 0
StandsInText modules p = (m : ModuleDeclaration) × Contains modules m × StandsInModule p m

-- each process that is new among some is one of these
abbrev pub AddsOnly : List (Bor ProcessConstruct) → List (Bor ProcessConstruct) → (ProcessConstruct → Type 0) → Type 0
AddsOnly old new P = (p : Bor ProcessConstruct) → Contains new p → Contains old p ⊎ P p.now
