-- The first rule that a file breaks: on its form, then on what it declares.
use Rattle.std.specs.Prelude.{◌≡◌, ℕ, Bool, true, List, [], ◌∷◌, Option}
use Rattle.plcx_model.specs.Verdict.{Verdict}
use Rattle.plcx_profile.specs.declared.judging.DeclarationRule.{DeclarationRule}
use Rattle.plcx_profile.specs.declared.judging.DeclarationRule.TheVariants as rule
use Rattle.plcx_profile.specs.declared.doubling.Once.TheVariants.{PouNames, VariableNames, Addresses}
use Rattle.plcx_draft.specs.declared.draft.Draft.{Draft}
use Rattle.plcx_draft.specs.declared.draft.DraftPou.{DraftPou}
use Rattle.plcx_profile.specs.Declarations.{Declared, declared_in, start_of}
use Rattle.plcx_profile.specs.Names.{breaks_name, doubles}
use Rattle.plcx_profile.specs.Types.{breaks_type, breaks_initial}
use Rattle.plcx_profile.specs.Sizes.{breaks_chain, breaks_size}

-- whether a declaration breaks a rule, in a file with these POUs and behind these declarations
unfoldable pub breaks : List DraftPou → DeclarationRule → List Declared → Declared → Bool
breaks pous rule.Names before x = breaks_name before x
breaks pous rule.PouNames before x = doubles PouNames before x
breaks pous rule.VariableNames before x = doubles VariableNames before x
breaks pous rule.Types before x = breaks_type pous before x
breaks pous rule.Initials before x = breaks_initial before x
breaks pous rule.Chains before x = breaks_chain pous before x
breaks pous rule.Sizes before x = breaks_size pous before x
breaks pous rule.Addresses before x = doubles Addresses before x

-- a declaration breaks a rule, in a file with these POUs
abbrev pub BreaksIn : List DraftPou → DeclarationRule → List Declared → Declared → Type 0
BreaksIn pous r before x = breaks pous r before x ≡ true

-- the rules, as they are tested
abbrev pub declaration_rules : List DeclarationRule
declaration_rules = rule.Names ∷ rule.PouNames ∷ rule.VariableNames ∷ rule.Types ∷ rule.Initials ∷ rule.Chains ∷ rule.Sizes ∷ rule.Addresses ∷ []

-- each rule is broken where the declaration's element begins
abbrev pub place_of : DeclarationRule → Declared → ℕ
place_of r x = start_of x

-- the first rule that the declarations break, and the byte where the element begins that breaks it first
abbrev pub DeclarationVerdict : Draft → Option (DeclarationRule × ℕ) → Type 0
DeclarationVerdict draft v = Verdict (BreaksIn draft.pous) place_of (declared_in draft) declaration_rules v
