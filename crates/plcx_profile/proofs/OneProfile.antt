-- A file has one verdict.
use Rattle.std.proofs.Common.{◌≡◌, ℕ, Option, Some, None, option_map, refl, ap}
use Rattle.plcx_xml.specs.declared.tree.Element.{Element}
use Rattle.plcx_model.proofs.OneVerdict.{one-verdict}
use Rattle.plcx_table.specs.declared.row.FormatRule.{FormatRule}
use Rattle.plcx_table.specs.Format.{Breaks, looked_at, format_rules, FormatVerdict}
use Rattle.plcx_table.specs.Format as format
use Rattle.plcx_draft.specs.DraftIn.{draft_in}
use Rattle.plcx_draft.specs.declared.draft.Draft.{Draft}
use Rattle.plcx_profile.specs.declared.judging.DeclarationRule.{DeclarationRule}
use Rattle.plcx_profile.specs.Declarations.{declared_in}
use Rattle.plcx_profile.specs.Judged.{BreaksIn, declaration_rules, place_of, DeclarationVerdict}
use Rattle.plcx_profile.specs.Profile.{format_number, declaration_number, ProfileVerdict, InForm, InDeclarations, Unbroken}

one-form : (root : Element) (v w : Option (FormatRule × ℕ)) → FormatVerdict root v → FormatVerdict root w → v ≡ w
one-form root v w p q = one-verdict (Breaks root) format.place_of (looked_at root) format_rules v w p q

one-declared : (draft : Draft) (v w : Option (DeclarationRule × ℕ)) → DeclarationVerdict draft v → DeclarationVerdict draft w → v ≡ w
one-declared draft v w p q = one-verdict (BreaksIn draft.pous) place_of (declared_in draft) declaration_rules v w p q

abbrev form_as : Option (FormatRule × ℕ) → Option (ℕ × ℕ)
form_as o = option_map (λ (x : FormatRule × ℕ). (format_number x.0, x.1)) o

abbrev declared_as : Option (DeclarationRule × ℕ) → Option (ℕ × ℕ)
declared_as o = option_map (λ (x : DeclarationRule × ℕ). (declaration_number x.0, x.1)) o

not-both : {A : Type 0} (x : A) → Some x ≡ None → ⊥
not-both x h = cc

pub one-profile : (root : Element) (v w : Option (ℕ × ℕ)) → ProfileVerdict root v → ProfileVerdict root w → v ≡ w
one-profile root _ _ (InForm p) (InForm q) = ap form_as (one-form root _ _ p q)
one-profile root _ _ (InForm p) (InDeclarations q d) = absurd (not-both _ (one-form root _ _ p q))
one-profile root _ _ (InForm p) (Unbroken q d) = absurd (not-both _ (one-form root _ _ p q))
one-profile root _ _ (InDeclarations p c) (InForm q) = absurd (not-both _ (one-form root _ _ q p))
one-profile root _ _ (InDeclarations p c) (InDeclarations q d) = ap declared_as (one-declared (draft_in root) _ _ c d)
one-profile root _ _ (InDeclarations p c) (Unbroken q d) = absurd (not-both _ (one-declared (draft_in root) _ _ c d))
one-profile root _ _ (Unbroken p c) (InForm q) = absurd (not-both _ (one-form root _ _ q p))
one-profile root _ _ (Unbroken p c) (InDeclarations q d) = absurd (not-both _ (one-declared (draft_in root) _ _ d c))
one-profile root _ _ (Unbroken p c) (Unbroken q d) = refl
