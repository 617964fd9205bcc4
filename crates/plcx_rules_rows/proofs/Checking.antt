-- The verdict of the rules 20 to 36 as it computes, where some rounds find all types of groups.
use Rattle.std.proofs.Common.{◌≡◌, ◌≢◌, ◌⊎◌, inl, inr, ℕ, ◌<◌, ◌&&◌, Bool, true, false, not, List, [], Option, Some, None, length, get_or, refl, sym, ◌∙◌}
use Rattle.std.specs.List.{list_any}
use Rattle.plcx_types.specs.Lists.{Each}
use Rattle.std.proofs.lemmas.Bool.Decides.{Decides-and, Decides-not}
use Rattle.plcx_types.specs.declared.ty.Ty.{Ty}
use Rattle.plcx_types.specs.TypeName.{same_ty, all_types}
use Rattle.plcx_model.specs.declared.broken.Broken.{Broken}
use Rattle.plcx_model.specs.declared.broken.Place.{Place}
use Rattle.plcx_model.specs.declared.project.Pou.{Pou}
use Rattle.plcx_model.specs.declared.project.Project.{Project}
use Rattle.plcx_model.specs.declared.source.Source.{Source}
use Rattle.plcx_rules.specs.declared.form.TypeRule.{TypeRule}
use Rattle.plcx_rules.specs.declared.rule.LinkRule.{LinkRule}
use Rattle.plcx_rules.specs.CheckVerdict.{CheckVerdict, InLinks, InTypes, Unbroken, broken_at}
use Rattle.plcx_rules.specs.Forms.{sheet_of, sheet_at}
use Rattle.plcx_rules.specs.Items.{Item, items_of}
use Rattle.plcx_rules.specs.LinkRules.{LinkVerdict, BreaksLink, link_place, link_rules, breaks, number}
use Rattle.plcx_rules.specs.Sources.{links_of}
use Rattle.plcx_rules.specs.Types.{Sheet, pin_at, sources_at, AtPin, HasType}
use Rattle.plcx_rules.specs.TypingRules.{TypingVerdict, BreaksTyping, type_place, type_rules, type_rule_number}
use Rattle.plcx_typing.specs.Tests.{AreMarks, pin_has}
use Rattle.plcx_typing.specs.Faults.{breaks_at}
use Rattle.plcx_typing.proofs.Deciding.{same_decides, on_decides, any_type, pin_decides}
use Rattle.plcx_typing.proofs.Faulting.{breaks_decides}
use Rattle.plcx_typing.proofs.Single.{placed}
use Rattle.plcx_rules_rows.specs.TypingExamples.{HasOnly}
use Rattle.plcx_rules_rows.proofs.Rounds.{round, rounds, rounds_sound, are_marks}
use Rattle.plcx_rules_rows.proofs.Walks.{IsDecided, answer, judged, each_of, each_all}

-- what the types of an item's body go by
abbrev pub sheet_for : List Pou → Item → Sheet
sheet_for pous x = sheet_at pous (links_of pous) x.pou x.owner

abbrev pub marks_for : ℕ → List Pou → Item → List Bool
marks_for k pous x = rounds (sheet_for pous x) k

-- one round more changes nothing
abbrev pub IsSettled : ℕ → List Pou → Item → Type 0
IsSettled k pous x = round (sheet_for pous x) (marks_for k pous x) ≡ marks_for k pous x

marks_are : (k : ℕ) (pous : List Pou) (x : Item) → IsSettled k pous x → AreMarks (sheet_for pous x) (marks_for k pous x)
marks_are k pous x settled = let s = sheet_for pous x in are_marks s (placed pous x.owner (get_or (links_of pous) x.pou [])) (rounds s k) settled (rounds_sound s k)

-- a rule on types, as a test
abbrev pub type_test : ℕ → List Pou → TypeRule → Item → Bool
type_test k pous r x = breaks_at r (sheet_for pous x) (marks_for k pous x) x.place

type_decided : (k : ℕ) (pous : List Pou) (r : TypeRule) (x : Item) → IsSettled k pous x → IsDecided (type_test k pous r) (BreaksTyping pous (links_of pous) r) x
type_decided k pous r x settled = λ before. breaks_decides (sheet_for pous x) (marks_for k pous x) (marks_are k pous x settled) r x.place

abbrev pub type_answer : ℕ → List Pou → Option (TypeRule × Place)
type_answer k pous = answer (BreaksTyping pous (links_of pous)) type_place (items_of pous) (type_test k pous) type_rules

abbrev pub link_answer : List Pou → Option (LinkRule × Place)
link_answer pous = answer (BreaksLink pous) link_place (items_of pous) (breaks pous) link_rules

-- the rules on links are told first
abbrev pub joined : Option (LinkRule × Place) → Option (TypeRule × Place) → Option Broken
joined (Some l) t = Some (broken_at (number l.0) l.1)
joined None (Some t) = Some (broken_at (type_rule_number t.0) t.1)
joined None None = None

joined_so : (project : Project) (l : Option (LinkRule × Place)) (t : Option (TypeRule × Place)) → LinkVerdict project l → TypingVerdict project (links_of project.pous) t → CheckVerdict project (joined l t)
joined_so project (Some l) t linked typed = InLinks linked
joined_so project None (Some t) linked typed = InTypes linked typed
joined_so project None None linked typed = Unbroken linked typed

pub checks : (k : ℕ) (project : Project) → Each (IsSettled k project.pous) (items_of project.pous) → CheckVerdict project (joined (link_answer project.pous) (type_answer k project.pous))
checks k project settled =
    let pous = project.pous in
    let items = items_of pous in
    let Breaks = BreaksTyping pous (links_of pous) in
    joined_so project (link_answer pous) (type_answer k pous)
    (judged (BreaksLink pous) link_place items (breaks pous) (λ r. each_all (IsDecided (breaks pous r) (BreaksLink pous r)) (λ x before. on_decides (breaks pous r x)) items) link_rules)
    (judged Breaks type_place items (type_test k pous) (λ r. each_of (IsSettled k pous) (IsDecided (type_test k pous r) (Breaks r)) (λ x is. type_decided k pous r x is) items settled) type_rules)

-- ---- the types of a pin

same_or : (t u : Ty) → (t ≡ u) ⊎ (t ≢ u)
same_or t u = by (same_ty t u) refl
  where
    by : (b : Bool) → same_ty t u ≡ b → (t ≡ u) ⊎ (t ≢ u)
    by true h = inl ((same_decides t u).0 h)
    by false h = inr (λ e. let no : false ≡ true = sym h ∙ (same_decides t u).1 e in absurd (cc))

module _ (s : Sheet) (marks : List Bool) (are : AreMarks s marks) (i : ℕ) (t : Ty) where
  -- the pin has a type beside it
  abbrev pub has_beside : Ty → Bool
  has_beside u = pin_has s marks (pin_at s i) (sources_at s i) u && not (same_ty u t)

  only_so : i < length s.pins → pin_has s marks (pin_at s i) (sources_at s i) t ≡ true → list_any has_beside all_types ≡ false → HasOnly s i t
  only_so low has none =
      let p = pin_at s i in
      let sources = sources_at s i in
      let beside = any_type has_beside (λ u. HasType s (AtPin i) u × (u ≢ t))
      (λ u. Decides-and (pin_has s marks p sources u) (not (same_ty u t)) (pin_decides s marks are i u low) (Decides-not (same_ty u t) (same_decides u t))) in
      record {
        has = (pin_decides s marks are i t low).0 has;
        only = λ u has'. elim (same_or u t) [
          | inl same ↦ same
          | inr differ ↦ let no : false ≡ true = sym none ∙ beside.1 (u, (has', differ)) in absurd (cc)
        ];
      }

-- the same of the sheet of a POU, by rounds
pub only : (k : ℕ) (pous : List Pou) (p : Pou) (sources : List (List Source)) (i : ℕ) (t : Ty) → (let s = sheet_of pous p sources in round s (rounds s k) ≡ rounds s k)
    → (let s = sheet_of pous p sources in i < length s.pins) → (let s = sheet_of pous p sources in pin_has s (rounds s k) (pin_at s i) (sources_at s i) t ≡ true)
    → (let s = sheet_of pous p sources in let marks = rounds s k in list_any (λ u. pin_has s marks (pin_at s i) (sources_at s i) u && not (same_ty u t)) all_types ≡ false)
    → HasOnly (sheet_of pous p sources) i t
only k pous p sources i t settled low has none =
    let s = sheet_of pous p sources in only_so s (rounds s k) (are_marks s (placed pous p sources) (rounds s k) settled (rounds_sound s k)) i t low has none
