-- What is known of an optional value.
use Rattle.std.proofs.Common.{◌≡◌, List, ℕ, Option, Some, None, slice_get, sym, subst, Bor}
use Rattle.std.specs.Prelude.{IfSome, IfNone, option_copied}
use Rattle.plcx_types.specs.Name.{in_lower_case}
use Rattle.plcx_xml.specs.declared.tree.Element.{Element}
use Rattle.plcx_model.specs.declared.project.Pou.{Pou}
use Rattle.plcx_plan.specs.Attributes.{value_once}
use Rattle.plcx_plan.specs.Conditions.{program_at, IsOfProgram}
use Rattle.std.specs.Prelude.{codes}

pub if_some : {A : Type 0} (P : A → Type 0) (o : Option A) (x : A) → o ≡ Some x → IfSome o P → P x
if_some P None x is h = absurd (cc)
if_some P (Some y) x is h = let same : y ≡ x = cc in subst P same h

pub if_none : {A : Type 0} (P : Type 0) (o : Option A) → o ≡ None → IfNone o P → P
if_none P None is h = h
if_none P (Some y) is h = absurd (cc)

none_some : {A : Type 0} (o : Option A) (x : A) → o ≡ None → o ≡ Some x → ⊥
none_some None x h k = cc
none_some (Some y) x h k = cc

pub no_name : (pous : List Pou) (e : Element) (pou : Pou) → value_once (codes "typeName") e ≡ None → IsOfProgram pous e pou → ⊥
no_name pous e pou none of = none_some (value_once (codes "typeName") e) of.name none of.value

pub no_place : (pous : List Pou) (e : Element) (name : List ℕ) (pou : Pou) → value_once (codes "typeName") e ≡ Some name → program_at pous (in_lower_case name) ≡ None → IsOfProgram pous e pou → ⊥
no_place pous e name pou is none of =
    let value = of.value in
    let same : of.name ≡ name = cc in
    none_some (program_at pous (in_lower_case name)) of.place none (subst (λ n. program_at pous (in_lower_case n) ≡ Some of.place) same of.found)

pub program_some : (pous : List Pou) (e : Element) (name : List ℕ) (place : ℕ) (found : Option (Bor Pou)) → value_once (codes "typeName") e ≡ Some name → program_at pous (in_lower_case name) ≡ Some place
    → option_copied found ≡ slice_get pous place → IfSome found (λ pou. IsOfProgram pous e pou.now)
program_some pous e name place None value there is = tt
program_some pous e name place (Some pou) value there is = record { name = name; value = value; place = place; found = there; there = sym is }

pub program_none : (pous : List Pou) (e : Element) (name : List ℕ) (place : ℕ) (found : Option (Bor Pou)) → value_once (codes "typeName") e ≡ Some name → program_at pous (in_lower_case name) ≡ Some place
    → option_copied found ≡ slice_get pous place → IfNone found ((pou : Pou) → IsOfProgram pous e pou → ⊥)
program_none pous e name place (Some pou) value there is = tt
program_none pous e name place None value there is = λ pou of.
    let stands = of.value in
    let same : of.name ≡ name = cc in
    let found : program_at pous (in_lower_case name) ≡ Some of.place = subst (λ n. program_at pous (in_lower_case n) ≡ Some of.place) same of.found in
    let one : of.place ≡ place = cc in
    none_some (slice_get pous place) pou (sym is) (subst (λ k. slice_get pous k ≡ Some pou) one of.there)
