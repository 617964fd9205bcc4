-- What the names in the body of a POU lead to.
use Rattle.std.proofs.Common.{◌≡◌, ℕ, true, List, Option, Some, None, refl, sym, ap, ◌∙◌, subst}
use Rattle.plcx_types.specs.declared.ty.Ty.{Ty}
use Rattle.plcx_types.specs.Name.{in_lower_case}
use Rattle.plcx_meaning.specs.Base.{are_distinct}
use Rattle.plcx_meaning.specs.Tree.{Class, Local, Input, Output, InOut, Temp, PouText}
use Rattle.plcx_meaning.specs.Layout.{Variable, variables_of, variable_named, World, Meaning, meaning, parts}
use Rattle.plcx_meaning.specs.Execute.{referent, referent_by, elementary, world_of}
use Rattle.plcx_meaning.specs.Typed.{referent_type}
use Rattle.plcx_conditions.proofs.Worlds.{pou_names, world_is}
use Rattle.plcx_known.specs.declared.types.VarType.{VarType}
use Rattle.plcx_known.specs.declared.types.VarType.TheVariants as type
use Rattle.plcx_known.specs.Types.{type_of, parts_of}
use Rattle.plcx_known.proofs.Standing.{plain, meaning_is}
use Rattle.plcx_text_numbered.specs.Prepared.{or_bool}
use Rattle.plcx_text_numbered.specs.Numbers.{place_found}
use Rattle.plcx_text_tables.specs.Tabled.{Numbered, Shown, type_in, number_named}
use Rattle.plcx_text_tables.specs.Laws.{AreFound, place_or, IsTableOf}
use Rattle.plcx_text_program.specs.Told.{type_found}

-- the type of a variable of an elementary type
of_class : (class : Class) (t : Ty) → referent_type (elementary class t) ≡ Some t
of_class Local t = refl
of_class Input t = refl
of_class Output t = refl
of_class InOut t = refl
of_class Temp t = refl

module _ (unit : List PouText) where
  type_by : (t : VarType) (class : Class) (name : List ℕ) → type_in t ≡ or_bool (referent_type (referent_by (plain unit t) class name))
  type_by type.Unknown class name = refl
  type_by (type.Elementary t) class name = sym (ap or_bool (of_class class t))
  type_by (type.Standard k) class name = refl
  type_by (type.Block place) class name = refl

  parts_by : (t : VarType) → parts (plain unit t) ≡ parts_of unit t
  parts_by type.Unknown = refl
  parts_by (type.Elementary t) = refl
  parts_by (type.Standard k) = refl
  parts_by (type.Block place) = refl

  module _ (distinct : are_distinct (pou_names unit) ≡ true) where
    -- what the name of a type stands for
    pub meant : (name : List ℕ) → meaning (world_of unit) name ≡ plain unit (type_of unit name)
    meant name = ap (λ (w : World). meaning w name) (sym (world_is unit distinct)) ∙ meaning_is unit name

    pub parts_are : (name : List ℕ) → parts (meaning (world_of unit) name) ≡ parts_of unit (type_of unit name)
    parts_are name = ap parts (meant name) ∙ parts_by (type_of unit name)

    found_type : (n : Option Numbered) (v : Option Variable) → AreFound unit n v → type_found n ≡ or_bool (referent_type (referent (world_of unit) v))
    found_type None None f = refl
    found_type None (Some v) f = absurd f
    found_type (Some n) None f = absurd f
    found_type (Some n) (Some v) f =
        ap type_in f.type ∙ type_by (type_of unit v.ty) v.class v.ty
        ∙ ap (λ (m : Meaning). or_bool (referent_type (referent_by m v.class v.ty))) (sym (meant v.ty))

    module _ (p : PouText) (t : Shown) (is : IsTableOf unit p t) (name : List ℕ) where
      pub found_there : (o : Option Numbered) → o ≡ number_named t name → AreFound unit o (variable_named (in_lower_case name) (variables_of p.blocks))
      found_there o e = subst (λ n. AreFound unit n (variable_named (in_lower_case name) (variables_of p.blocks))) (sym e) (is.found name)

      -- where the value of a name stands, and its type
      pub place_is : (o : Option Numbered) → o ≡ number_named t name
          → place_or o ≡ place_found unit (variables_of p.blocks) (in_lower_case name) (variable_named (in_lower_case name) (variables_of p.blocks))
      place_is o e = ap place_or e ∙ is.place name

      pub type_is : (o : Option Numbered) → o ≡ number_named t name
          → type_found o ≡ or_bool (referent_type (referent (world_of unit) (variable_named (in_lower_case name) (variables_of p.blocks))))
      type_is o e = found_type o (variable_named (in_lower_case name) (variables_of p.blocks)) (found_there o e)
