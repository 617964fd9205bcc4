-- What names lead to within instances.
use Rattle.std.proofs.Common.{◌≡◌, ℕ, true, List, [], Option, Some, None, map, slice_get, refl, sym, ap, ap₂, ◌∙◌, subst}
use Rattle.std.specs.Prelude.{length, unwrap_or}
use Rattle.std.specs.List.{find, position}
use Rattle.plcx_types.specs.declared.ty.Ty.{Ty}
use Rattle.plcx_types.specs.declared.ty.Ty.TheVariants as ty
use Rattle.plcx_types.specs.Name.{in_lower_case}
use Rattle.plcx_std.specs.declared.kind.StdKind.{StdKind}
use Rattle.plcx_std.specs.declared.pin.StdPin.{StdPin}
use Rattle.plcx_std.specs.Pins.{shown, pins}
use Rattle.plcx_meaning.specs.Base.{are_distinct}
use Rattle.plcx_meaning.specs.Tree.{Class, Local, Input, Output, InOut, Temp, PouText}
use Rattle.plcx_meaning.specs.Layout.{Variable, variables_of, variable_named, Meaning, Elementary, meaning}
use Rattle.plcx_meaning.specs.Layout as layout
use Rattle.plcx_meaning.specs.Execute.{NoFormal, formal, formal_by, world_of}
use Rattle.plcx_meaning.specs.Typed.{member_type, read_type}
use Rattle.plcx_conditions.specs.Known.{same_name}
use Rattle.plcx_conditions.proofs.Worlds.{pou_names}
use Rattle.plcx_known.specs.declared.types.VarType.{VarType}
use Rattle.plcx_known.specs.declared.types.VarType.TheVariants as type
use Rattle.plcx_known.specs.Parts.{role_class, pin_variable}
use Rattle.plcx_known.specs.Types.{type_of, variables_in, parts_of}
use Rattle.plcx_known.proofs.Parts.{pins_are}
use Rattle.plcx_known.proofs.Standing.{plain}
use Rattle.plcx_text_numbered.specs.Prepared.{or_bool}
use Rattle.plcx_text_numbered.specs.Numbers.{leaf_number}
use Rattle.plcx_text_lines.specs.declared.numbers.Part.{Part}
use Rattle.plcx_text_lines.specs.Shown.{shown_formal}
use Rattle.plcx_text_tables.specs.Tabled.{Numbered, Shown, number_named, leaf_named}
use Rattle.plcx_text_tables.specs.Laws.{AreFound, IsTableOf}
use Rattle.plcx_text_program.specs.Told.{type_read, formal_type, read_found, formal_found, IsTableAt, IsPartOf}
use Rattle.plcx_text_program.proofs.Naming.{meant, parts_are, found_there}
use Rattle.plcx_text_program.proofs.Pins.{type_meant, pin_leaf, pin_is}

-- ---- no variable

pub no_part : (unit : List PouText) (name : List ℕ) (p : Part) → p.leaf ≡ 0 → p.ty ≡ ty.Bool → shown_formal p.formal ≡ NoFormal → IsPartOf unit [] name p
no_part unit name p leaf t f = record { leaf = leaf; ty = t; formal = f }

-- ---- by the class of a variable

read_class : (class : Class) (t : Ty) → type_read class (type.Elementary t) ≡ or_bool (read_type (Elementary t) class)
read_class Local t = refl
read_class Input t = refl
read_class Output t = refl
read_class InOut t = refl
read_class Temp t = refl

formal_class : (class : Class) (t : Ty) → formal_type class (type.Elementary t) ≡ formal_by (Elementary t) class
formal_class Local t = refl
formal_class Input t = refl
formal_class Output t = refl
formal_class InOut t = refl
formal_class Temp t = refl

module _ (unit : List PouText) where
  read_by : (class : Class) (t : VarType) → type_read class t ≡ or_bool (read_type (plain unit t) class)
  read_by class type.Unknown = refl
  read_by class (type.Elementary t) = read_class class t
  read_by class (type.Standard k) = refl
  read_by class (type.Block place) = refl

  formal_is : (class : Class) (t : VarType) → formal_type class t ≡ formal_by (plain unit t) class
  formal_is class type.Unknown = refl
  formal_is class (type.Elementary t) = formal_class class t
  formal_is class (type.Standard k) = refl
  formal_is class (type.Block place) = refl

-- ---- a pin of a standard block

pub pin_part : (unit : List PouText) (name : List ℕ) (vs : List Variable) (pin : StdPin) (p : Part) → variable_named (in_lower_case name) vs ≡ Some (pin_variable (shown pin))
    → p.leaf ≡ leaf_number unit (in_lower_case name) vs → p.ty ≡ type_read (role_class pin.role) (type.Elementary pin.ty) → shown_formal p.formal ≡ formal_type (role_class pin.role) (type.Elementary pin.ty)
    → IsPartOf unit vs name p
pin_part unit name vs pin p found leaf t f =
    let m : meaning (world_of unit) (pin_variable (shown pin)).ty ≡ Elementary pin.ty = type_meant (world_of unit) pin.ty in
    record {
      leaf = leaf;
      ty = t ∙ read_class (role_class pin.role) pin.ty ∙ ap (λ (x : Meaning). or_bool (read_type x (role_class pin.role))) (sym m) ∙ ap (λ o. or_bool (member_type (world_of unit) o)) (sym found);
      formal = f ∙ formal_class (role_class pin.role) pin.ty ∙ ap (λ (x : Meaning). formal_by x (role_class pin.role)) (sym m) ∙ ap (formal (world_of unit)) (sym found);
    }

pub no_pin : (unit : List PouText) (name : List ℕ) (vs : List Variable) (p : Part) → variable_named (in_lower_case name) vs ≡ None
    → p.leaf ≡ leaf_number unit (in_lower_case name) vs → p.ty ≡ ty.Bool → shown_formal p.formal ≡ NoFormal → IsPartOf unit vs name p
no_pin unit name vs p found leaf t f = record {
  leaf = leaf;
  ty = t ∙ ap (λ o. or_bool (member_type (world_of unit) o)) (sym found);
  formal = f ∙ ap (formal (world_of unit)) (sym found);
}

-- the pins by their names
pub in_pins : (unit : List PouText) (name : List ℕ) (ps : List StdPin) (pin : StdPin) (p : Part) → Some pin ≡ find (λ (q : StdPin). same_name (shown q).name name) ps
    → p.leaf ≡ unwrap_or (position (λ (q : StdPin). same_name (shown q).name name) ps) (length ps)
    → p.ty ≡ type_read (role_class pin.role) (type.Elementary pin.ty) → shown_formal p.formal ≡ formal_type (role_class pin.role) (type.Elementary pin.ty)
    → IsPartOf unit (map pin_variable (map shown ps)) name p
in_pins unit name ps pin p found leaf = pin_part unit name (map pin_variable (map shown ps)) pin p (pin_is name ps (Some pin) found) (leaf ∙ pin_leaf unit name ps)

pub not_in_pins : (unit : List PouText) (name : List ℕ) (ps : List StdPin) (p : Part) → None ≡ find (λ (q : StdPin). same_name (shown q).name name) ps
    → p.leaf ≡ unwrap_or (position (λ (q : StdPin). same_name (shown q).name name) ps) (length ps) → p.ty ≡ ty.Bool → shown_formal p.formal ≡ NoFormal
    → IsPartOf unit (map pin_variable (map shown ps)) name p
not_in_pins unit name ps p found leaf = no_pin unit name (map pin_variable (map shown ps)) p (pin_is name ps None found) (leaf ∙ pin_leaf unit name ps)

-- the pins are the variables of the block
pub standard_part : (unit : List PouText) (k : StdKind) (name : List ℕ) (ps : List StdPin) (p : Part) → map shown ps ≡ pins k
    → IsPartOf unit (map pin_variable (map shown ps)) name p → IsPartOf unit (parts_of unit (type.Standard k)) name p
standard_part unit k name ps p are = subst (λ vs. IsPartOf unit vs name p) (ap (map pin_variable) are ∙ sym (pins_are k))

-- ---- a variable of a POU

module _ (unit : List PouText) (distinct : are_distinct (pou_names unit) ≡ true) where
  found_read : (n : Option Numbered) (v : Option Variable) → AreFound unit n v → read_found n ≡ or_bool (member_type (world_of unit) v)
  found_read None None f = refl
  found_read None (Some v) f = absurd f
  found_read (Some n) None f = absurd f
  found_read (Some n) (Some v) f =
      ap₂ type_read f.class f.type ∙ read_by unit v.class (type_of unit v.ty) ∙ ap (λ (m : Meaning). or_bool (read_type m v.class)) (sym (meant unit distinct v.ty))

  found_formal : (n : Option Numbered) (v : Option Variable) → AreFound unit n v → formal_found n ≡ formal (world_of unit) v
  found_formal None None f = refl
  found_formal None (Some v) f = absurd f
  found_formal (Some n) None f = absurd f
  found_formal (Some n) (Some v) f =
      ap₂ formal_type f.class f.type ∙ formal_is unit v.class (type_of unit v.ty) ∙ ap (λ (m : Meaning). formal_by m v.class) (sym (meant unit distinct v.ty))

  pub pou_part : (place : ℕ) (t : Shown) (name : List ℕ) (p : Part) → IsTableAt unit place t
      → p.leaf ≡ leaf_named t name → p.ty ≡ read_found (number_named t name) → shown_formal p.formal ≡ formal_found (number_named t name)
      → IsPartOf unit (variables_in (slice_get unit place)) name p
  pou_part place t name p at leaf ty formal =
      let v = variable_named (in_lower_case name) (variables_of at.pou.blocks) in
      let found = found_there unit distinct at.pou t at.table name (number_named t name) refl in
      let own : IsPartOf unit (variables_of at.pou.blocks) name p = record {
        leaf = leaf ∙ at.table.leaf name;
        ty = ty ∙ found_read (number_named t name) v found;
        formal = formal ∙ found_formal (number_named t name) v found;
      } in
      subst (λ o. IsPartOf unit (variables_in o) name p) (sym at.there) own

  -- ---- through an instance
  module _ (q : PouText) (t : Shown) (is : IsTableOf unit q t) (instance name : List ℕ) where
    abbrev own : Option Variable
    own = variable_named (in_lower_case instance) (variables_of q.blocks)

    -- a variable was found, and its part
    record Through (n : Numbered) : Type 0 where
      leaf : n.leaf ≡ leaf_number unit (in_lower_case instance) (variables_of q.blocks)
      parts : parts_of unit n.type ≡ layout.parts_of (world_of unit) own

    through : (n : Numbered) → Some n ≡ number_named t instance → Through n
    through n e = record { leaf = ap leaf_or e ∙ is.leaf instance; parts = by own (found_there unit distinct q t is instance (Some n) e) }
      where
        leaf_or : Option Numbered → ℕ
        leaf_or o = elim o [ Some m ↦ m.leaf | None ↦ t.leaves ]

        by : (v : Option Variable) → AreFound unit (Some n) v → parts_of unit n.type ≡ layout.parts_of (world_of unit) v
        by None f = absurd f
        by (Some v) f = ap (parts_of unit) f.type ∙ sym (parts_are unit distinct v.ty)

    pub inner_part : (n : Numbered) (p : Part) → Some n ≡ number_named t instance → IsPartOf unit (parts_of unit n.type) name p → IsPartOf unit (layout.parts_of (world_of unit) own) name p
    inner_part n p e = subst (λ vs. IsPartOf unit vs name p) (through n e).parts

    pub inner_leaf : (n : Numbered) → Some n ≡ number_named t instance → n.leaf ≡ leaf_number unit (in_lower_case instance) (variables_of q.blocks)
    inner_leaf n e = (through n e).leaf

    -- none was found
    nothing : None ≡ number_named t instance → own ≡ None
    nothing e = by own (found_there unit distinct q t is instance None e)
      where
        by : (v : Option Variable) → AreFound unit None v → v ≡ None
        by None f = refl
        by (Some v) f = absurd f

    pub no_instance : (p : Part) → None ≡ number_named t instance → p.leaf ≡ 0 → p.ty ≡ ty.Bool → shown_formal p.formal ≡ NoFormal → IsPartOf unit (layout.parts_of (world_of unit) own) name p
    no_instance p e leaf type formal = subst (λ o. IsPartOf unit (layout.parts_of (world_of unit) o) name p) (sym (nothing e)) (no_part unit name p leaf type formal)

    pub no_leaf : None ≡ number_named t instance → t.leaves ≡ leaf_number unit (in_lower_case instance) (variables_of q.blocks)
    no_leaf e = ap leaf_or e ∙ is.leaf instance
      where
        leaf_or : Option Numbered → ℕ
        leaf_or o = elim o [ Some m ↦ m.leaf | None ↦ t.leaves ]
