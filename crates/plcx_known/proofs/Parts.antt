-- The variables of instances by their names.
use Rattle.std.proofs.Common.{◌≡◌, ℕ, Bool, true, false, cond, List, [], ◌∷◌, Option, Some, None, map, option_map, slice_get, refl, sym, ap, ap₂, ◌∙◌}
use Rattle.std.specs.List.{find, filter}
use Rattle.plcx_types.specs.declared.ty.Ty.{Ty}
use Rattle.plcx_types.specs.declared.ty.Ty.TheVariants as ty
use Rattle.plcx_types.specs.Name.{in_lower_case}
use Rattle.plcx_types.specs.TypeName.{type_name}
use Rattle.plcx_std.specs.declared.kind.StdKind.{StdKind}
use Rattle.plcx_std.specs.declared.kind.StdKind.TheVariants as kind
use Rattle.plcx_std.specs.declared.pin.StdPin.{StdPin}
use Rattle.plcx_std.specs.Pins.{Pin, pins, shown}
use Rattle.plcx_meaning.specs.Tree as tree
use Rattle.plcx_meaning.specs.Tree.{Class, Local, Input, Output, InOut, Temp}
use Rattle.plcx_meaning.specs.Layout.{Variable, variable_named, variables_of, Elementary}
use Rattle.plcx_meaning.specs.Standard.{pin_blocks}
use Rattle.plcx_st.specs.declared.tree.PouText.{PouText}
use Rattle.plcx_conditions.specs.Placed.{Pou, bare_pou, bare, Declared, declared, bare_variable}
use Rattle.plcx_conditions.specs.Places.{placed_pou}
use Rattle.plcx_conditions.specs.Known.{same_name, known, Seen, seen, seen_in}
use Rattle.plcx_conditions.specs.Statements as statements
use Rattle.plcx_conditions.proofs.Units.{variables_bare}
use Rattle.plcx_known.specs.declared.types.VarType.TheVariants as type
use Rattle.plcx_known.specs.Unit.{placed_of, bare_of}
use Rattle.plcx_known.specs.Types.{variables_in, parts_of}
use Rattle.plcx_known.specs.Owned.{Typed, typed, own_of, name_of, variable_in, seen_of, is_in_out, names_in_out, in_out_names}
use Rattle.plcx_known.specs.Parts.{owners_of, in_outs_among, in_outs_of, pin_variable}
use Rattle.plcx_known.proofs.Places.{get_map, find_map}
use Rattle.plcx_known.proofs.Standing.{known_is}

map_twice : {X Y Z : Type 0} (f : X → Y) (g : Y → Z) (xs : List X) → map (λ x. g (f x)) xs ≡ map g (map f xs)
map_twice f g [] = refl
map_twice f g (x ∷ xs) = ap (λ ys. g (f x) ∷ ys) (map_twice f g xs)

-- the variables of each POU, one after another
pub owners_are : (pous : List PouText) → map (λ (p : PouText). own_of (bare_of pous) (placed_pou p)) pous ≡ owners_of (placed_of pous)
owners_are pous = map_twice placed_pou (own_of (bare_of pous)) pous

-- ---- names among the variables of a POU

-- the variables as they are declared
abbrev pub bare_typed : Typed → Variable
bare_typed t = bare_variable t.variable

module _ (unit : List tree.PouText) where
  seen_is : (d : Declared) → seen unit (bare_variable d) ≡ seen_of unit (typed unit d)
  seen_is d = ap (λ m. let s : Seen = record { class = d.class; mark = d.mark; type = m } in s) (known_is unit d.declaration.ty.name)

  one_more : (b : Bool) (d : Declared) (o : Option Variable) (p : Option Typed) → option_map (seen unit) o ≡ option_map (seen_of unit) p
      → option_map (seen unit) (cond b (Some (bare_variable d)) o) ≡ option_map (seen_of unit) (cond b (Some (typed unit d)) p)
  one_more true d o p h = ap Some (seen_is d)
  one_more false d o p h = h

  pub seen_among : (ds : List Declared) (name : List ℕ) → seen_in unit (map bare_variable ds) name ≡ option_map (seen_of unit) (variable_in name (map (typed unit) ds))
  seen_among [] name = refl
  seen_among (d ∷ ds) name = one_more (same_name d.declaration.name.name name) d _ _ (seen_among ds name)

  -- what a name leads to in a POU
  pub seen_in_pou : (p : Pou) (name : List ℕ) → seen_in unit (variables_of (bare_pou p).blocks) name ≡ option_map (seen_of unit) (variable_in name (own_of unit p))
  seen_in_pou p name = ap (λ vs. seen_in unit vs name) (variables_bare p) ∙ seen_among (declared p) name

  -- ---- in-outs

  same_in_out : (o : Option Typed) → statements.is_in_out (option_map (seen_of unit) o) ≡ is_in_out o
  same_in_out None = refl
  same_in_out (Some t) = refl

  one_name : (b c : Bool) (n : List ℕ) (vs : List Variable) (ts : List Typed) (v : Variable) (t : Typed) → b ≡ c → v.name ≡ name_of t
      → map (λ (w : Variable). w.name) vs ≡ map name_of ts → map (λ (w : Variable). w.name) (cond b (v ∷ vs) vs) ≡ map name_of (cond c (t ∷ ts) ts)
  one_name true true n vs ts v t e same h = ap₂ (λ (x : List ℕ) xs. x ∷ xs) same h
  one_name true false n vs ts v t e same h = absurd (cc)
  one_name false true n vs ts v t e same h = absurd (cc)
  one_name false false n vs ts v t e same h = h

  module _ (all : List Declared) where
    names_are : (ds : List Declared)
        → map (λ (v : Variable). v.name) (filter (λ (v : Variable). statements.is_in_out (seen_in unit (map bare_variable all) v.name)) (map bare_variable ds))
        ≡ map name_of (filter (names_in_out (map (typed unit) all)) (map (typed unit) ds))
    names_are [] = refl
    names_are (d ∷ ds) =
        one_name _ _ d.declaration.name.name _ _ (bare_variable d) (typed unit d)
        (ap statements.is_in_out (seen_among all d.declaration.name.name) ∙ same_in_out (variable_in d.declaration.name.name (map (typed unit) all))) refl (names_are ds)

  pub in_outs_in_pou : (p : Pou) → in_outs_among unit (variables_of (bare_pou p).blocks) ≡ in_out_names (own_of unit p)
  in_outs_in_pou p = ap (in_outs_among unit) (variables_bare p) ∙ names_are (declared p) (declared p)

-- ---- the instance of a function block

module _ (unit : List Pou) (place : ℕ) where
  abbrev at_place : Option Pou → List Variable
  at_place o = variables_in (option_map bare_pou o)

  parts_are : (o : Option Pou) → slice_get unit place ≡ o → parts_of (bare unit) (type.Block place) ≡ at_place o
  parts_are o e = ap variables_in (get_map bare_pou unit place ∙ ap (option_map bare_pou) e)

  owner_are : slice_get (owners_of unit) place ≡ option_map (own_of (bare unit)) (slice_get unit place)
  owner_are = get_map (own_of (bare unit)) unit place

  pub block_parts : (ts : List Typed) (name : List ℕ) → slice_get (owners_of unit) place ≡ Some ts
      → seen_in (bare unit) (parts_of (bare unit) (type.Block place)) name ≡ option_map (seen_of (bare unit)) (variable_in name ts)
  block_parts ts name h = by (slice_get unit place) refl
    where
      by : (o : Option Pou) → slice_get unit place ≡ o → seen_in (bare unit) (parts_of (bare unit) (type.Block place)) name ≡ option_map (seen_of (bare unit)) (variable_in name ts)
      by None e = let no : None ≡ Some ts = sym (owner_are ∙ ap (option_map (own_of (bare unit))) e) ∙ h in absurd (cc)
      by (Some p) e =
          let some : Some (own_of (bare unit) p) ≡ Some ts = sym (owner_are ∙ ap (option_map (own_of (bare unit))) e) ∙ h in
          let is : own_of (bare unit) p ≡ ts = cc in
          ap (λ vs. seen_in (bare unit) vs name) (parts_are (Some p) e) ∙ seen_in_pou (bare unit) p name ∙ ap (λ us. option_map (seen_of (bare unit)) (variable_in name us)) is

  pub no_block_parts : (name : List ℕ) → slice_get (owners_of unit) place ≡ None → seen_in (bare unit) (parts_of (bare unit) (type.Block place)) name ≡ None
  no_block_parts name h = by (slice_get unit place) refl
    where
      by : (o : Option Pou) → slice_get unit place ≡ o → seen_in (bare unit) (parts_of (bare unit) (type.Block place)) name ≡ None
      by None e = ap (λ vs. seen_in (bare unit) vs name) (parts_are None e)
      by (Some p) e = let no : Some (own_of (bare unit) p) ≡ None = sym (owner_are ∙ ap (option_map (own_of (bare unit))) e) ∙ h in absurd (cc)

  pub block_in_outs : (ts : List Typed) → slice_get (owners_of unit) place ≡ Some ts → in_outs_of (bare unit) (type.Block place) ≡ in_out_names ts
  block_in_outs ts h = by (slice_get unit place) refl
    where
      by : (o : Option Pou) → slice_get unit place ≡ o → in_outs_of (bare unit) (type.Block place) ≡ in_out_names ts
      by None e = let no : None ≡ Some ts = sym (owner_are ∙ ap (option_map (own_of (bare unit))) e) ∙ h in absurd (cc)
      by (Some p) e =
          let some : Some (own_of (bare unit) p) ≡ Some ts = sym (owner_are ∙ ap (option_map (own_of (bare unit))) e) ∙ h in
          let is : own_of (bare unit) p ≡ ts = cc in
          ap (in_outs_among (bare unit)) (parts_are (Some p) e) ∙ in_outs_in_pou (bare unit) p ∙ ap in_out_names is

  pub no_block_in_outs : slice_get (owners_of unit) place ≡ None → in_outs_of (bare unit) (type.Block place) ≡ []
  no_block_in_outs h = by (slice_get unit place) refl
    where
      by : (o : Option Pou) → slice_get unit place ≡ o → in_outs_of (bare unit) (type.Block place) ≡ []
      by None e = ap (in_outs_among (bare unit)) (parts_are None e)
      by (Some p) e = let no : Some (own_of (bare unit) p) ≡ None = sym (owner_are ∙ ap (option_map (own_of (bare unit))) e) ∙ h in absurd (cc)

-- ---- the instance of a standard block

pub pins_are : (k : StdKind) → variables_of (pin_blocks k) ≡ map pin_variable (pins k)
pins_are kind.Ton = refl
pins_are kind.Tof = refl
pins_are kind.Tp = refl
pins_are kind.Ctu = refl
pins_are kind.Ctd = refl
pins_are kind.Ctud = refl
pins_are kind.Sr = refl
pins_are kind.Rs = refl
pins_are kind.RTrig = refl
pins_are kind.FTrig = refl

pub type_known : (unit : List tree.PouText) (t : Ty) → known unit (type_name t) ≡ Some (Elementary t)
type_known unit ty.Bool = refl
type_known unit ty.Byte = refl
type_known unit ty.Word = refl
type_known unit ty.Dword = refl
type_known unit ty.Lword = refl
type_known unit ty.Sint = refl
type_known unit ty.Int = refl
type_known unit ty.Dint = refl
type_known unit ty.Lint = refl
type_known unit ty.Usint = refl
type_known unit ty.Uint = refl
type_known unit ty.Udint = refl
type_known unit ty.Ulint = refl
type_known unit ty.Time = refl

found_pin : (unit : List tree.PouText) (b : Bool) (p : Pin) (o : Option Variable) (q : Option Pin) → o ≡ option_map pin_variable q
    → cond b (Some (pin_variable p)) o ≡ option_map pin_variable (cond b (Some p) q)
found_pin unit true p o q h = refl
found_pin unit false p o q h = h

named_pin : (unit : List tree.PouText) (name : List ℕ) (ps : List Pin) → variable_named (in_lower_case name) (map pin_variable ps) ≡ option_map pin_variable (find (λ (p : Pin). same_name p.name name) ps)
named_pin unit name [] = refl
named_pin unit name (p ∷ ps) = found_pin unit (same_name p.name name) p _ _ (named_pin unit name ps)

-- what a name leads to among the pins of a block
pub pin_parts : (unit : List tree.PouText) (k : StdKind) (name : List ℕ) (ps : List StdPin) → map shown ps ≡ pins k
    → seen_in unit (variables_of (pin_blocks k)) name ≡ option_map (λ (p : StdPin). seen unit (pin_variable (shown p))) (find (λ (p : StdPin). same_name (shown p).name name) ps)
pin_parts unit k name ps are =
    ap (λ vs. seen_in unit vs name) (pins_are k)
    ∙ ap (option_map (seen unit)) (named_pin unit name (pins k) ∙ ap (λ (qs : List Pin). option_map pin_variable (find (λ (p : Pin). same_name p.name name) qs)) (sym are) ∙ ap (option_map pin_variable) (find_map shown (λ (p : Pin). same_name p.name name) ps))
    ∙ thrice (find (λ (p : StdPin). same_name (shown p).name name) ps)
  where
    thrice : (o : Option StdPin) → option_map (seen unit) (option_map pin_variable (option_map shown o)) ≡ option_map (λ (p : StdPin). seen unit (pin_variable (shown p))) o
    thrice None = refl
    thrice (Some p) = refl

pub no_in_outs : (unit : List tree.PouText) (k : StdKind) → in_outs_of unit (type.Standard k) ≡ []
no_in_outs unit kind.Ton = refl
no_in_outs unit kind.Tof = refl
no_in_outs unit kind.Tp = refl
no_in_outs unit kind.Ctu = refl
no_in_outs unit kind.Ctd = refl
no_in_outs unit kind.Ctud = refl
no_in_outs unit kind.Sr = refl
no_in_outs unit kind.Rs = refl
no_in_outs unit kind.RTrig = refl
no_in_outs unit kind.FTrig = refl
