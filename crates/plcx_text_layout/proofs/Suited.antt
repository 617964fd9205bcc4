-- Initial values of a unit that is ready suit.
use Rattle.std.proofs.Common.{◌≡◌, ◌∙◌, List, [], ◌∷◌, Some, map, sym, ap, subst}
use Rattle.std.specs.Option.{option_map}
use Rattle.plcx_types.specs.declared.ty.Ty.{Ty}
use Rattle.plcx_types.specs.Lists.{Each}
use Rattle.plcx_types.specs.Range.{InRange}
use Rattle.plcx_types.specs.TypeName.{type_named}
use Rattle.plcx_meaning.specs.Layout.{Variable, variables_of}
use Rattle.plcx_meaning.specs.Ready.{VariableIsReady, PouIsReady, IsReady}
use Rattle.plcx_meaning.specs.Tree as tree
use Rattle.plcx_conditions.specs.Known.{world_of}
use Rattle.plcx_conditions.specs.Placed.{Literal, Pou, bare, bare_pou, Declared, declared, bare_variable}
use Rattle.plcx_conditions.proofs.Bodies.{type_of_elementary}
use Rattle.plcx_conditions.proofs.Units.{variables_bare}
use Rattle.plcx_known.specs.declared.types.VarType.TheVariants as type
use Rattle.plcx_known.specs.Types.{type_of}
use Rattle.plcx_known.specs.Owned.{typed, own_of}
use Rattle.plcx_known.specs.Parts.{owners_of}
use Rattle.plcx_known.proofs.Standing.{plain, meaning_is}
use Rattle.plcx_text_layout.specs.Suits.{Suits, AllSuit, OwnersSuit}

module _ (unit : List tree.PouText) where
  one_suits : (kind : tree.PouKind) (d : Declared) → VariableIsReady unit kind (bare_variable d) → Suits (typed unit d)
  one_suits kind d ready ty v is given =
      let name = d.declaration.ty.name in
      let known = type_of_elementary (world_of unit) name ty (meaning_is unit name ∙ ap (plain unit) is) in
      let own = ready.initial v.value (ap (option_map (λ (l : Literal). l.value)) given) in
      let one : Some v.value.ty ≡ Some ty = sym own.0 ∙ known in
      let same : v.value.ty ≡ ty = cc in
      subst (λ t. InRange t v.value.n) same own.1

  each_suits : (kind : tree.PouKind) (ds : List Declared) → Each (VariableIsReady unit kind) (map bare_variable ds) → Each Suits (map (typed unit) ds)
  each_suits kind [] all = tt
  each_suits kind (d ∷ ds) all = (one_suits kind d all.0, each_suits kind ds all.1)

  pou_suits : (p : Pou) → PouIsReady unit (bare_pou p) → AllSuit (own_of unit p)
  pou_suits p ready = each_suits p.kind (declared p) (subst (λ (vs : List Variable). Each (VariableIsReady unit p.kind) vs) (variables_bare p) ready.variables)

  pous_suit : (ps : List Pou) → Each (PouIsReady unit) (map bare_pou ps) → OwnersSuit (map (own_of unit) ps)
  pous_suit [] all = tt
  pous_suit (p ∷ ps) all = (pou_suits p all.0, pous_suit ps all.1)

pub owners_suit : (unit : List Pou) → IsReady (bare unit) → OwnersSuit (owners_of unit)
owners_suit unit ready = pous_suit (bare unit) unit ready.pous
