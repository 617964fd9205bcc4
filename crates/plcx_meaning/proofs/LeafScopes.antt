-- The scopes of a project that fits, and of a unit that is ready.
use Rattle.std.proofs.Common.{◌≡◌, ℕ, true, List, [], Option, Some, None, map, filter, refl}
use Rattle.plcx_types.specs.Name.{in_lower_case}
use Rattle.plcx_std.specs.declared.kind.StdKind.{StdKind}
use Rattle.plcx_std.specs.declared.kind.StdKind.TheVariants as kind
use Rattle.plcx_std.specs.declared.pin.Role.{Role}
use Rattle.plcx_std.specs.declared.pin.Role.TheVariants as role
use Rattle.plcx_std.specs.Kind.{kind_named}
use Rattle.plcx_std.specs.Pins.{pins}
use Rattle.plcx_types.specs.Lists.{Each}
use Rattle.plcx_meaning.specs.Base.{are_distinct}
use Rattle.plcx_meaning.specs.Tree.{Class, Local, Input, Output, Plain, PouText}
use Rattle.plcx_meaning.specs.Standard.{pin_declaration, has_role, pin_block, pin_blocks}
use Rattle.plcx_meaning.specs.Layout.{Variable, InitialIsTyped, variable, block_variables, variables_of}
use Rattle.plcx_meaning.specs.Diagram.{Pou, Project}
use Rattle.plcx_meaning.specs.Diagram as diagram
use Rattle.plcx_meaning.specs.Evaluate as evaluate
use Rattle.plcx_meaning.specs.Execute as text
use Rattle.plcx_meaning.specs.Fits.{VariableFits, PouFits, ProjectFits}
use Rattle.plcx_meaning.specs.Ready.{VariableIsReady, PouIsReady, IsReady}
use Rattle.plcx_meaning.proofs.Lists.{each_from, each_weaker, each_map, each_flat_map}
use Rattle.plcx_meaning.proofs.StaticsWorlds.{block_fits}
use Rattle.plcx_meaning.proofs.StuckBodies.{block_has}
use Rattle.plcx_meaning.proofs.LeafPaths.{AreNamed, IsProper}

pins_distinct : (k : StdKind) → are_distinct (map (λ (v : Variable). in_lower_case v.name) (variables_of (pin_blocks k))) ≡ true
pins_distinct kind.Ton = refl
pins_distinct kind.Tof = refl
pins_distinct kind.Tp = refl
pins_distinct kind.Ctu = refl
pins_distinct kind.Ctd = refl
pins_distinct kind.Ctud = refl
pins_distinct kind.Sr = refl
pins_distinct kind.Rs = refl
pins_distinct kind.RTrig = refl
pins_distinct kind.FTrig = refl

pins_typed : (k : StdKind) → Each InitialIsTyped (variables_of (pin_blocks k))
pins_typed k = each_flat_map InitialIsTyped block_variables (pin_blocks k) (of_block Input role.In, (of_block Output role.Out, (of_block Local role.Hidden, tt)))
  where
    of_block : (class : Class) (r : Role) → Each InitialIsTyped (block_variables (pin_block class r k))
    of_block class r = each_map InitialIsTyped (variable class Plain) (map pin_declaration (filter (has_role r) (pins k)))
        (each_map (λ d. InitialIsTyped (variable class Plain d)) pin_declaration (filter (has_role r) (pins k)) (each_from _ (filter (has_role r) (pins k)) (λ p there value e. absurd (cc))))

pou_named : (project : Project) (p : Pou) → PouFits project p → AreNamed (variables_of p.lists)
pou_named project p fits = (fits.distinct, each_weaker (VariableFits project) InitialIsTyped (variables_of p.lists) (λ v h. h.initial) fits.variables)

pub diagram_scope : (project : Project) → ProjectFits project → (p : Pou) → PouFits project p → IsProper (evaluate.scope_of project p)
diagram_scope project fits p one = record { own = pou_named project p one; inner = λ name. by_kind name (kind_named name) }
  where
    of_block : (name : List ℕ) (o : Option Pou) → diagram.block_named (in_lower_case name) project ≡ o → AreNamed (variables_of (elim o [ Some q ↦ q.lists | None ↦ [] ]))
    of_block name None e = (refl, tt)
    of_block name (Some q) e = pou_named project q (block_fits project (in_lower_case name) project q fits.pous e)

    by_kind : (name : List ℕ) (o : Option StdKind) → AreNamed (elim o [ Some k ↦ variables_of (pin_blocks k) | None ↦ variables_of (evaluate.world_of project (in_lower_case name)) ])
    by_kind name None = of_block name (diagram.block_named (in_lower_case name) project) refl
    by_kind name (Some k) = (pins_distinct k, pins_typed k)

text_named : (unit : List PouText) (p : PouText) → PouIsReady unit p → AreNamed (variables_of p.blocks)
text_named unit p ready = (ready.distinct, each_weaker (VariableIsReady unit p.kind) InitialIsTyped (variables_of p.blocks) (λ v h. h.initial) ready.variables)

pub text_scope : (unit : List PouText) → IsReady unit → (p : PouText) → PouIsReady unit p → IsProper (text.scope_of unit p)
text_scope unit ready p one = record { own = text_named unit p one; inner = λ name. by_kind name (kind_named name) }
  where
    of_block : (name : List ℕ) (o : Option PouText) → text.block_named (in_lower_case name) unit ≡ o → AreNamed (variables_of (elim o [ Some q ↦ q.blocks | None ↦ [] ]))
    of_block name None e = (refl, tt)
    of_block name (Some q) e = text_named unit q (block_has (PouIsReady unit) (in_lower_case name) unit q ready.pous e)

    by_kind : (name : List ℕ) (o : Option StdKind) → AreNamed (elim o [ Some k ↦ variables_of (pin_blocks k) | None ↦ variables_of (text.world_of unit (in_lower_case name)) ])
    by_kind name None = of_block name (text.block_named (in_lower_case name) unit) refl
    by_kind name (Some k) = (pins_distinct k, pins_typed k)
