-- What is found by a name is what is found by the name in lower case.
use Rattle.std.proofs.Common.{◌≡◌, ℕ, List, refl}
use Rattle.std.specs.List.{position_from}
use Rattle.plcx_types.specs.Name.{in_lower_case}
use Rattle.plcx_model.specs.declared.body.BodyElement.{BodyElement}
use Rattle.plcx_model.specs.declared.body.Kind.{Kind}
use Rattle.plcx_model.specs.declared.body.Kind.TheVariants as kind
use Rattle.plcx_rules.specs.LinkRules.{is_label_named}
use Rattle.plcx_rules.specs.Sources.{connector_place, is_connector_named}
use Rattle.plcx_names.specs.Bodies.{is_key_of, name_in, label_place}
use Rattle.plcx_names.specs.declared.places.Naming.TheVariants.{Connectors, Labels}
use Rattle.plcx_names.specs.Told.{is_key}
use Rattle.plcx_names.proofs.Finding.{same_place}

by_connector : (name : List ℕ) (k : Kind) → is_connector_named name k ≡ is_key (in_lower_case name) (name_in Connectors k)
unfolding is_connector_named
by_connector name kind.Skipped = refl
by_connector name kind.LeftRail = refl
by_connector name (kind.RightRail input) = refl
by_connector name (kind.Contact input text mods) = refl
by_connector name (kind.Coil input text mods) = refl
by_connector name (kind.In text mods) = refl
by_connector name (kind.Out input text mods) = refl
by_connector name (kind.Block type_name instance inputs in_outs outputs) = refl
by_connector name (kind.Connector own input) = refl
by_connector name (kind.Continuation own) = refl
by_connector name (kind.Label own) = refl
by_connector name (kind.Jump label input) = refl
by_connector name (kind.Return input) = refl

by_label : (name : List ℕ) (k : Kind) → is_label_named name k ≡ is_key (in_lower_case name) (name_in Labels k)
unfolding is_label_named
by_label name kind.Skipped = refl
by_label name kind.LeftRail = refl
by_label name (kind.RightRail input) = refl
by_label name (kind.Contact input text mods) = refl
by_label name (kind.Coil input text mods) = refl
by_label name (kind.In text mods) = refl
by_label name (kind.Out input text mods) = refl
by_label name (kind.Block type_name instance inputs in_outs outputs) = refl
by_label name (kind.Connector own input) = refl
by_label name (kind.Continuation own) = refl
by_label name (kind.Label own) = refl
by_label name (kind.Jump label input) = refl
by_label name (kind.Return input) = refl

pub connector_is : (elements : List BodyElement) (name : List ℕ) → connector_place elements name ≡ position_from (is_key_of Connectors (in_lower_case name)) 0 elements
unfolding connector_place
connector_is elements name = same_place _ (is_key_of Connectors (in_lower_case name)) 0 elements (λ (e : BodyElement). by_connector name e.kind)

pub label_is : (elements : List BodyElement) (name : List ℕ) → label_place elements name ≡ position_from (is_key_of Labels (in_lower_case name)) 0 elements
label_is elements name = same_place _ (is_key_of Labels (in_lower_case name)) 0 elements (λ (e : BodyElement). by_label name e.kind)
