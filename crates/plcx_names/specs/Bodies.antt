-- Where names and localIds stand in a body, as the code keeps them.
use Rattle.std.specs.Prelude.{◌≡◌, ℕ, Bool, List, Vec, Option, Some, None, nat_eq}
use Rattle.std.specs.declared.alloc.Global.{Global}
use Rattle.std.specs.List.{position_from}
use Rattle.plcx_model.specs.declared.body.BodyElement.{BodyElement}
use Rattle.plcx_model.specs.declared.body.Kind.{Kind}
use Rattle.plcx_model.specs.declared.body.Kind.TheVariants as kind
use Rattle.plcx_rules.specs.LinkRules.{is_label_named}
use Rattle.plcx_names.specs.declared.places.Naming.{Naming}
use Rattle.plcx_names.specs.declared.places.Naming.TheVariants.{Connectors, Labels}
use Rattle.plcx_names.specs.Told.{place_at, place_of_number, is_key}

-- the name of a connector or a label
abbrev pub name_in : Naming → Kind → Option (List ℕ)
name_in Connectors (kind.Connector name input) = Some name
name_in Labels (kind.Label name) = Some name
name_in _ _ = None

-- an element has that name, which is given in lower case
abbrev pub is_key_of : Naming → List ℕ → BodyElement → Bool
is_key_of naming key e = is_key key (name_in naming e.kind)

-- the place of the first label of that name
abbrev pub label_place : List BodyElement → List ℕ → Option ℕ
label_place elements name = position_from (λ (e : BodyElement). is_label_named name e.kind) 0 elements

-- the table has the place of each localId
abbrev pub IdsTold : List BodyElement → List (ℕ × ℕ) → Type 0
IdsTold elements entries = (q : ℕ) → place_of_number q entries ≡ position_from (λ (e : BodyElement). nat_eq e.local_id q) 0 elements

-- the table has the place of each name
abbrev pub NamesTold : Naming → List BodyElement → List (Vec ℕ Global × ℕ) → Type 0
NamesTold naming elements entries = (q : List ℕ) → place_at q entries ≡ position_from (is_key_of naming q) 0 elements
