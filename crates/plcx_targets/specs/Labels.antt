-- Serves proofs: which network a label stands in, as the code keeps it.
use Rattle.std.specs.Prelude.{◌≡◌, ℕ, Bool, List, Vec, Option, Some, None, map, slice_get}
use Rattle.std.specs.declared.alloc.Global.{Global}
use Rattle.std.specs.List.{list_any, filter_map, position_from}
use Rattle.plcx_meaning.specs.Diagram.{ElementKind, Label, DiagramElement}
use Rattle.plcx_names.specs.Told.{place_at, is_key}
use Rattle.plcx_drawn.specs.declared.element.Element.{Element}
use Rattle.plcx_drawn.specs.Shown.{shown_element}

-- the elements at these places, in this order
abbrev pub network_of : List Element → List ℕ → List DiagramElement
network_of elements places = filter_map (slice_get (map shown_element elements)) places

-- the name of a label
abbrev pub label_in : ElementKind → Option (List ℕ)
label_in (Label name) = Some name
label_in _ = None

-- a label of that name, which is given in lower case
abbrev pub is_labelled : List ℕ → DiagramElement → Bool
is_labelled key e = is_key key (label_in e.kind)

-- the table has the number of the first network in which each label stands
abbrev pub LabelsTold : List (List DiagramElement) → List (Vec ℕ Global × ℕ) → Type 0
LabelsTold networks entries = (q : List ℕ) → place_at q entries ≡ position_from (list_any (is_labelled q)) 0 networks
