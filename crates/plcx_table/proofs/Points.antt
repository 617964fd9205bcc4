-- Connection points in an element.
use Rattle.std.proofs.Common.{◌≡◌, ℕ, ◌+◌, ◌<◌, Bool, true, false, ◌||◌, List, length, drop, get_or, refl, sym, ap, ◌∙◌}
use Rattle.std.specs.List.{list_any}
use Rattle.std.proofs.lemmas.List.{at_drop_more}
use Rattle.plcx_table.proofs.Lists.{any_of_map}
use Rattle.plcx_xml.specs.Look.{name_of, children_of}
use Rattle.plcx_xml.specs.declared.tree.Text.{Text}
use Rattle.plcx_xml.specs.declared.tree.Node.{fold-Node, fold-roll-Node}
use Rattle.plcx_xml.specs.declared.tree.Node.TheOpen.{Node-F}
use Rattle.plcx_xml.specs.declared.tree.Node.TheVariants as node
use Rattle.plcx_xml.specs.declared.tree.Node.TheVariants.{rolls-Element, rolls-Text}
use Rattle.plcx_xml.specs.declared.tree.Element.{Element, fold_out-Element}
use Rattle.plcx_table.specs.Constructs.{is_point, node_points, element_points, has_point, node_has_point}

pub point_element : (e : Element) → has_point e ≡ (is_point (name_of e) || list_any node_has_point (children_of e))
unfolding has_point node_has_point
point_element e = fold_out-Element Bool Bool node_points element_points e ∙ ap (λ (b : Bool). is_point (name_of e) || b) (any_of_map (λ (points : Bool). points) (fold-Node Bool Bool node_points element_points) (children_of e))

pub point_child : (e : Element) → node_has_point (node.Element e) ≡ has_point e
unfolding has_point node_has_point
point_child e = ap (fold-Node Bool Bool node_points element_points) (sym (rolls-Element _)) ∙ fold-roll-Node Bool Bool node_points element_points (Node-F.Element e)

pub point_text : (t : Text) → node_has_point (node.Text t) ≡ false
unfolding node_has_point
point_text t = ap (fold-Node Bool Bool node_points element_points) (sym (rolls-Text _)) ∙ fold-roll-Node Bool Bool node_points element_points (Node-F.Text t)

last-true : (b : Bool) → (b || true) ≡ true
last-true true = refl
last-true false = refl

pub point_some : (e : Element) → list_any node_has_point (children_of e) ≡ true → true ≡ has_point e
point_some e inner = sym (point_element e ∙ rw inner (last-true (is_point (name_of e))))

pub point_none : (e : Element) → is_point (name_of e) ≡ false → list_any node_has_point (children_of e) ≡ false → false ≡ has_point e
point_none e name inner = sym (point_element e ∙ rw (name, inner) refl)

-- where one of those that are left passes, some pass
pub one-passes : {A : Type 0} (f : A → Bool) (xs : List A) (i : ℕ) (x : A) → i < length xs → x ≡ get_or xs i x → f x ≡ true → list_any f (drop i xs) ≡ list_any f xs → list_any f xs ≡ true
one-passes f xs i x h at passes before =
    sym before ∙ at_drop_more (list_any f) xs i x h ∙ ap (λ y. f y || list_any f (drop (i + 1) xs)) (sym at) ∙ ap (λ (b : Bool). b || list_any f (drop (i + 1) xs)) passes
