-- Each instance of a file stands behind a task.
use Rattle.std.proofs.Common.{◌≡◌, ℕ, zero, suc, Bool, true, false, ◌||◌, ◌&&◌, not, cond, List, [], ◌∷◌, ◌++◌, refl}
use Rattle.std.specs.Prelude.{codes}
use Rattle.std.specs.Str.{bytes_eq}
use Rattle.plcx_types.specs.Limits.{max_element_depth}
use Rattle.plcx_xml.specs.Look.{name_of, children_of}
use Rattle.plcx_xml.specs.declared.tree.Node.{Node, out-Node}
use Rattle.plcx_xml.specs.declared.tree.Node.TheOpen.{Node-F}
use Rattle.plcx_xml.specs.declared.tree.Element.{Element}
use Rattle.plcx_plan.specs.declared.condition.Role.{Role}
use Rattle.plcx_plan.specs.declared.condition.Role.TheVariants as role
use Rattle.plcx_plan.specs.Items.{Item, same_role, role_below, role_of, at_node, items_below, items, at_section, in_sections, items_in}
use Rattle.plcx_plan.specs.Seen.{are_led}

more_by : (b n t : Bool) (xs : List Item) → (are_led (b || t) xs ≡ true → are_led true xs ≡ true) → ((b || n) && are_led (b || t) xs) ≡ true → are_led true xs ≡ true
more_by true n t xs again h = h
more_by false true t xs again h = again h
more_by false false t xs again h = cc

-- behind a task all the more
pub led_more : (b : Bool) (xs : List Item) → are_led b xs ≡ true → are_led true xs ≡ true
led_more true xs h = h
led_more false [] h = refl
led_more false (x ∷ xs) h = more_by false (not (same_role x.role role.Instance)) (same_role x.role role.Task) xs (led_more (same_role x.role role.Task) xs) h

append_by : (b c n : Bool) (xs ys : List Item) → (are_led c xs ≡ true → are_led c (xs ++ ys) ≡ true) → ((b || n) && are_led c xs) ≡ true → ((b || n) && are_led c (xs ++ ys)) ≡ true
append_by true c n xs ys again h = again h
append_by false c true xs ys again h = again h
append_by false c false xs ys again h = cc

at_least : (b t : Bool) (ys : List Item) → are_led b ys ≡ true → are_led (b || t) ys ≡ true
at_least true t ys h = h
at_least false true ys h = led_more false ys h
at_least false false ys h = h

pub led_append : (b : Bool) (xs ys : List Item) → are_led b xs ≡ true → are_led b ys ≡ true → are_led b (xs ++ ys) ≡ true
led_append b [] ys h k = k
led_append b (x ∷ xs) ys h k =
    let t = same_role x.role role.Task in
    append_by b (b || t) (not (same_role x.role role.Instance)) xs ys (λ g. led_append (b || t) xs ys g (at_least b t ys k)) h

-- an element that is an instance stands in a task
abbrev MayBe : Bool → Role → Type 0
MayBe b r = (b || not (same_role r role.Instance)) ≡ true

-- what stands below an element
abbrev below : Bool → Role → Bool
below b above = b || same_role above role.Task

other_or : (b c : Bool) (r : Role) → MayBe b r → MayBe b (cond c r role.Other)
other_or b true r h = h
other_or true false r h = refl
other_or false false r h = refl

resource_or : (b c : Bool) (r : Role) → MayBe b r → MayBe b (cond c role.Resource r)
resource_or true true r h = refl
resource_or false true r h = refl
resource_or b false r h = h

plain : (b : Bool) (r : Role) → not (same_role r role.Instance) ≡ true → MayBe b r
plain true r h = refl
plain false r h = h

led_below : (b : Bool) (above : Role) (name : List ℕ) → MayBe (below b above) (role_below above name)
led_below b role.Root name = plain (below b role.Root) role.Other refl
led_below b role.Resource name = other_or (below b role.Resource) (bytes_eq name (codes "task")) role.Task (plain (below b role.Resource) role.Task refl)
led_below true role.Task name = other_or true (bytes_eq name (codes "pouInstance")) role.Instance refl
led_below false role.Task name = other_or true (bytes_eq name (codes "pouInstance")) role.Instance refl
led_below b role.Instance name = plain (below b role.Instance) role.Other refl
led_below b role.Other name = plain (below b role.Other) role.Other refl

pub led_role : (b : Bool) (above : Role) (e : Element) → MayBe (below b above) (role_of above e)
led_role b above e = resource_or (below b above) (bytes_eq (name_of e) (codes "resource")) (role_below above (name_of e)) (led_below b above (name_of e))

both : (p q : Bool) → p ≡ true → q ≡ true → (p && q) ≡ true
both true q h k = k
both false q h k = cc

led_nil : (b : Bool) → are_led b [] ≡ true
led_nil b = refl

-- elements that are led wherever they may be
abbrev Leads : (Role → Element → List Item) → Type 0
Leads inner = (b : Bool) (r : Role) (e : Element) → MayBe b r → are_led b (inner r e) ≡ true

led_node : (inner : Role → Element → List Item) → Leads inner → (b : Bool) (above : Role) (n : Node-F Node Element) → are_led (below b above) (at_node inner above n) ≡ true
led_node inner leads b above (Node-F.Element e) = leads (below b above) (role_of above e) e (led_role b above e)
led_node inner leads b above (Node-F.Text t) = refl

led_nodes : (inner : Role → Element → List Item) → Leads inner → (b : Bool) (above : Role) (ns : List Node) → are_led (below b above) (items_below inner above ns) ≡ true
unfolding items_below
led_nodes inner leads b above [] = refl
led_nodes inner leads b above (n ∷ ns) = led_append (below b above) (at_node inner above (out-Node n)) (items_below inner above ns) (led_node inner leads b above (out-Node n)) (led_nodes inner leads b above ns)

pub led_items : (n : ℕ) → Leads (items n)
unfolding items
led_items zero b r e may = refl
led_items (suc n) b r e may = both (b || not (same_role r role.Instance)) _ may (led_nodes (items n) (led_items n) b r (children_of e))

led_if : (c : Bool) (xs : List Item) → are_led false xs ≡ true → are_led false (cond c xs []) ≡ true
led_if true xs h = h
led_if false xs h = refl

led_section : (n : Node-F Node Element) → are_led false (at_section n) ≡ true
led_section (Node-F.Element e) = led_if (bytes_eq (name_of e) (codes "instances")) (items max_element_depth role.Other e) (led_items max_element_depth false role.Other e refl)
led_section (Node-F.Text t) = refl

led_sections : (ns : List Node) → are_led false (in_sections ns) ≡ true
unfolding in_sections
led_sections [] = refl
led_sections (n ∷ ns) = led_append false (at_section (out-Node n)) (in_sections ns) (led_section (out-Node n)) (led_sections ns)

pub all_led : (root : Element) → are_led false (items_in root) ≡ true
unfolding items_in
all_led root = led_sections (children_of root)
