-- Each rule, where it is known what an element calls and holds, is the rule.
use Rattle.std.proofs.Common.{◌≡◌, ℕ, ◌||◌, ◌&&◌, Bool, true, false, not, List, [], ◌∷◌, take, nat_eq, is_some, is_none, Option, Some, None, option_map, option_and_then, slice_get, refl, ap, if◌then◌else◌}
use Rattle.std.specs.List.{list_any, filter}
use Rattle.std.proofs.lemmas.Slice.Eq.{bytes_eq-Decides}
use Rattle.plcx_types.specs.Name.{in_lower_case}
use Rattle.plcx_model.specs.Sound.{connections_of}
use Rattle.plcx_model.specs.declared.body.Connection.{Connection}
use Rattle.plcx_model.specs.declared.body.PinIn.{PinIn}
use Rattle.plcx_model.specs.declared.body.Kind.{Kind}
use Rattle.plcx_model.specs.declared.body.Kind.TheVariants as kind
use Rattle.plcx_model.specs.declared.body.BodyElement.{BodyElement}
use Rattle.plcx_model.specs.declared.project.Pou.{Pou}
use Rattle.plcx_rules.specs.declared.callee.Callee.{Callee}
use Rattle.plcx_rules.specs.declared.callee.Callee.TheVariants as callee
use Rattle.plcx_rules.specs.declared.rule.LinkRule.{LinkRule}
use Rattle.plcx_rules.specs.declared.rule.LinkRule.TheVariants as rule
use Rattle.plcx_rules.specs.Texts.{same_name}
use Rattle.plcx_rules.specs.Declarations.{Declaration, declaration_named}
use Rattle.plcx_rules.specs.Callees.{callee_named, is_absent}
use Rattle.plcx_rules.specs.Sources.{place_of_id, connector_place, is_connector_named}
use Rattle.plcx_rules.specs.LinkRules.{is_unconnected, has_one, lacks_source, has_no_callee, instance_suits, instance_fails, leads_to, breaks_instance, breaks_formals, breaks_expression, breaks_target, breaks_connector, breaks_label, breaks_modifiers, is_label_named, is_modified_in, lends, producer_is, any_lender, has_more, breaks}
use Rattle.plcx_names.specs.Seen.{summary}
use Rattle.plcx_link.specs.Bodies.{callee_in, holding_in, standing}
use Rattle.plcx_link.specs.Outputs.{calls_function}
use Rattle.plcx_link.specs.Faults.{doubles_by, connector_by, label_by}
use Rattle.plcx_link.specs.declared.expressions.LenderFault.{LenderFault}
use Rattle.plcx_link.specs.declared.expressions.LenderFault.TheVariants as lender
use Rattle.plcx_link.specs.Blocks.{lacks_by, no_callee_by, leads_by, suits_by, instance_by, formals_by}
use Rattle.plcx_link.specs.Expressions.{expression_by, lends_by, is_modified_by, lender_fails, fails_at, any_lender_by, target_by, pins_modified, modifiers_by}
use Rattle.plcx_link.specs.Breaking.{breaks_by, item_at}
use Rattle.plcx_link.proofs.Standings.{function_is, first_of_all, none_of_all, same_number}

-- two tests that agree
any_same : {X : Type 0} (t u : X → Bool) (xs : List X) → ((x : X) → t x ≡ u x) → list_any t xs ≡ list_any u xs
any_same t u [] same = refl
any_same t u (x ∷ xs) same = rw (same x, any_same t u xs same) refl

filtered : {X : Type 0} (b c : Bool) (t : X → Bool) (x : X) (xs : List X) (rest : Bool) → t x ≡ c → list_any t xs ≡ rest → list_any t (if b then x ∷ xs else xs) ≡ ((b && c) || rest)
filtered true c t x xs rest is more = rw (is, more) refl
filtered false c t x xs rest is more = more

any_filter : {X : Type 0} (s t : X → Bool) (xs : List X) → list_any t (filter s xs) ≡ list_any (λ x. s x && t x) xs
any_filter s t [] = refl
any_filter s t (x ∷ xs) = filtered (s x) (t x) t x (filter s xs) (list_any (λ y. s y && t y) xs) refl (any_filter s t xs)

lacks_is : (pous : List Pou) (k : Kind) → lacks_by (calls_function (callee_in pous k)) k ≡ lacks_source k
unfolding callee_in lacks_source
lacks_is pous kind.Skipped = refl
lacks_is pous kind.LeftRail = refl
lacks_is pous (kind.RightRail input) = refl
lacks_is pous (kind.Contact input text mods) = refl
lacks_is pous (kind.Coil input text mods) = refl
lacks_is pous (kind.In text mods) = refl
lacks_is pous (kind.Out input text mods) = refl
lacks_is pous (kind.Block type_name instance inputs in_outs outputs) = ap (λ (f : Bool). (f && list_any is_unconnected inputs) || list_any (λ (p : PinIn). not (has_one p)) in_outs) (function_is pous type_name)
lacks_is pous (kind.Connector name input) = refl
lacks_is pous (kind.Continuation name) = refl
lacks_is pous (kind.Label name) = refl
lacks_is pous (kind.Jump label input) = refl
lacks_is pous (kind.Return input) = refl

no_callee_is : (pous : List Pou) (k : Kind) → no_callee_by (callee_in pous k) k ≡ has_no_callee pous k
unfolding callee_in has_no_callee
no_callee_is pous kind.Skipped = refl
no_callee_is pous kind.LeftRail = refl
no_callee_is pous (kind.RightRail input) = refl
no_callee_is pous (kind.Contact input text mods) = refl
no_callee_is pous (kind.Coil input text mods) = refl
no_callee_is pous (kind.In text mods) = refl
no_callee_is pous (kind.Out input text mods) = refl
no_callee_is pous (kind.Block type_name instance inputs in_outs outputs) = refl
no_callee_is pous (kind.Connector name input) = refl
no_callee_is pous (kind.Continuation name) = refl
no_callee_is pous (kind.Label name) = refl
no_callee_is pous (kind.Jump label input) = refl
no_callee_is pous (kind.Return input) = refl

leads_is : (c : Callee) (o : Option Declaration) → leads_by c (option_map summary o) ≡ leads_to c o
leads_is c None = refl
leads_is c (Some d) = refl

suits_is : (p : Pou) (c : Callee) (instance : Option (List ℕ)) → suits_by p c instance ≡ instance_suits p c instance
unfolding declaration_named
suits_is p (callee.Function f) instance = refl
suits_is p (callee.Standard k) None = refl
suits_is p (callee.Standard k) (Some name) = leads_is (callee.Standard k) (declaration_named p name)
suits_is p (callee.Block place) None = refl
suits_is p (callee.Block place) (Some name) = leads_is (callee.Block place) (declaration_named p name)

instance_is : (pous : List Pou) (p : Pou) (k : Kind) → instance_by p (callee_in pous k) k ≡ breaks_instance pous p k
unfolding callee_in breaks_instance
instance_is pous p kind.Skipped = refl
instance_is pous p kind.LeftRail = refl
instance_is pous p (kind.RightRail input) = refl
instance_is pous p (kind.Contact input text mods) = refl
instance_is pous p (kind.Coil input text mods) = refl
instance_is pous p (kind.In text mods) = refl
instance_is pous p (kind.Out input text mods) = refl
instance_is pous p (kind.Block type_name instance inputs in_outs outputs) = by (callee_named pous type_name)
  where
    by : (c : Option Callee) → instance_by p c (kind.Block type_name instance inputs in_outs outputs) ≡ instance_fails p c instance
    by None = refl
    by (Some c) = ap not (suits_is p c instance)
instance_is pous p (kind.Connector name input) = refl
instance_is pous p (kind.Continuation name) = refl
instance_is pous p (kind.Label name) = refl
instance_is pous p (kind.Jump label input) = refl
instance_is pous p (kind.Return input) = refl

formals_are : (pous : List Pou) (k : Kind) → formals_by pous (callee_in pous k) k ≡ breaks_formals pous k
unfolding callee_in breaks_formals
formals_are pous kind.Skipped = refl
formals_are pous kind.LeftRail = refl
formals_are pous (kind.RightRail input) = refl
formals_are pous (kind.Contact input text mods) = refl
formals_are pous (kind.Coil input text mods) = refl
formals_are pous (kind.In text mods) = refl
formals_are pous (kind.Out input text mods) = refl
formals_are pous (kind.Block type_name instance inputs in_outs outputs) = refl
formals_are pous (kind.Connector name input) = refl
formals_are pous (kind.Continuation name) = refl
formals_are pous (kind.Label name) = refl
formals_are pous (kind.Jump label input) = refl
formals_are pous (kind.Return input) = refl

not_some : {X : Type 0} (o : Option X) → not (is_some o) ≡ is_none o
not_some None = refl
not_some (Some x) = refl

expression_is : (pous : List Pou) (p : Pou) (k : Kind) → expression_by (holding_in pous p k) k ≡ breaks_expression pous p k
unfolding holding_in breaks_expression
expression_is pous p kind.Skipped = refl
expression_is pous p kind.LeftRail = refl
expression_is pous p (kind.RightRail input) = refl
expression_is pous p (kind.Contact input text mods) = refl
expression_is pous p (kind.Coil input text mods) = not_some _
expression_is pous p (kind.In text mods) = refl
expression_is pous p (kind.Out input text mods) = not_some _
expression_is pous p (kind.Block type_name instance inputs in_outs outputs) = refl
expression_is pous p (kind.Connector name input) = refl
expression_is pous p (kind.Continuation name) = refl
expression_is pous p (kind.Label name) = refl
expression_is pous p (kind.Jump label input) = refl
expression_is pous p (kind.Return input) = refl

lends_is : (pous : List Pou) (p : Pou) (k : Kind) → lends_by (holding_in pous p k) k ≡ lends pous p k
unfolding holding_in lends
lends_is pous p kind.Skipped = refl
lends_is pous p kind.LeftRail = refl
lends_is pous p (kind.RightRail input) = refl
lends_is pous p (kind.Contact input text mods) = refl
lends_is pous p (kind.Coil input text mods) = refl
lends_is pous p (kind.In text mods) = refl
lends_is pous p (kind.Out input text mods) = refl
lends_is pous p (kind.Block type_name instance inputs in_outs outputs) = refl
lends_is pous p (kind.Connector name input) = refl
lends_is pous p (kind.Continuation name) = refl
lends_is pous p (kind.Label name) = refl
lends_is pous p (kind.Jump label input) = refl
lends_is pous p (kind.Return input) = refl

modified_is : (k : Kind) → is_modified_by k ≡ is_modified_in k
unfolding is_modified_in
modified_is kind.Skipped = refl
modified_is kind.LeftRail = refl
modified_is (kind.RightRail input) = refl
modified_is (kind.Contact input text mods) = refl
modified_is (kind.Coil input text mods) = refl
modified_is (kind.In text mods) = refl
modified_is (kind.Out input text mods) = refl
modified_is (kind.Block type_name instance inputs in_outs outputs) = refl
modified_is (kind.Connector name input) = refl
modified_is (kind.Continuation name) = refl
modified_is (kind.Label name) = refl
modified_is (kind.Jump label input) = refl
modified_is (kind.Return input) = refl

module _ (pous : List Pou) (p : Pou) (f : LenderFault) (test : Kind → Bool) (agrees : (e : BodyElement) → lender_fails f (standing pous p e) ≡ test e.kind) where
  at_element : (o : Option BodyElement) → fails_at f (option_map (standing pous p) o) ≡ producer_is test o
  at_element None = refl
  at_element (Some e) = agrees e

  at_place : (o : Option ℕ) → fails_at f (option_and_then (λ (n : ℕ). option_map (standing pous p) (slice_get p.body.elements n)) o) ≡ producer_is test (option_and_then (slice_get p.body.elements) o)
  at_place None = refl
  at_place (Some n) = at_element (slice_get p.body.elements n)

  lenders_are : (in_outs : List PinIn) → any_lender_by (record { pous = pous; owner = p }) f in_outs ≡ any_lender test p.body.elements in_outs
  lenders_are in_outs = any_same _ _ in_outs (λ (q : PinIn). any_same _ _ q.input (λ (c : Connection). at_place (place_of_id p.body.elements c.element)))

target_is : (pous : List Pou) (p : Pou) (k : Kind) → target_by (record { pous = pous; owner = p }) (holding_in pous p k) k ≡ breaks_target pous p k
unfolding holding_in breaks_target
target_is pous p kind.Skipped = refl
target_is pous p kind.LeftRail = refl
target_is pous p (kind.RightRail input) = refl
target_is pous p (kind.Contact input text mods) = refl
target_is pous p (kind.Coil input text mods) = refl
target_is pous p (kind.In text mods) = refl
target_is pous p (kind.Out input text mods) = refl
target_is pous p (kind.Block type_name instance inputs in_outs outputs) = lenders_are pous p lender.NoTarget (λ (k : Kind). not (lends pous p k)) (λ (e : BodyElement). ap not (lends_is pous p e.kind)) in_outs
target_is pous p (kind.Connector name input) = refl
target_is pous p (kind.Continuation name) = refl
target_is pous p (kind.Label name) = refl
target_is pous p (kind.Jump label input) = refl
target_is pous p (kind.Return input) = refl

modifiers_are : (pous : List Pou) (p : Pou) (k : Kind) → modifiers_by (record { pous = pous; owner = p }) k ≡ breaks_modifiers p.body.elements k
unfolding breaks_modifiers
modifiers_are pous p kind.Skipped = refl
modifiers_are pous p kind.LeftRail = refl
modifiers_are pous p (kind.RightRail input) = refl
modifiers_are pous p (kind.Contact input text mods) = refl
modifiers_are pous p (kind.Coil input text mods) = refl
modifiers_are pous p (kind.In text mods) = refl
modifiers_are pous p (kind.Out input text mods) = refl
modifiers_are pous p (kind.Block type_name instance inputs in_outs outputs) =
    rw (any_filter (λ (q : PinIn). not (is_absent q)) (λ (q : PinIn). has_more q.mods) inputs)
    (ap (λ (b : Bool). pins_modified inputs in_outs outputs || b) (lenders_are pous p lender.Modified is_modified_in (λ (e : BodyElement). modified_is e.kind) in_outs))
modifiers_are pous p (kind.Connector name input) = refl
modifiers_are pous p (kind.Continuation name) = refl
modifiers_are pous p (kind.Label name) = refl
modifiers_are pous p (kind.Jump label input) = refl
modifiers_are pous p (kind.Return input) = refl

own_name : (name : List ℕ) → same_name name name ≡ true
own_name name = (bytes_eq-Decides (in_lower_case name) (in_lower_case name)).1 refl

connector_is : (pou : ℕ) (p : Pou) (place : ℕ) (e : BodyElement) (k : Kind) → slice_get p.body.elements place ≡ Some e → e.kind ≡ k → connector_by p.body.elements place k ≡ breaks_connector (item_at pou p place e) k
unfolding breaks_connector connector_place is_connector_named
connector_is pou p place e kind.Skipped there is = refl
connector_is pou p place e kind.LeftRail there is = refl
connector_is pou p place e (kind.RightRail input) there is = refl
connector_is pou p place e (kind.Contact input text mods) there is = refl
connector_is pou p place e (kind.Coil input text mods) there is = refl
connector_is pou p place e (kind.In text mods) there is = refl
connector_is pou p place e (kind.Out input text mods) there is = refl
connector_is pou p place e (kind.Block type_name instance inputs in_outs outputs) there is = refl
connector_is pou p place e (kind.Connector name input) there is = first_of_all (λ (f : BodyElement). is_connector_named name f.kind) p.body.elements place e there (rw is (own_name name))
connector_is pou p place e (kind.Continuation name) there is = none_of_all (λ (f : BodyElement). is_connector_named name f.kind) p.body.elements
connector_is pou p place e (kind.Label name) there is = refl
connector_is pou p place e (kind.Jump label input) there is = refl
connector_is pou p place e (kind.Return input) there is = refl

label_is : (pou : ℕ) (p : Pou) (place : ℕ) (e : BodyElement) (k : Kind) → slice_get p.body.elements place ≡ Some e → e.kind ≡ k → label_by p.body.elements place k ≡ breaks_label (item_at pou p place e) k
unfolding breaks_label is_label_named
label_is pou p place e kind.Skipped there is = refl
label_is pou p place e kind.LeftRail there is = refl
label_is pou p place e (kind.RightRail input) there is = refl
label_is pou p place e (kind.Contact input text mods) there is = refl
label_is pou p place e (kind.Coil input text mods) there is = refl
label_is pou p place e (kind.In text mods) there is = refl
label_is pou p place e (kind.Out input text mods) there is = refl
label_is pou p place e (kind.Block type_name instance inputs in_outs outputs) there is = refl
label_is pou p place e (kind.Connector name input) there is = refl
label_is pou p place e (kind.Continuation name) there is = refl
label_is pou p place e (kind.Label name) there is = first_of_all (λ (f : BodyElement). is_label_named name f.kind) p.body.elements place e there (rw is (own_name name))
label_is pou p place e (kind.Jump label input) there is = none_of_all (λ (f : BodyElement). is_label_named label f.kind) p.body.elements
label_is pou p place e (kind.Return input) there is = refl

doubled_is : (p : Pou) (place : ℕ) (e : BodyElement) → slice_get p.body.elements place ≡ Some e → doubles_by p.body.elements place e.local_id ≡ list_any (λ (f : BodyElement). nat_eq f.local_id e.local_id) (take place p.body.elements)
unfolding place_of_id
doubled_is p place e there = first_of_all (λ (f : BodyElement). nat_eq f.local_id e.local_id) p.body.elements place e there (same_number e.local_id e.local_id refl)

-- the rules are those of the definitions
pub breaks_is : (pous : List Pou) (r : LinkRule) (pou : ℕ) (p : Pou) (place : ℕ) (e : BodyElement) → slice_get p.body.elements place ≡ Some e → breaks_by (record { pous = pous; owner = p }) r place (standing pous p e) ≡ breaks pous r (item_at pou p place e)
unfolding breaks
breaks_is pous rule.LocalIds pou p place e there = doubled_is p place e there
breaks_is pous rule.References pou p place e there = any_same _ _ (connections_of e.kind) (λ (c : List Connection). refl)
breaks_is pous rule.Outputs pou p place e there = any_same _ _ (connections_of e.kind) (λ (c : List Connection). refl)
breaks_is pous rule.Several pou p place e there = ap (λ (b : Bool). not p.body.ladder && b) (any_same _ _ (connections_of e.kind) (λ (c : List Connection). refl))
breaks_is pous rule.Missing pou p place e there = lacks_is pous e.kind
breaks_is pous rule.BlockTypes pou p place e there = no_callee_is pous e.kind
breaks_is pous rule.Instances pou p place e there = instance_is pous p e.kind
breaks_is pous rule.Formals pou p place e there = formals_are pous e.kind
breaks_is pous rule.Expressions pou p place e there = expression_is pous p e.kind
breaks_is pous rule.Targets pou p place e there = target_is pous p e.kind
breaks_is pous rule.Connectors pou p place e there = connector_is pou p place e e.kind there refl
breaks_is pous rule.Labels pou p place e there = label_is pou p place e e.kind there refl
breaks_is pous rule.Modifiers pou p place e there = modifiers_are pous p e.kind
breaks_is pous rule.Ladders pou p place e there = refl
