-- The text of a project that fits is ready.
use Rattle.std.proofs.Common.{◌≡◌, ◌≢◌, ◌⊎◌, inl, inr, ℕ, zero, suc, true, false, ◌||◌, List, [], ◌∷◌, Option, Some, None, map, refl, sym, ap, ◌∙◌, subst, arith, if◌then◌else◌}
use Rattle.std.specs.Prelude.{is_some}
use Rattle.std.specs.List.{list_any, Contains}
use Rattle.std.specs.Str.{bytes_eq}
use Rattle.std.specs.Option.{option_map}
use Rattle.std.proofs.lemmas.Bool.{or_parts}
use Rattle.plcx_types.specs.declared.ty.Ty.{Ty}
use Rattle.plcx_types.specs.declared.ty.Ty.TheVariants as ty
use Rattle.plcx_types.specs.Name.{in_lower_case}
use Rattle.plcx_types.specs.Reserved.{is_conversion, is_listed, is_own, is_reserved}
use Rattle.plcx_types.specs.TypeName.{type_name, type_named}
use Rattle.plcx_std.specs.declared.kind.StdKind.{StdKind}
use Rattle.plcx_std.specs.Kind.{kind_named}
use Rattle.plcx_types.specs.Lists.{Each}
use Rattle.plcx_meaning.specs.Base.{Memory, AtEdge, AtOutput, are_distinct, top}
use Rattle.plcx_meaning.specs.Tree.{PouKind, Program, Class, Local, InOut, Temp, PouText}
use Rattle.plcx_meaning.specs.Layout.{Variable, variable, block_variables, variables_of, variable_named}
use Rattle.plcx_meaning.specs.Diagram.{Pou, Project}
use Rattle.plcx_meaning.specs.Diagram as diagram
use Rattle.plcx_meaning.specs.Execute as text
use Rattle.plcx_meaning.specs.Templates.{wire_name, memory_name, counter_name, pou_text, unit_of}
use Rattle.plcx_meaning.specs.Ready.{unit_knows, VariableIsReady, user_block, TextNests, PouIsReady, IsReady}
use Rattle.plcx_meaning.specs.Fits.{InOutsFit, VariableFits, PouFits, ProjectFits}
use Rattle.plcx_meaning.specs.Fits as promise
use Rattle.plcx_meaning.proofs.Names.{bytes_self}
use Rattle.plcx_meaning.proofs.Lists.{each_at, each_append, each_map, each_flat_map, each_from, each_weaker, IsNew, distinct_parts}
use Rattle.plcx_meaning.proofs.Lookups.{own_variables, text_variables}
use Rattle.plcx_meaning.proofs.LookupsOwn.{type_of_name, own_variable}
use Rattle.plcx_meaning.proofs.StaticsWorlds.{block_text, block_fits, own_each}
use Rattle.plcx_meaning.proofs.StaticsBodies.{ask_body}
use Rattle.plcx_meaning.proofs.ReadyBodies.{body_ready}
use Rattle.plcx_meaning.proofs.ReadyNames.{all_distinct}
use Rattle.plcx_meaning.proofs.ReadySizes.{size_bound}

pub each_both : {A : Type 0} (P Q R : A → Type 0) (xs : List A) → Each P xs → Each Q xs → ((x : A) → P x → Q x → R x) → Each R xs
each_both P Q R [] h k f = tt
each_both P Q R (x ∷ xs) h k f = (f x h.0 k.0, each_both P Q R xs h.1 k.1 f)

not_listed : (x : List ℕ) → is_reserved x ≡ false → is_listed x ≡ false
not_listed x h = (or_parts (is_listed x) (is_own x) h).0

memory_free : (k : Memory) → is_listed (memory_name k) ≡ false
unfolding is_conversion
memory_free (AtEdge id) = refl
memory_free (AtOutput id pin) = refl

wire_free : (id : ℕ) (pin : List ℕ) → is_listed (wire_name id pin) ≡ false
unfolding is_conversion
wire_free id pin = refl

-- each variable is found under its own name
pub named_each : (vs : List Variable) → are_distinct (map (λ (v : Variable). in_lower_case v.name) vs) ≡ true → Each (λ (v : Variable). variable_named (in_lower_case v.name) vs ≡ Some v) vs
named_each [] h = tt
named_each (v ∷ vs) h =
    let parts = distinct_parts (in_lower_case v.name) (map (λ (w : Variable). in_lower_case w.name) vs) h in
    (rw (bytes_self (in_lower_case v.name)) refl, each_both (λ (w : Variable). bytes_eq (in_lower_case v.name) (in_lower_case w.name) ≡ false) (λ (w : Variable). variable_named (in_lower_case w.name) vs ≡ Some w) _ vs (others vs parts.0) (named_each vs parts.1) (λ w apart found. rw (apart) found))
  where
    others : (ws : List Variable) → IsNew (in_lower_case v.name) (map (λ (w : Variable). in_lower_case w.name) ws) → Each (λ (w : Variable). bytes_eq (in_lower_case v.name) (in_lower_case w.name) ≡ false) ws
    others [] e = tt
    others (w ∷ ws) e = let p = or_parts (bytes_eq (in_lower_case v.name) (in_lower_case w.name)) (list_any (bytes_eq (in_lower_case v.name)) (map (λ (u : Variable). in_lower_case u.name) ws)) e in (p.0, others ws p.1)

module _ (project : Project) where
  abbrev unit : List PouText
  unit = unit_of project

  some_mapped : (o : Option Pou) → is_some (option_map pou_text o) ≡ is_some o
  some_mapped None = refl
  some_mapped (Some q) = refl

  known_text : (type : List ℕ) → unit_knows unit type ≡ promise.project_knows project type
  known_text type = ap (λ b. is_some (type_named type) || (is_some (kind_named type) || b)) (ap is_some (block_text type project) ∙ some_mapped (diagram.block_named type project))

  -- the compiler's own variables
  own_ready : (kind : PouKind) (class : Class) (name : List ℕ) (t : Ty) → class ≢ InOut → is_listed name ≡ false → VariableIsReady unit kind (own_variable class name t)
  own_ready kind class name t apart free = record {
    free = free;
    known = ap (λ o. is_some o || (is_some (kind_named (type_name t)) || is_some (text.block_named (type_name t) unit))) (type_of_name t);
    initial = λ value e. absurd (cc);
    instance = λ e. absurd (clash (type_of_name t) e);
    in_out = λ e. absurd (apart e);
  }
    where
      clash : {o : Option Ty} → o ≡ Some t → o ≡ None → ⊥
      clash h e = let k : Some t ≡ None = sym h ∙ e in absurd (cc)

  in_outs_stand : (p : Pou) → Each (InOutsFit p.kind) p.lists → Each (λ (v : Variable). v.class ≡ InOut → p.kind ≢ Program) (variables_of p.lists)
  in_outs_stand p h = each_flat_map _ block_variables p.lists (each_weaker (InOutsFit p.kind) _ p.lists (λ b fit. each_map _ (variable b.class b.mark) b.declarations (each_from _ b.declarations (λ d there is. (each_at _ b.declarations d (fit is).1 there).0))) h)

  variables_ready : (p : Pou) → PouFits project p → Each (VariableIsReady unit p.kind) (variables_of (pou_text p).blocks)
  unfolding is_conversion
  variables_ready p fits =
      subst (Each (VariableIsReady unit p.kind)) (sym (text_variables p))
      (each_append _ (variables_of p.lists) (own_variables p)
      (each_both (VariableFits project) (λ (v : Variable). v.class ≡ InOut → p.kind ≢ Program) _ (variables_of p.lists) fits.variables (in_outs_stand p fits.in_outs) (λ v h stands.
      record { free = not_listed v.name h.name.2; known = known_text v.ty ∙ h.known; initial = h.initial; instance = h.instance; in_out = stands }))
      (own_each (VariableIsReady unit p.kind) (λ k t. own_ready p.kind Local (memory_name k) t (λ e. cc) (memory_free k)) (λ id pin t. own_ready p.kind Temp (wire_name id pin) t (λ e. cc) (wire_free id pin)) (own_ready p.kind Temp counter_name ty.Dint (λ e. cc) refl) p))

  -- chains of instances
  no_user : (v : Variable) (t : Ty) → type_named v.ty ≡ Some t → user_block unit v ≡ None
  no_user v t h = ap (λ o. if is_some o || is_some (kind_named v.ty) then None else text.block_named v.ty unit) h

  user_is : (v : Variable) → user_block unit v ≡ None ⊎ ((type_named v.ty ≡ None) × (kind_named v.ty ≡ None) × (user_block unit v ≡ option_map pou_text (diagram.block_named v.ty project)))
  user_is v = by (type_named v.ty) refl (kind_named v.ty) refl
    where
      by : (o : Option Ty) → type_named v.ty ≡ o → (k : Option StdKind) → kind_named v.ty ≡ k → user_block unit v ≡ None ⊎ ((type_named v.ty ≡ None) × (kind_named v.ty ≡ None) × (user_block unit v ≡ option_map pou_text (diagram.block_named v.ty project)))
      by (Some t) e k f = inl (no_user v t e)
      by None e (Some k) f = inl (ap (λ o. if is_some o || is_some (kind_named v.ty) then None else text.block_named v.ty unit) e ∙ ap (λ o. if is_some o then None else text.block_named v.ty unit) f)
      by None e None f =
          inr (e, f, ap (λ o. if is_some o || is_some (kind_named v.ty) then None else text.block_named v.ty unit) e ∙ ap (λ o. if is_some o then None else text.block_named v.ty unit) f ∙ block_text v.ty project)

  own_users : (p : Pou) → Each (λ (v : Variable). user_block unit v ≡ None) (own_variables p)
  own_users p = own_each (λ (v : Variable). user_block unit v ≡ None) (λ k t. no_user (own_variable Local (memory_name k) t) t (type_of_name t)) (λ id pin t. no_user (own_variable Temp (wire_name id pin) t) t (type_of_name t)) refl p

  nests_ready : Each (PouFits project) project → (n : ℕ) (p : Pou) → PouFits project p → promise.PouNests n project p → TextNests n unit (pou_text p)
  nests_ready all zero p fits nests =
      subst (Each (λ (v : Variable). user_block unit v ≡ None)) (sym (text_variables p))
      (each_append _ (variables_of p.lists) (own_variables p)
      (each_weaker (λ (v : Variable). variable_named (in_lower_case v.name) (variables_of p.lists) ≡ Some v) _ (variables_of p.lists) (λ v found.
      elim (user_is v) [ inl e ↦ e | inr h ↦ h.2 ∙ ap (option_map pou_text) (nests (in_lower_case v.name) v found h.0 h.1) ]) (named_each (variables_of p.lists) fits.distinct))
      (own_users p))
  nests_ready all (suc n) p fits nests =
      subst (Each (λ (v : Variable). (q : PouText) → user_block unit v ≡ Some q → TextNests n unit q)) (sym (text_variables p))
      (each_append _ (variables_of p.lists) (own_variables p)
      (each_weaker (λ (v : Variable). variable_named (in_lower_case v.name) (variables_of p.lists) ≡ Some v) _ (variables_of p.lists) (λ v found.
      elim (user_is v) [
        | inl e ↦ (λ q h. let k : None ≡ Some q = sym e ∙ h in absurd (cc))
        | inr h ↦ (λ q user.
            let b = nests (in_lower_case v.name) v found h.0 h.1 in
            let same : Some (pou_text b.0) ≡ Some q = sym (h.2 ∙ ap (option_map pou_text) b.1) ∙ user in
            let is : pou_text b.0 ≡ q = cc in
            subst (TextNests n unit) is (nests_ready all n b.0 (block_fits project v.ty project b.0 all b.1) b.2))
      ]) (named_each (variables_of p.lists) fits.distinct))
      (each_weaker (λ (v : Variable). user_block unit v ≡ None) _ (own_variables p) (λ v none q h. let k : None ≡ Some q = sym none ∙ h in absurd (cc)) (own_users p)))

  pou_ready : ProjectFits project → (p : Pou) → Contains project p → PouFits project p → promise.PouNests 16 project p → PouIsReady unit (pou_text p)
  pou_ready fits p there one nests = record {
    free = not_listed p.name one.name.2;
    distinct = all_distinct project p one;
    variables = variables_ready p one;
    body = body_ready project p fits there (ask_body project p fits there top (record { path = refl; bound = λ key. refl }));
    nests = nests_ready fits.pous 16 p one nests;
    small = let most = size_bound project (variables_of p.lists) 18 [] p in let leaves = one.leaves in let parts = one.parts in omega arith;
  }

  unit_names : (ps : Project) → map (λ (p : PouText). in_lower_case p.name) (unit_of ps) ≡ map (λ (p : Pou). in_lower_case p.name) ps
  unit_names [] = refl
  unit_names (p ∷ ps) = ap (λ xs. in_lower_case p.name ∷ xs) (unit_names ps)

  pub unit_ready : ProjectFits project → IsReady unit
  unit_ready fits = record {
    distinct = ap are_distinct (unit_names project) ∙ fits.names;
    pous = each_map (PouIsReady unit) pou_text project (each_from _ project (λ p there. pou_ready fits p there (each_at (PouFits project) project p fits.pous there) (each_at (promise.PouNests 16 project) project p fits.nests there)));
  }
