-- The variables of lists, and what elements remember.
use Rattle.std.proofs.Common.{◌≡◌, ℕ, ◌+◌, ◌<◌, true, false, List, [], ◌∷◌, ◌++◌, Option, Some, map, filter, take, get_or, length, refl, sym, ap, ◌∙◌, subst, append_assoc}
use Rattle.std.specs.Prelude.{if◌then◌else◌}
use Rattle.std.specs.List.{flat_map}
use Rattle.std.proofs.lemmas.List.{map-append, take_more}
use Rattle.std.proofs.lemmas.List.Elements.{filter-append}
use Rattle.plcx_types.specs.Name.{in_lower_case}
use Rattle.plcx_meaning.specs.Base.{Memory, AtEdge, AtOutput}
use Rattle.plcx_meaning.specs.Diagram as diagram
use Rattle.plcx_meaning.specs.Diagram.{Project, has_edge}
use Rattle.plcx_meaning.specs.Layout.{variable, block_variables, variables_of}
use Rattle.plcx_model.specs.declared.project.Pou.{Pou}
use Rattle.plcx_model.specs.declared.project.VarList.{VarList}
use Rattle.plcx_model.specs.declared.project.Variable.{Variable}
use Rattle.plcx_view.specs.Declared.{class_of, mark_of, declaration_of, list_of}
use Rattle.plcx_drawn.specs.declared.element.Element.{Element}
use Rattle.plcx_drawn.specs.declared.element.Port.{Port}
use Rattle.plcx_drawn.specs.Shown.{shown_port, shown_element}
use Rattle.plcx_tables.specs.declared.variables.Declared.{Declared}
use Rattle.plcx_tables.specs.Telling.{Told, told, shown}
use Rattle.plcx_tables.specs.Owned.{in_outs_of, outputs_of, remembered_by, remembered, places_of}

-- what is told of a variable of a list
abbrev pub told_in : Project → List Pou → VarList → Variable → Told
told_in project pous list v = told project (variable (class_of list.class) (mark_of list) (declaration_of pous v))

-- and of all of it
pub of_list : (project : Project) (pous : List Pou) (list : VarList) → map (told_in project pous list) list.variables ≡ map (told project) (block_variables (list_of pous list))
of_list project pous list = from list.variables
  where
    from : (vs : List Variable) → map (told_in project pous list) vs ≡ map (told project) (map (variable (class_of list.class) (mark_of list)) (map (declaration_of pous) vs))
    from [] = refl
    from (v ∷ vs) = ap (λ ts. told_in project pous list v ∷ ts) (from vs)

-- and of all lists
pub of_lists : (project : Project) (pous : List Pou) (lists : List VarList) → flat_map (λ list. map (told project) (block_variables (list_of pous list))) lists ≡ map (told project) (variables_of (map (list_of pous) lists))
of_lists project pous [] = refl
of_lists project pous (list ∷ lists) =
    ap (λ ts. map (told project) (block_variables (list_of pous list)) ++ ts) (of_lists project pous lists)
    ∙ sym (map-append (told project) (block_variables (list_of pous list)) (variables_of (map (list_of pous) lists)))

-- one variable more, which is an in-out or not
pub in_out_more : (ds : List Declared) (d : Declared) → d.in_out ≡ true → in_outs_of (map shown (ds ++ d ∷ [])) ≡ in_outs_of (map shown ds) ++ in_lower_case d.name.now ∷ []
in_out_more ds d is =
    ap in_outs_of (map-append shown ds (d ∷ []))
    ∙ ap (map (λ (t : Told). in_lower_case t.name)) (filter-append (λ (t : Told). t.in_out) (map shown ds) (shown d ∷ []))
    ∙ map-append (λ (t : Told). in_lower_case t.name) (filter (λ (t : Told). t.in_out) (map shown ds)) (filter (λ (t : Told). t.in_out) (shown d ∷ []))
    ∙ ap (λ b. in_outs_of (map shown ds) ++ map (λ (t : Told). in_lower_case t.name) (if b then shown d ∷ [] else [])) is

pub in_out_none : (ds : List Declared) (d : Declared) → d.in_out ≡ false → in_outs_of (map shown (ds ++ d ∷ [])) ≡ in_outs_of (map shown ds)
in_out_none ds d is =
    ap in_outs_of (map-append shown ds (d ∷ []))
    ∙ ap (map (λ (t : Told). in_lower_case t.name)) (filter-append (λ (t : Told). t.in_out) (map shown ds) (shown d ∷ []))
    ∙ ap (λ b. map (λ (t : Told). in_lower_case t.name) (filter (λ (t : Told). t.in_out) (map shown ds) ++ (if b then shown d ∷ [] else []))) is
    ∙ nothing (filter (λ (t : Told). t.in_out) (map shown ds))
  where
    nothing : (ts : List Told) → map (λ (t : Told). in_lower_case t.name) (ts ++ []) ≡ map (λ (t : Told). in_lower_case t.name) ts
    nothing [] = refl
    nothing (t ∷ ts) = ap (λ ns. in_lower_case t.name ∷ ns) (nothing ts)

-- one output more
module _ (P : List (Option Memory) → Type 0) where
  pub fed_more : (id : ℕ) (before : List Memory) (fed : List Port) (i : ℕ) (d : Port) → i < length fed → P (places_of (before ++ outputs_of id (map shown_port (take i fed))) ++ Some (AtOutput id (get_or fed i d).pin.now) ∷ [])
      → P (places_of (before ++ outputs_of id (map shown_port (take (i + 1) fed))))
  fed_more id before fed i d low h = subst P (sym (ap (λ (ms : List Memory). places_of (before ++ ms)) (more ∙ map-append (λ (p : diagram.Port). AtOutput id p.pin) (map shown_port (take i fed)) (shown_port (get_or fed i d) ∷ []))
      ∙ place_more before (outputs_of id (map shown_port (take i fed))) (AtOutput id (get_or fed i d).pin.now))) h
    where
      more : outputs_of id (map shown_port (take (i + 1) fed)) ≡ outputs_of id (map shown_port (take i fed) ++ shown_port (get_or fed i d) ∷ [])
      more = ap (outputs_of id) (ap (map shown_port) (take_more fed i d low) ∙ map-append shown_port (take i fed) (get_or fed i d ∷ []))

      place_more : (before ms : List Memory) (m : Memory) → places_of (before ++ (ms ++ m ∷ [])) ≡ places_of (before ++ ms) ++ Some m ∷ []
      place_more before ms m = ap places_of (sym (append_assoc before ms (m ∷ []))) ∙ map-append Some (before ++ ms) (m ∷ [])

  -- an element with an edge
  pub edged_memories : (before : List Memory) (e : Element) (fed : List Port) → fed ≡ e.fed → has_edge (shown_element e).kind ≡ true → P (places_of ((before ++ AtEdge e.id ∷ []) ++ outputs_of e.id (map shown_port fed)))
      → P (places_of (before ++ remembered_by (shown_element e)))
  edged_memories before e fed is edge h = subst (λ ms. P (places_of ms)) (
      ap (λ (ports : List Port). (before ++ AtEdge e.id ∷ []) ++ outputs_of e.id (map shown_port ports)) is
      ∙ append_assoc before (AtEdge e.id ∷ []) (outputs_of e.id (map shown_port e.fed))
      ∙ ap (λ b. before ++ ((if b then AtEdge e.id ∷ [] else []) ++ outputs_of e.id (map shown_port e.fed))) (sym edge)) h

  -- all elements
  pub remembered_all : (es : List Element) → P (places_of (flat_map (λ (e : Element). remembered_by (shown_element e)) es)) → P (places_of (remembered (map shown_element es)))
  remembered_all es h = subst (λ ms. P (places_of ms)) (from es) h
    where
      from : (es : List Element) → flat_map (λ (e : Element). remembered_by (shown_element e)) es ≡ remembered (map shown_element es)
      from [] = refl
      from (e ∷ es) = ap (λ (ms : List Memory). remembered_by (shown_element e) ++ ms) (from es)
