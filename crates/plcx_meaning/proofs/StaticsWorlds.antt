-- What the names of types stand for in a project and in its text: the text has the compiler's own variables behind those of the diagram.
use Rattle.std.proofs.Common.{◌≡◌, ℕ, Bool, true, false, cond, not, ◌&&◌, List, [], ◌∷◌, ◌++◌, Option, Some, None, refl, sym, ap, ◌∙◌, subst, append-nil}
use Rattle.std.specs.Prelude.{if◌then◌else◌}
use Rattle.std.specs.List.{list_all, flat_map}
use Rattle.std.specs.Option.{option_map}
use Rattle.std.specs.Str.{bytes_eq}
use Rattle.std.proofs.lemmas.Bool.{and_parts, not-true}
use Rattle.plcx_types.specs.declared.ty.Ty.{Ty}
use Rattle.plcx_types.specs.declared.ty.Ty.TheVariants as ty
use Rattle.plcx_types.specs.Name.{in_lower_case}
use Rattle.plcx_types.specs.Reserved.{is_own}
use Rattle.plcx_std.specs.declared.kind.StdKind.{StdKind}
use Rattle.plcx_std.specs.declared.kind.StdKind.TheVariants as kind
use Rattle.plcx_std.specs.Kind.{kind_named}
use Rattle.plcx_types.specs.Lists.{Each}
use Rattle.plcx_meaning.specs.Base.{Memory, AtEdge, AtOutput}
use Rattle.plcx_meaning.specs.Tree.{Local, Temp, Plain, Declaration, PouText}
use Rattle.plcx_meaning.specs.Standard.{pin_blocks}
use Rattle.plcx_meaning.specs.Layout.{Variable, variable, variables_of, variable_named, composed}
use Rattle.plcx_meaning.specs.Diagram.{Port, ports, has_edge, is_program, DiagramElement, Pou, Project, has_jump}
use Rattle.plcx_meaning.specs.Diagram as diagram
use Rattle.plcx_meaning.specs.Evaluate as evaluate
use Rattle.plcx_meaning.specs.Execute as text
use Rattle.plcx_meaning.specs.Templates.{wire_name, memory_name, counter_name, own, element_memories, element_wires, counter, pou_text, unit_of}
use Rattle.plcx_meaning.specs.Fits.{PouFits, ProjectFits}
use Rattle.plcx_meaning.proofs.Names.{wire_own, memory_own, counter_own}
use Rattle.plcx_meaning.proofs.Lists.{each_append, each_map, each_flat_map, each_from}
use Rattle.plcx_meaning.proofs.Lookups.{kept_variables, passing_variables, own_variables, text_variables, IsOwnVariable, IsDeclaredVariable, named_alone, declared_not_named}
use Rattle.plcx_meaning.proofs.LookupsOwn.{own_variable, variables_declared}

-- the function block of a name is one of the text
pub block_text : (name : List ℕ) (project : Project) → text.block_named name (unit_of project) ≡ option_map pou_text (diagram.block_named name project)
block_text name [] = refl
block_text name (p ∷ ps) = by_test (not (is_program p.kind) && bytes_eq (in_lower_case p.name) (in_lower_case name)) (block_text name ps)
  where
    by_test : (b : Bool) → text.block_named name (unit_of ps) ≡ option_map pou_text (diagram.block_named name ps)
        → cond b (Some (pou_text p)) (text.block_named name (unit_of ps)) ≡ option_map pou_text (cond b (Some p) (diagram.block_named name ps))
    by_test true later = refl
    by_test false later = later

-- what the checks promise holds of the block of a name
pub block_fits : (project : Project) (name : List ℕ) (ps : Project) (q : Pou) → Each (PouFits project) ps → diagram.block_named name ps ≡ Some q → PouFits project q
block_fits project name [] q all h = absurd (cc)
block_fits project name (p ∷ ps) q all h = by_test (not (is_program p.kind) && bytes_eq (in_lower_case p.name) (in_lower_case name)) (block_fits project name ps q all.1) h
  where
    by_test : (b : Bool) → (diagram.block_named name ps ≡ Some q → PouFits project q) → cond b (Some p) (diagram.block_named name ps) ≡ Some q → PouFits project q
    by_test true later e = let same : p ≡ q = cc in subst (PouFits project) same all.0
    by_test false later e = later e

-- the variables of a block that the diagram doesn't have
abbrev pub hidden_of : Option Pou → List Variable
hidden_of None = []
hidden_of (Some q) = own_variables q

abbrev pub hidden_by : Project → List ℕ → Option StdKind → List Variable
hidden_by project name None = hidden_of (diagram.block_named (in_lower_case name) project)
hidden_by project name (Some k) = []

abbrev pub hidden : Project → List ℕ → List Variable
hidden project name = hidden_by project name (kind_named name)

blocks_of_option : (o : Option Pou) → variables_of (elim (option_map pou_text o) [ Some p ↦ p.blocks | None ↦ [] ]) ≡ variables_of (elim o [ Some p ↦ p.lists | None ↦ [] ]) ++ hidden_of o
blocks_of_option None = refl
blocks_of_option (Some q) = text_variables q

pub world_text : (project : Project) (key : List ℕ) → variables_of (text.world_of (unit_of project) key) ≡ variables_of (evaluate.world_of project key) ++ hidden_of (diagram.block_named key project)
world_text project key = ap (λ (o : Option PouText). variables_of (elim o [ Some p ↦ p.blocks | None ↦ [] ])) (block_text key project) ∙ blocks_of_option (diagram.block_named key project)

pub text_composed : (project : Project) (name : List ℕ) → composed (text.world_of (unit_of project)) name ≡ composed (evaluate.world_of project) name ++ hidden project name
text_composed project name = by_kind (kind_named name)
  where
    by_kind : (o : Option StdKind) → elim o [ Some k ↦ variables_of (pin_blocks k) | None ↦ variables_of (text.world_of (unit_of project) (in_lower_case name)) ]
        ≡ elim o [ Some k ↦ variables_of (pin_blocks k) | None ↦ variables_of (evaluate.world_of project (in_lower_case name)) ] ++ hidden_by project name o
    by_kind None = world_text project (in_lower_case name)
    by_kind (Some k) = sym (append-nil (variables_of (pin_blocks k)))

-- what holds of each memory, each wire and the counter holds of all that is hidden
module _ (P : Variable → Type 0) (of_memory : (k : Memory) (t : Ty) → P (own_variable Local (memory_name k) t)) (of_wire : (id : ℕ) (pin : List ℕ) (t : Ty) → P (own_variable Temp (wire_name id pin) t)) (of_counter : P (own_variable Temp counter_name ty.Dint)) where
  edge_each : (b : Bool) (id : ℕ) → Each (λ (d : Declaration). P (variable Local Plain d)) (if b then own (memory_name (AtEdge id)) ty.Bool ∷ [] else [])
  edge_each true id = (of_memory (AtEdge id) ty.Bool, tt)
  edge_each false id = tt

  counter_each : (b : Bool) → Each (λ (d : Declaration). P (variable Temp Plain d)) (if b then own counter_name ty.Dint ∷ [] else [])
  counter_each true = (of_counter, tt)
  counter_each false = tt

  memories_each : (e : DiagramElement) → Each (λ (d : Declaration). P (variable Local Plain d)) (element_memories e)
  memories_each e = each_append _ _ _ (edge_each (has_edge e.kind) e.id) (each_map _ (λ (o : Port). own (memory_name (AtOutput e.id o.pin)) o.ty) e.fed (each_from _ e.fed (λ o there. of_memory (AtOutput e.id o.pin) o.ty)))

  wires_each : (e : DiagramElement) → Each (λ (d : Declaration). P (variable Temp Plain d)) (element_wires e)
  wires_each e = each_map _ (λ (o : Port). own (wire_name e.id o.pin) o.ty) (ports e.kind) (each_from _ (ports e.kind) (λ o there. of_wire e.id o.pin o.ty))

  pub own_each : (p : Pou) → Each P (own_variables p)
  own_each p =
      each_append P (kept_variables p) (passing_variables p)
      (each_map P (variable Local Plain) (flat_map element_memories p.elements) (each_flat_map _ element_memories p.elements (each_from _ p.elements (λ e there. memories_each e))))
      (each_map P (variable Temp Plain) (flat_map element_wires p.elements ++ counter p.networks)
      (each_append _ (flat_map element_wires p.elements) (counter p.networks) (each_flat_map _ element_wires p.elements (each_from _ p.elements (λ e there. wires_each e))) (counter_each (has_jump p.networks))))

  hidden_of_each : (o : Option Pou) → Each P (hidden_of o)
  hidden_of_each None = tt
  hidden_of_each (Some q) = own_each q

  pub hidden_each : (project : Project) (name : List ℕ) → Each P (hidden project name)
  hidden_each project name = by_kind (kind_named name)
    where
      by_kind : (o : Option StdKind) → Each P (hidden_by project name o)
      by_kind None = hidden_of_each (diagram.block_named (in_lower_case name) project)
      by_kind (Some k) = tt

pub own_variables_own : (p : Pou) → Each IsOwnVariable (own_variables p)
own_variables_own = own_each IsOwnVariable (λ k t. memory_own k) (λ id pin t. wire_own id pin) counter_own

pub hidden_own : (project : Project) (name : List ℕ) → Each IsOwnVariable (hidden project name)
hidden_own = hidden_each IsOwnVariable (λ k t. memory_own k) (λ id pin t. wire_own id pin) counter_own

-- a name that isn't the compiler's own means in the text what it means in the diagram
pub declared_in_text : (p : Pou) (key : List ℕ) → is_own key ≡ false → variable_named key (variables_of (pou_text p).blocks) ≡ variable_named key (variables_of p.lists)
declared_in_text p key own =
    ap (variable_named key) (text_variables p) ∙ named_alone key (variables_of p.lists) (own_variables p) (declared_not_named key (own_variables p) own (own_variables_own p))

pub declared_in_type : (project : Project) (name key : List ℕ) → is_own key ≡ false → variable_named key (composed (text.world_of (unit_of project)) name) ≡ variable_named key (composed (evaluate.world_of project) name)
declared_in_type project name key own =
    ap (variable_named key) (text_composed project name) ∙ named_alone key (composed (evaluate.world_of project) name) (hidden project name) (declared_not_named key (hidden project name) own (hidden_own project name))

-- no variable of a standard block has an own name
abbrev is_apart : Variable → Bool
is_apart v = not (is_own (in_lower_case v.name))

pins_apart : (k : StdKind) → list_all is_apart (variables_of (pin_blocks k)) ≡ true
pins_apart kind.Ton = refl
pins_apart kind.Tof = refl
pins_apart kind.Tp = refl
pins_apart kind.Ctu = refl
pins_apart kind.Ctd = refl
pins_apart kind.Ctud = refl
pins_apart kind.Sr = refl
pins_apart kind.Rs = refl
pins_apart kind.RTrig = refl
pins_apart kind.FTrig = refl

each_apart : (vs : List Variable) → list_all is_apart vs ≡ true → Each IsDeclaredVariable vs
each_apart [] h = tt
each_apart (v ∷ vs) h = let parts = and_parts (is_apart v) (list_all is_apart vs) h in (not-true (is_own (in_lower_case v.name)) parts.0, each_apart vs parts.1)

pub pins_declared : (k : StdKind) → Each IsDeclaredVariable (variables_of (pin_blocks k))
pins_declared k = each_apart (variables_of (pin_blocks k)) (pins_apart k)

-- nor one of a block of a project that fits
pub composed_declared : (project : Project) → ProjectFits project → (name : List ℕ) → Each IsDeclaredVariable (composed (evaluate.world_of project) name)
composed_declared project fits name = by_kind (kind_named name)
  where
    of_block : (o : Option Pou) → diagram.block_named (in_lower_case name) project ≡ o → Each IsDeclaredVariable (variables_of (elim o [ Some p ↦ p.lists | None ↦ [] ]))
    of_block None e = tt
    of_block (Some q) e = variables_declared project q (block_fits project (in_lower_case name) project q fits.pous e)

    by_kind : (o : Option StdKind) → Each IsDeclaredVariable (elim o [ Some k ↦ variables_of (pin_blocks k) | None ↦ variables_of (evaluate.world_of project (in_lower_case name)) ])
    by_kind None = of_block (diagram.block_named (in_lower_case name) project) refl
    by_kind (Some k) = pins_declared k
