-- The text of a project that fits is in range.
use Rattle.std.proofs.Common.{◌≡◌, ℕ, ◌≤◌, Bool, true, false, not, ◌&&◌, ◌||◌, List, [], ◌∷◌, ◌++◌, map, refl, sym, subst, arith}
use Rattle.std.specs.Prelude.{Option, Some, None, is_some, if◌then◌else◌}
use Rattle.std.specs.List.{list_all, flat_map, Contains}
use Rattle.std.specs.Str.{bytes_eq}
use Rattle.std.specs.Option.{option_map}
use Rattle.std.proofs.lemmas.Bool.{and_parts}
use Rattle.plcx_types.specs.declared.ty.Ty.{Ty}
use Rattle.plcx_types.specs.declared.ty.Ty.TheVariants as ty
use Rattle.plcx_types.specs.Name.{in_lower_case}
use Rattle.plcx_types.specs.Range.{InRange}
use Rattle.plcx_types.specs.TypeName.{type_named}
use Rattle.plcx_types.specs.Value.{Value}
use Rattle.plcx_std.specs.declared.kind.StdKind.{StdKind}
use Rattle.plcx_std.specs.declared.kind.StdKind.TheVariants as kind
use Rattle.plcx_std.specs.Kind.{kind_named}
use Rattle.plcx_types.specs.Lists.{Each}
use Rattle.plcx_meaning.specs.Base.{AtEdge, AtOutput}
use Rattle.plcx_meaning.specs.Tree.{PouKind, Class, Local, Input, Output, InOut, Temp, Mark, Plain, Declaration, Block, PouText, statements}
use Rattle.plcx_meaning.specs.Layout.{Variable, variable, block_variables, variables_of, composed}
use Rattle.plcx_meaning.specs.Standard.{pin_blocks}
use Rattle.plcx_meaning.specs.Diagram.{Port, ports, has_edge, DiagramElement, has_jump, is_program, Pou, Project, block_named}
use Rattle.plcx_meaning.specs.Execute as text
use Rattle.plcx_meaning.specs.Templates.{wire_name, memory_name, counter_name, own, element_memories, element_wires, counter, block, list_text, pou_text, unit_of}
use Rattle.plcx_types.specs.Address.{AddressFits}
use Rattle.plcx_meaning.specs.Fits.{IsPin, PortsFit, project_knows, VariableFits, InOutsFit, PouFits, ProjectFits}
use Rattle.plcx_meaning.specs.Ready.{PouIsReady}
use Rattle.plcx_meaning.proofs.Fed.{fed_ports}
use Rattle.plcx_meaning.proofs.Names.{bytes_same}
use Rattle.plcx_meaning.proofs.Lists.{each_at, each_append, each_map, each_flat_map, each_from, each_weaker, contains_map}
use Rattle.plcx_meaning.proofs.Enabling.{each_split}
use Rattle.plcx_meaning.proofs.StaticsWorlds.{block_text, block_fits}
use Rattle.plcx_meaning.proofs.ReadyUnits.{each_both, unit_ready}
use Rattle.plcx_st.specs.InRange.{IsWord, DeclarationInRange, IsBare, FitsClass, BlockInRange, StatementsInRange, PouInRange, UnitInRange}
use Rattle.plcx_st.specs.Fitting.{InitialNumberFits, DeclarationFits, BlockFits, StatementsFit, UnitFits}
use Rattle.plcx_st.specs.Fitting as fitting
use Rattle.plcx_st.specs.Depth.{pou_depth, printed_depth}
use Rattle.plcx_st.proofs.Words.{word_same, good_word, type_word, elementary_word, standard_word, wire_word, edge_word, output_word, counter_word}
use Rattle.plcx_st.proofs.FunctionWords.{is_word, word_is}
use Rattle.plcx_st.proofs.Deep.{max_low}
use Rattle.plcx_st.proofs.DeepBodies.{body_low}
use Rattle.plcx_st.proofs.RangeBodies.{HasWord, body_range}

-- what holds of the elements of made lists
of_map : {A B : Type 0} (P : B → Type 0) (f : A → B) (xs : List A) → Each P (map f xs) → Each (λ x. P (f x)) xs
of_map P f [] h = tt
of_map P f (x ∷ xs) h = (h.0, of_map P f xs h.1)

of_flat_map : {A B : Type 0} (P : B → Type 0) (f : A → List B) (xs : List A) → Each P (flat_map f xs) → Each (λ x. Each P (f x)) xs
of_flat_map P f [] h = tt
of_flat_map P f (x ∷ xs) h = let parts = each_split P (f x) (flat_map f xs) h in (parts.0, of_flat_map P f xs parts.1)

-- ---- the names of types

named_block : (type : List ℕ) (ps : Project) (q : Pou) → block_named type ps ≡ Some q → in_lower_case type ≡ in_lower_case q.name
named_block type [] q h = absurd (cc)
named_block type (p ∷ ps) q h = by (not (is_program p.kind) && bytes_eq (in_lower_case p.name) (in_lower_case type)) refl (named_block type ps q) h
  where
    by : (b : Bool) → (not (is_program p.kind) && bytes_eq (in_lower_case p.name) (in_lower_case type)) ≡ b → (block_named type ps ≡ Some q → in_lower_case type ≡ in_lower_case q.name) → (if b then Some p else block_named type ps) ≡ Some q → in_lower_case type ≡ in_lower_case q.name
    by true e later k =
        let same : p ≡ q = cc in
        subst (λ (r : Pou). in_lower_case type ≡ in_lower_case r.name) same (sym (bytes_same (in_lower_case p.name) (in_lower_case type) (and_parts (not (is_program p.kind)) (bytes_eq (in_lower_case p.name) (in_lower_case type)) e).1))
    by false e later k = later k

known_word : (project : Project) → Each (PouFits project) project → (type : List ℕ) → project_knows project type ≡ true → IsWord type
known_word project all type known = by (type_named type) refl (kind_named type) refl (block_named type project) refl known
  where
    by : (t : Option Ty) → type_named type ≡ t → (k : Option StdKind) → kind_named type ≡ k → (q : Option Pou) → block_named type project ≡ q → (is_some t || (is_some k || is_some q)) ≡ true → IsWord type
    by (Some t) e k f q g h = elementary_word type t e
    by None e (Some k) f q g h = standard_word type k f
    by None e None f (Some q) g h = word_same type q.name (named_block type project q g) (good_word q.name (block_fits project type project q all g).name)
    by None e None f None g h = absurd (cc)

-- ---- the compiler's own variables

edge_range : (b : Bool) (id : ℕ) → IsWord (memory_name (AtEdge id)) → Each DeclarationInRange (if b then own (memory_name (AtEdge id)) ty.Bool ∷ [] else [])
edge_range true id h = ((h, tt, type_word ty.Bool), tt)
edge_range false id h = tt

memories_range : (p : Pou) (e : DiagramElement) → PortsFit p e → Each DeclarationInRange (element_memories e)
memories_range p e fit =
    each_append DeclarationInRange (if has_edge e.kind then own (memory_name (AtEdge e.id)) ty.Bool ∷ [] else []) _ (edge_range (has_edge e.kind) e.id (edge_word e.id fit.small))
    (each_map DeclarationInRange (λ (o : Port). own (memory_name (AtOutput e.id o.pin)) o.ty) e.fed (each_weaker (Contains (ports e.kind)) _ e.fed (λ o there.
    let pin = each_at IsPin (ports e.kind) o fit.names there in (output_word e.id o.pin fit.small pin.0 pin.1, tt, type_word o.ty)) (fed_ports p e fit)))

wires_range : (p : Pou) (e : DiagramElement) → PortsFit p e → Each DeclarationInRange (element_wires e)
wires_range p e fit = each_map DeclarationInRange (λ (o : Port). own (wire_name e.id o.pin) o.ty) (ports e.kind) (each_weaker IsPin _ (ports e.kind) (λ o pin. (wire_word e.id o.pin fit.small pin.0 pin.1, tt, type_word o.ty)) fit.names)

counter_range : (networks : List (List DiagramElement)) → Each DeclarationInRange (counter networks)
counter_range networks = by (has_jump networks)
  where
    by : (b : Bool) → Each DeclarationInRange (if b then own counter_name ty.Dint ∷ [] else [])
    by true = ((counter_word, tt, type_word ty.Dint), tt)
    by false = tt

local_range : (ds : List Declaration) → Each DeclarationInRange ds → Each BlockInRange (block Local Plain ds)
local_range [] h = tt
local_range (d ∷ ds) h = ((tt, h), tt)

temporary_range : (ds : List Declaration) → Each DeclarationInRange ds → Each BlockInRange (block Temp Plain ds)
temporary_range [] h = tt
temporary_range (d ∷ ds) h = ((refl, h), tt)

-- ---- the variables of a diagram

initial_fits : (initial : Option Value) → ((value : Value) → initial ≡ Some value → InRange value.ty value.n) → InitialNumberFits initial
initial_fits None h = tt
initial_fits (Some v) h = h v refl

module _ (project : Project) (all : Each (PouFits project) project) where
  abbrev Declared : Class → Mark → Declaration → Type 0
  Declared class mark d = VariableFits project (variable class mark d)

  declaration_range : (class : Class) (mark : Mark) (d : Declaration) → Declared class mark d → AddressFits d.address → DeclarationInRange d
  declaration_range class mark d fit address = (good_word d.name fit.name, address, known_word project all d.ty fit.known)

  class_fits : (kind : PouKind) (class : Class) (mark : Mark) (d : Declaration) (ds : List Declaration) → Declared class mark d → InOutsFit kind (record { class = class; mark = mark; declarations = d ∷ ds })
      → FitsClass class (record { class = class; mark = mark; declarations = d ∷ ds })
  class_fits kind Local mark d ds fit in_outs = tt
  class_fits kind Input mark d ds fit in_outs = tt
  class_fits kind Output mark d ds fit in_outs = tt
  class_fits kind InOut mark d ds fit in_outs = let bare = in_outs refl in (bare.0, each_weaker _ IsBare (d ∷ ds) (λ x h. (h.1, h.2)) bare.1)
  class_fits kind Temp mark d ds fit in_outs = absurd (fit.class refl)

  list_range : (kind : PouKind) (class : Class) (mark : Mark) (ds : List Declaration) → Each (Declared class mark) ds → InOutsFit kind (record { class = class; mark = mark; declarations = ds }) → Each (λ (d : Declaration). AddressFits d.address) ds
      → Each BlockInRange (block class mark ds)
  list_range kind class mark [] fit in_outs addresses = tt
  list_range kind class mark (d ∷ ds) fit in_outs addresses =
      ((class_fits kind class mark d ds fit.0 in_outs, each_both (Declared class mark) (λ (x : Declaration). AddressFits x.address) DeclarationInRange (d ∷ ds) fit addresses (declaration_range class mark)), tt)

  list_fits : (class : Class) (mark : Mark) (ds : List Declaration) → Each (Declared class mark) ds → Each BlockFits (block class mark ds)
  list_fits class mark [] fit = tt
  list_fits class mark (d ∷ ds) fit = (each_weaker (Declared class mark) DeclarationFits (d ∷ ds) (λ x h. initial_fits x.initial (λ value e. (h.initial value e).1)) fit, tt)

  own_fits : (class : Class) (mark : Mark) (ds : List Declaration) → Each DeclarationFits ds → Each BlockFits (block class mark ds)
  own_fits class mark [] h = tt
  own_fits class mark (d ∷ ds) h = (h, tt)

  module _ (p : Pou) (fits : PouFits project p) where
    declared : Each (λ (b : Block). Each (Declared b.class b.mark) b.declarations) p.lists
    declared =
        each_weaker (λ (b : Block). Each (VariableFits project) (block_variables b)) _ p.lists (λ b h. of_map (VariableFits project) (variable b.class b.mark) b.declarations h)
        (of_flat_map (VariableFits project) block_variables p.lists fits.variables)

    lists_range : Each BlockInRange (flat_map list_text p.lists)
    lists_range =
        each_flat_map BlockInRange list_text p.lists
        (each_both (λ (b : Block). Each (Declared b.class b.mark) b.declarations × InOutsFit p.kind b) (λ (b : Block). Each (λ (d : Declaration). AddressFits d.address) b.declarations) _ p.lists
        (each_both (λ (b : Block). Each (Declared b.class b.mark) b.declarations) (InOutsFit p.kind) _ p.lists declared fits.in_outs (λ b h k. (h, k)))
        fits.addresses (λ b h k. list_range p.kind b.class b.mark b.declarations h.0 h.1 k))

    kept_range : Each DeclarationInRange (flat_map element_memories p.elements)
    kept_range = each_flat_map DeclarationInRange element_memories p.elements (each_weaker (PortsFit p) _ p.elements (memories_range p) fits.ports)

    passing_range : Each DeclarationInRange (flat_map element_wires p.elements ++ counter p.networks)
    passing_range = each_append DeclarationInRange (flat_map element_wires p.elements) (counter p.networks) (each_flat_map DeclarationInRange element_wires p.elements (each_weaker (PortsFit p) _ p.elements (wires_range p) fits.ports)) (counter_range p.networks)

    blocks_range : Each BlockInRange (pou_text p).blocks
    blocks_range =
        each_append BlockInRange (flat_map list_text p.lists) _ lists_range
        (each_append BlockInRange (block Local Plain (flat_map element_memories p.elements)) _ (local_range _ kept_range) (temporary_range _ passing_range))

    memories_fit : (e : DiagramElement) → Each DeclarationFits (element_memories e)
    memories_fit e = each_append DeclarationFits (if has_edge e.kind then own (memory_name (AtEdge e.id)) ty.Bool ∷ [] else []) _ (by (has_edge e.kind)) (each_map DeclarationFits (λ (o : Port). own (memory_name (AtOutput e.id o.pin)) o.ty) e.fed (each_from _ e.fed (λ o there. tt)))
      where
        by : (b : Bool) → Each DeclarationFits (if b then own (memory_name (AtEdge e.id)) ty.Bool ∷ [] else [])
        by true = (tt, tt)
        by false = tt

    counter_fits : Each DeclarationFits (counter p.networks)
    counter_fits = by (has_jump p.networks)
      where
        by : (b : Bool) → Each DeclarationFits (if b then own counter_name ty.Dint ∷ [] else [])
        by true = (tt, tt)
        by false = tt

    blocks_fit : Each BlockFits (pou_text p).blocks
    blocks_fit =
        each_append BlockFits (flat_map list_text p.lists) _ (each_flat_map BlockFits list_text p.lists (each_weaker _ _ p.lists (λ b h. list_fits b.class b.mark b.declarations h) declared))
        (each_append BlockFits (block Local Plain (flat_map element_memories p.elements)) _
        (own_fits Local Plain _ (each_flat_map DeclarationFits element_memories p.elements (each_from _ p.elements (λ e there. memories_fit e))))
        (own_fits Temp Plain _
        (each_append DeclarationFits (flat_map element_wires p.elements) (counter p.networks)
        (each_flat_map DeclarationFits element_wires p.elements (each_from _ p.elements (λ e there. each_map DeclarationFits (λ (o : Port). own (wire_name e.id o.pin) o.ty) (ports e.kind) (each_from _ (ports e.kind) (λ o among. tt)))))
        counter_fits)))

    variables_words : Each HasWord (variables_of (pou_text p).blocks)
    variables_words =
        each_flat_map HasWord block_variables (pou_text p).blocks
        (each_weaker BlockInRange _ (pou_text p).blocks (λ b h. each_map HasWord (variable b.class b.mark) b.declarations (each_weaker DeclarationInRange _ b.declarations (λ d k. k.0) h.1)) blocks_range)

-- ---- what types stand for

abbrev has_word : Variable → Bool
has_word v = is_word v.name

pins_pass : (k : StdKind) → list_all has_word (variables_of (pin_blocks k)) ≡ true
pins_pass kind.Ton = refl
pins_pass kind.Tof = refl
pins_pass kind.Tp = refl
pins_pass kind.Ctu = refl
pins_pass kind.Ctd = refl
pins_pass kind.Ctud = refl
pins_pass kind.Sr = refl
pins_pass kind.Rs = refl
pins_pass kind.RTrig = refl
pins_pass kind.FTrig = refl

words_from : (vs : List Variable) → list_all has_word vs ≡ true → Each HasWord vs
words_from [] h = tt
words_from (v ∷ vs) h = let parts = and_parts (has_word v) (list_all has_word vs) h in (word_is v.name parts.0, words_from vs parts.1)

composed_words : (project : Project) → Each (PouFits project) project → (type : List ℕ) → Each HasWord (composed (text.world_of (unit_of project)) type)
composed_words project all type = by_kind (kind_named type)
  where
    of_block : (o : Option Pou) → block_named (in_lower_case type) project ≡ o → Each HasWord (variables_of (elim (option_map pou_text o) [ Some p ↦ p.blocks | None ↦ [] ]))
    of_block None e = tt
    of_block (Some q) e = variables_words project all q (block_fits project (in_lower_case type) project q all e)

    by_kind : (o : Option StdKind) → Each HasWord (elim o [ Some k ↦ variables_of (pin_blocks k) | None ↦ variables_of (text.world_of (unit_of project) (in_lower_case type)) ])
    by_kind (Some k) = words_from (variables_of (pin_blocks k)) (pins_pass k)
    by_kind None =
        subst (λ (o : Option PouText). Each HasWord (variables_of (elim o [ Some p ↦ p.blocks | None ↦ [] ]))) (sym (block_text (in_lower_case type) project)) (of_block (block_named (in_lower_case type) project) refl)

-- ---- a project

body_of : (project : Project) → ProjectFits project → (p : Pou) → Contains project p → StatementsInRange (statements (pou_text p).body) × StatementsFit (statements (pou_text p).body)
body_of project fits p there =
    let fit = each_at (PouFits project) project p fits.pous there in
    let ready = each_at (PouIsReady (unit_of project)) (unit_of project) (pou_text p) (unit_ready project fits).pous (contains_map pou_text project p there) in
    body_range (text.scope_of (unit_of project) (pou_text p)) (variables_words project fits.pous p fit) (composed_words project fits.pous) (pou_text p).body ready.body

deep_unit : (project ps : Project) → Each (PouFits project) ps → printed_depth (unit_of ps) ≤ 145
unfolding printed_depth
deep_unit project [] h = omega arith
deep_unit project (p ∷ ps) h = max_low (pou_depth (pou_text p)) (printed_depth (unit_of ps)) 145 (let bound = body_low project p p.networks h.0.networks in omega arith) (deep_unit project ps h.1)

pub in_range : (project : Project) → ProjectFits project → UnitInRange (unit_of project)
in_range project fits = record {
  pous = each_map PouInRange pou_text project (each_from _ project (λ p there.
      let fit = each_at (PouFits project) project p fits.pous there in
      record { name = good_word p.name fit.name; blocks = blocks_range project fits.pous p fit; body = (body_of project fits p there).0 }));
  depth = (let bound = deep_unit project project fits.pous in omega arith);
}

pub fits_types : (project : Project) → ProjectFits project → UnitFits (unit_of project)
fits_types project fits =
    each_map fitting.PouTextFits pou_text project (each_from _ project (λ p there.
    (blocks_fit project fits.pous p (each_at (PouFits project) project p fits.pous there), (body_of project fits p there).1)))
