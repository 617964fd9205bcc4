-- The variables of a POU in its diagram.
use Rattle.std.proofs.Common.{◌≡◌, ◌≢◌, ℕ, Bool, true, false, List, [], ◌∷◌, ◌++◌, map, length, Option, Some, None, slice_get, refl, sym, ap, ◌∙◌, subst, if◌then◌else◌}
use Rattle.std.specs.Prelude.{◌||◌, is_some, ◌≤◌}
use Rattle.std.specs.Char.{to_ascii_uppercase}
use Rattle.std.specs.List.{flat_map, Contains}
use Rattle.std.proofs.lemmas.List.{length-map}
use Rattle.plcx_types.specs.declared.ty.Ty.{Ty}
use Rattle.plcx_types.specs.Limits.{max_variables}
use Rattle.plcx_types.specs.Lists.{Each}
use Rattle.plcx_types.specs.Name.{in_lower_case}
use Rattle.plcx_types.specs.Range.{InRange}
use Rattle.plcx_types.specs.TypeName.{type_name, type_named}
use Rattle.plcx_types.specs.Value.{Value}
use Rattle.plcx_std.specs.declared.kind.StdKind.{StdKind}
use Rattle.plcx_std.specs.Kind.{kind_name, kind_named}
use Rattle.plcx_types.specs.Address.{AddressFits}
use Rattle.plcx_meaning.specs.Base.{are_distinct}
use Rattle.plcx_meaning.specs.Diagram.{block_named}
use Rattle.plcx_meaning.specs.Diagram as diagram
use Rattle.plcx_meaning.specs.Fits.{project_knows, printed_type, VariableFits, InOutsFit}
use Rattle.plcx_meaning.specs.Layout.{InitialIsTyped, block_variables}
use Rattle.plcx_meaning.specs.Layout as layout
use Rattle.plcx_meaning.specs.Tree as tree
use Rattle.plcx_meaning.proofs.Lists.{each_from, each_weaker, each_map, each_flat_map, each_at, contains_none}
use Rattle.plcx_meaning.proofs.Lookups.{map_append}
use Rattle.plcx_meaning.proofs.LookupsOwn.{type_of_name}
use Rattle.plcx_model.specs.declared.plan.Links.{Links}
use Rattle.plcx_model.specs.declared.plan.Types.{Types}
use Rattle.plcx_model.specs.declared.plan.Plan.{Plan}
use Rattle.plcx_model.specs.declared.project.PouKind.{PouKind}
use Rattle.plcx_model.specs.declared.project.PouKind.TheVariants.{Program, FunctionBlock}
use Rattle.plcx_model.specs.declared.project.ListClass.{ListClass}
use Rattle.plcx_model.specs.declared.project.ListClass.TheVariants as class
use Rattle.plcx_model.specs.declared.project.VarTy.{VarTy}
use Rattle.plcx_model.specs.declared.project.VarTy.TheVariants.{Plain, Std, Block}
use Rattle.plcx_model.specs.declared.project.Variable.{Variable}
use Rattle.plcx_model.specs.declared.project.VarList.{VarList}
use Rattle.plcx_model.specs.declared.project.Pou.{Pou}
use Rattle.plcx_model.specs.declared.project.Project.{Project}
use Rattle.plcx_model.specs.Sound.{variables_of, IsKnown, MayHold, InitialSuits, VariableIsSound, ListIsSound, PouIsSound, Sound}
use Rattle.plcx_view.specs.Declared.{kind_of_pou, class_of, mark_by, mark_of, spelled_type, declaration_of, list_of, lists_of}
use Rattle.plcx_fits.proofs.Lists.{names_distinct, each_place}
use Rattle.plcx_fits.proofs.Spelled.{no_type, no_kind, kind_of_name, upper_types, names_of, seen, whole, block_found}

-- a variable of a list as its diagram has it
abbrev pub shown : List Pou → VarList → Variable → layout.Variable
shown pous list v = layout.variable (class_of list.class) (mark_of list) (declaration_of pous v)

-- what holds of each variable of each list holds of each in the diagram
pub each_shown : (pous : List Pou) (P : layout.Variable → Type 0) (Q : VarList → Type 0) (lists : List VarList) → ((l : VarList) → Q l → Each (λ (v : Variable). P (shown pous l v)) l.variables)
    → Each Q lists → Each P (layout.variables_of (map (list_of pous) lists))
each_shown pous P Q lists gives all =
    each_flat_map P block_variables (map (list_of pous) lists)
    (each_map (λ (b : tree.Block). Each P (block_variables b)) (list_of pous) lists
    (each_weaker Q (λ (l : VarList). Each P (block_variables (list_of pous l))) lists
    (λ l q. each_map P (layout.variable (class_of l.class) (mark_of l)) (map (declaration_of pous) l.variables)
    (each_map (λ (d : tree.Declaration). P (layout.variable (class_of l.class) (mark_of l) d)) (declaration_of pous) l.variables (gives l q)))
    all))

-- names without case are those of the file
mapped_twice : (pous : List Pou) (l : VarList) (vs : List Variable) → map (λ (v : layout.Variable). in_lower_case v.name) (map (layout.variable (class_of l.class) (mark_of l)) (map (declaration_of pous) vs)) ≡ map (λ (v : Variable). in_lower_case v.name) vs
mapped_twice pous l [] = refl
mapped_twice pous l (v ∷ vs) = ap (λ rest. in_lower_case v.name ∷ rest) (mapped_twice pous l vs)

pub names_shown : (pous : List Pou) (lists : List VarList) → map (λ (v : layout.Variable). in_lower_case v.name) (layout.variables_of (map (list_of pous) lists)) ≡ map (λ (v : Variable). in_lower_case v.name) (flat_map (λ (l : VarList). l.variables) lists)
names_shown pous [] = refl
names_shown pous (l ∷ lists) =
    let own = block_variables (list_of pous l) in
    let others = layout.variables_of (map (list_of pous) lists) in
    let left = map_append (λ (v : layout.Variable). in_lower_case v.name) own others in
    let right = map_append (λ (v : Variable). in_lower_case v.name) l.variables (flat_map (λ (k : VarList). k.variables) lists) in
    let here = mapped_twice pous l l.variables in
    let rest = names_shown pous lists in
    left ∙ ap (λ a. a ++ map (λ (v : layout.Variable). in_lower_case v.name) others) here ∙ ap (λ b. map (λ (v : Variable). in_lower_case v.name) l.variables ++ b) rest ∙ sym right

pub count_shown : (pous : List Pou) (lists : List VarList) → length (layout.variables_of (map (list_of pous) lists)) ≡ length (flat_map (λ (l : VarList). l.variables) lists)
count_shown pous lists =
    let all = layout.variables_of (map (list_of pous) lists) in
    let of_file = flat_map (λ (l : VarList). l.variables) lists in
    sym (length-map all (λ (v : layout.Variable). in_lower_case v.name)) ∙ ap length (names_shown pous lists) ∙ length-map of_file (λ (v : Variable). in_lower_case v.name)

-- how a type is printed, by what its name stands for
abbrev printed_by : List ℕ → Option Ty → Option StdKind → Option diagram.Pou → List ℕ
printed_by name a b c = if is_some a || is_some b then map to_ascii_uppercase name else (elim c [ Some q ↦ q.name | None ↦ name ])

abbrev knows_by : Option Ty → Option StdKind → Option diagram.Pou → Bool
knows_by a b c = is_some a || (is_some b || is_some c)

class_of_kept : (c : ListClass) → class_of c ≢ tree.Temp
class_of_kept class.Local = λ h. cc
class_of_kept class.Input = λ h. cc
class_of_kept class.Output = λ h. cc
class_of_kept class.InOut = λ h. cc

not_constant : (constant retain : Bool) → constant ≡ false → mark_by constant retain ≢ tree.Constant
not_constant true retain h = λ e. cc
not_constant false true h = λ e. cc
not_constant false false h = λ e. cc

no_mark : (constant retain : Bool) → constant ≡ false → retain ≡ false → mark_by constant retain ≡ tree.Plain
no_mark true retain h k = cc
no_mark false true h k = cc
no_mark false false h k = refl

in_out_class : (c : ListClass) → class_of c ≡ tree.InOut → c ≡ class.InOut
in_out_class class.Local h = cc
in_out_class class.Input h = cc
in_out_class class.Output h = cc
in_out_class class.InOut h = refl

is_program_kind : (k : PouKind) → kind_of_pou k ≡ tree.Program → k ≡ Program
is_program_kind Program h = refl
is_program_kind FunctionBlock h = cc

-- where an initial value suits its type, it is typed in the diagram
initial_typed : (pous : List Pou) (t : VarTy) (o : Option Value) → InitialSuits t o → (value : Value) → o ≡ Some value → (type_named (spelled_type pous t) ≡ Some value.ty) × InRange value.ty value.n
initial_typed pous t None h value e = absurd (cc)
initial_typed pous (Plain t) (Some v) h value e =
    let same : v ≡ value = cc in
    subst (λ (w : Value). (type_named (type_name t) ≡ Some w.ty) × InRange w.ty w.n) same (type_of_name t ∙ ap Some (sym h.0), subst (λ u. InRange u v.n) (sym h.0) h.1)
initial_typed pous (Std k) (Some v) h value e = absurd h
initial_typed pous (Block place) (Some v) h value e = absurd h

module _ (project : Project) (links : Links) (types : Types) (plan : Plan) (sound : Sound project) where
  abbrev pous : List Pou
  pous = project.pous

  abbrev dia : diagram.Project
  dia = whole project links types plan

  abbrev spelled : VarTy → List ℕ
  spelled = spelled_type pous

  pub distinct : are_distinct (names_of pous) ≡ true
  distinct = names_distinct (names_of pous) sound.names

  -- the function block that a type names, in the file and in its diagram
  pub record IsBlock (place : ℕ) (q : Pou) : Type 0 where
    pub at : slice_get pous place ≡ Some q
    pub block : q.kind ≡ FunctionBlock
    pub name : spelled (Block place) ≡ q.name
    pub no_type : type_named (spelled (Block place)) ≡ None
    pub no_kind : kind_named (spelled (Block place)) ≡ None
    pub found : block_named (spelled (Block place)) dia ≡ Some (seen project links types plan place q)
    pub keeps : PouIsSound pous q

  pub is_block : (place : ℕ) (q : Pou) → slice_get pous place ≡ Some q → q.kind ≡ FunctionBlock → IsBlock place q
  is_block place q at block =
      let one = each_place (PouIsSound pous) pous place q at sound.pous in
      let name : spelled (Block place) ≡ q.name = ap (λ (o : Option Pou). elim o [ Some r ↦ r.name | None ↦ [] ]) at in
      record {
        at = at;
        block = block;
        name = name;
        no_type = ap type_named name ∙ no_type q.name one.name.free;
        no_kind = ap kind_named name ∙ no_kind q.name one.name.free;
        found = ap (λ n. block_named n dia) name ∙ block_found project links types plan distinct place q at block;
        keeps = one;
      }

  known : (t : VarTy) → IsKnown pous t → project_knows dia (spelled t) ≡ true
  known (Plain t) k = ap (λ a. knows_by a (kind_named (type_name t)) (block_named (type_name t) dia)) (type_of_name t)
  known (Std k) h =
      let facts = kind_of_name k in
      ap (λ a. knows_by a (kind_named (kind_name k)) (block_named (kind_name k) dia)) facts.1 ∙ ap (λ b. knows_by None b (block_named (kind_name k) dia)) facts.0
  known (Block place) h =
      let b = is_block place h.0 h.1 h.2 in
      ap (λ a. knows_by a (kind_named (spelled (Block place))) (block_named (spelled (Block place)) dia)) b.no_type
      ∙ ap (λ c. knows_by None c (block_named (spelled (Block place)) dia)) b.no_kind
      ∙ ap (λ c. knows_by None None c) b.found

  printed : (t : VarTy) → IsKnown pous t → spelled t ≡ printed_type dia (spelled t)
  printed (Plain t) k = upper_types t ∙ sym (ap (λ a. printed_by (type_name t) a (kind_named (type_name t)) (block_named (type_name t) dia)) (type_of_name t))
  printed (Std k) h =
      let facts = kind_of_name k in
      facts.2 ∙ sym (ap (λ a. printed_by (kind_name k) a (kind_named (kind_name k)) (block_named (kind_name k) dia)) facts.1 ∙ ap (λ b. printed_by (kind_name k) None b (block_named (kind_name k) dia)) facts.0)
  printed (Block place) h =
      let b = is_block place h.0 h.1 h.2 in
      let name = spelled (Block place) in
      b.name ∙ sym (ap (λ a. printed_by name a (kind_named name) (block_named name dia)) b.no_type ∙ ap (λ c. printed_by name None c (block_named name dia)) b.no_kind ∙ ap (λ c. printed_by name None None c) b.found)

  instances : (l : VarList) (t : VarTy) → MayHold l t → type_named (spelled t) ≡ None → (class_of l.class ≡ tree.Local) × (mark_of l ≢ tree.Constant)
  instances l (Plain t) h none = absurd (let e : Some t ≡ None = sym (type_of_name t) ∙ none in cc)
  instances l (Std k) h none = (ap class_of h.0, not_constant l.constant l.retain h.1)
  instances l (Block place) h none = (ap class_of h.0, not_constant l.constant l.retain h.1)

  variable_fits : (l : VarList) (v : Variable) → VariableIsSound pous l v → VariableFits dia (shown pous l v)
  variable_fits l v s = record {
    name = (s.name.identifier, s.name.short, s.name.free);
    class = class_of_kept l.class;
    known = known v.ty s.known;
    spelled = printed v.ty s.known;
    initial = initial_typed pous v.ty v.initial s.initial;
    instance = instances l v.ty s.instance;
  }

  pub variables_fit : (p : Pou) → PouIsSound pous p → Each (VariableFits dia) (layout.variables_of (lists_of pous p))
  variables_fit p s = each_shown pous (VariableFits dia) (ListIsSound pous p.kind) p.lists
      (λ l h. each_weaker (VariableIsSound pous l) (λ (v : Variable). VariableFits dia (shown pous l v)) l.variables (variable_fits l) h.variables) s.lists

  pub variables_differ : (p : Pou) → PouIsSound pous p → are_distinct (map (λ (v : layout.Variable). in_lower_case v.name) (layout.variables_of (lists_of pous p))) ≡ true
  variables_differ p s = ap are_distinct (names_shown pous p.lists) ∙ names_distinct (map (λ (v : Variable). in_lower_case v.name) (variables_of p)) s.names

  pub variables_few : (p : Pou) → PouIsSound pous p → length (layout.variables_of (lists_of pous p)) ≤ max_variables
  variables_few p s = subst (λ n. n ≤ max_variables) (sym (count_shown pous p.lists)) s.variables

  in_out_list : (k : PouKind) (l : VarList) → ListIsSound pous k l → InOutsFit (kind_of_pou k) (list_of pous l)
  in_out_list k l s is_in_out =
      let c = in_out_class l.class is_in_out in
      let marks = s.in_out_marks c in (
        no_mark l.constant l.retain marks.0 marks.1,
        each_map (λ (d : tree.Declaration). (kind_of_pou k ≢ tree.Program) × (d.address ≡ None) × (d.initial ≡ None)) (declaration_of pous) l.variables
            (each_from _ l.variables (λ v there.
            let one = each_at (VariableIsSound pous l) l.variables v s.variables there in
            let both = one.in_out c in
            ((λ program. contains_none v (subst (λ vs. Contains vs v) (s.in_outs c (is_program_kind k program)) there)), both.0, both.1))),
      )

  pub in_outs_fit : (p : Pou) → PouIsSound pous p → Each (InOutsFit (kind_of_pou p.kind)) (lists_of pous p)
  in_outs_fit p s = each_map (InOutsFit (kind_of_pou p.kind)) (list_of pous) p.lists (each_weaker (ListIsSound pous p.kind) (λ (l : VarList). InOutsFit (kind_of_pou p.kind) (list_of pous l)) p.lists (in_out_list p.kind) s.lists)

  abbrev AddressesFit : tree.Block → Type 0
  AddressesFit b = Each (λ (d : tree.Declaration). AddressFits d.address) b.declarations

  pub addresses_fit : (p : Pou) → PouIsSound pous p → Each AddressesFit (lists_of pous p)
  addresses_fit p s = each_map AddressesFit (list_of pous) p.lists
      (each_weaker (ListIsSound pous p.kind) (λ (l : VarList). AddressesFit (list_of pous l)) p.lists
      (λ l h. each_map (λ (d : tree.Declaration). AddressFits d.address) (declaration_of pous) l.variables
      (each_weaker (VariableIsSound pous l) (λ (v : Variable). AddressFits v.address) l.variables (λ v one. one.address) h.variables))
      s.lists)
