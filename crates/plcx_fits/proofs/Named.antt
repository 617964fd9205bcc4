-- What a name leads to in the file it leads to in its diagram: variables, instances and their pins.
use Rattle.std.proofs.Common.{◌≡◌, ◌≢◌, ℕ, Bool, true, false, cond, not, ◌&&◌, List, [], ◌∷◌, ◌++◌, map, Option, Some, None, slice_get, refl, sym, ap, ◌∙◌, subst}
use Rattle.std.specs.Prelude.{is_some, option_map}
use Rattle.std.specs.List.{find, filter, filter_map, cons_option, flat_map}
use Rattle.std.specs.Str.{bytes_eq}
use Rattle.std.proofs.lemmas.Bool.{not-true}
use Rattle.plcx_types.specs.declared.ty.Ty.{Ty}
use Rattle.plcx_types.specs.Lists.{Each}
use Rattle.plcx_types.specs.Name.{in_lower_case}
use Rattle.plcx_types.specs.TypeName.{type_named}
use Rattle.plcx_std.specs.declared.kind.StdKind.{StdKind}
use Rattle.plcx_std.specs.declared.kind.StdKind.TheVariants as kind
use Rattle.plcx_std.specs.declared.pin.Role.TheVariants as role
use Rattle.plcx_meaning.specs.Diagram as diagram
use Rattle.plcx_meaning.specs.Diagram.{Own, Output}
use Rattle.plcx_meaning.specs.Evaluate.{world_of}
use Rattle.plcx_meaning.specs.Fits.{IsDeclaredAs, IsVariable, CanBeWritten, IsInstance, OperandFits}
use Rattle.plcx_meaning.specs.Layout.{variable_named, composed}
use Rattle.plcx_meaning.specs.Layout as layout
use Rattle.plcx_meaning.specs.Standard.{pin_blocks}
use Rattle.plcx_meaning.specs.Tree as tree
use Rattle.plcx_meaning.proofs.LookupsOwn.{type_of_name}
use Rattle.plcx_meaning.proofs.Names.{bytes_same, bytes_swapped}
use Rattle.plcx_meaning.proofs.ReadyUnits.{named_each}
use Rattle.plcx_model.specs.declared.plan.Links.{Links}
use Rattle.plcx_model.specs.declared.plan.Types.{Types}
use Rattle.plcx_model.specs.declared.plan.Plan.{Plan}
use Rattle.plcx_model.specs.declared.project.PouKind.{PouKind}
use Rattle.plcx_model.specs.declared.project.ListClass.{ListClass}
use Rattle.plcx_model.specs.declared.project.ListClass.TheVariants as class
use Rattle.plcx_model.specs.declared.project.VarTy.{VarTy}
use Rattle.plcx_model.specs.declared.project.VarTy.TheVariants.{Plain, Std, Block}
use Rattle.plcx_model.specs.declared.project.Variable.{Variable}
use Rattle.plcx_model.specs.declared.project.VarList.{VarList}
use Rattle.plcx_model.specs.declared.project.Pou.{Pou}
use Rattle.plcx_model.specs.declared.project.Project.{Project}
use Rattle.plcx_model.specs.Sound.{IsKnown, MayHold, VariableIsSound, ListIsSound, PouIsSound, Sound}
use Rattle.plcx_rules.specs.Texts.{same_name}
use Rattle.plcx_rules.specs.Declarations.{Declaration, declared_in, declarations_of, is_of_name, declaration_named, plain_type, same_class, can_be_written}
use Rattle.plcx_rules.specs.Callees.{BlockPin, standard_pins, pin_of, pins_where, outputs_of_type, pin_named}
use Rattle.plcx_rules.specs.Helds.{Held, OfLiteral, OfVariable, OfInstance, OfOutput}
use Rattle.plcx_view.specs.Declared.{class_of, mark_by, mark_of, spelled_type, declaration_of, list_of, lists_of}
use Rattle.plcx_view.specs.Operands.{operand_by}
use Rattle.plcx_fits.proofs.Along.{Along}
use Rattle.plcx_fits.proofs.Held.{HeldIs}
use Rattle.plcx_fits.proofs.Ports.{found_one}
use Rattle.plcx_fits.proofs.Nests.{block_world}
use Rattle.plcx_fits.proofs.Spelled.{kind_of_name, whole}
use Rattle.plcx_fits.proofs.Variables.{is_block, variables_differ}

abbrev pub IsOther : ListClass → Type 0
IsOther c = c ≢ class.Local

-- a variable of the diagram is a declared one
pub record IsShown (pous : List Pou) (d : Declaration) (v : layout.Variable) : Type 0 where
  pub name : v.name ≡ d.variable.name
  pub ty : v.ty ≡ spelled_type pous d.variable.ty
  pub class : v.class ≡ class_of d.class
  pub mark : d.constant ≡ false → v.mark ≢ tree.Constant
  pub known : IsKnown pous d.variable.ty
  pub plain : IsOther d.class → (t : Ty) × (d.variable.ty ≡ Plain t)

-- an instance is local
plain_there : (l : VarList) (t : VarTy) → MayHold l t → l.class ≢ class.Local → (u : Ty) × (t ≡ Plain u)
plain_there l (Plain u) may other = (u, refl)
plain_there l (Std k) may other = absurd (other may.0)
plain_there l (Block place) may other = absurd (other may.0)

no_constant : (constant retain : Bool) → constant ≡ false → mark_by constant retain ≢ tree.Constant
no_constant true retain h = λ e. cc
no_constant false true h = λ e. cc
no_constant false false h = λ e. cc

no_temp : (c : ListClass) → class_of c ≢ tree.Temp
no_temp class.Local = λ h. cc
no_temp class.Input = λ h. cc
no_temp class.Output = λ h. cc
no_temp class.InOut = λ h. cc

no_input : (c : ListClass) → not (same_class c class.Input) ≡ true → class_of c ≢ tree.Input
no_input class.Local h = λ e. cc
no_input class.Input h = λ e. cc
no_input class.Output h = λ e. cc
no_input class.InOut h = λ e. cc

one_class : (c d : ListClass) → same_class c d ≡ true → class_of c ≡ class_of d
one_class class.Local class.Local h = refl
one_class class.Local class.Input h = cc
one_class class.Local class.Output h = cc
one_class class.Local class.InOut h = cc
one_class class.Input class.Local h = cc
one_class class.Input class.Input h = refl
one_class class.Input class.Output h = cc
one_class class.Input class.InOut h = cc
one_class class.Output class.Local h = cc
one_class class.Output class.Input h = cc
one_class class.Output class.Output h = refl
one_class class.Output class.InOut h = cc
one_class class.InOut class.Local h = cc
one_class class.InOut class.Input h = cc
one_class class.InOut class.Output h = cc
one_class class.InOut class.InOut h = refl

along_append : {A B : Type 0} (R : A → B → Type 0) (xs zs : List A) (ys ws : List B) → Along R xs ys → Along R zs ws → Along R (xs ++ zs) (ys ++ ws)
along_append R [] zs [] ws a b = b
along_append R [] zs (y ∷ ys) ws a b = absurd a
along_append R (x ∷ xs) zs [] ws a b = absurd a
along_append R (x ∷ xs) zs (y ∷ ys) ws a b = (a.0, along_append R xs zs ys ws a.1 b)

list_shown : (pous : List Pou) (l : VarList) (vs : List Variable) → Each (VariableIsSound pous l) vs
    → Along (IsShown pous) (map (λ (v : Variable). let d : Declaration = record { class = l.class; constant = l.constant; variable = v } in d) vs) (map (layout.variable (class_of l.class) (mark_of l)) (map (declaration_of pous) vs))
list_shown pous l [] s = tt
list_shown pous l (v ∷ vs) s = (record { name = refl; ty = refl; class = refl; mark = no_constant l.constant l.retain; known = s.0.known; plain = plain_there l v.ty s.0.instance }, list_shown pous l vs s.1)

lists_shown : (pous : List Pou) (k : PouKind) (lists : List VarList) → Each (ListIsSound pous k) lists → Along (IsShown pous) (flat_map declared_in lists) (layout.variables_of (map (list_of pous) lists))
lists_shown pous k [] s = tt
lists_shown pous k (l ∷ lists) s =
    along_append (IsShown pous) (declared_in l) (flat_map declared_in lists) (layout.block_variables (list_of pous l)) (layout.variables_of (map (list_of pous) lists))
    (list_shown pous l l.variables s.0.variables) (lists_shown pous k lists s.1)

-- what is found in the file is found in the diagram
record Leads (pous : List Pou) (name key : List ℕ) (vs : List layout.Variable) (d : Declaration) : Type 0 where
  variable : layout.Variable
  found : variable_named key vs ≡ Some variable
  shown : IsShown pous d variable
  same : same_name name d.variable.name ≡ true

leads : (pous : List Pou) (name : List ℕ) (ds : List Declaration) (vs : List layout.Variable) (d : Declaration) → Along (IsShown pous) ds vs → find (is_of_name name) ds ≡ Some d → Leads pous name (in_lower_case name) vs d
leads pous name [] [] d al h = absurd (cc)
leads pous name [] (v ∷ vs) d al h = absurd al
leads pous name (c ∷ ds) [] d al h = absurd al
leads pous name (c ∷ ds) (v ∷ vs) d al h =
    let key = in_lower_case name in
    let test : bytes_eq (in_lower_case v.name) key ≡ is_of_name name c = bytes_swapped (in_lower_case v.name) key ∙ ap (λ n. bytes_eq key (in_lower_case n)) al.0.name in
    by (is_of_name name c) refl test (leads pous name ds vs d al.1) h
  where
    by : (b : Bool) → is_of_name name c ≡ b → bytes_eq (in_lower_case v.name) (in_lower_case name) ≡ b → (find (is_of_name name) ds ≡ Some d → Leads pous name (in_lower_case name) vs d)
        → cond b (Some c) (find (is_of_name name) ds) ≡ Some d → Leads pous name (in_lower_case name) (v ∷ vs) d
    by true is test later k =
        let one : c ≡ d = cc in
        record {
          variable = v;
          found = ap (λ t. cond t (Some v) (variable_named (in_lower_case name) vs)) test;
          shown = subst (λ (x : Declaration). IsShown pous x v) one al.0;
          same = subst (λ (x : Declaration). is_of_name name x ≡ true) one is;
        }
    by false is test later k =
        let r = later k in
        record { variable = r.variable; found = ap (λ t. cond t (Some v) (variable_named (in_lower_case name) vs)) test ∙ r.found; shown = r.shown; same = r.same }

-- a declared variable under its own name
pub record Found (pous : List Pou) (vs : List layout.Variable) (d : Declaration) : Type 0 where
  pub variable : layout.Variable
  pub found : variable_named (in_lower_case d.variable.name) vs ≡ Some variable
  pub shown : IsShown pous d variable

each_own : (pous : List Pou) (all : List layout.Variable) (ds : List Declaration) (vs : List layout.Variable) → Along (IsShown pous) ds vs → Each (λ (v : layout.Variable). variable_named (in_lower_case v.name) all ≡ Some v) vs → Each (Found pous all) ds
each_own pous all [] [] al own = tt
each_own pous all [] (v ∷ vs) al own = absurd al
each_own pous all (d ∷ ds) [] al own = absurd al
each_own pous all (d ∷ ds) (v ∷ vs) al own =
    (record { variable = v; found = ap (λ n. variable_named (in_lower_case n) all) (sym al.0.name) ∙ own.0; shown = al.0 }, each_own pous all ds vs al.1 own.1)

-- a variable of an elementary type
has_type : (pous : List Pou) (vs : List layout.Variable) (d : Declaration) (t : Ty) (Suits : tree.Class → Type 0) → Found pous vs d → d.variable.ty ≡ Plain t → Suits (class_of d.class) → IsDeclaredAs vs d.variable.name t Suits
has_type pous vs d t Suits f is suits = record {
  variable = f.variable;
  found = f.found;
  typed = ap type_named (f.shown.ty ∙ ap (spelled_type pous) is) ∙ type_of_name t;
  class = subst Suits (sym f.shown.class) suits;
}

-- ---- pins of blocks

abbrev pub IsPinOf : List layout.Variable → tree.Class → BlockPin → Type 0
IsPinOf vs c o = IsDeclaredAs vs o.name o.ty (λ class. class ≡ c)

standard_outputs : (k : StdKind) → Each (IsPinOf (layout.variables_of (pin_blocks k)) tree.Output) (standard_pins role.Out k)
standard_outputs kind.Ton = (record { variable = _; found = refl; typed = refl; class = refl }, (record { variable = _; found = refl; typed = refl; class = refl }, tt))
standard_outputs kind.Tof = (record { variable = _; found = refl; typed = refl; class = refl }, (record { variable = _; found = refl; typed = refl; class = refl }, tt))
standard_outputs kind.Tp = (record { variable = _; found = refl; typed = refl; class = refl }, (record { variable = _; found = refl; typed = refl; class = refl }, tt))
standard_outputs kind.Ctu = (record { variable = _; found = refl; typed = refl; class = refl }, (record { variable = _; found = refl; typed = refl; class = refl }, tt))
standard_outputs kind.Ctd = (record { variable = _; found = refl; typed = refl; class = refl }, (record { variable = _; found = refl; typed = refl; class = refl }, tt))
standard_outputs kind.Ctud = (record { variable = _; found = refl; typed = refl; class = refl }, (record { variable = _; found = refl; typed = refl; class = refl }, (record { variable = _; found = refl; typed = refl; class = refl }, tt)))
standard_outputs kind.Sr = (record { variable = _; found = refl; typed = refl; class = refl }, tt)
standard_outputs kind.Rs = (record { variable = _; found = refl; typed = refl; class = refl }, tt)
standard_outputs kind.RTrig = (record { variable = _; found = refl; typed = refl; class = refl }, tt)
standard_outputs kind.FTrig = (record { variable = _; found = refl; typed = refl; class = refl }, tt)

standard_inputs : (k : StdKind) → Each (IsPinOf (layout.variables_of (pin_blocks k)) tree.Input) (standard_pins role.In k)
standard_inputs kind.Ton = (record { variable = _; found = refl; typed = refl; class = refl }, (record { variable = _; found = refl; typed = refl; class = refl }, tt))
standard_inputs kind.Tof = (record { variable = _; found = refl; typed = refl; class = refl }, (record { variable = _; found = refl; typed = refl; class = refl }, tt))
standard_inputs kind.Tp = (record { variable = _; found = refl; typed = refl; class = refl }, (record { variable = _; found = refl; typed = refl; class = refl }, tt))
standard_inputs kind.Ctu = (record { variable = _; found = refl; typed = refl; class = refl }, (record { variable = _; found = refl; typed = refl; class = refl }, (record { variable = _; found = refl; typed = refl; class = refl }, tt)))
standard_inputs kind.Ctd = (record { variable = _; found = refl; typed = refl; class = refl }, (record { variable = _; found = refl; typed = refl; class = refl }, (record { variable = _; found = refl; typed = refl; class = refl }, tt)))
standard_inputs kind.Ctud = (record { variable = _; found = refl; typed = refl; class = refl }, (record { variable = _; found = refl; typed = refl; class = refl }, (record { variable = _; found = refl; typed = refl; class = refl }, (record { variable = _; found = refl; typed = refl; class = refl }, (record { variable = _; found = refl; typed = refl; class = refl }, tt)))))
standard_inputs kind.Sr = (record { variable = _; found = refl; typed = refl; class = refl }, (record { variable = _; found = refl; typed = refl; class = refl }, tt))
standard_inputs kind.Rs = (record { variable = _; found = refl; typed = refl; class = refl }, (record { variable = _; found = refl; typed = refl; class = refl }, tt))
standard_inputs kind.RTrig = (record { variable = _; found = refl; typed = refl; class = refl }, tt)
standard_inputs kind.FTrig = (record { variable = _; found = refl; typed = refl; class = refl }, tt)

-- the pins that some declarations give
pins_found : (pous : List Pou) (vs : List layout.Variable) (c : ListClass) (ds : List Declaration) → Each (Found pous vs) ds → Each (IsPinOf vs (class_of c)) (filter_map pin_of (filter (λ (d : Declaration). same_class d.class c) ds))
pins_found pous vs c [] own = tt
pins_found pous vs c (d ∷ ds) own = by (same_class d.class c) refl (pins_found pous vs c ds own.1)
  where
    Rest : List Declaration
    Rest = filter (λ (x : Declaration). same_class x.class c) ds

    pinned : Option Ty → Option BlockPin
    pinned o = option_map (λ t. let b : BlockPin = record { name = d.variable.name; ty = t } in b) o

    plain : (t : VarTy) → d.variable.ty ≡ t → class_of d.class ≡ class_of c → Each (IsPinOf vs (class_of c)) (filter_map pin_of Rest) → Each (IsPinOf vs (class_of c)) (cons_option (pinned (plain_type t)) (filter_map pin_of Rest))
    plain (Plain t) is same rest = (has_type pous vs d t (λ class. class ≡ class_of c) own.0 is same, rest)
    plain (Std k) is same rest = rest
    plain (Block place) is same rest = rest

    by : (b : Bool) → same_class d.class c ≡ b → Each (IsPinOf vs (class_of c)) (filter_map pin_of Rest) → Each (IsPinOf vs (class_of c)) (filter_map pin_of (cond b (d ∷ Rest) Rest))
    by true e rest = plain d.variable.ty refl (one_class d.class c e) rest
    by false e rest = rest

module _ (project : Project) (links : Links) (types : Types) (plan : Plan) (sound : Sound project) where
  abbrev pous : List Pou
  pous = project.pous

  abbrev dia : diagram.Project
  dia = whole project links types plan

  -- the variables of a POU in its diagram
  abbrev pub shown_variables : Pou → List layout.Variable
  shown_variables p = layout.variables_of (lists_of pous p)

  pub along_lists : (p : Pou) → PouIsSound pous p → Along (IsShown pous) (declarations_of p) (shown_variables p)
  along_lists p s = lists_shown pous p.kind p.lists s.lists

  pub declared_there : (p : Pou) → PouIsSound pous p → (name : List ℕ) (d : Declaration) → declaration_named p name ≡ Some d → Found pous (shown_variables p) d
  unfolding declaration_named
  declared_there p s name d is =
      let r = leads pous name (declarations_of p) (shown_variables p) d (along_lists p s) is in
      let key : in_lower_case name ≡ in_lower_case d.variable.name = bytes_same (in_lower_case name) (in_lower_case d.variable.name) r.same in
      record { variable = r.variable; found = ap (λ k. variable_named k (shown_variables p)) (sym key) ∙ r.found; shown = r.shown }

  each_declared : (p : Pou) → PouIsSound pous p → Each (Found pous (shown_variables p)) (declarations_of p)
  each_declared p s = each_own pous (shown_variables p) (declarations_of p) (shown_variables p) (along_lists p s) (named_each (shown_variables p) (variables_differ project links types plan sound p s))

  pub variable_there : (p : Pou) → PouIsSound pous p → (name : List ℕ) (d : Declaration) (t : Ty) → declaration_named p name ≡ Some d → d.variable.ty ≡ Plain t → IsVariable (shown_variables p) d.variable.name t
  variable_there p s name d t is e = has_type pous (shown_variables p) d t (λ class. class ≢ tree.Temp) (declared_there p s name d is) e (no_temp d.class)

  pub written_there : (p : Pou) → PouIsSound pous p → (name : List ℕ) (d : Declaration) → declaration_named p name ≡ Some d → can_be_written d ≡ true → CanBeWritten (shown_variables p) d.variable.name
  written_there p s name d is can = λ v named.
      let f = declared_there p s name d is in
      let same : f.variable ≡ v = one (sym f.found ∙ named) in
      let more = both_parts (is_some (plain_type d.variable.ty)) (not d.constant) (not (same_class d.class class.Input)) can in (
        subst (λ (x : layout.Variable). x.class ≢ tree.Input) same (λ h. no_input d.class more.1 (sym f.shown.class ∙ h)),
        subst (λ (x : layout.Variable). x.mark ≢ tree.Constant) same (f.shown.mark (not-true d.constant more.0)),
      )
    where
      one : {a b : layout.Variable} → Some a ≡ Some b → a ≡ b
      one {a} {b} h = cc

      both_parts : (a b c : Bool) → a && b && c ≡ true → (b ≡ true) × (c ≡ true)
      both_parts true true true h = (refl, refl)
      both_parts true true false h = cc
      both_parts true false c h = cc
      both_parts false b c h = cc

  -- ---- instances

  -- what stands within an instance of a type
  abbrev pub within : VarTy → List layout.Variable
  within t = composed (world_of dia) (spelled_type pous t)

  -- no elementary type
  abbrev pub IsBlockType : VarTy → Type 0
  IsBlockType (Plain t) = ⊥
  IsBlockType (Std k) = Unit {0}
  IsBlockType (Block place) = Unit {0}

  no_elementary : (t : VarTy) → IsBlockType t → IsKnown pous t → type_named (spelled_type pous t) ≡ None
  no_elementary (Plain t) b k = absurd b
  no_elementary (Std k) b h = (kind_of_name k).1
  no_elementary (Block place) b h = (is_block project links types plan sound place h.0 h.1 h.2).no_type

  pub instance_there : (p : Pou) → PouIsSound pous p → (name : List ℕ) (d : Declaration) → declaration_named p name ≡ Some d → IsBlockType d.variable.ty → IsInstance (world_of dia) (shown_variables p) d.variable.name (within d.variable.ty)
  instance_there p s name d is b =
      let f = declared_there p s name d is in
      record {
        variable = f.variable;
        found = f.found;
        composite = ap type_named f.shown.ty ∙ no_elementary d.variable.ty b f.shown.known;
        parts = ap (composed (world_of dia)) (sym f.shown.ty);
      }

  pub within_standard : (k : StdKind) → within (Std k) ≡ layout.variables_of (pin_blocks k)
  within_standard k = let facts = kind_of_name k in rw (facts.0, composed) refl

  pub within_block : (place : ℕ) (h : IsKnown pous (Block place)) → within (Block place) ≡ shown_variables h.0
  within_block place h = block_world project links types plan sound place h.0 (is_block project links types plan sound place h.0 h.1 h.2)

  pub pins_there : (c : ListClass) (place : ℕ) (h : IsKnown pous (Block place)) → Each (IsPinOf (within (Block place)) (class_of c)) (pins_where c (slice_get pous place))
  pins_there c place h =
      let q = h.0 in
      let s = (is_block project links types plan sound place q h.1 h.2).keeps in
      subst (λ (vs : List layout.Variable). Each (IsPinOf vs (class_of c)) (pins_where c (slice_get pous place))) (sym (within_block place h))
      (subst (λ (o : Option Pou). Each (IsPinOf (shown_variables q) (class_of c)) (pins_where c o)) (sym h.1) (pins_found pous (shown_variables q) c (declarations_of q) (each_declared q s)))

  pub outputs_there : (t : VarTy) → IsKnown pous t → Each (IsPinOf (within t) tree.Output) (outputs_of_type pous t)
  unfolding outputs_of_type
  outputs_there (Plain t) h = tt
  outputs_there (Std k) h = subst (λ (vs : List layout.Variable). Each (IsPinOf vs tree.Output) (standard_pins role.Out k)) (sym (within_standard k)) (standard_outputs k)
  outputs_there (Block place) h = pins_there class.Output place h

  pub inputs_there : (k : StdKind) → Each (IsPinOf (within (Std k)) tree.Input) (standard_pins role.In k)
  inputs_there k = subst (λ (vs : List layout.Variable). Each (IsPinOf vs tree.Input) (standard_pins role.In k)) (sym (within_standard k)) (standard_inputs k)

  has_outputs : (t : VarTy) (key : List ℕ) (o : BlockPin) → pin_named key (outputs_of_type pous t) ≡ Some o → IsBlockType t
  unfolding outputs_of_type
  has_outputs (Plain t) key o h = absurd (cc)
  has_outputs (Std k) key o h = tt
  has_outputs (Block place) key o h = tt

  -- ---- what elements name

  -- the type of what can be read
  abbrev pub IsRead : Held → Ty → Type 0
  IsRead (OfLiteral l) t = ⊥
  IsRead (OfVariable d u) t = u ≡ t
  IsRead (OfInstance d) t = ⊥
  IsRead (OfOutput d o) t = o.ty ≡ t

  pub operand_fits : (dp : diagram.Pou) (D : List (ℕ × diagram.Port)) (p : Pou) → dp.lists ≡ lists_of pous p → PouIsSound pous p → (h : Held) (t : Ty) → HeldIs pous p h → IsRead h t
      → OperandFits (record { project = dia; pou = dp; done = D }) (operand_by (Some h)) t
  operand_fits dp D p lists s (OfLiteral l) t from read = absurd read
  operand_fits dp D p lists s (OfVariable d u) t from read =
      subst (λ (bs : List tree.Block). IsVariable (layout.variables_of bs) d.variable.name t) (sym lists) (variable_there p s from.0 d t from.1 (from.2 ∙ ap Plain read))
  operand_fits dp D p lists s (OfInstance d) t from read = absurd read
  operand_fits dp D p lists s (OfOutput d o) t from read =
      let f = declared_there p s from.0 d from.1 in
      let own = found_one (IsPinOf (within d.variable.ty) tree.Output) (λ (q : BlockPin). same_name from.2 q.name) (outputs_of_type pous d.variable.ty) o (outputs_there d.variable.ty f.shown.known) from.3 in (
        within d.variable.ty,
        subst (λ (bs : List tree.Block). IsInstance (world_of dia) (layout.variables_of bs) d.variable.name (within d.variable.ty)) (sym lists) (instance_there p s from.0 d from.1 (has_outputs d.variable.ty from.2 o from.3)),
        subst (λ u. IsDeclaredAs (within d.variable.ty) o.name u (λ class. class ≡ tree.Output)) read own.0,
      )
