-- What the law on bodies asks of each name of an element, as equations on the text of its POU. No meaning enters it.
use Rattle.std.specs.Prelude.{◌≡◌, ◌≢◌, ◌<◌, ◌^◌, ℕ, ℤ, true, List, [], ◌∷◌, ◌++◌, Some, None, map}
use Rattle.std.specs.List.{Contains}
use Rattle.plcx_types.specs.declared.ty.Ty.{Ty}
use Rattle.plcx_types.specs.declared.ty.Ty.TheVariants as ty
use Rattle.plcx_types.specs.Name.{in_lower_case}
use Rattle.plcx_funcs.specs.declared.func.Func.{Func}
use Rattle.plcx_funcs.specs.Names.{is_function}
use Rattle.plcx_funcs.specs.Applied.{value}
use Rattle.plcx_types.specs.Lists.{Each}
use Rattle.plcx_meaning.specs.Base.{Path, put, is_declared, AtEdge, AtOutput, Ended, Site}
use Rattle.plcx_meaning.specs.Layout.{Variable, variable_named}
use Rattle.plcx_meaning.specs.Functions.{Given, group_of, can_apply, out_type}
use Rattle.plcx_meaning.specs.Diagram.{Source, Rail, Literal, Wire, Back, Link, Operand, Storing, Stored, Enable, InputPin, InOutPin, OutputPin, ElementKind, Still, In, Out, Contact, Coil, Pass, Label, Jump, Return, Function, Call, Port, port, ports, has_edge, DiagramElement, has_jump}
use Rattle.plcx_meaning.specs.Evaluate.{leaf_named, operand_leaf, Wires, DiagramState, DiagramCalls, elements_do}
use Rattle.plcx_meaning.specs.Same.{Agree, IsDeclared}
use Rattle.plcx_meaning.proofs.Alike.{Alike, Nothing}
use Rattle.plcx_types.specs.TypeName.{type_named}
use Rattle.plcx_meaning.specs.Execute.{Temporary, Kept, Instance, Takes, Binds, TextSetting, referent_of, TextState, Frame, read, assign, leaf_at, has_leaf, value_of, formal_named, parts_named, all_bound, read_output, TextCalls, list_runs}
use Rattle.plcx_meaning.specs.Templates.{wire_name, memory_name, counter_name, operand_text, input_text, in_out_text, elements_text}
use Rattle.plcx_meaning.specs.Fits.{fixed_by, is_fresh}

-- a variable of the diagram, which the text reads and writes at the same leaf
pub record VariableAsked (c : TextSetting) (vs : List Variable) (x : List ℕ) (t : Ty) : Type 0 where
  pub reads : (s : Path → ℤ) (f : Frame) → read (referent_of c x) x c.site s f ≡ Given (value t (s (leaf_named vs c.site x)))
  pub writes : (n : ℤ) (g : TextState) (f : Frame) → assign (referent_of c x) x c.site (value t n) g f ≡ Ended (record g { store = put g.store (leaf_named vs c.site x) n }) f
  pub has : has_leaf (referent_of c x) t ≡ true
  pub leaf : leaf_at (referent_of c x) x c.site ≡ leaf_named vs c.site x
  pub declared : is_declared (leaf_named vs c.site x) ≡ true

pub record OperandAsked (c : TextSetting) (vs : List Variable) (operand : Operand) (t : Ty) : Type 0 where
  pub reads : (s : Path → ℤ) (f : Frame) → value_of (operand_text operand) c s f ≡ Given (value t (s (operand_leaf vs c.site operand)))
  pub declared : is_declared (operand_leaf vs c.site operand) ≡ true

abbrev pub SourceAsked : TextSetting → List (ℕ × Port) → Ty → Source → Type 0
SourceAsked c done t Rail = t ≡ ty.Bool
SourceAsked c done t (Literal negated n) = negated ≡ true → t ≡ ty.Bool
SourceAsked c done t (Wire id pin) = (referent_of c (wire_name id pin) ≡ Temporary t) × Contains done (id, port pin t)
SourceAsked c done t (Back id pin) = referent_of c (memory_name (AtOutput id pin)) ≡ Kept t

pub record LinkAsked (c : TextSetting) (done : List (ℕ × Port)) (link : Link) : Type 0 where
  pub first : SourceAsked c done link.ty link.first
  pub others : Each (SourceAsked c done link.ty) link.others
  pub negated : link.negated ≡ true → link.ty ≡ ty.Bool
  pub several : link.others ≢ [] → link.ty ≡ ty.Bool

abbrev pub TruthAsked : TextSetting → List (ℕ × Port) → Link → Type 0
TruthAsked c done link = LinkAsked c done link × (link.ty ≡ ty.Bool)

abbrev pub StoringAsked : Storing → Ty → Type 0
StoringAsked Stored t = Unit {0}
StoringAsked _ t = t ≡ ty.Bool

abbrev pub EnableAsked : TextSetting → List (ℕ × Port) → Enable → Type 0
EnableAsked c done enable = (link : Link) → enable.en ≡ Some link → TruthAsked c done link

pub record InputAsked (c : TextSetting) (done : List (ℕ × Port)) (instance : List ℕ) (i : InputPin) : Type 0 where
  pub formal : formal_named c instance i.name ≡ Takes i.link.ty
  pub link : LinkAsked c done i.link
  pub declared : is_declared (in_lower_case i.name ∷ []) ≡ true

pub record InOutAsked (c : TextSetting) (vs : List Variable) (instance : List ℕ) (i : InOutPin) : Type 0 where
  pub ty : Ty
  pub formal : formal_named c instance i.name ≡ Binds ty
  pub variable : VariableAsked c vs i.variable ty

pub record OutputAsked (c : TextSetting) (instance : List ℕ) (o : OutputPin) : Type 0 where
  pub reads : (p : Path) (s : Path → ℤ) → read_output c.world (variable_named (in_lower_case o.name) (parts_named c instance)) p s ≡ Given (value o.ty (s p))
  pub negated : o.negated ≡ true → o.ty ≡ ty.Bool
  pub declared : is_declared (in_lower_case o.name ∷ []) ≡ true

pub record CallAsked (c : TextSetting) (vs : List Variable) (done : List (ℕ × Port)) (instance : List ℕ) (taken : List InputPin) (bound : List InOutPin) (given : List OutputPin) : Type 0 where
  -- the instance, in the diagram and in the text
  pub variable : Variable
  pub found : variable_named (in_lower_case instance) vs ≡ Some variable
  pub composite : type_named variable.ty ≡ None
  pub place : referent_of c instance ≡ Instance variable.ty
  pub declared : is_declared (in_lower_case instance ∷ []) ≡ true
  pub inputs : Each (InputAsked c done instance) taken
  pub in_outs : Each (InOutAsked c vs instance) bound
  pub all : all_bound (map input_text taken ++ map in_out_text bound) (parts_named c instance) ≡ true
  pub outputs : Each (OutputAsked c instance) given

pub record FunctionAsked (c : TextSetting) (done : List (ℕ × Port)) (f : Func) (t : Ty) (links : List Link) : Type 0 where
  pub function : is_function f ≡ true
  pub group : group_of f (map (λ (l : Link). l.ty) links) ≡ Some t
  pub applies : can_apply f t (map (λ (l : Link). l.ty) links) ≡ true
  pub inputs : Each (LinkAsked c done) links

abbrev pub KindAsked : TextSetting → List Variable → List (ℕ × Port) → ElementKind → Type 0
KindAsked c vs done Still = Unit {0}
KindAsked c vs done (In t negated operand) = OperandAsked c vs operand t × (negated ≡ true → t ≡ ty.Bool)
KindAsked c vs done (Out how x link) = VariableAsked c vs x link.ty × StoringAsked how link.ty × LinkAsked c done link
KindAsked c vs done (Contact how operand link) = OperandAsked c vs operand ty.Bool × TruthAsked c done link
KindAsked c vs done (Coil how x link) = VariableAsked c vs x ty.Bool × TruthAsked c done link
KindAsked c vs done (Pass link) = LinkAsked c done link
KindAsked c vs done (Label name) = Unit {0}
KindAsked c vs done (Jump label link) = TruthAsked c done link
KindAsked c vs done (Return link) = TruthAsked c done link
KindAsked c vs done (Function f t enable links negated) = FunctionAsked c done f t links × EnableAsked c done enable × (negated ≡ true → out_type f t ≡ ty.Bool)
KindAsked c vs done (Call instance enable taken bound given) = CallAsked c vs done instance taken bound given × EnableAsked c done enable

-- the variables of an element in the text: its wires, its edge and what feeds back
pub record OwnAsked (c : TextSetting) (e : DiagramElement) : Type 0 where
  pub small : e.id < 2 ^ 64
  pub wires : Each (λ (o : Port). referent_of c (wire_name e.id o.pin) ≡ Temporary o.ty) (ports e.kind)
  pub edge : has_edge e.kind ≡ true → referent_of c (memory_name (AtEdge e.id)) ≡ Kept ty.Bool
  pub fed : Each (λ (o : Port). (referent_of c (memory_name (AtOutput e.id o.pin)) ≡ Kept o.ty) × Contains (ports e.kind) o) e.fed

abbrev pub ElementsAsked : TextSetting → List Variable → List (ℕ × Port) → List DiagramElement → Type 0
ElementsAsked c vs done [] = Unit {0}
ElementsAsked c vs done (e ∷ es) = OwnAsked c e × (is_fresh e.id done ≡ true) × KindAsked c vs done e.kind × ElementsAsked c vs (fixed_by e ++ done) es

-- a whole body
pub record BodyAsked (c : TextSetting) (vs : List Variable) (body : List (List DiagramElement)) : Type 0 where
  pub networks : Each (ElementsAsked c vs []) body
  pub counter : has_jump body ≡ true → referent_of c counter_name ≡ Temporary ty.Dint

-- equal values of the wires that are fixed so far
abbrev pub SameWires : List (ℕ × Port) → Wires → Frame → Type 0
SameWires done ws f = Each (λ (d : ℕ × Port). ws d.0 d.1.pin ≡ f (in_lower_case (wire_name d.0 d.1.pin))) done

-- the outputs that are fixed behind all of these elements
abbrev pub done_after : List DiagramElement → List (ℕ × Port) → List (ℕ × Port)
done_after [] done = done
done_after (e ∷ es) done = done_after es (fixed_by e ++ done)

-- the blocks of the instances among these variables do the same, however they are evaluated and run
abbrev pub CallsAlike : List Variable → DiagramCalls → TextCalls → Type 0
CallsAlike vs called call = (i : List ℕ) (v : Variable) → variable_named (in_lower_case i) vs ≡ Some v → type_named v.ty ≡ None
    → (site : Site) → IsDeclared site → (d : DiagramState) (g : TextState) → Agree d g → Alike Nothing (called v.ty site d) (call v.ty site g)

-- elements one after another do what their text does
abbrev pub ElementsAlike : TextSetting → ℕ → List Variable → DiagramCalls → TextCalls → Type 0
ElementsAlike c pou vs called call = (done : List (ℕ × Port)) (es : List DiagramElement) → ElementsAsked c vs done es
    → (d : DiagramState) (ws : Wires) (g : TextState) (f : Frame) → Agree d g → SameWires done ws f
    → Alike (SameWires (done_after es done)) (elements_do es (record { pou = pou; variables = vs; site = c.site; called = called }) d ws) (list_runs (elements_text es) c call g f)
