-- What stands at a pin: the text's expression has the diagram's value. Assignments whose value is known.
use Rattle.std.proofs.Common.{◌≡◌, ℕ, ℤ, pos, Bool, true, false, List, [], ◌∷◌, ◌≢◌, map, refl, sym, ap, ◌∙◌, subst}
use Rattle.plcx_types.specs.declared.ty.Ty.{Ty}
use Rattle.plcx_types.specs.declared.ty.Ty.TheVariants as ty
use Rattle.plcx_types.specs.Name.{in_lower_case}
use Rattle.plcx_funcs.specs.Applied.{value}
use Rattle.plcx_types.specs.Lists.{Each}
use Rattle.plcx_meaning.specs.Base.{Path, put, Memory, AtOutput, or_of, Ended, Site}
use Rattle.plcx_meaning.specs.Base as base
use Rattle.plcx_meaning.specs.Tree.{Expression, Binary, Or, Assign}
use Rattle.plcx_meaning.specs.Layout.{Variable}
use Rattle.plcx_meaning.specs.Functions.{Given}
use Rattle.plcx_meaning.specs.Diagram.{Source, Rail, Literal, Wire, Back, Link, Operand, Port, port}
use Rattle.plcx_meaning.specs.Evaluate.{DiagramState, Wires, leaf_named, operand_leaf, source_value, or_all, link_value}
use Rattle.plcx_meaning.specs.Execute.{Temporary, Kept, TextSetting, referent_of, TextState, Frame, hold, read, value_of, TextCalls, statement_runs}
use Rattle.plcx_meaning.specs.Templates.{wire_name, memory_name, wire, memory, not_if, source_text, or_text, link_text, operand_text, number}
use Rattle.plcx_meaning.specs.Same.{Agree, IsDeclared}
use Rattle.plcx_meaning.proofs.Lists.{each_at}
use Rattle.plcx_meaning.proofs.FunctionValues.{same_type, or_known, not_known}
use Rattle.plcx_meaning.proofs.Asked.{VariableAsked, OperandAsked, SourceAsked, LinkAsked, SameWires}

-- assignments
pub assign_temporary : (c : TextSetting) (call : TextCalls) (g : TextState) (f : Frame) (x : List ℕ) (e : Expression) (t : Ty) (n : ℤ) → referent_of c x ≡ Temporary t → value_of e c g.store f ≡ Given (value t n)
    → statement_runs (Assign x e) c call g f ≡ Ended g (hold f x n)
assign_temporary c call g f x e t n place known = rw (known, place, same_type t)

pub assign_variable : (c : TextSetting) (vs : List Variable) (call : TextCalls) (g : TextState) (f : Frame) (x : List ℕ) (e : Expression) (t : Ty) (n : ℤ) → VariableAsked c vs x t → value_of e c g.store f ≡ Given (value t n)
    → statement_runs (Assign x e) c call g f ≡ Ended (record g { store = put g.store (leaf_named vs c.site x) n }) f
assign_variable c vs call g f x e t n asked known = rw (known) (asked.writes n g f)

pub assign_memory : (c : TextSetting) (call : TextCalls) (g : TextState) (f : Frame) (k : Memory) (e : Expression) (t : Ty) (n : ℤ) → referent_of c (memory_name k) ≡ Kept t → value_of e c g.store f ≡ Given (value t n)
    → statement_runs (Assign (memory_name k) e) c call g f ≡ Ended (record g { store = put g.store (in_lower_case (memory_name k) ∷ c.site.path) n }) f
assign_memory c call g f k e t n place known = rw (known, place, same_type t)

-- under NOT, where the type is BOOL
pub negated_known : (c : TextSetting) (s : Path → ℤ) (f : Frame) (b : Bool) (e : Expression) (t : Ty) (n : ℤ) → (b ≡ true → t ≡ ty.Bool) → value_of e c s f ≡ Given (value t n) → value_of (not_if b e) c s f ≡ Given (value t (base.not_if b n))
negated_known c s f false e t n bool known = known
negated_known c s f true e t n bool known =
    let is : t ≡ ty.Bool = bool refl in
    not_known c s f e n (known ∙ ap (λ u. Given (value u n)) is) ∙ ap (λ u. Given (value u (base.not_of n))) (sym is)

-- a wire, and a memory
pub wire_known : (c : TextSetting) (s : Path → ℤ) (f : Frame) (id : ℕ) (pin : List ℕ) (t : Ty) → referent_of c (wire_name id pin) ≡ Temporary t → value_of (wire id pin) c s f ≡ Given (value t (f (in_lower_case (wire_name id pin))))
wire_known c s f id pin t place = rw (place)

pub memory_known : (c : TextSetting) → IsDeclared c.site → (d : DiagramState) (g : TextState) (f : Frame) (k : Memory) (t : Ty) → Agree d g → referent_of c (memory_name k) ≡ Kept t
    → value_of (memory k) c g.store f ≡ Given (value t (d.memories c.site.path k))
memory_known c site d g f k t a place =
    ap (λ p. read p (memory_name k) c.site g.store f) place ∙ ap (λ n. Given (value t n)) (sym (a.memories c.site.path k site.path))

pub operand_known : (c : TextSetting) (vs : List Variable) (d : DiagramState) (g : TextState) (f : Frame) (operand : Operand) (t : Ty) → Agree d g → OperandAsked c vs operand t
    → value_of (operand_text operand) c g.store f ≡ Given (value t (d.store (operand_leaf vs c.site operand)))
operand_known c vs d g f operand t a asked = asked.reads g.store f ∙ ap (λ n. Given (value t n)) (sym (a.stores (operand_leaf vs c.site operand) asked.declared))

module _ (c : TextSetting) (site : IsDeclared c.site) (done : List (ℕ × Port)) (d : DiagramState) (ws : Wires) (g : TextState) (f : Frame) (a : Agree d g) (same : SameWires done ws f) where
  source_known : (t : Ty) (s : Source) → SourceAsked c done t s → value_of (source_text t s) c g.store f ≡ Given (value t (source_value c.site.path d ws s))
  source_known t Rail asked = ap (λ u. Given (value u (pos 1))) (sym asked)
  source_known t (Literal negated n) asked = negated_known c g.store f negated (number t n) t n asked refl
  source_known t (Wire id pin) asked =
      wire_known c g.store f id pin t asked.0 ∙ ap (λ n. Given (value t n)) (sym (each_at (λ (o : ℕ × Port). ws o.0 o.1.pin ≡ f (in_lower_case (wire_name o.0 o.1.pin))) done (id, port pin t) same asked.1))
  source_known t (Back id pin) asked = memory_known c site d g f (AtOutput id pin) t a asked

  or_all_known : (e : Expression) (n : ℤ) (rest : List Source) → value_of e c g.store f ≡ Given (value ty.Bool n) → Each (SourceAsked c done ty.Bool) rest
      → value_of (or_text e (map (source_text ty.Bool) rest)) c g.store f ≡ Given (value ty.Bool (or_all n (map (source_value c.site.path d ws) rest)))
  or_all_known e n [] known asked = known
  or_all_known e n (s ∷ rest) known asked =
      or_all_known (Binary Or e (source_text ty.Bool s)) (or_of n (source_value c.site.path d ws s)) rest (or_known c g.store f e (source_text ty.Bool s) n (source_value c.site.path d ws s) known (source_known ty.Bool s asked.0)) asked.1

  sources_known : (t : Ty) (s : Source) (rest : List Source) → SourceAsked c done t s → Each (SourceAsked c done t) rest → (rest ≢ [] → t ≡ ty.Bool)
      → value_of (or_text (source_text t s) (map (source_text t) rest)) c g.store f ≡ Given (value t (or_all (source_value c.site.path d ws s) (map (source_value c.site.path d ws) rest)))
  sources_known t s [] one others bool = source_known t s one
  sources_known t s (r ∷ rest) one others bool =
      let is : t ≡ ty.Bool = bool (λ e. cc) in
      subst (λ u. value_of (or_text (source_text u s) (map (source_text u) (r ∷ rest))) c g.store f ≡ Given (value u (or_all (source_value c.site.path d ws s) (map (source_value c.site.path d ws) (r ∷ rest))))) (sym is)
      (or_all_known (source_text ty.Bool s) (source_value c.site.path d ws s) (r ∷ rest) (source_known ty.Bool s (subst (λ u. SourceAsked c done u s) is one)) (subst (λ u. Each (SourceAsked c done u) (r ∷ rest)) is others))

  pub link_known : (link : Link) → LinkAsked c done link → value_of (link_text link) c g.store f ≡ Given (value link.ty (link_value c.site.path d ws link))
  link_known link asked = negated_known c g.store f link.negated _ link.ty _ asked.negated (sources_known link.ty link.first link.others asked.first asked.others asked.several)
