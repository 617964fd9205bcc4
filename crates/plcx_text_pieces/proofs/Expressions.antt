-- The pieces of expressions, assignments and calls stand for these.
use Rattle.std.proofs.Common.{◌≡◌, ℕ, ◌+◌, ◌≤◌, List, [], ◌∷◌, ◌++◌, length, map, Option, Some, None, refl, sym, ap, ap₂, ◌∙◌, subst, arith}
use Rattle.std.specs.Prelude.{slice_get}
use Rattle.std.proofs.lemmas.List.{length-append}
use Rattle.plcx_types.specs.declared.ty.Ty.{Ty}
use Rattle.plcx_types.specs.Value.{Value}
use Rattle.plcx_types.specs.TypeName.{type_named}
use Rattle.plcx_types.specs.Name.{in_lower_case}
use Rattle.plcx_std.specs.declared.kind.StdKind.{StdKind}
use Rattle.plcx_std.specs.declared.kind.StdKind.TheVariants as kind
use Rattle.plcx_std.specs.Kind.{kind_named}
use Rattle.plcx_meaning.specs.Tree.{Expression, Number, Name, Member, Apply, Not, Binary, Expressions, no_expression, expression, Argument}
use Rattle.plcx_meaning.specs.Standard.{pin_blocks}
use Rattle.plcx_meaning.specs.Layout.{Variable, variables_of, World, Meaning, Elementary, Composed, composed, meaning, parts, parts_of}
use Rattle.plcx_meaning.specs.Execute.{Referent, Instance, referent_by, referent, Formal, Takes, Binds, NoFormal, world_of}
use Rattle.plcx_meaning.specs.Typed.{variable_in, expression_type}
use Rattle.plcx_state.specs.Stores.{HasValue}
use Rattle.plcx_steps.specs.declared.program.Operand.{Operand}
use Rattle.plcx_steps.specs.declared.program.Action.TheVariants as action
use Rattle.plcx_numbered.specs.Numbers.{in_out_names}
use Rattle.plcx_text_steps.specs.declared.text.Line.{Line}
use Rattle.plcx_text_steps.specs.declared.text.Line.TheVariants as line
use Rattle.plcx_text_numbered.specs.Prepared.{Numbering, or_bool, wires_of, all_wires, source_of}
use Rattle.plcx_text_numbered.specs.Statements.{formal_of, taken_wires, store_lines}
use Rattle.plcx_text_numbered.specs.Numbers.{leaf_number, place_named, temporary_names, bound_operands}
use Rattle.plcx_text_numbered.specs.Texts as texts
use Rattle.plcx_text_numbered.specs.Texts.{Owner, num, Parts, HasWire, HasWires, HaveWires, IsExpressionOf, IsAssignOf, IsInputOf, IsTakenOf, AreTakenOf, inner_in_outs, IsCallOf}
use Rattle.plcx_text_pieces.specs.Called.{Callee, callee_by, callee_found, numbers_of}
use Rattle.plcx_text_pieces.specs.Pieces.{Piece, Start, joined, after, wire_value, wire_values, all_wire_values, value_piece, fixed_piece, assign_piece, taken_piece, all_taken_piece, bindings_for, called_lines, run_piece, call_piece}
use Rattle.plcx_text_pieces.specs.Laws.{StandsIn, Has}
use Rattle.plcx_text_pieces.proofs.Values.{wires_count, all_wires_count}
use Rattle.plcx_text_pieces.proofs.Standing.{room_for, two_parts, one_there, has_first, has_second}

-- ---- the wires of an expression

value_there : (wires : List Value) (w v : ℕ) (t : Ty) → w ≡ v → StandsIn wires w (wire_value t ∷ []) → HasValue wires v t
value_there wires w v t same h = subst (λ n. HasValue wires n t) same (record { value = wire_value t; is = one_there wires w (wire_value t) h; typed = refl })

mutual
  has_wires : (c : Numbering) (wires : List Value) (w : ℕ) (e : Expression) → StandsIn wires w (wire_values c e) → HasWires c wires w e
  has_wires c wires w (Number v) h = tt
  has_wires c wires w (Name x) h = tt
  has_wires c wires w (Member i x) h = tt
  has_wires c wires w (Apply x es) h =
      let both = two_parts wires w (all_wire_values c es) _ h in
      (have_wires c wires w es both.0, value_there wires _ _ _ (ap (λ n. w + n) (all_wires_count c es)) both.1)
  has_wires c wires w (Not e) h =
      let both = two_parts wires w (wire_values c e) _ h in
      (has_wires c wires w e both.0, value_there wires _ _ _ (ap (λ n. w + n) (wires_count c e)) both.1)
  has_wires c wires w (Binary op a b) h =
      let first = two_parts wires w (wire_values c a) _ h in
      let second = two_parts wires (w + length (wire_values c a)) (wire_values c b) _ first.1 in
      let m = wires_count c a in
      let n = wires_count c b in
      let sum : w + length (wire_values c a) + length (wire_values c b) ≡ w + (wires_of a + wires_of b) = omega arith in (
        has_wires c wires w a first.0,
        subst (λ k. HasWires c wires k b) (ap (λ k. w + k) m) (has_wires c wires _ b second.0),
        value_there wires _ _ _ sum second.1,
      )

  have_wires : (c : Numbering) (wires : List Value) (w : ℕ) (es : Expressions) → StandsIn wires w (all_wire_values c es) → HaveWires c wires w es
  have_wires c wires w no_expression h = tt
  have_wires c wires w (expression e es) h =
      let both = two_parts wires w (wire_values c e) _ h in
      (has_wires c wires w e both.0, subst (λ k. HaveWires c wires k es) (ap (λ k. w + k) (wires_count c e)) (have_wires c wires _ es both.1))

-- ---- calls of standard blocks have no bindings

no_in_outs : (k : StdKind) → in_out_names (variables_of (pin_blocks k)) ≡ []
no_in_outs kind.Ton = refl
no_in_outs kind.Tof = refl
no_in_outs kind.Tp = refl
no_in_outs kind.Ctu = refl
no_in_outs kind.Ctd = refl
no_in_outs kind.Ctud = refl
no_in_outs kind.Sr = refl
no_in_outs kind.Rs = refl
no_in_outs kind.RTrig = refl
no_in_outs kind.FTrig = refl

standard_names : (world : World) (name : List ℕ) (k : StdKind) → kind_named name ≡ Some k → in_out_names (parts (meaning world name)) ≡ []
standard_names world name k e = by_type (type_named name)
  where
    by_type : (o : Option Ty) → in_out_names (parts (elim o [ Some t ↦ Elementary t | None ↦ Composed (composed world name) ])) ≡ []
    by_type (Some t) = refl
    by_type None = ap (λ o. in_out_names (elim o [ Some j ↦ variables_of (pin_blocks j) | None ↦ variables_of (world (in_lower_case name)) ])) e ∙ no_in_outs k

-- what is known of an instance: its variable
instance_found : (world : World) (o : Option Variable) (type : List ℕ) → referent world o ≡ Instance type → (v : Variable) × (o ≡ Some v)
instance_found world None type h = absurd (cc)
instance_found world (Some v) type h = (v, refl)

module _ (o : Owner) (c : Parts) where
  abbrev temporaries : ℕ
  temporaries = length (temporary_names (variables_of o.pou.blocks))

  pub value_stands : (s : Start) (e : Expression) → Has c s (value_piece (num o) s e) → temporaries ≤ s.wires → IsExpressionOf o c s.wires e (value_piece (num o) s e).lines (source_of (num o) s.wires e)
  value_stands s e h free = record {
    first = s.arguments;
    begins = h.arguments.begins;
    has = h.arguments.has;
    free = free;
    room = room_for c.wires s.wires (wires_of e) (wire_values (num o) e) h.wires (wires_count (num o) e);
    wires = has_wires (num o) c.wires s.wires e h.wires;
    are_lines = refl;
    is_source = refl;
  }

  pub assign_stands : (s : Start) (x : List ℕ) (e : Expression) → Has c s (assign_piece (num o) s x e) → temporaries ≤ s.wires → IsAssignOf o c x e (assign_piece (num o) s x e).lines
  assign_stands s x e h free = record {
    before = (value_piece (num o) s e).lines;
    source = source_of (num o) s.wires e;
    value = record { wire = s.wires; value = value_stands s e (has_first c s _ _ h) free };
    are_lines = refl;
  }

  -- ---- calls

  input_stands : (s : Start) (a : Argument) (t : Ty) → Has c s (taken_piece (num o) s (Takes t) a) → temporaries ≤ s.wires → IsInputOf o c s.wires a t (taken_piece (num o) s (Takes t) a).lines
  input_stands s a t h free =
      let p = value_piece (num o) s a.value in
      let own = has_second c s p (fixed_piece (after s p) (source_of (num o) s.wires a.value) t) h in
      let same : s.wires + length (wire_values (num o) a.value) ≡ s.wires + wires_of a.value = ap (λ n. s.wires + n) (wires_count (num o) a.value) in
      record {
        before = p.lines;
        source = source_of (num o) s.wires a.value;
        value = value_stands s a.value (has_first c s _ _ h) free;
        own = value_there c.wires _ _ t same own.wires;
        are_lines = ap (λ n. p.lines ++ line.Act (action.Fix (source_of (num o) s.wires a.value) n) ∷ []) same;
      }

  one_taken : (s : Start) (a : Argument) (f : Formal) → Has c s (taken_piece (num o) s f a) → temporaries ≤ s.wires → IsTakenOf o c s.wires a f (taken_piece (num o) s f a).lines
  one_taken s a (Takes t) h free = input_stands s a t h free
  one_taken s a (Binds t) h free = refl
  one_taken s a NoFormal h free = refl

  wires_taken : (s : Start) (a : Argument) (f : Formal) → (after s (taken_piece (num o) s f a)).wires ≡ s.wires + taken_wires f a
  wires_taken s a (Takes t) = ap (λ n. s.wires + n) (length-append (wire_values (num o) a.value) (wire_value t ∷ []) ∙ ap (λ n. n + 1) (wires_count (num o) a.value))
  wires_taken s a (Binds t) = refl
  wires_taken s a NoFormal = refl

  all_taken : (s : Start) (i : List ℕ) (args : List Argument) → Has c s (all_taken_piece (num o) s i args) → temporaries ≤ s.wires → AreTakenOf o c i s.wires args (all_taken_piece (num o) s i args).lines
  all_taken s i [] h free = refl
  all_taken s i (a ∷ rest) h free =
      let f = formal_of (num o) i a in
      let p = taken_piece (num o) s f a in
      let q = all_taken_piece (num o) (after s p) i rest in
      let later : temporaries ≤ (after s p).wires = omega arith in
      (p.lines, q.lines, refl, one_taken s a f (has_first c s p q h) free, subst (λ w. AreTakenOf o c i w rest q.lines) (wires_taken s a f) (all_taken (after s p) i rest (has_second c s p q h) later))

  -- what is run
  lines_run : (i : List ℕ) (v : Variable) (first : ℕ)
      → called_lines (callee_found o i (Some v)) first ≡ texts.called_lines o first i v
  lines_run i v first = by_kind (kind_named v.ty)
    where
      by_kind : (k : Option StdKind)
          → called_lines (callee_by o i v.ty (leaf_number o.unit (in_lower_case i) (variables_of o.pou.blocks)) k) first
          ≡ elim k [
            | Some j ↦ line.Act (action.Standard j (leaf_number o.unit (in_lower_case i) (variables_of o.pou.blocks))) ∷ []
            | None ↦ line.Call (place_named v.ty o.unit) (leaf_number o.unit (in_lower_case i) (variables_of o.pou.blocks)) first (length (inner_in_outs o i)) ∷ []
          ]
      by_kind (Some j) = refl
      by_kind None = refl

  bindings_run : (i : List ℕ) (v : Variable) (args : List Argument) → variable_in (num o).scope i ≡ Some v → bindings_for (num o) (callee_found o i (Some v)) args ≡ bound_operands (num o) args (inner_in_outs o i)
  bindings_run i v args found = by_kind (kind_named v.ty) refl
    where
      by_kind : (k : Option StdKind) → kind_named v.ty ≡ k
          → bindings_for (num o) (callee_by o i v.ty (leaf_number o.unit (in_lower_case i) (variables_of o.pou.blocks)) k) args ≡ bound_operands (num o) args (inner_in_outs o i)
      by_kind None e = refl
      by_kind (Some j) e = sym (ap (bound_operands (num o) args) (ap (λ w. in_out_names (parts_of (world_of o.unit) w)) found ∙ standard_names (world_of o.unit) v.ty j e))

  pub call_stands : (s : Start) (i : List ℕ) (args : List Argument) (type : List ℕ) → referent (num o).scope.world (variable_in (num o).scope i) ≡ Instance type → Has c s (call_piece (numbers_of o) s i args) → temporaries ≤ s.wires
      → IsCallOf o c i args (call_piece (numbers_of o) s i args).lines
  call_stands s i args type instance h free =
      let v = instance_found (num o).scope.world (variable_in (num o).scope i) type instance in
      let p = all_taken_piece (num o) s i args in
      let q = run_piece (numbers_of o) (after s p) s.wires i args in
      let run = has_second c s p q h in
      let callee = ap (callee_found o i) v.1 in
      record {
        instance = v.0;
        found = v.1;
        wire = s.wires;
        free = free;
        taken = p.lines;
        are_taken = all_taken s i args (has_first c s p q h) free;
        first = (after s p).bindings;
        begins = run.bindings.begins;
        has =
            (let P : List Operand → Type 0 = λ operands. StandsIn c.bindings (after s p).bindings operands in
            let S : P (bound_operands (num o) args (inner_in_outs o i)) = subst P (ap (λ k. bindings_for (num o) k args) callee ∙ bindings_run i v.0 args v.1) run.bindings in
            S.has);
        are_lines = ap (λ (ls : List Line). p.lines ++ (store_lines (num o) i s.wires args ++ ls)) (ap (λ k. called_lines k (after s p).bindings) callee ∙ lines_run i v.0 (after s p).bindings);
      }
