-- What assignments and calls add, by what their parts add.
use Rattle.std.proofs.Common.{◌≡◌, ℕ, ◌+◌, ◌<◌, ◌≤◌, List, [], ◌∷◌, ◌++◌, length, map, refl, sym, ap, ap₂, ◌∙◌, subst, append_assoc, drop, get_or}
use Rattle.std.proofs.lemmas.List.{append-nil, length-append}
use Rattle.plcx_types.specs.declared.ty.Ty.{Ty}
use Rattle.plcx_std.specs.declared.kind.StdKind.{StdKind}
use Rattle.plcx_meaning.specs.Tree.{Expression, Argument}
use Rattle.plcx_meaning.specs.Execute.{Formal, Takes, Binds, NoFormal}
use Rattle.plcx_st.specs.declared.tree.Arg.{Arg}
use Rattle.plcx_st.specs.Meant.{arg_meant}
use Rattle.plcx_steps.specs.declared.program.Operand.{Operand}
use Rattle.plcx_steps.specs.declared.program.Operand.TheVariants.{Leaf}
use Rattle.plcx_steps.specs.declared.program.Source.{Source}
use Rattle.plcx_steps.specs.declared.program.Source.TheVariants.{Wire}
use Rattle.plcx_steps.specs.declared.program.Argument.{Argument as Input}
use Rattle.plcx_steps.specs.declared.program.Action.TheVariants as action
use Rattle.plcx_text_steps.specs.declared.text.Line.{Line}
use Rattle.plcx_text_steps.specs.declared.text.Line.TheVariants as line
use Rattle.plcx_text_numbered.specs.Prepared.{Numbering, source_of, argument}
use Rattle.plcx_text_numbered.specs.Statements.{formal_of, taken_wires, store_line, store_one, store_lines}
use Rattle.plcx_text_numbered.specs.Numbers.{bound_operands}
use Rattle.plcx_text_pieces.specs.Called.{Callee, Block, User, Numbers}
use Rattle.plcx_text_pieces.specs.Pieces.{Start, nothing, after, one_line, wire_value, wire_values, value_piece, assign_piece, fixed_piece, taken_piece, all_taken_piece, bindings_for, called_lines, run_piece, call_piece}
use Rattle.plcx_text_pieces.proofs.Values.{wires_count}
use Rattle.plcx_text_lines.specs.declared.emitting.Prepared.{Prepared}
use Rattle.plcx_text_lines.specs.Added as added
use Rattle.plcx_text_lines.specs.Added.{start_of, Adds, Brings, TakesOne}
use Rattle.plcx_text_lines.proofs.Adding.{adds_nothing, adds_then, start_then}
use Rattle.plcx_text_lines.proofs.Bringing.{rest_more, rest_none}

-- what has the value
pub source_is : (c : Numbering) (e : Expression) (before behind : Prepared) (x : Input) → Brings c e before behind x → x.source ≡ source_of c (length before.wires.items) e
source_is c e before behind x h = ap (λ (y : Input). y.source) h.value

pub assigns : (c : Numbering) (name : List ℕ) (e : Expression) (before valued behind : Prepared) (x : Input) (l : Line) → Brings c e before valued x → l ≡ store_line (c.place name) x.source → Adds (one_line l) valued behind
    → Adds (assign_piece c (start_of before) name e) before behind
assigns c name e before valued behind x l first is last =
    adds_then (value_piece c (start_of before) e) _ before valued behind first.added
    (subst (λ (m : Line). Adds (one_line m) valued behind) (is ∙ ap (store_line (c.place name)) (source_is c e before valued x first)) last)

-- ---- arguments

module _ (c : Numbering) (i : List ℕ) (a : Argument) (before : Prepared) where
  abbrev w : ℕ
  w = length before.wires.items

  abbrev s : Start
  s = start_of before

  input_taken : (valued behind : Prepared) (x : Input) (stores more : List Line) (t : Ty) (leaf : ℕ) → Brings c a.value before valued x → Adds (fixed_piece (start_of valued) x.source t) valued behind → leaf ≡ c.inner i a.formal
      → more ≡ stores ++ line.Act (action.Write (Leaf leaf) (Wire (length valued.wires.items))) ∷ []
      → Adds (taken_piece c s (Takes t) a) before behind × (more ≡ stores ++ store_one (Takes t) c i w a)
  input_taken valued behind x stores more t leaf first last is_leaf is =
      let p = value_piece c s a.value in
      let at = start_then p before valued first.added in
      let here : Adds (fixed_piece (after s p) (source_of c w a.value) t) valued behind =
      subst (λ (u : Start). Adds (fixed_piece u (source_of c w a.value) t) valued behind) at
      (subst (λ (o : Source). Adds (fixed_piece (start_of valued) o t) valued behind) (source_is c a.value before valued x first) last) in (
        adds_then p _ before valued behind first.added here,
        is
            ∙ ap₂ (λ k m. stores ++ line.Act (action.Write (Leaf k) (Wire m)) ∷ []) is_leaf
            (ap (λ (u : Start). u.wires) at ∙ ap (λ n. w + n) (wires_count c a.value)),
      )

  pub takes_input : (valued behind : Prepared) (x : Input) (stores more : List Line) (t : Ty) (leaf : ℕ) → formal_of c i a ≡ Takes t → Brings c a.value before valued x → Adds (fixed_piece (start_of valued) x.source t) valued behind
      → leaf ≡ c.inner i a.formal → more ≡ stores ++ line.Act (action.Write (Leaf leaf) (Wire (length valued.wires.items))) ∷ [] → TakesOne c i a before behind stores more
  takes_input valued behind x stores more t leaf formal first last is_leaf is =
      let both = input_taken valued behind x stores more t leaf first last is_leaf is in
      record {
        added = subst (λ (f : Formal). Adds (taken_piece c s f a) before behind) (sym formal) both.0;
        stored = both.1 ∙ ap (λ (f : Formal). stores ++ store_one f c i w a) (sym formal);
      }

  pub takes_binding : (stores : List Line) (t : Ty) → formal_of c i a ≡ Binds t → TakesOne c i a before before stores stores
  takes_binding stores t formal = record {
    added = subst (λ (f : Formal). Adds (taken_piece c s f a) before before) (sym formal) (adds_nothing before);
    stored = sym (append-nil stores) ∙ ap (λ (f : Formal). stores ++ store_one f c i w a) (sym formal);
  }

  pub takes_nothing : (stores : List Line) → formal_of c i a ≡ NoFormal → TakesOne c i a before before stores stores
  takes_nothing stores formal = record {
    added = subst (λ (f : Formal). Adds (taken_piece c s f a) before before) (sym formal) (adds_nothing before);
    stored = sym (append-nil stores) ∙ ap (λ (f : Formal). stores ++ store_one f c i w a) (sym formal);
  }

  wires_taken : (f : Formal) → (after s (taken_piece c s f a)).wires ≡ w + taken_wires f a
  wires_taken (Takes t) = ap (λ n. w + n) (length-append (wire_values c a.value) (wire_value t ∷ []) ∙ ap (λ n. n + 1) (wires_count c a.value))
  wires_taken (Binds t) = refl
  wires_taken NoFormal = refl

  pub takes_next : (rest : List Argument) (next behind : Prepared) (stores later more : List Line) → TakesOne c i a before next stores later → added.Takes c i rest next behind more
      → added.Takes c i (a ∷ rest) before behind (store_one (formal_of c i a) c i w a ++ more)
  takes_next rest next behind stores later more first then_ =
      let p = taken_piece c s (formal_of c i a) a in
      let at = start_then p before next first.added in
      record {
        added = adds_then p _ before next behind first.added (subst (λ (u : Start). Adds (all_taken_piece c u i rest) next behind) at then_.added);
        stored =
            ap (λ ls. store_one (formal_of c i a) c i w a ++ ls)
            (then_.stored ∙ ap (λ n. store_lines c i n rest) (ap (λ (u : Start). u.wires) at ∙ wires_taken (formal_of c i a)));
      }

pub takes_none : (c : Numbering) (i : List ℕ) (before : Prepared) → added.Takes c i [] before before []
takes_none c i before = record { added = adds_nothing before; stored = refl }

-- ---- calls

pub calls : (n : Numbers) (i : List ℕ) (args : List Argument) (before taken stored behind : Prepared) (stores : List Line) (k : Callee) → added.Takes n.names i args before taken stores → Adds (record nothing { lines = stores }) taken stored
    → k ≡ n.callee i → Adds (record nothing { lines = called_lines k (length stored.bindings.items); bindings = bindings_for n.names k args }) stored behind
    → Adds (call_piece n (start_of before) i args) before behind
calls n i args before taken stored behind stores k first second is last =
    let s = start_of before in
    let p = all_taken_piece n.names s i args in
    let at : length stored.bindings.items ≡ (after s p).bindings =
    ap length (second.bindings ∙ append-nil taken.bindings.items) ∙ ap (λ (u : Start). u.bindings) (start_then p before taken first.added) in
    let called : Adds (record nothing { lines = called_lines (n.callee i) (after s p).bindings; bindings = bindings_for n.names (n.callee i) args }) stored behind =
    subst (λ (m : ℕ). Adds (record nothing { lines = called_lines (n.callee i) m; bindings = bindings_for n.names (n.callee i) args }) stored behind) at
    (subst (λ (j : Callee). Adds (record nothing { lines = called_lines j (length stored.bindings.items); bindings = bindings_for n.names j args }) stored behind) is last) in
    let storing : Adds (record nothing { lines = store_lines n.names i s.wires args }) taken stored =
    subst (λ (ls : List Line). Adds (record nothing { lines = ls }) taken stored) first.stored second in
    adds_then p (run_piece n (after s p) s.wires i args) before taken behind first.added (adds_then _ _ taken stored behind storing called)

-- ---- loops

-- the lines that store, whatever the rest of the arguments adds
abbrev pub Goes : Numbering → List ℕ → List Arg → ℕ → Prepared → List Line → (whole : List Argument) → Prepared → Type 0
Goes c i args k all stores whole before =
    (behind : Prepared) (more : List Line) → added.Takes c i (map arg_meant (drop k args)) all behind more → added.Takes c i whole before behind (stores ++ more)

pub takes_more : (c : Numbering) (i : List ℕ) (args : List Arg) (k : ℕ) (x : Arg) (all next before : Prepared) (stores later : List Line) (whole : List Argument) → k < length args → x ≡ get_or args k x
    → TakesOne c i (arg_meant x) all next stores later → Goes c i args k all stores whole before → Goes c i args (k + 1) next later whole before
takes_more c i args k x all next before stores later whole less is one inv behind more h =
    let a = arg_meant x in
    let here = store_one (formal_of c i a) c i (length all.wires.items) a in
    let rest : added.Takes c i (map arg_meant (drop k args)) all behind (here ++ more) =
    subst (λ (es : List Argument). added.Takes c i es all behind (here ++ more)) (sym (rest_more arg_meant args k x less is)) (takes_next c i a all (map arg_meant (drop (k + 1) args)) next behind stores later more one h) in
    subst (λ (ls : List Line). added.Takes c i whole before behind ls) (sym (ap (λ ls. ls ++ more) one.stored ∙ append_assoc stores here more)) (inv behind (here ++ more) rest)

pub takes_end : (c : Numbering) (i : List ℕ) (args : List Arg) (k : ℕ) (all before : Prepared) (stores : List Line) (whole : List Argument) → length args ≤ k → Goes c i args k all stores whole before → added.Takes c i whole before all stores
takes_end c i args k all before stores whole more inv =
    subst (λ (ls : List Line). added.Takes c i whole before all ls) (append-nil stores)
    (inv all [] (subst (λ (es : List Argument). added.Takes c i es all all []) (sym (rest_none arg_meant args k more)) (takes_none c i all)))

-- ---- the call itself

pub runs_block : (c : Numbering) (kind : StdKind) (leaf first : ℕ) (args : List Argument) (before behind : Prepared) → Adds (one_line (line.Act (action.Standard kind leaf))) before behind
    → Adds (record nothing { lines = called_lines (Block kind leaf) first; bindings = bindings_for c (Block kind leaf) args }) before behind
runs_block c kind leaf first args before behind h = h

pub runs_user : (c : Numbering) (pou leaves first : ℕ) (names : List (List ℕ)) (args : List Argument) (before called behind : Prepared) (l : Line) (os : List Operand) → Adds (one_line l) before called → l ≡ line.Call pou leaves first (length names)
    → Adds (record nothing { bindings = os }) called behind → os ≡ bound_operands c args names → Adds (record nothing { lines = called_lines (User pou leaves names) first; bindings = bindings_for c (User pou leaves names) args }) before behind
runs_user c pou leaves first names args before called behind l os one is more same =
    adds_then _ _ before called behind (subst (λ (m : Line). Adds (one_line m) before called) is one) (subst (λ (ps : List Operand). Adds (record nothing { bindings = ps }) called behind) same more)
