-- The lines of an expression compute its value.
use Rattle.std.proofs.Common.{◌≡◌, ℕ, ◌+◌, ◌<◌, ◌≤◌, ℤ, Bool, true, false, List, [], ◌∷◌, ◌++◌, length, map, Option, Some, None, Result, Ok, Err, refl, sym, ap, ap₂, ◌∙◌, subst, arith}
use Rattle.std.specs.Prelude.{if◌then◌else◌}
use Rattle.std.specs.Option.{option_map, option_and_then}
use Rattle.std.proofs.lemmas.Grind.{get_or-set_at}
use Rattle.std.proofs.lemmas.Option.{slice_get_within}
use Rattle.plcx_types.specs.declared.fault.Fault.{Fault}
use Rattle.plcx_types.specs.declared.ty.Ty.{Ty}
use Rattle.plcx_types.specs.Name.{in_lower_case}
use Rattle.plcx_types.specs.Value.{Value}
use Rattle.plcx_funcs.specs.declared.func.Func.{Func}
use Rattle.plcx_funcs.specs.declared.func.Func.TheVariants as func
use Rattle.plcx_funcs.specs.Names.{function_named}
use Rattle.plcx_funcs.specs.Applied.{value, applied}
use Rattle.plcx_meaning.specs.Base.{Path, Ended, then_do, Site}
use Rattle.plcx_meaning.specs.Tree.{Class, Local, Input, Output, InOut, Temp, Expression, Number, Name, Member, Apply, Not, Binary, Expressions, no_expression, expression}
use Rattle.plcx_meaning.specs.Layout.{Variable, World, Meaning, Elementary, Composed, meaning}
use Rattle.plcx_meaning.specs.Functions.{Answer, Given, Missing, can_apply, out_type, group_of, answer, call_at, call_function, call_named}
use Rattle.plcx_meaning.specs.Execute.{Referent, Temporary, Kept, Bound, Instance, Unknown, referent, TextState, Frame, read as read_name, read_member, read_output, function_of, value_of, values_of}
use Rattle.plcx_meaning.specs.Typed.{referent_type, read_type, member_type, is_operator, type_at, result_type, call_type, expression_type, expression_types, variable_in, part_in}
use Rattle.plcx_meaning.proofs.Stuck.{types_of, and_then_some}
use Rattle.plcx_steps.specs.declared.program.Operand.TheVariants.{Leaf, InOut as Bound_at}
use Rattle.plcx_steps.specs.declared.program.Source.TheVariants.{Wire}
use Rattle.plcx_steps.specs.declared.program.Argument.{Argument}
use Rattle.plcx_steps.specs.Numbered.{Here, no_value, read, argument_at, arguments_at, set_wire, with_value}
use Rattle.plcx_steps.proofs.Typing.{arguments_typed}
use Rattle.plcx_numbered.specs.Right.{HasAt}
use Rattle.plcx_numbered.proofs.Elements.{at_parts}
use Rattle.plcx_text_steps.specs.declared.text.Text.{Text}
use Rattle.plcx_text_steps.specs.Numbered.{Numbers, Sections, cells_of, with_cells, lines_do}
use Rattle.plcx_text_numbered.specs.Agreeing.{Lies, SameInOuts, Agree, SameFrame, IsBelow, Reads, Runs}
use Rattle.plcx_text_numbered.specs.Prepared.{Place, Held, Stored, Numbering, or_bool, place_source, wires_of, all_wires, source_of, argument, inputs, arguments_of, all_arguments, group, call_lines, named_lines, lines_of, all_lines}
use Rattle.plcx_text_numbered.specs.Right.{Plan, IsPlaceOf, RightExpression, RightExpressions}
use Rattle.plcx_text_numbered.specs.Setting.{setting}
use Rattle.plcx_text_numbered.proofs.Runs.{runs_lines, runs_map, below_refl, below_then, below_set, frame_below, Low, source_below}

mapped_some : {A B : Type 0} (f : A → B) (o : Option A) (y : B) → option_map f o ≡ Some y → (x : A) × (o ≡ Some x) × (f x ≡ y)
mapped_some f None y h = absurd (cc)
mapped_some f (Some x) y h = (x, refl, cc)

-- the value that is read of an instance
within_read : (m : Meaning) (class : Class) (p : Path) (s : Path → ℤ) (t : Ty) → read_type m class ≡ Some t → read_member m class p s ≡ Given (value t (s p))
within_read (Elementary u) Output p s t h = let e : u ≡ t = cc in ap (λ k. Given (value k (s p))) e
within_read (Elementary u) Local p s t h = absurd (cc)
within_read (Elementary u) Input p s t h = absurd (cc)
within_read (Elementary u) InOut p s t h = absurd (cc)
within_read (Elementary u) Temp p s t h = absurd (cc)
within_read (Composed vs) class p s t h = absurd (cc)

member_read : (world : World) (o : Option Variable) (p : Path) (s : Path → ℤ) (t : Ty) → member_type world o ≡ Some t → read_output world o p s ≡ Given (value t (s p))
member_read world None p s t h = absurd (cc)
member_read world (Some v) p s t h = within_read (meaning world v.ty) v.class p s t h

-- the group of a function that gives a value, and what it gives
pub record Typed (f : Func) (types : List Ty) (t : Ty) : Type 0 where
  pub of_group : Ty
  pub is_group : group_of f types ≡ Some of_group
  pub suits : can_apply f of_group types ≡ true
  pub gives : out_type f of_group ≡ t

typed_at : (f : Func) (types : List Ty) (t u : Ty) → group_of f types ≡ Some u → type_at f types u ≡ Some t → Typed f types t
typed_at f types t u g h = by_test (can_apply f u types) refl h
  where
    by_test : (b : Bool) → can_apply f u types ≡ b → (if b then Some (out_type f u) else None) ≡ Some t → Typed f types t
    by_test true e k = record { of_group = u; is_group = g; suits = e; gives = cc }
    by_test false e k = absurd (cc)

pub typed_of : (f : Func) (types : List Ty) (t : Ty) → result_type f types ≡ Some t → Typed f types t
typed_of f types t h = let r = and_then_some (type_at f types) (group_of f types) t h in typed_at f types t r.0 r.1 r.2

-- so a call gives what the function does
call_is : (f : Func) (xs : List Value) (types : List Ty) (t : Ty) (h : Typed f types t) → types_of xs ≡ types → call_function f xs ≡ answer t (applied f h.of_group xs)
call_is f xs types t h same =
    ap (λ us. call_at f xs (group_of f us)) same
    ∙ ap (call_at f xs) h.is_group
    ∙ ap (λ us. if can_apply f h.of_group us then answer (out_type f h.of_group) (applied f h.of_group xs) else Missing) same
    ∙ ap (λ b. if b then answer (out_type f h.of_group) (applied f h.of_group xs) else Missing) h.suits
    ∙ ap (λ u. answer u (applied f h.of_group xs)) h.gives

module _ (whole : List Path) (plan : Plan) (c : Numbering) (site : Site) (sections : Sections) (text : Text) (here : Here) (g : TextState) (f : Frame) (n : Numbers)
    (lies : Lies whole plan.paths site.path here.at.leaves) (same_in_outs : SameInOuts whole plan.in_outs site.bound here.in_outs) (agrees : Agree whole g n) where
  -- a source is no later wire
  place_low : (x : List ℕ) (w : ℕ) → length plan.temporaries ≤ w → (r : Referent) (p : Place) → IsPlaceOf plan x r p → Low (w + 0) (place_source p)
  place_low x w le (Temporary t) (Held i) h = let low = slice_get_within plan.temporaries i (in_lower_case x) h in omega arith
  place_low x w le (Temporary t) (Stored o) h = absurd h
  place_low x w le (Kept t) (Held i) h = absurd h
  place_low x w le (Kept t) (Stored o) h = tt
  place_low x w le (Bound t) (Held i) h = absurd h
  place_low x w le (Bound t) (Stored o) h = tt
  place_low x w le (Instance type) p h = absurd h
  place_low x w le Unknown p h = absurd h

  source_low : (e : Expression) (w : ℕ) → length plan.temporaries ≤ w → RightExpression plan c e → Low (w + wires_of e) (source_of c w e)
  source_low (Number v) w le h = tt
  source_low (Name x) w le h = place_low x w le (referent c.scope.world (variable_in c.scope x)) (c.place x) h
  source_low (Member i x) w le h = tt
  source_low (Apply x es) w le h = let low : w + all_wires es < w + (all_wires es + 1) = omega arith in low
  source_low (Not e) w le h = let low : w + wires_of e < w + (wires_of e + 1) = omega arith in low
  source_low (Binary op a b) w le h = let low : w + (wires_of a + wires_of b) < w + (wires_of a + wires_of b + 1) = omega arith in low

  -- the value of a name
  place_read : (x : List ℕ) (w : ℕ) (ws : List Value) → SameFrame plan.temporaries f ws → (t : Ty) (r : Referent) (p : Place) → referent_type r ≡ Some t → IsPlaceOf plan x r p
      → Runs n (Reads here n w ws t (place_source p)) (read_name r x site g.store f) (Ended n ws)
  place_read x w ws fr t (Temporary u) (Held i) e h = record { is = (refl, record { number = fr.each i (in_lower_case x) h; typed = cc; below = below_refl w ws }) }
  place_read x w ws fr t (Temporary u) (Stored o) e h = absurd h
  place_read x w ws fr t (Kept u) (Held i) e h = absurd h
  place_read x w ws fr t (Kept u) (Stored (Leaf offset)) e h =
      record { is = (refl, record { number = agrees.store.each (here.at.leaves + offset) (in_lower_case x ∷ site.path) (lies.paths offset (in_lower_case x ∷ []) h); typed = cc; below = below_refl w ws }) }
  place_read x w ws fr t (Kept u) (Stored (Bound_at j)) e h = absurd h
  place_read x w ws fr t (Bound u) (Held i) e h = absurd h
  place_read x w ws fr t (Bound u) (Stored (Leaf offset)) e h = absurd h
  place_read x w ws fr t (Bound u) (Stored (Bound_at j)) e h = record { is = (refl, record { number = agrees.store.each _ (site.bound (in_lower_case x)) (same_in_outs.each j (in_lower_case x) h); typed = cc; below = below_refl w ws }) }
  place_read x w ws fr t (Instance type) p e h = absurd h
  place_read x w ws fr t Unknown p e h = absurd h

  -- an input of a function has the value of its expression
  argument_is : (e : Expression) (t : Ty) (w : ℕ) (vs : List Value) (v : Value) → expression_type c.scope e ≡ Some t → v.n ≡ read here (cells_of n vs) (source_of c w e) → v.ty ≡ t → argument_at here (cells_of n vs) (argument c w e) ≡ v
  argument_is e t w vs v typed is u = ap₂ (λ k m. value k m) (ap or_bool typed ∙ sym u) (sym is)

  -- one call, whose inputs have these values
  called_at : (h : Func) (arguments : List Argument) (types : List Ty) (t : Ty) (xs ws vs : List Value) (first out w : ℕ) → result_type h types ≡ Some t → map (argument_at here (cells_of n vs)) arguments ≡ xs → types_of xs ≡ types
      → HasAt here.program.arguments.items first arguments → w ≤ out → out < length vs → IsBelow w ws vs
      → Runs n (Reads here n w ws t (Wire out)) (call_function h xs) (lines_do sections text here (call_lines h arguments first out) n vs)
  called_at h arguments types t xs ws vs first out w r are same has le room below =
      let T = typed_of h types t r in
      let own : map (λ (a : Argument). a.ty) arguments ≡ types = sym (arguments_typed here (cells_of n vs) arguments) ∙ ap types_of are ∙ same in
      let grouped : group h arguments ≡ T.of_group = ap (λ us. or_bool (group_of h us)) own ∙ ap or_bool T.is_group in
      let given : arguments_at here (cells_of n vs) first (length arguments) ≡ xs = ap (map (argument_at here (cells_of n vs))) has ∙ are in
      let P : Answer Value → Type 0 = λ o. Runs n (Reads here n w ws t (Wire out)) o (lines_do sections text here (call_lines h arguments first out) n vs) in
      let Q : Result Value Fault → Type 0 = λ o. Runs n (Reads here n w ws t (Wire out)) (answer t (applied h T.of_group xs)) (then_do (with_cells (with_value o (λ v. set_wire (cells_of n vs) out v)) n) (λ m us. Ended m us)) in
      subst P (sym (call_is h xs types t T same)) (subst Q (sym (ap₂ (λ u zs. applied h u zs) grouped given)) (by_result (applied h T.of_group xs)))
    where
      by_result : (o : Result Value Fault) → Runs n (Reads here n w ws t (Wire out)) (answer t o) (then_do (with_cells (with_value o (λ v. set_wire (cells_of n vs) out v)) n) (λ m us. Ended m us))
      by_result (Ok v) = record { is = (refl, record { number = sym (ap (λ (u : Value). u.n) (get_or-set_at vs out out v no_value refl room)); typed = refl; below = below_then w w ws vs _ (omega arith) below (below_set w out vs v le) }) }
      by_result (Err fault) = record { is = (refl, refl) }

  named_at : (o : Option Func) (arguments : List Argument) (types : List Ty) (t : Ty) (xs ws vs : List Value) (first out w : ℕ) → call_type o types ≡ Some t → map (argument_at here (cells_of n vs)) arguments ≡ xs → types_of xs ≡ types
      → HasAt here.program.arguments.items first arguments → w ≤ out → out < length vs → IsBelow w ws vs
      → Runs n (Reads here n w ws t (Wire out)) (call_named o xs) (lines_do sections text here (named_lines o arguments first out) n vs)
  named_at None arguments types t xs ws vs first out w r are same has le room below = absurd (cc)
  named_at (Some h) arguments types t xs ws vs first out w r are same has le room below = by_test (is_operator h) r
    where
      by_test : (b : Bool) → (if b then None else result_type h types) ≡ Some t → Runs n (Reads here n w ws t (Wire out)) (call_function h xs) (lines_do sections text here (call_lines h arguments first out) n vs)
      by_test true e = absurd (cc)
      by_test false e = called_at h arguments types t xs ws vs first out w e are same has le room below

  -- the inputs of a call have the values of its expressions, which have these types
  pub record AllRead (w : ℕ) (old : List Value) (es : Expressions) (types : List Ty) (xs new : List Value) : Type 0 where
    pub values : map (argument_at here (cells_of n new)) (inputs c w es) ≡ xs
    pub typed : types_of xs ≡ types
    pub below : IsBelow w old new

  mutual
    pub computes : (e : Expression) (t : Ty) → expression_type c.scope e ≡ Some t → RightExpression plan c e → (a w : ℕ) (ws : List Value) → HasAt here.program.arguments.items a (arguments_of c w e)
        → length plan.temporaries ≤ w → w + wires_of e ≤ length ws → SameFrame plan.temporaries f ws
        → Runs n (Reads here n w ws t (source_of c w e)) (value_of e (setting c.scope site) g.store f) (lines_do sections text here (lines_of c a w e) n ws)
    computes (Number v) t typed right a w ws has le room fr = record { is = (refl, record { number = refl; typed = cc; below = below_refl w ws }) }
    computes (Name x) t typed right a w ws has le room fr = place_read x w ws fr t (referent c.scope.world (variable_in c.scope x)) (c.place x) typed right
    computes (Member i x) t typed right a w ws has le room fr =
        let p = in_lower_case x ∷ in_lower_case i ∷ site.path in
        let P : Answer Value → Type 0 = λ o. Runs n (Reads here n w ws t (source_of c w (Member i x))) o (Ended n ws) in
        subst P (sym (member_read c.scope.world (part_in c.scope i x) p g.store t typed))
        (record { is = (refl, record { number = agrees.store.each (here.at.leaves + c.inner i x) p (lies.paths (c.inner i x) (in_lower_case x ∷ in_lower_case i ∷ []) right); typed = refl; below = below_refl w ws }) })
    computes (Apply x es) t typed right a w ws has le room fr =
        let wide : w + (all_wires es + 1) ≤ length ws = room in
        let all = and_then_some (call_type (function_named x)) (expression_types c.scope es) t typed in
        let parts = at_parts here.program.arguments.items a (all_arguments c w es) (inputs c w es) has in
        runs_lines sections text here n ws (AllRead w ws es all.0) (Reads here n w ws t (source_of c w (Apply x es))) (values_of es (setting c.scope site) g.store f) (all_lines c a w es) _ (call_named (function_named x))
        (all_computes es all.0 all.1 right a w ws parts.0 le (omega arith) fr)
        (λ xs vs r. let count = r.below.count in named_at (function_named x) (inputs c w es) all.0 t xs ws vs _ (w + all_wires es) w all.2 r.values r.typed parts.1 (omega arith) (omega arith) r.below)
    computes (Not e) t typed right a w ws has le room fr =
        let wide : w + (wires_of e + 1) ≤ length ws = room in
        let one = and_then_some (λ u. result_type func.Not (u ∷ [])) (expression_type c.scope e) t typed in
        let parts = at_parts here.program.arguments.items a (arguments_of c w e) (argument c w e ∷ []) has in
        runs_lines sections text here n ws (Reads here n w ws one.0 (source_of c w e)) (Reads here n w ws t (source_of c w (Not e))) (value_of e (setting c.scope site) g.store f) (lines_of c a w e) _ (λ v. call_function func.Not (v ∷ []))
        (computes e one.0 one.1 right a w ws parts.0 le (omega arith) fr)
        (λ v vs r. let count = r.below.count in called_at func.Not (argument c w e ∷ []) (one.0 ∷ []) t (v ∷ []) ws vs _ (w + wires_of e) w one.2 (ap (λ u. u ∷ []) (argument_is e one.0 w vs v one.1 r.number r.typed)) (ap (λ u. u ∷ []) r.typed)
        parts.1 (omega arith) (omega arith) r.below)
    computes (Binary op p q) t typed right a w ws has le room fr =
        let wide : w + (wires_of p + wires_of q + 1) ≤ length ws = room in
        let one = and_then_some (λ u. option_and_then (λ k. result_type (function_of op) (u ∷ k ∷ [])) (expression_type c.scope q)) (expression_type c.scope p) t typed in
        let two = and_then_some (λ k. result_type (function_of op) (one.0 ∷ k ∷ [])) (expression_type c.scope q) t one.2 in
        let k = w + wires_of p in
        let both = argument c w p ∷ argument c k q ∷ [] in
        let parts = at_parts here.program.arguments.items a (arguments_of c w p) (arguments_of c k q ++ both) has in
        let more = at_parts here.program.arguments.items (a + length (arguments_of c w p)) (arguments_of c k q) both parts.1 in
        let S = Reads here n w ws t (source_of c w (Binary op p q)) in
        runs_lines sections text here n ws (Reads here n w ws one.0 (source_of c w p)) S (value_of p (setting c.scope site) g.store f) (lines_of c a w p) _ _
        (computes p one.0 one.1 right.0 a w ws parts.0 le (omega arith) fr)
        (λ v vs r.
        let count = r.below.count in
        runs_lines sections text here n vs (Reads here n k vs two.0 (source_of c k q)) S (value_of q (setting c.scope site) g.store f) (lines_of c (a + length (arguments_of c w p)) k q) _ (λ u. call_function (function_of op) (v ∷ u ∷ []))
        (computes q two.0 two.1 right.1 (a + length (arguments_of c w p)) k vs more.0 (omega arith) (omega arith) (frame_below plan.temporaries f w ws vs le r.below fr))
        (λ u us s.
        let counted = s.below.count in
        let stays = r.number ∙ sym (ap (λ (x : Value). x.n) (source_below here n k vs us (source_of c w p) (source_low p w le right.0) s.below)) in
        called_at (function_of op) both (one.0 ∷ two.0 ∷ []) t (v ∷ u ∷ []) ws us _ (w + (wires_of p + wires_of q)) w two.2
        (ap₂ (λ x y. x ∷ y ∷ []) (argument_is p one.0 w us v one.1 stays r.typed) (argument_is q two.0 k us u two.1 s.number s.typed)) (ap₂ (λ x y. x ∷ y ∷ []) r.typed s.typed) more.1 (omega arith) (omega arith)
        (below_then w k ws vs us (omega arith) r.below s.below)))

    pub all_computes : (es : Expressions) (types : List Ty) → expression_types c.scope es ≡ Some types → RightExpressions plan c es → (a w : ℕ) (ws : List Value) → HasAt here.program.arguments.items a (all_arguments c w es)
        → length plan.temporaries ≤ w → w + all_wires es ≤ length ws → SameFrame plan.temporaries f ws
        → Runs n (AllRead w ws es types) (values_of es (setting c.scope site) g.store f) (lines_do sections text here (all_lines c a w es) n ws)
    all_computes no_expression types typed right a w ws has le room fr = record { is = (refl, record { values = refl; typed = cc; below = below_refl w ws }) }
    all_computes (expression e es) types typed right a w ws has le room fr =
        let wide : w + (wires_of e + all_wires es) ≤ length ws = room in
        let one = and_then_some (λ u. option_map (λ us. u ∷ us) (expression_types c.scope es)) (expression_type c.scope e) types typed in
        let more = mapped_some (λ us. one.0 ∷ us) (expression_types c.scope es) types one.2 in
        let k = w + wires_of e in
        let parts = at_parts here.program.arguments.items a (arguments_of c w e) (all_arguments c k es) has in
        runs_lines sections text here n ws (Reads here n w ws one.0 (source_of c w e)) (AllRead w ws (expression e es) types) (value_of e (setting c.scope site) g.store f) (lines_of c a w e) _ _
        (computes e one.0 one.1 right.0 a w ws parts.0 le (omega arith) fr)
        (λ v vs r.
        let count = r.below.count in
        runs_map n (AllRead k vs es more.0) (AllRead w ws (expression e es) types) (values_of es (setting c.scope site) g.store f) _ (λ xs. v ∷ xs)
        (all_computes es more.0 more.1 right.1 (a + length (arguments_of c w e)) k vs parts.1 (omega arith) (omega arith) (frame_below plan.temporaries f w ws vs le r.below fr))
        (λ xs us s.
        let stays = r.number ∙ sym (ap (λ (x : Value). x.n) (source_below here n k vs us (source_of c w e) (source_low e w le right.0) s.below)) in
        record {
          values = ap₂ (λ x ys. x ∷ ys) (argument_is e one.0 w us v one.1 stays r.typed) s.values;
          typed = ap₂ (λ x ys. x ∷ ys) r.typed s.typed ∙ more.2;
          below = below_then w k ws vs us (omega arith) r.below s.below;
        }))
