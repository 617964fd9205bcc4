-- A function with EN, ENO and OUT: the text does what the diagram does.
use mathlib.Core.Path.{fun_ext}
use Rattle.std.proofs.Common.{◌≡◌, ℕ, ℤ, pos, ◌<◌, ◌^◌, Bool, true, false, List, [], ◌∷◌, ◌++◌, Option, Some, None, map, refl, sym, ap, ◌∙◌, subst, if◌then◌else◌, codes}
use Rattle.std.specs.Str.{bytes_eq}
use Rattle.std.specs.declared.result.Result.{Result}
use Rattle.std.specs.declared.result.Result.TheVariants.{Ok, Err}
use Rattle.plcx_types.specs.declared.fault.Fault.{Fault}
use Rattle.plcx_types.specs.declared.ty.Ty.{Ty}
use Rattle.plcx_types.specs.declared.ty.Ty.TheVariants as ty
use Rattle.plcx_types.specs.Name.{in_lower_case}
use Rattle.plcx_types.specs.Value.{Value}
use Rattle.plcx_funcs.specs.declared.func.Func.{Func}
use Rattle.plcx_funcs.specs.Applied.{value, applied}
use Rattle.plcx_types.specs.Lists.{Each}
use Rattle.plcx_meaning.specs.Base.{is_true, Faulted, Ended, then_do}
use Rattle.plcx_meaning.specs.Tree.{Expression, Assign, If, statements}
use Rattle.plcx_meaning.specs.Functions.{Answer, Given, Faulty, Missing, out_type, answer}
use Rattle.plcx_meaning.specs.Diagram.{Enable, has_eno, eno_negated, eno_ports, Link, Port, port}
use Rattle.plcx_meaning.specs.Evaluate.{DiagramState, Wires, fix, fix_eno, turn, enable_value, link_value, with_result, function_result}
use Rattle.plcx_meaning.specs.Execute.{Temporary, TextSetting, referent_of, TextState, Frame, hold, with_value, value_of, assign, TextCalls, statement_runs, statements_run, list_runs}
use Rattle.plcx_meaning.specs.Templates.{wire_name, wire, number, link_text, function_text, eno_text, enabled, out_default, turned_if}
use Rattle.plcx_meaning.specs.Same.{Agree, IsDeclared}
use Rattle.plcx_meaning.specs.Fits.{is_fresh}
use Rattle.plcx_meaning.proofs.Alike.{Alike, both_end, both_stop, alike_then, alike_as, alike_from}
use Rattle.plcx_meaning.proofs.Asked.{LinkAsked, EnableAsked, FunctionAsked, SameWires}
use Rattle.plcx_meaning.proofs.Agree.{wires_fix, wires_fresh}
use Rattle.plcx_meaning.proofs.FunctionValues.{same_type, types, Known, function_value}
use Rattle.plcx_meaning.proofs.Links.{assign_temporary, wire_known, link_known}
use Rattle.plcx_meaning.proofs.Enabling.{eno, eno_held, eno_fixed, eno_wires, eno_fresh, eno_runs, turn_alike, negated_listed, alike_weaker, each_split, of_eno, eno_kept, connected_eno, unconnected_true}
use Rattle.plcx_meaning.proofs.BodiesSteps.{then_then, then_ended, run_append}

abbrev pub out : List ℕ
out = codes "OUT"

-- of two assignments to one temporary the second stays
pub hold_twice : (f : Frame) (x : List ℕ) (n m : ℤ) → hold (hold f x n) x m ≡ hold f x m
hold_twice f x n m = fun_ext (λ key. by (bytes_eq key (in_lower_case x)) key)
  where
    by : (b : Bool) (key : List ℕ) → (if b then m else (if b then n else f key)) ≡ (if b then m else f key)
    by true key = refl
    by false key = refl

-- an element's inputs with their types
abbrev pub tagged : (Link → ℤ) → List Link → List Value
tagged values links = map (λ (l : Link). value l.ty (values l)) links

pub tagged_types : (values : Link → ℤ) (links : List Link) → types (tagged values links) ≡ map (λ (l : Link). l.ty) links
tagged_types values [] = refl
tagged_types values (l ∷ links) = ap (λ ts. l.ty ∷ ts) (tagged_types values links)

module _ (c : TextSetting) (call : TextCalls) where
  -- a wire gets what a function gives
  result_alike : (r : Result Value Fault) (id : ℕ) (o : Port) (done : List (ℕ × Port)) (d : DiagramState) (ws : Wires) (g : TextState) (f h : Frame)
      → referent_of c (wire_name id o.pin) ≡ Temporary o.ty → Agree d g → ((n : ℤ) → SameWires ((id, o) ∷ done) (fix ws id o.pin n) (hold f (wire_name id o.pin) n)) → ((n : ℤ) → hold h (wire_name id o.pin) n ≡ hold f (wire_name id o.pin) n)
      → Alike (SameWires ((id, o) ∷ done)) (with_result r d (λ n. Ended d (fix ws id o.pin n))) (with_value (answer o.ty r) g (λ v. assign (referent_of c (wire_name id o.pin)) (wire_name id o.pin) c.site v g h))
  result_alike (Err fault) id o done d ws g f h place a same holds = both_stop (Faulted fault) a
  result_alike (Ok v) id o done d ws g f h place a same holds =
      alike_as _ (Ended g (hold f (wire_name id o.pin) v.n)) (rw (place, same_type o.ty) (ap (λ k. Ended g k) (holds v.n))) (both_end a (same v.n))

  -- where EN is connected
  under_eno : (b : Bool) (r : Result Value Fault) (t : Ty) (id : ℕ) (o : Port) (e : Expression) (done : List (ℕ × Port)) (d : DiagramState) (ws : Wires) (g : TextState) (f : Frame)
      → referent_of c (wire_name id o.pin) ≡ Temporary o.ty → Agree d g → ((n : ℤ) → SameWires ((id, o) ∷ done) (fix ws id o.pin n) (hold f (wire_name id o.pin) n))
      → value_of e c g.store (hold f (wire_name id o.pin) (pos 0)) ≡ answer o.ty r
      → Alike (SameWires ((id, o) ∷ done)) (with_result (if b then r else Ok (value t (pos 0))) d (λ n. Ended d (fix ws id o.pin n)))
      (if b then statements_run (statements (Assign (wire_name id o.pin) e ∷ [])) c call g (hold f (wire_name id o.pin) (pos 0)) else Ended g (hold f (wire_name id o.pin) (pos 0)))
  under_eno true r t id o e done d ws g f place a same known =
      let f2 = hold f (wire_name id o.pin) (pos 0) in
      alike_as _ _ (then_ended _ ∙ ap (λ v. with_value v g (λ v'. assign (referent_of c (wire_name id o.pin)) (wire_name id o.pin) c.site v' g f2)) known)
      (result_alike r id o done d ws g f f2 place a same (λ n. hold_twice f (wire_name id o.pin) (pos 0) n))
  under_eno false r t id o e done d ws g f place a same known = both_end a (same (pos 0))

-- what follows a result
result_then : (r : Result Value Fault) (d : DiagramState) (go : ℤ → Wires) (h : Wires → Wires) → with_result r d (λ n. Ended d (h (go n))) ≡ then_do (with_result r d (λ n. Ended d (go n))) (λ d' ws. Ended d' (h ws))
result_then (Ok v) d go h = refl
result_then (Err fault) d go h = refl

module _ (c : TextSetting) (call : TextCalls) where
  -- OUT, with its default where EN may be FALSE
  out_by : (en : Option Link) (listed : Option Bool) (r : Result Value Fault) (t : Ty) (v : ℤ) (id : ℕ) (o : Port) (e : Expression) (done : List (ℕ × Port)) (d : DiagramState) (ws : Wires) (g : TextState) (f : Frame)
      → (en ≡ None → is_true v ≡ true) → referent_of c (wire_name id o.pin) ≡ Temporary o.ty → Agree d g → ((n : ℤ) → SameWires ((id, o) ∷ done) (fix ws id o.pin n) (hold f (wire_name id o.pin) n))
      → value_of e c g.store f ≡ answer o.ty r → value_of e c g.store (hold f (wire_name id o.pin) (pos 0)) ≡ answer o.ty r
      → ((link : Link) → en ≡ Some link → value_of (wire id eno) c g.store (hold f (wire_name id o.pin) (pos 0)) ≡ Given (value ty.Bool v))
      → o.pin ≡ out
      → Alike (SameWires ((id, o) ∷ done)) (with_result (if is_true v then r else Ok (value t (pos 0))) d (λ n. Ended d (fix ws id o.pin n)))
      (then_do (list_runs (out_default id (record { en = en; eno = listed }) o.ty) c call g f) (statement_runs (enabled id (record { en = en; eno = listed }) (Assign (wire_name id o.pin) e)) c call))
  out_by (Some link) listed r t v id o e done d ws g f off place a same first second known pin =
      let w = wire_name id o.pin in
      let default : list_runs (out_default id (record { en = Some link; eno = listed }) o.ty) c call g f ≡ Ended g (hold f w (pos 0)) =
      ap (λ p. list_runs (Assign (wire_name id p) (number o.ty (pos 0)) ∷ []) c call g f) (sym pin) ∙ (then_ended _ ∙ assign_temporary c call g f w (number o.ty (pos 0)) o.ty (pos 0) place refl) in
      let test : statement_runs (If (wire id eno) (statements (Assign w e ∷ []))) c call g (hold f w (pos 0)) ≡ (if is_true v then statements_run (statements (Assign w e ∷ [])) c call g (hold f w (pos 0)) else Ended g (hold f w (pos 0))) = rw (known link refl) in
      alike_as _ _ (ap (λ q. then_do q (statement_runs (If (wire id eno) (statements (Assign w e ∷ []))) c call)) default ∙ test)
      (under_eno c call (is_true v) r t id o e done d ws g f place a same second)
  out_by None listed r t v id o e done d ws g f off place a same first second known pin =
      alike_from _ _ (ap (λ b. with_result (if b then r else Ok (value t (pos 0))) d (λ n. Ended d (fix ws id o.pin n))) (off refl))
      (alike_as _ _ (ap (λ q. with_value q g (λ v'. assign (referent_of c (wire_name id o.pin)) (wire_name id o.pin) c.site v' g f)) first)
      (result_alike c call r id o done d ws g f f place a same (λ n. refl)))

  module _ (site : IsDeclared c.site) (done : List (ℕ × Port)) (d : DiagramState) (ws : Wires) (g : TextState) (a : Agree d g) where
    links_known : (f : Frame) → SameWires done ws f → (links : List Link) → Each (LinkAsked c done) links → Known c g.store f (map link_text links) (tagged (link_value c.site.path d ws) links)
    links_known f same [] asked = tt
    links_known f same (l ∷ links) asked = (link_known c site done d ws g f a same l asked.0, links_known f same links asked.1)

    -- the function's expression, in any frame that holds the wires
    expression_known : (f : Frame) → SameWires done ws f → (fn : Func) (t : Ty) (links : List Link) → FunctionAsked c done fn t links
        → value_of (function_text fn (map link_text links)) c g.store f ≡ answer (out_type fn t) (applied fn t (tagged (link_value c.site.path d ws) links))
    expression_known f same fn t links asked =
        let vs = tagged (link_value c.site.path d ws) links in
        let is = tagged_types (link_value c.site.path d ws) links in
        function_value c g.store f t (map link_text links) vs (links_known f same links asked.inputs) fn asked.function
        (ap (λ ts. Rattle.plcx_meaning.specs.Functions.group_of fn ts) is ∙ asked.group) (ap (λ ts. Rattle.plcx_meaning.specs.Functions.can_apply fn t ts) is ∙ asked.applies)

    enable_known : (f : Frame) → SameWires done ws f → (enable : Enable) → EnableAsked c done enable → (link : Link) → enable.en ≡ Some link → value_of (link_text link) c g.store f ≡ Given (value ty.Bool (link_value c.site.path d ws link))
    enable_known f same enable asked link h = let one = asked link h in link_known c site done d ws g f a same link one.0 ∙ ap (λ u. Given (value u (link_value c.site.path d ws link))) one.1

    abbrev Place : ℕ → Port → Type 0
    Place id o = referent_of c (wire_name id o.pin) ≡ Temporary o.ty

    -- ENO and OUT in the order of the ports
    in_order : (b : Bool) (id : ℕ) (o : Port) (ws' : Wires) (f' : Frame) → SameWires ((id, o) ∷ (eno_fixed b id ++ done)) ws' f' → SameWires (eno_fixed b id ++ ((id, o) ∷ done)) ws' f'
    in_order true id o ws' f' same = (same.1.0, (same.0, same.1.1))
    in_order false id o ws' f' same = same

    fixed_are : (enable : Enable) (id : ℕ) (o : Port) → map (λ (p : Port). (id, p)) (eno_ports enable ++ o ∷ []) ++ done ≡ eno_fixed (has_eno enable) id ++ ((id, o) ∷ done)
    fixed_are enable id o = by (has_eno enable)
      where
        by : (b : Bool) → map (λ (p : Port). (id, p)) ((if b then port eno ty.Bool ∷ [] else []) ++ o ∷ []) ++ done ≡ eno_fixed b id ++ ((id, o) ∷ done)
        by true = refl
        by false = refl

    -- ENO's wire among those behind OUT
    eno_same : (b : Bool) (id : ℕ) (o : Port) (ws' : Wires) (f' : Frame) → SameWires ((id, o) ∷ (eno_fixed b id ++ done)) ws' f' → b ≡ true → ws' id eno ≡ f' (in_lower_case (wire_name id eno))
    eno_same true id o ws' f' same h = same.1.0
    eno_same false id o ws' f' same h = absurd (cc)

    -- ENO and OUT under NOT, behind all others
    turns_alike : (enable : Enable) (negated : Bool) (id : ℕ) → id < 2 ^ 64 → (t : Ty) → (negated ≡ true → t ≡ ty.Bool) → Each (Place id) (eno_ports enable) → Place id (port out t)
        → (d' : DiagramState) (ws' : Wires) (g' : TextState) (f' : Frame) → Agree d' g' → SameWires ((id, port out t) ∷ (eno_fixed (has_eno enable) id ++ done)) ws' f'
        → Alike (SameWires ((id, port out t) ∷ (eno_fixed (has_eno enable) id ++ done))) (Ended d' (turn negated id out (turn (eno_negated enable) id eno ws'))) (list_runs (turned_if (eno_negated enable) id eno ++ turned_if negated id out) c call g' f')
    turns_alike enable negated id small t bool enos place d' ws' g' f' a' same' =
        let D = (id, port out t) ∷ (eno_fixed (has_eno enable) id ++ done) in
        alike_as _ _ (run_append (turned_if (eno_negated enable) id eno) (turned_if negated id out) c call g' f')
        (alike_then (Ended d' (turn (eno_negated enable) id eno ws')) _ (λ d2 ws2. Ended d2 (turn negated id out ws2)) _
        (turn_alike c call (eno_negated enable) id small eno D d' ws' g' f' a' same'
        (λ h. let there = negated_listed enable h in (of_eno (Place id) (has_eno enable) enos there, eno_same (has_eno enable) id (port out t) ws' f' same' there)))
        (λ d2 ws2 g2 f2 a2 same2. turn_alike c call negated id small out D d2 ws2 g2 f2 a2 same2 (λ h. (place ∙ ap Temporary (bool h), same2.0))))

    pub function_alike : (f : Frame) → SameWires done ws f → (fn : Func) (t : Ty) (enable : Enable) (links : List Link) (negated : Bool) (id : ℕ) → id < 2 ^ 64 → is_fresh id done ≡ true
        → FunctionAsked c done fn t links → EnableAsked c done enable → (negated ≡ true → out_type fn t ≡ ty.Bool) → Each (Place id) (eno_ports enable ++ port out (out_type fn t) ∷ [])
        → Alike (SameWires (map (λ (p : Port). (id, p)) (eno_ports enable ++ port out (out_type fn t) ∷ []) ++ done))
        (with_result (function_result fn t links (enable_value (link_value c.site.path d ws) enable) (link_value c.site.path d ws)) d (λ n.
        Ended d (turn negated id out (turn (eno_negated enable) id eno (fix (fix_eno enable id (enable_value (link_value c.site.path d ws) enable) ws) id out n)))))
        (list_runs (eno_text id enable ++ (out_default id enable (out_type fn t) ++ (enabled id enable (Assign (wire_name id out) (function_text fn (map link_text links)))
        ∷ (turned_if (eno_negated enable) id eno ++ turned_if negated id out)))) c call g f)
    function_alike f same fn t enable links negated id small fresh asked enabling bool places =
        let values = link_value c.site.path d ws in
        let v = enable_value values enable in
        let b = has_eno enable in
        let ot = out_type fn t in
        let o = port out ot in
        let e = function_text fn (map link_text links) in
        let f1 = eno_held b id v f in
        let ws1 = fix_eno enable id v ws in
        let parts = each_split (Place id) (eno_ports enable) (o ∷ []) places in
        let place = parts.1.0 in
        let enos = parts.0 in
        let same1 : SameWires (eno_fixed b id ++ done) ws1 f1 = eno_wires b id small v done ws f same in
        let fresh1 : SameWires done ws f1 = eno_fresh b id small v done ws f fresh same in
        let fresh2 : SameWires done ws (hold f1 (wire_name id out) (pos 0)) = wires_fresh id small out (pos 0) done ws f1 fresh fresh1 in
        let first = eno_runs c call enable id values g f (of_eno (Place id) b enos) (enable_known f same enable enabling) in
        let last = turned_if (eno_negated enable) id eno ++ turned_if negated id out in
        let rest = out_default id enable ot ++ (enabled id enable (Assign (wire_name id out) e) ∷ last) in
        let text : list_runs (eno_text id enable ++ rest) c call g f ≡ then_do (then_do (list_runs (out_default id enable ot) c call g f1) (statement_runs (enabled id enable (Assign (wire_name id out) e)) c call)) (list_runs last c call) =
        run_append (eno_text id enable) rest c call g f ∙ ap (λ q. then_do q (list_runs rest c call)) first
        ∙ run_append (out_default id enable ot) (enabled id enable (Assign (wire_name id out) e) ∷ last) c call g f1
        ∙ sym (then_then (list_runs (out_default id enable ot) c call g f1) (statement_runs (enabled id enable (Assign (wire_name id out) e)) c call) (list_runs last c call)) in
        let known_eno : (link : Link) → enable.en ≡ Some link → value_of (wire id eno) c g.store (hold f1 (wire_name id out) (pos 0)) ≡ Given (value ty.Bool v) = λ link h.
        wire_known c g.store (hold f1 (wire_name id out) (pos 0)) id eno ty.Bool (of_eno (Place id) b enos (connected_eno enable link h))
        ∙ ap (λ n. Given (value ty.Bool n)) (eno_kept b (connected_eno enable link h) id small out (pos 0) v f refl) in
        alike_from _ _ (result_then (function_result fn t links v values) d (λ n. fix ws1 id out n) (λ ws'. turn negated id out (turn (eno_negated enable) id eno ws')))
        (alike_as _ _ text
        (alike_weaker _ _
        (alike_then _ _ _ _
        (out_by enable.en enable.eno (applied fn t (tagged values links)) t v id o e (eno_fixed b id ++ done) d ws1 g f1 (unconnected_true values enable) place a (λ n. wires_fix id small o n (eno_fixed b id ++ done) ws1 f1 same1)
        (expression_known f1 fresh1 fn t links asked) (expression_known (hold f1 (wire_name id out) (pos 0)) fresh2 fn t links asked) known_eno refl)
        (λ d' ws' g' f' a' same'. turns_alike enable negated id small ot bool enos place d' ws' g' f' a' same'))
        (λ ws' f' same'. subst (λ D. SameWires D ws' f') (sym (fixed_are enable id o)) (in_order b id o ws' f' same'))))
