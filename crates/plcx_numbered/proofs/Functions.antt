-- Functions under EN, and the outputs ENO and OUT.
use Rattle.std.proofs.Common.{◌≡◌, ℕ, suc, ◌+◌, ◌<◌, ◌≤◌, ℤ, pos, Bool, true, false, ◌&&◌, List, [], ◌∷◌, ◌++◌, length, set, map, Option, Some, None, Result, Ok, Err, refl, sym, ap, ap₂, ◌∙◌, subst, arith}
use Rattle.std.specs.Prelude.{slice_range, codes, nat_eq, if◌then◌else◌}
use Rattle.std.specs.Str.{bytes_eq}
use Rattle.std.proofs.lemmas.Bool.{false≢true}
use Rattle.std.proofs.lemmas.List.{length-set}
use Rattle.std.proofs.lemmas.Slice.Eq.{bytes_eq-Decides}
use mathlib.Core.Path.{fun_ext}
use Rattle.plcx_types.specs.declared.fault.Fault.{Fault}
use Rattle.plcx_types.specs.declared.ty.Ty.{Ty}
use Rattle.plcx_types.specs.Name.{in_lower_case}
use Rattle.plcx_types.specs.Lists.{Each}
use Rattle.plcx_types.specs.Value.{Value}
use Rattle.plcx_funcs.specs.declared.func.Func.{Func}
use Rattle.plcx_funcs.specs.Applied.{value, applied}
use Rattle.plcx_meaning.specs.Base.{is_true, not_of, Faulted, Ended, then_do, Site}
use Rattle.plcx_meaning.specs.Functions.{out_type}
use Rattle.plcx_meaning.specs.Diagram.{Link, Enable, has_eno, eno_negated}
use Rattle.plcx_meaning.specs.Evaluate.{Heard, DiagramState, Wires, fix, link_value, enable_value, fix_eno, turn, with_result, function_result}
use Rattle.plcx_steps.specs.declared.program.Source.TheVariants.{Constant}
use Rattle.plcx_steps.specs.declared.program.Action.TheVariants.{Fix, Apply}
use Rattle.plcx_steps.specs.declared.program.Step.{Step}
use Rattle.plcx_steps.specs.declared.program.Step.TheVariants.{Act, Skip}
use Rattle.plcx_steps.specs.Numbered.{Numbered, Here, Entered, Frame, frame, bit, number_at, cells_of, source_at, read, argument_at, arguments_at, set_wire, with_value, with_cells, step_in, steps_do}
use Rattle.plcx_numbered.specs.Agreeing.{AreApart, Shape, IsApart, Lies, Agree, SameInOuts, SameWires, Alike}
use Rattle.plcx_numbered.specs.Prepared.{Numbering, off, not_steps, link_steps, enable_steps, enabled, eno_steps, argument_steps, arguments, apply_steps, function_steps}
use Rattle.plcx_numbered.specs.Right.{Place, IsWire, RightLink, RightEnable, HasAt}
use Rattle.plcx_numbered.proofs.Alikes.{both_end, both_stop, alike_then, alike_as, alike_from, steps_append}
use Rattle.plcx_numbered.proofs.Links.{SameMemories, other_wire, joined, brought, stays}
use Rattle.plcx_numbered.proofs.Simple.{InFrame, wired, below}

-- ENO and OUT are two outputs
apart_pins : (p : List ℕ) → bytes_eq p (codes "eno") ≡ true → bytes_eq p (codes "out") ≡ true → ⊥
apart_pins p e o =
    let a = (bytes_eq-Decides p (codes "eno")).0 e in
    let P : List ℕ → Type 0 = λ q. bytes_eq q (codes "out") ≡ true in
    false≢true (subst P a o)

pub fix_swap : (ws : Wires) (id : ℕ) (v w : ℤ) → fix (fix ws id (codes "ENO") v) id (codes "OUT") w ≡ fix (fix ws id (codes "OUT") w) id (codes "ENO") v
fix_swap ws id v w = fun_ext (λ i. fun_ext (λ p. by_tests i p (nat_eq i id) (bytes_eq (in_lower_case p) (codes "out")) (bytes_eq (in_lower_case p) (codes "eno")) (λ o e. apart_pins (in_lower_case p) e o)))
  where
    by_tests : (i : ℕ) (p : List ℕ) (s o e : Bool) → (o ≡ true → e ≡ true → ⊥) → (if s && o then w else if s && e then v else ws i p) ≡ (if s && e then v else if s && o then w else ws i p)
    by_tests i p false o e never = refl
    by_tests i p true true true never = absurd (never refl refl)
    by_tests i p true true false never = refl
    by_tests i p true false true never = refl
    by_tests i p true false false never = refl

pub eno_swap : (enable : Enable) (ws : Wires) (id : ℕ) (v w : ℤ) → fix (fix_eno enable id v ws) id (codes "OUT") w ≡ fix_eno enable id v (fix ws id (codes "OUT") w)
eno_swap enable ws id v w = by_test (has_eno enable)
  where
    by_test : (b : Bool) → fix (if b then fix ws id (codes "ENO") v else ws) id (codes "OUT") w ≡ (if b then fix (fix ws id (codes "OUT") w) id (codes "ENO") v else fix ws id (codes "OUT") w)
    by_test true = fix_swap ws id v w
    by_test false = refl

-- what is negated is there
pub negated_has_eno : (enable : Enable) → eno_negated enable ≡ true → has_eno enable ≡ true
negated_has_eno enable h = by_parts enable.en enable.eno h
  where
    by_parts : (en : Option Link) (eno : Option Bool) → eno_negated (record { en = en; eno = eno }) ≡ true → has_eno (record { en = en; eno = eno }) ≡ true
    by_parts (Some l) eno h = refl
    by_parts None (Some b) h = refl
    by_parts None None h = absurd (cc)

-- each input is an argument
pub length_arguments : (num : Numbering) (w : ℕ) (ls : List Link) → length (arguments num w ls) ≡ length ls
length_arguments num w [] = refl
length_arguments num w (l ∷ ls) = ap suc (length_arguments num (w + 1) ls)

module _ {M : Type 0} (whole : Shape) (apart : IsApart whole) (tell : M → Heard → M) (begun : M) (enter : Entered M) (c : Place) (pins_apart : AreApart c.pins) (spare : length c.pins ≤ c.num.spare) (site : Site) (here : Here)
    (lies : Lies whole c.plan.shape site.path here.at) (same_in_outs : SameInOuts whole c.plan.in_outs site.bound here.in_outs) where
  -- ---- EN
  -- EN is brought into the first spare wire, and reads so as long as that stays
  pub record Enabling (ws : Wires) (n : Numbered M) (own : List Value) (enable : Enable) (v : ℤ) : Type 0 where
    pub after : List Value
    pub does : steps_do tell enter here (enable_steps c.num enable) n (frame 0 own) ≡ Ended n (frame 0 after)
    pub same : SameWires c.pins ws after
    pub width : length after ≡ length own
    pub reads : (n' : Numbered M) (later : List Value) → number_at later c.num.spare ≡ number_at after c.num.spare → read here (cells_of n' later) (enabled c.num enable) ≡ v

  pub enabling : (id : ℕ) (enable : Enable) → RightEnable c id enable → (d : DiagramState) (n : Numbered M) (ws : Wires) (own : List Value) → SameMemories whole d n → SameWires c.pins ws own → c.num.spare < length own
      → Enabling ws n own enable (enable_value (link_value site.path d ws) enable)
  enabling id enable h d n ws own mem same room = by_en enable.en enable.eno (λ link e. h.en link e)
    where
      by_en : (en : Option Link) (eno : Option Bool) → ((link : Link) → en ≡ Some link → RightLink c link) → Enabling ws n own (record { en = en; eno = eno }) (enable_value (link_value site.path d ws) (record { en = en; eno = eno }))
      by_en None eno k = record { after = own; does = refl; same = same; width = refl; reads = λ n' later e. refl }
      by_en (Some link) eno k =
          let b = joined whole tell enter c spare site here lies d n ws mem c.num.spare (omega arith) link (k link refl) own same room in
          record { after = b.after; does = b.does; same = b.same; width = b.width; reads = λ n' later e. e ∙ b.value }

  -- ---- steps that fix outputs alone
  pub record Wired (ws' : Wires) (n : Numbered M) (own : List Value) (steps : List Step) : Type 0 where
    pub after : List Value
    pub does : steps_do tell enter here steps n (frame 0 own) ≡ Ended n (frame 0 after)
    pub same : SameWires c.pins ws' after
    pub width : length after ≡ length own
    pub spare_stays : number_at after c.num.spare ≡ number_at own c.num.spare

  pub wired_then : (ws' ws'' : Wires) (n : Numbered M) (own : List Value) (xs ys : List Step) → (a : Wired ws' n own xs) → Wired ws'' n a.after ys → Wired ws'' n own (xs ++ ys)
  wired_then ws' ws'' n own xs ys a b = record {
    after = b.after;
    does = steps_append tell enter here xs ys n (frame 0 own) ∙ ap (λ q. then_do q (λ n' f'. steps_do tell enter here ys n' f')) a.does ∙ b.does;
    same = b.same;
    width = b.width ∙ a.width;
    spare_stays = b.spare_stays ∙ a.spare_stays;
  }

  pub spare_other : (own : List Value) (id : ℕ) (pin : List ℕ) (w : Value) → IsWire c id pin → number_at (set own (c.num.wire id pin) w) c.num.spare ≡ number_at own c.num.spare
  spare_other own id pin w h =
      let low = below whole apart tell begun enter c pins_apart spare site here lies same_in_outs id pin h in
      other_wire whole tell enter c spare site here lies own (c.num.wire id pin) c.num.spare w (λ e. let e' : c.num.spare ≡ c.num.wire id pin = e in omega arith)

  pub turned : (b : Bool) (id : ℕ) (pin : List ℕ) → (b ≡ true → IsWire c id pin) → (n : Numbered M) (ws : Wires) (own : List Value) → SameWires c.pins ws own → Wired (turn b id pin ws) n own (not_steps b (c.num.wire id pin))
  turned false id pin h n ws own same = record { after = own; does = refl; same = same; width = refl; spare_stays = refl }
  turned true id pin h n ws own same =
      let wire = h refl in
      let x = bit (not_of (number_at own (c.num.wire id pin))) in
      record {
        after = set own (c.num.wire id pin) x;
        does = refl;
        same = wired whole apart tell begun enter c pins_apart spare site here lies same_in_outs ws own id pin _ x wire (ap not_of (same.each (c.num.wire id pin) (id, pin) wire)) same;
        width = length-set own (c.num.wire id pin) x;
        spare_stays = spare_other own id pin x wire;
      }

  pub eno : (id : ℕ) (enable : Enable) → RightEnable c id enable → (v : ℤ) (n : Numbered M) (ws : Wires) (own : List Value) → SameWires c.pins ws own → read here (cells_of n own) (enabled c.num enable) ≡ v
      → Wired (fix_eno enable id v ws) n own (eno_steps c.num id enable)
  eno id enable h v n ws own same is = by_test (has_eno enable) h.eno
    where
      x : Value
      x = source_at here (cells_of n own) (enabled c.num enable)

      by_test : (b : Bool) → (b ≡ true → IsWire c id (codes "ENO")) → Wired (if b then fix ws id (codes "ENO") v else ws) n own (if b then Act (Fix (enabled c.num enable) (c.num.wire id (codes "ENO"))) ∷ [] else [])
      by_test false k = record { after = own; does = refl; same = same; width = refl; spare_stays = refl }
      by_test true k =
          let wire = k refl in
          record {
            after = set own (c.num.wire id (codes "ENO")) x;
            does = refl;
            same = wired whole apart tell begun enter c pins_apart spare site here lies same_in_outs ws own id (codes "ENO") v x wire (sym is) same;
            width = length-set own (c.num.wire id (codes "ENO")) x;
            spare_stays = spare_other own id (codes "ENO") x wire;
          }

  -- ---- arguments
  pub record Argued (d : DiagramState) (ws : Wires) (n : Numbered M) (own : List Value) (w : ℕ) (ls : List Link) : Type 0 where
    pub after : List Value
    pub does : steps_do tell enter here (argument_steps c.num w ls) n (frame 0 own) ≡ Ended n (frame 0 after)
    pub same : SameWires c.pins ws after
    pub width : length after ≡ length own
    pub before : (j : ℕ) → j < w → number_at after j ≡ number_at own j
    pub values : map (argument_at here (cells_of n after)) (arguments c.num w ls) ≡ map (λ (l : Link). value l.ty (link_value site.path d ws l)) ls

  argued : (d : DiagramState) (n : Numbered M) (ws : Wires) → SameMemories whole d n → (ls : List Link) → Each (RightLink c) ls → (own : List Value) (w : ℕ) → SameWires c.pins ws own → c.num.spare ≤ w → w + length ls ≤ length own → Argued d ws n own w ls
  argued d n ws mem [] h own w same past room = record { after = own; does = refl; same = same; width = refl; before = λ j low. refl; values = refl }
  argued d n ws mem (l ∷ ls) h own w same past room =
      let b = brought whole tell enter c spare site here lies d n ws mem w past l h.0 own same (omega arith) in
      let wide = b.width in
      let r = argued d n ws mem ls h.1 b.after (w + 1) b.same (omega arith) (omega arith) in
      let read_l = stays whole tell enter c spare site here lies d n ws mem w past l h.0 b.after r.after b.value r.same (r.before w (omega arith)) in
      record {
        after = r.after;
        does = steps_append tell enter here (link_steps c.num w l) (argument_steps c.num (w + 1) ls) n (frame 0 own) ∙ ap (λ q. then_do q (λ n' f'. steps_do tell enter here (argument_steps c.num (w + 1) ls) n' f')) b.does ∙ r.does;
        same = r.same;
        width = r.width ∙ b.width;
        before = λ j low. r.before j (omega arith) ∙ b.others j (λ e. let e' : j ≡ w = e in omega arith);
        values = ap₂ (λ v vs. v ∷ vs) (ap (λ k. value l.ty k) read_l) r.values;
      }

  -- what the function is applied to
  applied_to : (first w : ℕ) (ls : List Link) (vs : List Value) (n : Numbered M) (own : List Value) → HasAt here.program.arguments.items first (arguments c.num w ls) → map (argument_at here (cells_of n own)) (arguments c.num w ls) ≡ vs
      → arguments_at here (cells_of n own) first (length ls) ≡ vs
  applied_to first w ls vs n own has is =
      ap (λ k. map (argument_at here (cells_of n own)) (slice_range here.program.arguments.items first (first + k))) (sym (length_arguments c.num w ls))
      ∙ ap (map (argument_at here (cells_of n own))) has
      ∙ is

  -- ---- the function
  abbrev OutFrame : List Value → Wires → Frame → Type 0
  OutFrame own ws f = InFrame c ws (length own) f × (number_at f.wires c.num.spare ≡ number_at own c.num.spare)

  out_fixed : (d : DiagramState) (n : Numbered M) (ws : Wires) (own : List Value) (id : ℕ) (v : Value) → IsWire c id (codes "OUT") → SameWires c.pins ws own → OutFrame own (fix ws id (codes "OUT") v.n) (frame 0 (set own (c.num.wire id (codes "OUT")) v))
  out_fixed d n ws own id v wire same = (
    record { skip = refl; wires = wired whole apart tell begun enter c pins_apart spare site here lies same_in_outs ws own id (codes "OUT") v.n v wire refl same; width_is = length-set own (c.num.wire id (codes "OUT")) v },
    spare_other own id (codes "OUT") v wire,
  )

  apply_alike : (id : ℕ) → IsWire c id (codes "OUT") → (f : Func) (t : Ty) (enable : Enable) (inputs : List Link) (first : ℕ) (d : DiagramState) (n : Numbered M) (ws : Wires) (own : List Value) → Agree whole tell begun d n → SameWires c.pins ws own
      → arguments_at here (cells_of n own) first (length inputs) ≡ map (λ (l : Link). value l.ty (link_value site.path d ws l)) inputs → read here (cells_of n own) (enabled c.num enable) ≡ enable_value (link_value site.path d ws) enable
      → Alike whole tell begun (OutFrame own) (with_result (function_result f t inputs (enable_value (link_value site.path d ws) enable) (link_value site.path d ws)) d (λ k. Ended d (fix ws id (codes "OUT") k)))
      (steps_do tell enter here (apply_steps c.num id f t enable first (length inputs)) n (frame 0 own))
  apply_alike id wire f t enable inputs first d n ws own a same args en = by_en enable.en enable.eno en
    where
      out : ℕ
      out = c.num.wire id (codes "OUT")

      vals : List Value
      vals = map (λ (l : Link). value l.ty (link_value site.path d ws l)) inputs

      once : (r : Result Value Fault) → Alike whole tell begun (OutFrame own) (with_result r d (λ k. Ended d (fix ws id (codes "OUT") k))) (then_do (with_cells (with_value r (λ v. set_wire (cells_of n own) out v)) n) (λ n' f'. Ended n' f'))
      once (Ok v) = both_end a (out_fixed d n ws own id v wire same)
      once (Err fault) = both_stop (Faulted fault) a

      last : List Step
      last = Skip off 1 ∷ Act (Fix (Constant (value (out_type f t) (pos 0))) out) ∷ []

      guarded : (r : Result Value Fault) → Alike whole tell begun (OutFrame own) (with_result r d (λ k. Ended d (fix ws id (codes "OUT") k))) (then_do (with_cells (with_value r (λ v. set_wire (cells_of n own) out v)) n) (λ n' f'. steps_do tell enter here last n' f'))
      guarded (Ok v) = both_end a (out_fixed d n ws own id v wire same)
      guarded (Err fault) = both_stop (Faulted fault) a

      by_test : (b : Bool) → Alike whole tell begun (OutFrame own) (with_result (if b then applied f t vals else Ok (value t (pos 0))) d (λ k. Ended d (fix ws id (codes "OUT") k)))
          (then_do (step_in tell enter here (Act (Apply f t first (length inputs) out)) (if b then 0 else 2) n own) (λ n' f'. steps_do tell enter here last n' f'))
      by_test true = alike_as _ _ (ap (λ vs. then_do (with_cells (with_value (applied f t vs) (λ v. set_wire (cells_of n own) out v)) n) (λ n' f'. steps_do tell enter here last n' f')) args) (guarded (applied f t vals))
      by_test false = both_end a (out_fixed d n ws own id (value (out_type f t) (pos 0)) wire same)

      by_en : (en : Option Link) (o : Option Bool) → read here (cells_of n own) (enabled c.num (record { en = en; eno = o })) ≡ enable_value (link_value site.path d ws) (record { en = en; eno = o })
          → Alike whole tell begun (OutFrame own) (with_result (function_result f t inputs (enable_value (link_value site.path d ws) (record { en = en; eno = o })) (link_value site.path d ws)) d (λ k. Ended d (fix ws id (codes "OUT") k)))
          (steps_do tell enter here (apply_steps c.num id f t (record { en = en; eno = o }) first (length inputs)) n (frame 0 own))
      by_en None o e = alike_as _ _ (ap (λ vs. then_do (with_cells (with_value (applied f t vs) (λ v. set_wire (cells_of n own) out v)) n) (λ n' f'. Ended n' f')) args) (once (applied f t vals))
      by_en (Some link) o e =
          alike_from _ _ (ap (λ y. with_result (if is_true y then applied f t vals else Ok (value t (pos 0))) d (λ k. Ended d (fix ws id (codes "OUT") k))) (sym e))
          (by_test (is_true (number_at own c.num.spare)))

  result_then : (r : Result Value Fault) (d : DiagramState) (g : ℤ → Wires) (h : Wires → Wires) → with_result r d (λ k. Ended d (h (g k))) ≡ then_do (with_result r d (λ k. Ended d (g k))) (λ d' ws'. Ended d' (h ws'))
  result_then (Ok v) d g h = refl
  result_then (Err fault) d g h = refl

  pub function_alike : (id : ℕ) (f : Func) (t : Ty) (enable : Enable) (inputs : List Link) (negated : Bool) (first : ℕ) → RightEnable c id enable → Each (RightLink c) inputs → IsWire c id (codes "OUT") → HasAt here.program.arguments.items first (arguments c.num (c.num.spare + 1) inputs)
      → (d : DiagramState) (n : Numbered M) (ws : Wires) (own : List Value) → Agree whole tell begun d n → SameWires c.pins ws own → c.num.spare + (length inputs + 1) ≤ length own
      → Alike whole tell begun (λ ws' f. InFrame c ws' (length own) f)
      (with_result (function_result f t inputs (enable_value (link_value site.path d ws) enable) (link_value site.path d ws)) d (λ k.
      Ended d (turn negated id (codes "OUT") (turn (eno_negated enable) id (codes "ENO") (fix (fix_eno enable id (enable_value (link_value site.path d ws) enable) ws) id (codes "OUT") k)))))
      (steps_do tell enter here (function_steps c.num first id f t enable inputs negated) n (frame 0 own))
  function_alike id f t enable inputs negated first right args wire has d n ws own a same room =
      let v = enable_value (link_value site.path d ws) enable in
      let r = function_result f t inputs v (link_value site.path d ws) in
      let rest = λ (ws' : Wires). turn negated id (codes "OUT") (turn (eno_negated enable) id (codes "ENO") (fix_eno enable id v ws')) in
      let rest_steps = eno_steps c.num id enable ++ (not_steps (eno_negated enable) (c.num.wire id (codes "ENO")) ++ not_steps negated (c.num.wire id (codes "OUT"))) in
      let E = enabling id enable right d n ws own a.memories same (omega arith) in
      let wide = E.width in
      let A = argued d n ws a.memories inputs args E.after (c.num.spare + 1) E.same (omega arith) (omega arith) in
      let reads = E.reads n A.after (A.before c.num.spare (omega arith)) in
      alike_from _ _
      (ap (λ g. with_result r d g) (fun_ext (λ k. ap (λ w. Ended d (turn negated id (codes "OUT") (turn (eno_negated enable) id (codes "ENO") w))) (eno_swap enable ws id v k)))
      ∙ result_then r d (λ k. fix ws id (codes "OUT") k) rest)
      (alike_as _ _
      (steps_append tell enter here (enable_steps c.num enable) (argument_steps c.num (c.num.spare + 1) inputs ++ (apply_steps c.num id f t enable first (length inputs) ++ rest_steps)) n (frame 0 own)
      ∙ ap (λ q. then_do q (λ n' f'. steps_do tell enter here (argument_steps c.num (c.num.spare + 1) inputs ++ (apply_steps c.num id f t enable first (length inputs) ++ rest_steps)) n' f')) E.does
      ∙ steps_append tell enter here (argument_steps c.num (c.num.spare + 1) inputs) (apply_steps c.num id f t enable first (length inputs) ++ rest_steps) n (frame 0 E.after)
      ∙ ap (λ q. then_do q (λ n' f'. steps_do tell enter here (apply_steps c.num id f t enable first (length inputs) ++ rest_steps) n' f')) A.does
      ∙ steps_append tell enter here (apply_steps c.num id f t enable first (length inputs)) rest_steps n (frame 0 A.after))
      (alike_then _ _ _ _
      (apply_alike id wire f t enable inputs first d n ws A.after a A.same (applied_to first (c.num.spare + 1) inputs _ n A.after has A.values) reads)
      (λ d' ws' n' f' a' h.
      let e_reads = E.reads n' f'.wires (h.1 ∙ A.before c.num.spare (omega arith)) in
      let W1 = eno id enable right v n' ws' f'.wires h.0.wires e_reads in
      let W2 = turned (eno_negated enable) id (codes "ENO") (λ e. right.eno (negated_has_eno enable e)) n' _ W1.after W1.same in
      let W3 = turned negated id (codes "OUT") (λ e. wire) n' _ W2.after W2.same in
      let W = wired_then _ _ n' f'.wires _ _ W1 (wired_then _ _ n' W1.after _ _ W2 W3) in
      alike_as _ _ (ap (λ k. steps_do tell enter here rest_steps n' (frame k f'.wires)) h.0.skip ∙ W.does)
      (both_end a' (record { skip = refl; wires = W.same; width_is = W.width ∙ h.0.width_is ∙ A.width ∙ E.width })))))
