-- EN and ENO of a block, and outputs under NOT.
use Rattle.std.proofs.Common.{◌≡◌, ℕ, ℤ, pos, ◌<◌, ◌^◌, Bool, true, false, ◌&&◌, List, [], ◌∷◌, ◌++◌, Option, Some, None, map, refl, sym, ap, ◌∙◌, if◌then◌else◌, codes}
use Rattle.std.specs.Str.{bytes_eq}
use Rattle.std.proofs.lemmas.Bool.{eq-eqb}
use Rattle.plcx_types.specs.declared.ty.Ty.TheVariants as ty
use Rattle.plcx_types.specs.Name.{in_lower_case}
use Rattle.plcx_funcs.specs.Applied.{value}
use Rattle.plcx_types.specs.Lists.{Each}
use Rattle.plcx_meaning.specs.Base.{is_true, not_of, Outcome, Ended, Stopped, Stuck}
use Rattle.plcx_meaning.specs.Tree.{Not}
use Rattle.plcx_meaning.specs.Functions.{Given}
use Rattle.plcx_meaning.specs.Diagram.{Enable, has_eno, eno_negated, eno_ports, Link, Port, port}
use Rattle.plcx_meaning.specs.Evaluate.{DiagramState, Wires, fix, turn, enable_value}
use Rattle.plcx_meaning.specs.Execute.{Temporary, TextSetting, referent_of, TextState, Frame, hold, value_of, TextCalls, list_runs}
use Rattle.plcx_meaning.specs.Templates.{wire_name, wire, link_text, eno_text, turned_if}
use Rattle.plcx_meaning.specs.Same.{Agree}
use Rattle.plcx_meaning.specs.Fits.{is_fresh}
use Rattle.plcx_meaning.proofs.Alike.{Alike, both_end, alike_as}
use Rattle.plcx_meaning.proofs.Asked.{SameWires}
use Rattle.plcx_meaning.proofs.Agree.{wires_fix, wires_stay, wires_fresh}
use Rattle.plcx_meaning.proofs.Names.{bytes_self, same_wires_to}
use Rattle.plcx_meaning.proofs.FunctionValues.{not_known}
use Rattle.plcx_meaning.proofs.Links.{assign_temporary, wire_known}
use Rattle.plcx_meaning.proofs.BodiesSteps.{then_ended}

abbrev pub eno : List ℕ
eno = codes "ENO"

-- the frame behind ENO
abbrev pub eno_held : Bool → ℕ → ℤ → Frame → Frame
eno_held b id v f = if b then hold f (wire_name id eno) v else f

-- a block's outputs before all others
abbrev pub eno_fixed : Bool → ℕ → List (ℕ × Port)
eno_fixed b id = if b then (id, port eno ty.Bool) ∷ [] else []

pub eno_wires : (b : Bool) (id : ℕ) → id < 2 ^ 64 → (v : ℤ) (done : List (ℕ × Port)) (ws : Wires) (f : Frame) → SameWires done ws f
    → SameWires (eno_fixed b id ++ done) (if b then fix ws id eno v else ws) (eno_held b id v f)
eno_wires true id small v done ws f same = wires_fix id small (port eno ty.Bool) v done ws f same
eno_wires false id small v done ws f same = same

pub eno_fresh : (b : Bool) (id : ℕ) → id < 2 ^ 64 → (v : ℤ) (done : List (ℕ × Port)) (ws : Wires) (f : Frame) → is_fresh id done ≡ true → SameWires done ws f → SameWires done ws (eno_held b id v f)
eno_fresh true id small v done ws f fresh same = wires_fresh id small eno v done ws f fresh same
eno_fresh false id small v done ws f fresh same = same

module _ (c : TextSetting) (call : TextCalls) where
  eno_by : (en : Option Link) (listed : Option Bool) (id : ℕ) (values : Link → ℤ) (g : TextState) (f : Frame)
      → (has_eno (record { en = en; eno = listed }) ≡ true → referent_of c (wire_name id eno) ≡ Temporary ty.Bool)
      → ((link : Link) → en ≡ Some link → value_of (link_text link) c g.store f ≡ Given (value ty.Bool (values link)))
      → list_runs (eno_text id (record { en = en; eno = listed })) c call g f ≡ Ended g (eno_held (has_eno (record { en = en; eno = listed })) id (enable_value values (record { en = en; eno = listed })) f)
  eno_by (Some link) listed id values g f place known = then_ended _ ∙ assign_temporary c call g f (wire_name id eno) (link_text link) ty.Bool (values link) (place refl) (known link refl)
  eno_by None (Some negated) id values g f place known = then_ended _ ∙ assign_temporary c call g f (wire_name id eno) (Rattle.plcx_meaning.specs.Templates.truth true) ty.Bool (pos 1) (place refl) refl
  eno_by None None id values g f place known = refl

  pub eno_runs : (enable : Enable) (id : ℕ) (values : Link → ℤ) (g : TextState) (f : Frame)
      → (has_eno enable ≡ true → referent_of c (wire_name id eno) ≡ Temporary ty.Bool)
      → ((link : Link) → enable.en ≡ Some link → value_of (link_text link) c g.store f ≡ Given (value ty.Bool (values link)))
      → list_runs (eno_text id enable) c call g f ≡ Ended g (eno_held (has_eno enable) id (enable_value values enable) f)
  eno_runs enable id values g f place known = eno_by enable.en enable.eno id values g f place known

  -- a wire under NOT
  pub turn_alike : (b : Bool) (id : ℕ) → id < 2 ^ 64 → (pin : List ℕ) (done : List (ℕ × Port)) (d : DiagramState) (ws : Wires) (g : TextState) (f : Frame) → Agree d g → SameWires done ws f
      → (b ≡ true → (referent_of c (wire_name id pin) ≡ Temporary ty.Bool) × (ws id pin ≡ f (in_lower_case (wire_name id pin))))
      → Alike (SameWires done) (Ended d (turn b id pin ws)) (list_runs (turned_if b id pin) c call g f)
  turn_alike false id small pin done d ws g f a same asked = both_end a same
  turn_alike true id small pin done d ws g f a same asked =
      let place = (asked refl).0 in
      let known = wire_known c g.store f id pin ty.Bool place ∙ ap (λ n. Given (value ty.Bool n)) (sym (asked refl).1) in
      let other = not_known c g.store f (wire id pin) (ws id pin) known in
      alike_as _ _ (then_ended _ ∙ assign_temporary c call g f (wire_name id pin) (Not (wire id pin)) ty.Bool (not_of (ws id pin)) place other)
      (both_end a (wires_stay id small pin (not_of (ws id pin)) done ws f same))

-- where ENO is negated it is there
pub negated_listed : (enable : Enable) → eno_negated enable ≡ true → has_eno enable ≡ true
negated_listed enable h = by enable.en enable.eno h
  where
    by : (en : Option Link) (listed : Option Bool) → eno_negated (record { en = en; eno = listed }) ≡ true → has_eno (record { en = en; eno = listed }) ≡ true
    by (Some link) listed h' = refl
    by None (Some negated) h' = refl
    by None None h' = absurd (cc)

pub fixed_ports : (enable : Enable) (id : ℕ) → map (λ (o : Port). (id, o)) (eno_ports enable) ≡ eno_fixed (has_eno enable) id
fixed_ports enable id = by (has_eno enable)
  where
    by : (b : Bool) → map (λ (o : Port). (id, o)) (if b then port eno ty.Bool ∷ [] else []) ≡ eno_fixed b id
    by true = refl
    by false = refl

-- ENO's temporary is none of another pin's
pub eno_apart : (id : ℕ) → id < 2 ^ 64 → (pin : List ℕ) (n : ℤ) (f : Frame) → bytes_eq (in_lower_case eno) (in_lower_case pin) ≡ false → hold f (wire_name id pin) n (in_lower_case (wire_name id eno)) ≡ f (in_lower_case (wire_name id eno))
eno_apart id small pin n f apart =
    ap (λ b. if b then n else f (in_lower_case (wire_name id eno))) (same_wires_to id eno id pin small ∙ ap (λ b. b && bytes_eq (in_lower_case eno) (in_lower_case pin)) (eq-eqb id id refl) ∙ apart)

-- the relation may be weaker
pub alike_weaker : {L K : Type 0} {R : L → K → Type 0} {S : L → K → Type 0} (o : Outcome DiagramState L) (p : Outcome TextState K) → Alike R o p → ((l : L) (k : K) → R l k → S l k) → Alike S o p
alike_weaker (Ended d l) (Ended g k) a go = both_end a.is.0 (go l k a.is.1)
alike_weaker (Stopped s d) (Stopped r g) a go = record { is = a.is }
alike_weaker (Ended d l) (Stopped r g) a go = absurd a.is
alike_weaker (Ended d l) Stuck a go = absurd a.is
alike_weaker (Stopped s d) (Ended g k) a go = absurd a.is
alike_weaker (Stopped s d) Stuck a go = absurd a.is
alike_weaker Stuck p a go = absurd a.is

pub each_split : {A : Type 0} (P : A → Type 0) (xs ys : List A) → Each P (xs ++ ys) → Each P xs × Each P ys
each_split P [] ys all = (tt, all)
each_split P (x ∷ xs) ys all = let rest = each_split P xs ys all.1 in ((all.0, rest.0), rest.1)

-- what holds of ENO where there is one
pub of_eno : (P : Port → Type 0) (b : Bool) → Each P (if b then port eno ty.Bool ∷ [] else []) → b ≡ true → P (port eno ty.Bool)
of_eno P true all h = all.0
of_eno P false all h = absurd (cc)

-- what the temporary of ENO holds behind an assignment to another
pub eno_kept : (b : Bool) → b ≡ true → (id : ℕ) → id < 2 ^ 64 → (pin : List ℕ) (n v : ℤ) (f : Frame) → bytes_eq (in_lower_case eno) (in_lower_case pin) ≡ false → hold (eno_held b id v f) (wire_name id pin) n (in_lower_case (wire_name id eno)) ≡ v
eno_kept true h id small pin n v f apart = eno_apart id small pin n (hold f (wire_name id eno) v) apart ∙ ap (λ b. if b then v else f (in_lower_case (wire_name id eno))) (bytes_self (in_lower_case (wire_name id eno)))
eno_kept false h id small pin n v f apart = absurd (cc)

-- a connected EN has an ENO
pub connected_eno : (enable : Enable) (link : Link) → enable.en ≡ Some link → has_eno enable ≡ true
connected_eno enable link h = by enable.en enable.eno link h
  where
    by : (en : Option Link) (listed : Option Bool) (l : Link) → en ≡ Some l → has_eno (record { en = en; eno = listed }) ≡ true
    by (Some l) listed m h' = refl
    by None listed m h' = absurd (cc)

pub unconnected_true : (values : Link → ℤ) (enable : Enable) → enable.en ≡ None → is_true (enable_value values enable) ≡ true
unconnected_true values enable h = ap (λ en. is_true (enable_value values (record { en = en; eno = enable.eno }))) h
