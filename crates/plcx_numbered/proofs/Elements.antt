-- The elements of a network: their steps do over numbers what they do over paths.
use Rattle.std.proofs.Common.{◌≡◌, ℕ, zero, suc, ◌+◌, ◌<◌, ◌≤◌, pos, true, false, List, [], ◌∷◌, ◌++◌, ◌-◌, length, length-append, set, take, drop, refl, sym, ap, ap₂, ◌∙◌, subst, arith}
use Rattle.std.specs.Prelude.{slice_get}
use Rattle.std.specs.List.{fold}
use Rattle.std.proofs.lemmas.List.{length-set, drop-drop}
use Rattle.std.proofs.lemmas.Option.{same_Some}
use Rattle.plcx_types.specs.Name.{in_lower_case}
use Rattle.plcx_types.specs.Lists.{Each}
use Rattle.plcx_types.specs.Value.{Value}
use Rattle.plcx_funcs.specs.Applied.{value}
use Rattle.plcx_meaning.specs.Base.{AtEdge, AtOutput, not_of, Outcome, Ended, Stopped, Stuck, then_do, Site}
use Rattle.plcx_meaning.specs.Diagram.{Link, ElementKind, Still, In, Out, Contact, Coil, Pass, Label, Jump, Return, Function, Call, Port, ports, DiagramElement}
use Rattle.plcx_meaning.specs.Evaluate.{Heard, DiagramState, Wires, fix, link_value, DiagramCalls, DiagramSetting, kind_does, feed, outputs_heard, hear, element_does, elements_do}
use Rattle.plcx_steps.specs.declared.program.Action.TheVariants.{Fix}
use Rattle.plcx_steps.specs.declared.program.Step.TheVariants.{Act}
use Rattle.plcx_steps.specs.Numbered.{Numbered, Here, Entered, Frame, frame, bit, number_at, value_at, cells_of, source_at, read, heard, steps_do}
use Rattle.plcx_numbered.specs.Agreeing.{AreApart, Shape, IsApart, Lies, Agree, SameInOuts, SameWires, Alike}
use Rattle.plcx_numbered.specs.Prepared.{operand_of, link_steps, link_source, coil_steps, contact_steps, kind_steps, kind_arguments, kind_bindings, spares, feed_steps, tell_steps, element_steps, elements_steps, elements_arguments, elements_bindings}
use Rattle.plcx_numbered.specs.Right.{Place, variables, IsWire, IsCell, RightLink, RightKind, RightElement, HasAt}
use Rattle.plcx_numbered.proofs.Holding.{agree_keep, agree_hear}
use Rattle.plcx_numbered.proofs.Alikes.{both_end, alike_then, alike_as, steps_append}
use Rattle.plcx_numbered.proofs.Simple.{InFrame, fixed_self, operand_value, wired, behind_link, out_alike, contact_alike, coil_alike}
use Rattle.plcx_numbered.proofs.Functions.{function_alike}
use Rattle.plcx_numbered.proofs.Calling.{StepsStandard, CallsAlike, call_alike}

-- the parts of what stands in a list stand there one behind the other
take_front : {A : Type 0} (xs ys zs : List A) (k m : ℕ) → k ≡ length xs + m → take k zs ≡ xs ++ ys → take (length xs) zs ≡ xs
take_front [] ys zs k m e h = refl
take_front (x ∷ xs) ys [] k m e h = absurd (nothing k h)
  where
    nothing : (k : ℕ) → take {A = _} k [] ≡ x ∷ (xs ++ ys) → ⊥
    nothing zero h = cc
    nothing (suc k) h = cc
take_front (x ∷ xs) ys (z ∷ zs) zero m e h = absurd (omega (arith, e))
take_front (x ∷ xs) ys (z ∷ zs) (suc k) m e h = ap₂ (λ w ws. w ∷ ws) (same_Some z x (ap (λ l. slice_get l 0) h)) (take_front xs ys zs k m (omega arith) (ap (drop 1) h))

drop_front : {A : Type 0} (xs ys zs : List A) (k m : ℕ) → k ≡ length xs + m → take k zs ≡ xs ++ ys → take m (drop (length xs) zs) ≡ ys
drop_front [] ys zs k m e h = ap (λ j. take j zs) (let f : m ≡ k = omega arith in f) ∙ h
drop_front (x ∷ xs) ys [] k m e h = absurd (nothing k h)
  where
    nothing : (k : ℕ) → take {A = _} k [] ≡ x ∷ (xs ++ ys) → ⊥
    nothing zero h = cc
    nothing (suc k) h = cc
drop_front (x ∷ xs) ys (z ∷ zs) zero m e h = absurd (omega (arith, e))
drop_front (x ∷ xs) ys (z ∷ zs) (suc k) m e h = drop_front xs ys zs k m (omega arith) (ap (drop 1) h)

pub at_parts : {A : Type 0} (whole : List A) (i : ℕ) (xs ys : List A) → HasAt whole i (xs ++ ys) → HasAt whole i xs × HasAt whole (i + length xs) ys
at_parts whole i xs ys h =
    let l = length-append xs ys in
    let e : i + length (xs ++ ys) - i ≡ length xs + length ys = omega arith in (
      ap (λ k. take k (drop i whole)) (let f : i + length xs - i ≡ length xs = omega arith in f) ∙ take_front xs ys (drop i whole) _ (length ys) e h,
      ap₂ (λ k zs. take k zs) (let f : i + length xs + length ys - (i + length xs) ≡ length ys = omega arith in f) (sym (drop-drop (length xs) i whole)) ∙ drop_front xs ys (drop i whole) _ (length ys) e h,
    )

module _ {M : Type 0} (whole : Shape) (apart : IsApart whole) (tell : M → Heard → M) (begun : M) (enter : Entered M) (c : Place) (pins_apart : AreApart c.pins) (spare : length c.pins ≤ c.num.spare) (site : Site) (here : Here)
    (lies : Lies whole c.plan.shape site.path here.at) (same_in_outs : SameInOuts whole c.plan.in_outs site.bound here.in_outs)
    (called : DiagramCalls) (time : ℕ) (now : here.time ≡ pos time) (standard : StepsStandard time called) (calls : CallsAlike whole tell begun c site called here enter) where
  abbrev pub setting : DiagramSetting
  setting = record { pou = here.pou; variables = variables c; site = site; called = called }

  -- a link into the wire of the element
  fix_alike : (link : Link) → RightLink c link → (id : ℕ) → IsWire c id [] → (d : DiagramState) (n : Numbered M) (ws : Wires) (own : List Value) → Agree whole tell begun d n → SameWires c.pins ws own → c.num.spare < length own
      → Alike whole tell begun (λ ws' f. InFrame c ws' (length own) f) (Ended d (fix ws id [] (link_value site.path d ws link)))
      (steps_do tell enter here (link_steps c.num c.num.spare link ++ Act (Fix (link_source c.num c.num.spare link) (c.num.wire id [])) ∷ []) n (frame 0 own))
  fix_alike link right id wire d n ws own a same room =
      behind_link whole apart tell begun enter c pins_apart spare site here lies same_in_outs link right d n ws own a same room (Act (Fix (link_source c.num c.num.spare link) (c.num.wire id [])) ∷ []) _
      (λ after same' width reads.
      let x = source_at here (cells_of n after) (link_source c.num c.num.spare link) in
      both_end a (record { skip = refl; wires = wired whole apart tell begun enter c pins_apart spare site here lies same_in_outs ws after id [] _ x wire (sym (reads after same' refl)) same'; width_is = length-set after (c.num.wire id []) x ∙ width }))

  kind_alike : (k : ElementKind) (id a b : ℕ) → RightKind c k id → c.num.spare + spares k ≤ c.width → HasAt here.program.arguments.items a (kind_arguments c.num k) → HasAt here.program.bindings.items b (kind_bindings c.num k)
      → (d : DiagramState) (n : Numbered M) (ws : Wires) (own : List Value) → Agree whole tell begun d n → SameWires c.pins ws own → length own ≡ c.width
      → Alike whole tell begun (λ ws' f. InFrame c ws' (length own) f) (kind_does k id setting d ws) (steps_do tell enter here (kind_steps c.num a b k id) n (frame 0 own))
  kind_alike Still id i j h room args binds d n ws own a same w = both_end a (record { skip = refl; wires = same; width_is = refl })
  kind_alike (Label name) id i j h room args binds d n ws own a same w = both_end a (record { skip = refl; wires = same; width_is = refl })
  kind_alike (In t false operand) id i j h room args binds d n ws own a same w =
      let x = source_at here (cells_of n own) (operand_of c.num operand) in
      both_end a (record {
        skip = refl;
        wires = wired whole apart tell begun enter c pins_apart spare site here lies same_in_outs ws own id [] _ x h.1 (operand_value whole apart tell begun enter c pins_apart spare site here lies same_in_outs d n own a operand h.0) same;
        width_is = length-set own (c.num.wire id []) x;
      })
  kind_alike (In t true operand) id i j h room args binds d n ws own a same w =
      let x = bit (not_of (read here (cells_of n own) (operand_of c.num operand))) in
      both_end a (record {
        skip = refl;
        wires = wired whole apart tell begun enter c pins_apart spare site here lies same_in_outs ws own id [] _ x h.1 (ap not_of (operand_value whole apart tell begun enter c pins_apart spare site here lies same_in_outs d n own a operand h.0)) same;
        width_is = length-set own (c.num.wire id []) x;
      })
  kind_alike (Out how x link) id i j h room args binds d n ws own a same w =
      wires_only (out_alike whole apart tell begun enter c pins_apart spare site here lies same_in_outs how x h.0 link h.1 d n ws own a same (omega arith))
    where
      wires_only : {e : DiagramState} {q : Outcome (Numbered M) Frame} → Alike whole tell begun (λ (u : Unit {0}) f. InFrame c ws (length own) f) (Ended e tt) q → Alike whole tell begun (λ ws' f. InFrame c ws' (length own) f) (Ended e ws) q
      wires_only {e} {q} r = by_outcome q r
        where
          by_outcome : (p : Outcome (Numbered M) Frame) → Alike whole tell begun (λ (u : Unit {0}) f. InFrame c ws (length own) f) (Ended e tt) p → Alike whole tell begun (λ ws' f. InFrame c ws' (length own) f) (Ended e ws) p
          by_outcome (Ended n' f) s = both_end s.is.0 s.is.1
          by_outcome (Stopped r n') s = absurd s.is
          by_outcome Stuck s = absurd s.is
  kind_alike (Contact how operand link) id i j h room args binds d n ws own a same w =
      behind_link whole apart tell begun enter c pins_apart spare site here lies same_in_outs link h.1 d n ws own a same (omega arith) (contact_steps how (link_source c.num c.num.spare link) (operand_of c.num operand) (c.num.memory (AtEdge id)) (c.num.wire id []) (c.num.spare + 1)) _
      (λ after same' width reads.
      subst (λ m. Alike whole tell begun (λ ws' f. InFrame c ws' m f) (kind_does (Contact how operand link) id setting d ws)
      (steps_do tell enter here (contact_steps how (link_source c.num c.num.spare link) (operand_of c.num operand) (c.num.memory (AtEdge id)) (c.num.wire id []) (c.num.spare + 1)) n (frame 0 after))) width
      (contact_alike whole apart tell begun enter c pins_apart spare site here lies same_in_outs how id h.2 h.3 operand h.0 (link_value site.path d ws link) (link_source c.num c.num.spare link) d n ws after a same' (omega arith) reads))
  kind_alike (Coil how x link) id i j h room args binds d n ws own a same w =
      behind_link whole apart tell begun enter c pins_apart spare site here lies same_in_outs link h.1 d n ws own a same (omega arith)
      (Act (Fix (link_source c.num c.num.spare link) (c.num.wire id [])) ∷ coil_steps how (c.num.operand x) (c.num.memory (AtEdge id)) (c.num.wire id []) (c.num.spare + 1)) _
      (λ after same' width reads.
      let l = link_value site.path d ws link in
      let v = source_at here (cells_of n after) (link_source c.num c.num.spare link) in
      let one = set after (c.num.wire id []) v in
      let long = length-set after (c.num.wire id []) v in
      let same1 = wired whole apart tell begun enter c pins_apart spare site here lies same_in_outs ws after id [] l v h.3 (sym (reads after same' refl)) same' in
      wires_from (fix ws id [] l) (length own) (long ∙ width) _ _ (coil_alike whole apart tell begun enter c pins_apart spare site here lies same_in_outs how x h.0 id h.2 h.3 l d n (fix ws id [] l) one a same1 (fixed_self ws id [] l) (omega arith)))
    where
      wires_from : (ws' : Wires) (m : ℕ) {k : ℕ} → k ≡ m → (e : DiagramState) (q : Outcome (Numbered M) Frame) → Alike whole tell begun (λ (u : Unit {0}) f. InFrame c ws' k f) (Ended e tt) q → Alike whole tell begun (λ ws'' f. InFrame c ws'' m f) (Ended e ws') q
      wires_from ws' m {k} e' e (Ended n' f) s = both_end s.is.0 (record { skip = s.is.1.skip; wires = s.is.1.wires; width_is = s.is.1.width_is ∙ e' })
      wires_from ws' m {k} e' e (Stopped r n') s = absurd s.is
      wires_from ws' m {k} e' e Stuck s = absurd s.is
  kind_alike (Pass link) id i j h room args binds d n ws own a same w = fix_alike link h.0 id h.1 d n ws own a same (omega arith)
  kind_alike (Jump label link) id i j h room args binds d n ws own a same w = fix_alike link h.0 id h.1 d n ws own a same (omega arith)
  kind_alike (Return link) id i j h room args binds d n ws own a same w = fix_alike link h.0 id h.1 d n ws own a same (omega arith)
  kind_alike (Function f t enable inputs negated) id i j h room args binds d n ws own a same w =
      function_alike whole apart tell begun enter c pins_apart spare site here lies same_in_outs id f t enable inputs negated i h.0 h.1 h.2 args d n ws own a same (omega arith)
  kind_alike (Call instance enable inputs in_outs outputs) id i j h room args binds d n ws own a same w =
      call_alike whole apart tell begun enter c pins_apart spare site here lies same_in_outs here.pou called time now standard calls instance enable inputs in_outs outputs id j h binds d n ws own a same (omega arith)

  -- what feeds back
  feeds_alike : (id : ℕ) (fed : List Port) → Each (λ (p : Port). IsCell c (AtOutput id p.pin) × IsWire c id p.pin) fed → (d : DiagramState) (ws : Wires) (n : Numbered M) (f : Frame) (width : ℕ) → Agree whole tell begun d n → InFrame c ws width f
      → Alike whole tell begun (λ ws' f'. InFrame c ws' width f') (Ended (feed id fed site.path ws d) ws) (steps_do tell enter here (feed_steps c.num id fed) n f)
  feeds_alike id [] h d ws n f width a same = both_end a same
  feeds_alike id (p ∷ ps) h d ws n f width a same =
      let i = here.at.memories + c.num.memory (AtOutput id p.pin) in
      let v = value_at f.wires (c.num.wire id p.pin) in
      alike_as _ _ (ap (λ k. steps_do tell enter here (feed_steps c.num id (p ∷ ps)) n (frame k f.wires)) same.skip)
      (feeds_alike id ps h.1 _ ws (record n { memories = set n.memories i v }) (frame 0 f.wires) width
      (agree_keep whole apart tell begun d n site.path (AtOutput id p.pin) i _ v (lies.cells (c.num.memory (AtOutput id p.pin)) [] (AtOutput id (in_lower_case p.pin)) h.0.0) (same.wires.each (c.num.wire id p.pin) (id, p.pin) h.0.1) a)
      (record { skip = refl; wires = same.wires; width_is = same.width_is }))

  -- what is told
  tells_does : (id number : ℕ) (ps : List Port) → Each (λ (p : Port). IsWire c id p.pin) ps → (ws : Wires) (n : Numbered M) (own : List Value) → SameWires c.pins ws own
      → steps_do tell enter here (tell_steps c.num id number ps) n (frame 0 own) ≡ Ended (record n { watch = fold tell n.watch (outputs_heard here.pou id number ps ws) }) (frame 0 own)
  tells_does id number [] h ws n own same = refl
  tells_does id number (p ∷ ps) h ws n own same =
      tells_does id (number + 1) ps h.1 ws (record n { watch = tell n.watch (heard here.pou id number (value p.ty (number_at own (c.num.wire id p.pin)))) }) own same
      ∙ ap (λ v. Ended (record n { watch = fold tell (tell n.watch (heard here.pou id number (value p.ty v))) (outputs_heard here.pou id (number + 1) ps ws) }) (frame 0 own)) (sym (same.each (c.num.wire id p.pin) (id, p.pin) h.0))

  pub element_alike : (e : DiagramElement) (i j : ℕ) → RightElement c e → HasAt here.program.arguments.items i (kind_arguments c.num e.kind) → HasAt here.program.bindings.items j (kind_bindings c.num e.kind)
      → (d : DiagramState) (ws : Wires) (n : Numbered M) (f : Frame) → Agree whole tell begun d n → InFrame c ws c.width f
      → Alike whole tell begun (λ ws' f'. InFrame c ws' c.width f') (element_does e setting d ws) (steps_do tell enter here (element_steps c.num i j e) n f)
  element_alike e i j h args binds d ws n f a same =
      alike_as _ _ (ap (λ k. steps_do tell enter here (element_steps c.num i j e) n (frame k f.wires)) same.skip ∙ steps_append tell enter here (kind_steps c.num i j e.kind e.id) (feed_steps c.num e.id e.fed ++ tell_steps c.num e.id 0 (ports e.kind)) n (frame 0 f.wires))
      (alike_then _ _ _ _ (kind_alike e.kind e.id i j h.kind h.spare args binds d n ws f.wires a same.wires same.width_is)
      (λ d' ws' n' f' a' same'.
      alike_as _ _ (steps_append tell enter here (feed_steps c.num e.id e.fed) (tell_steps c.num e.id 0 (ports e.kind)) n' f')
      (fed_then_told (feeds_alike e.id e.fed h.fed d' ws' n' f' c.width a' (record { skip = same'.skip; wires = same'.wires; width_is = same'.width_is ∙ same.width_is })))))
    where
      fed_then_told : {d' : DiagramState} {ws' : Wires} {q : Outcome (Numbered M) Frame} → Alike whole tell begun (λ ws'' f''. InFrame c ws'' c.width f'') (Ended d' ws') q
          → Alike whole tell begun (λ ws'' f''. InFrame c ws'' c.width f'') (Ended (hear (outputs_heard here.pou e.id 0 (ports e.kind) ws') d') ws') (then_do q (λ n'' f''. steps_do tell enter here (tell_steps c.num e.id 0 (ports e.kind)) n'' f''))
      fed_then_told {d'} {ws'} {q} r = by_outcome q r
        where
          by_outcome : (p : Outcome (Numbered M) Frame) → Alike whole tell begun (λ ws'' f''. InFrame c ws'' c.width f'') (Ended d' ws') p
              → Alike whole tell begun (λ ws'' f''. InFrame c ws'' c.width f'') (Ended (hear (outputs_heard here.pou e.id 0 (ports e.kind) ws') d') ws') (then_do p (λ n'' f''. steps_do tell enter here (tell_steps c.num e.id 0 (ports e.kind)) n'' f''))
          by_outcome (Ended n'' f'') s =
              alike_as _ _ (ap (λ k. steps_do tell enter here (tell_steps c.num e.id 0 (ports e.kind)) n'' (frame k f''.wires)) s.is.1.skip ∙ tells_does e.id 0 (ports e.kind) h.outputs ws' n'' f''.wires s.is.1.wires)
              (both_end (agree_hear whole apart tell begun d' n'' (outputs_heard here.pou e.id 0 (ports e.kind) ws') s.is.0) (record { skip = refl; wires = s.is.1.wires; width_is = s.is.1.width_is }))
          by_outcome (Stopped r n') s = absurd s.is
          by_outcome Stuck s = absurd s.is

  pub elements_alike : (es : List DiagramElement) (i j : ℕ) → Each (RightElement c) es → HasAt here.program.arguments.items i (elements_arguments c.num es) → HasAt here.program.bindings.items j (elements_bindings c.num es)
      → (d : DiagramState) (ws : Wires) (n : Numbered M) (f : Frame) → Agree whole tell begun d n → InFrame c ws c.width f
      → Alike whole tell begun (λ ws' f'. InFrame c ws' c.width f') (elements_do es setting d ws) (steps_do tell enter here (elements_steps c.num i j es) n f)
  elements_alike [] i j h args binds d ws n f a same = both_end a same
  elements_alike (e ∷ es) i j h args binds d ws n f a same =
      let A = at_parts here.program.arguments.items i (kind_arguments c.num e.kind) (elements_arguments c.num es) args in
      let B = at_parts here.program.bindings.items j (kind_bindings c.num e.kind) (elements_bindings c.num es) binds in
      alike_as _ _ (steps_append tell enter here (element_steps c.num i j e) (elements_steps c.num (i + length (kind_arguments c.num e.kind)) (j + length (kind_bindings c.num e.kind)) es) n f)
      (alike_then _ _ _ _ (element_alike e i j h.0 A.0 B.0 d ws n f a same)
      (λ d' ws' n' f' a' same'. elements_alike es (i + length (kind_arguments c.num e.kind)) (j + length (kind_bindings c.num e.kind)) h.1 A.1 B.1 d' ws' n' f' a' same'))
